-- Trees without addresses, and how pieces, concats and branches are joined.
use Rattle.std.specs.Prelude.{ℕ, Some, false, Bool, Option, List, [], ◌∷◌}
use Rattle.pattern_items.specs.declared.atom.Atom.{Atom}
use Rattle.pattern_items.specs.declared.item.Behind.{Behind}
use Rattle.pattern_items.specs.declared.item.Multi.{Multi}
use Rattle.pattern_items.specs.declared.item.Multi.TheVariants.{Count, Ahead, Before, Whole}
use Rattle.vim_pattern.specs.declared.node.Node.{Node}
use Rattle.vim_pattern.specs.declared.node.Node.TheVariants as node

-- a node with all that hangs on it
pub data Shape : Type 0 where
  empty : Shape
  one : (atom : Atom) → Shape
  seq : (a b : Shape) → Shape
  or : (a b : Shape) → Shape
  and : (a b : Shape) → Shape
  group : (part : Shape) (number : ℕ) → Shape
  external : (part : Shape) (number : ℕ) → Shape
  repeat : (part : Shape) (least : ℕ) (most : Option ℕ) (lazy : Bool) → Shape
  ahead : (part : Shape) (negative : Bool) → Shape
  before : (part : Shape) (negative : Bool) (limit : Behind) → Shape
  whole : (part : Shape) → Shape

-- a node's shape
abbrev pub bare : Node → Shape
bare node.Empty = empty
bare (node.One a) = one a
bare (node.Seq' p a q b) = seq (bare a) (bare b)
bare (node.Or' p a q b) = or (bare a) (bare b)
bare (node.And' p a q b) = and (bare a) (bare b)
bare (node.Group' p a n) = group (bare a) n
bare (node.External' p a n) = external (bare a) n
bare (node.Repeat' p a least most lazy) = repeat (bare a) least most lazy
bare (node.Ahead' p a negative) = ahead (bare a) negative
bare (node.Before' p a negative limit) = before (bare a) negative limit
bare (node.Whole' p a) = whole (bare a)

-- an atom with its multi
abbrev pub with_multi : Multi → Shape → Shape
with_multi (Count times) t = repeat t times.least times.most times.lazy
with_multi (Ahead negative) t = ahead t negative
with_multi (Before negative limit) t = before t negative limit
with_multi Whole t = whole t

-- Several parts of one kind, joined to the right. One part is itself, and none is empty.
abbrev pub joined : (Shape → Shape → Shape) → List Shape → Shape
joined pair [] = empty
joined pair (a ∷ []) = a
joined pair (a ∷ b ∷ ts) = pair a (joined pair (b ∷ ts))

abbrev pub seq_of : List Shape → Shape
seq_of ts = joined seq ts

abbrev pub and_of : List Shape → Shape
and_of ts = joined and ts

abbrev pub or_of : List Shape → Shape
or_of ts = joined or ts

abbrev pub at_most_once : Shape → Shape
at_most_once t = repeat t 0 (Some 1) false

-- As many atoms in order as possible: none or one turn of the first and the same for the rest.
abbrev pub optional_of : List Shape → Shape
optional_of [] = empty
optional_of (a ∷ []) = at_most_once a
optional_of (a ∷ b ∷ ts) = at_most_once (seq a (optional_of (b ∷ ts)))
