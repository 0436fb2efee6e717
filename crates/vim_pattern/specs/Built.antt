-- What the reader has built, without addresses.
use Rattle.std.specs.Prelude.{◌≡◌, ◌<◌, length, Option, Some, None, Result, Ok, Err, List, [], map, reverse}
use Rattle.vim_pattern.specs.declared.node.Node.{Node}
use Rattle.vim_pattern.specs.declared.build.Join.{Join}
use Rattle.vim_pattern.specs.declared.build.Join.TheVariants.{Pieces, Concats, Branches}
use Rattle.vim_pattern.specs.declared.build.LastNode.{LastNode}
use Rattle.vim_pattern.specs.declared.build.LastNode.TheVariants.{Nothing, Loose, Fixed}
use Rattle.vim_pattern.specs.declared.build.Built.{Built}
use Rattle.vim_pattern.specs.declared.build.OpenItem.{OpenItem}
use Rattle.vim_pattern.specs.declared.read.Reading.{Reading}
use Rattle.vim_pattern.specs.declared.error.PatternError.{PatternError}
use Rattle.vim_pattern.specs.declared.error.PatternError.TheVariants.{At, Memory}
use Rattle.vim_pattern.specs.Fault.{Fault, fault_at}
use Rattle.vim_pattern.specs.Pattern.{IsSummaryOf}
use Rattle.vim_pattern.specs.Tree.{PatternTree}
use Rattle.pattern_items.specs.Place.{Item}
use Rattle.pattern_items.specs.declared.item.Kind.{Kind}
use Rattle.pattern_items.specs.declared.item.Kind.TheVariants.{Counted, Plain, External, Optional}
use Rattle.vim_pattern.specs.Shape.{Shape, bare, seq, and, or, group, external, optional_of}
use Rattle.vim_pattern.specs.Read.{Last, nothing, loose, fixed, Part, Outer, State}

abbrev pub bares : List Node → List Shape
bares ns = map bare ns

abbrev pub pair_of : Join → Shape → Shape → Shape
pair_of Pieces = seq
pair_of Concats = and
pair_of Branches = or

-- the atom of a group of this kind
abbrev pub group_of : Kind → Shape → Shape
group_of (Counted n) t = group t n
group_of Plain t = t
group_of (External n) t = external t n
group_of Optional t = t

abbrev pub last_of : LastNode → Last
last_of Nothing = nothing
last_of (Loose n) = loose (bare n)
last_of (Fixed n) = fixed (bare n)

abbrev pub part_of : Built → Part
part_of b = record { branches = bares b.branches.items; concats = bares b.concats.items; pieces = bares b.pieces.items; last = last_of b.last }

abbrev pub outer_of : OpenItem → Outer
outer_of o = record { at = o.at; kind = o.kind; part = part_of o.part }

-- the innermost first
abbrev pub under_of : List OpenItem → List Outer
under_of os = reverse (map outer_of os)

abbrev pub IsList : List Shape → Option Node → Type 0
IsList ts None = ts ≡ []
IsList ts (Some n) = (0 < length ts) × (bare n ≡ optional_of ts)

abbrev pub state_of : Reading → State
state_of r = record { here = part_of r.here; under = under_of r.under.items }

-- What a step returned, seen by `view`, is what the rules give, unless memory ran out.
abbrev pub Fails : {Y : Type 0} → PatternError → Result Y Fault → Type 0
Fails (At n c) rules = rules ≡ Err (fault_at n c)
Fails Memory rules = Unit {0}

abbrev pub Gives : {X Y : Type 0} → (X → Y) → Result X PatternError → Result Y Fault → Type 0
Gives view (Ok x) rules = rules ≡ Ok (view x)
Gives view (Err e) rules = Fails e rules

-- what a reading of items returned is the tree that the rules give, with the items' summary
abbrev pub GivesTree : List Item → Result PatternTree PatternError → Result Shape Fault → Type 0
GivesTree is (Ok t) rules = (rules ≡ Ok t.node) × IsSummaryOf is t
GivesTree is (Err e) rules = Fails e rules
