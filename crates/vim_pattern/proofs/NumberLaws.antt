-- A tree has the numbers of its items.
use Rattle.std.proofs.Common.{ℕ, List, [], ◌∷◌, ◌++◌, Ok, Err, subst, sym}
use Rattle.std.specs.Prelude.{Result, IfOk}
use Rattle.pattern_items.specs.declared.item.Multi.{Multi as AnyMulti}
use Rattle.pattern_items.specs.declared.item.Multi.TheVariants.{Count, Ahead, Before, Whole}
use Rattle.pattern_items.specs.declared.item.PatternUse.{PatternUse}
use Rattle.pattern_items.specs.declared.item.Sign.TheVariants.{Multi, Close, Square, Bar, Also, Quiet}
use Rattle.pattern_items.specs.Place.{Item, item, items_of}
use Rattle.pattern_items.proofs.NumberLaws.{AllHave, text_items_have}
use Rattle.vim_pattern.specs.declared.error.PatternError.{PatternError}
use Rattle.vim_pattern.specs.Shape.{Shape, seq, or, and, with_multi, joined, seq_of, and_of, or_of, optional_of}
use Rattle.vim_pattern.specs.Tree.{PatternTree}
use Rattle.vim_pattern.specs.Grammar
use Rattle.vim_pattern.specs.Grammar.{IsPattern, IsBranch, IsConcat, IsPiece, IsLoose, IsAtom, IsAtoms, IsTree}
use Rattle.vim_pattern.specs.GroupNumbers.{HasNumbers}
use Rattle.vim_pattern.specs.Pattern.{IsTreeOf}

abbrev Shapes : List Shape → Type 0
Shapes [] = Unit {0}
Shapes (t ∷ ts) = HasNumbers t × Shapes ts

shapes_one : (ts : List Shape) (t : Shape) → Shapes ts → HasNumbers t → Shapes (ts ++ (t ∷ []))
shapes_one [] t h k = (k, tt)
shapes_one (u ∷ ts) t h k = (h.0, shapes_one ts t h.1 k)

front_have : (is js : List Item) → AllHave (is ++ js) → AllHave is
front_have [] js h = tt
front_have (i ∷ is) js h = (h.0, front_have is js h.1)

back_have : (is js : List Item) → AllHave (is ++ js) → AllHave js
back_have [] js h = h
back_have (i ∷ is) js h = back_have is js h.1

joined_has : (pair : Shape → Shape → Shape) → ((a b : Shape) → HasNumbers a → HasNumbers b → HasNumbers (pair a b)) → (ts : List Shape) → Shapes ts → HasNumbers (joined pair ts)
joined_has pair f [] h = tt
joined_has pair f (a ∷ []) h = h.0
joined_has pair f (a ∷ b ∷ ts) h = f a (joined pair (b ∷ ts)) h.0 (joined_has pair f (b ∷ ts) h.1)

seq_has : (ts : List Shape) → Shapes ts → HasNumbers (seq_of ts)
seq_has ts h = joined_has seq (λ a b k l. (k, l)) ts h

and_has : (ts : List Shape) → Shapes ts → HasNumbers (and_of ts)
and_has ts h = joined_has and (λ a b k l. (k, l)) ts h

or_has : (ts : List Shape) → Shapes ts → HasNumbers (or_of ts)
or_has ts h = joined_has or (λ a b k l. (k, l)) ts h

optional_has : (ts : List Shape) → Shapes ts → HasNumbers (optional_of ts)
optional_has [] h = tt
optional_has (a ∷ []) h = h.0
optional_has (a ∷ b ∷ ts) h = (h.0, optional_has (b ∷ ts) h.1)

multi_has : (m : AnyMulti) (t : Shape) → HasNumbers t → HasNumbers (with_multi m t)
multi_has (Count times) t h = h
multi_has (Ahead negative) t h = h
multi_has (Before negative limit) t h = h
multi_has Whole t h = h

mutual
  pattern_has : {room : ℕ} {is : List Item} {ts : List Shape} → IsPattern room is ts → AllHave is → Shapes ts
  pattern_has (Grammar.branch {ts = ts} d) h = (and_has ts (branch_has d h), tt)
  pattern_has (Grammar.or_branch {is = is} {ts = ts} {js = js} {us = us} at d e) h =
      shapes_one ts (and_of us) (pattern_has d (front_have is (item at Bar ∷ js) h)) (and_has us (branch_has e ((back_have is (item at Bar ∷ js) h).1)))

  branch_has : {room : ℕ} {is : List Item} {ts : List Shape} → IsBranch room is ts → AllHave is → Shapes ts
  branch_has (Grammar.concat {ts = ts} d) h = (seq_has ts (concat_has d h), tt)
  branch_has (Grammar.and_concat {is = is} {ts = ts} {js = js} {us = us} at d e) h =
      shapes_one ts (seq_of us) (branch_has d (front_have is (item at Also ∷ js) h)) (seq_has us (concat_has e ((back_have is (item at Also ∷ js) h).1)))

  concat_has : {room : ℕ} {is : List Item} {ts : List Shape} → IsConcat room is ts → AllHave is → Shapes ts
  concat_has Grammar.none h = tt
  concat_has (Grammar.piece {is = is} {ts = ts} {js = js} {t = t} d e) h = shapes_one ts t (concat_has d (front_have is js h)) (piece_has e (back_have is js h))
  concat_has (Grammar.quiet {is = is} at ignore d) h = concat_has d (front_have is (item at (Quiet ignore) ∷ []) h)

  piece_has : {room : ℕ} {is : List Item} {t : Shape} → IsPiece room is t → AllHave is → HasNumbers t
  piece_has (Grammar.once d) h = loose_has d h
  piece_has (Grammar.times {is = is} {t = t} at m d) h = multi_has m t (loose_has d (front_have is (item at (Multi m) ∷ []) h))

  loose_has : {room : ℕ} {is : List Item} {t : Shape} → IsLoose room is t → AllHave is → HasNumbers t
  loose_has (Grammar.atom d) h = atom_has d h
  loose_has (Grammar.square at) h = tt

  atom_has : {room : ℕ} {is : List Item} {t : Shape} → IsAtom room is t → AllHave is → HasNumbers t
  atom_has (Grammar.leaf at l) h = h.0.is
  atom_has (Grammar.counted {is = is} {ts = ts} at n to d) h = (h.0.is, or_has ts (pattern_has d (front_have is (item to Close ∷ []) h.1)))
  atom_has (Grammar.plain {is = is} {ts = ts} at to d) h = or_has ts (pattern_has d (front_have is (item to Close ∷ []) h.1))
  atom_has (Grammar.externals {is = is} {ts = ts} at n to d) h = (h.0.is, or_has ts (pattern_has d (front_have is (item to Close ∷ []) h.1)))
  atom_has (Grammar.optional {is = is} {t = t} {ts = ts} at to d) h = optional_has (t ∷ ts) (atoms_have d (front_have is (item to Square ∷ []) h.1))

  atoms_have : {room : ℕ} {is : List Item} {ts : List Shape} → IsAtoms room is ts → AllHave is → Shapes ts
  atoms_have Grammar.no_atoms h = tt
  atoms_have (Grammar.next_atom {is = is} {ts = ts} {js = js} {t = t} d e) h = shapes_one ts t (atoms_have d (front_have is js h)) (atom_has e (back_have is js h))
  atoms_have (Grammar.quiet_atom {is = is} at ignore d) h = atoms_have d (front_have is (item at (Quiet ignore) ∷ []) h)

tree_has : (is : List Item) (t : Shape) → IsTree is t → AllHave is → HasNumbers t
tree_has is t h k = subst (λ u. HasNumbers u) (sym h.2) (or_has h.0 (pattern_has h.1 k))

pub text_has : (text : List ℕ) (usage : PatternUse) (t : PatternTree) → IsTreeOf text usage t → HasNumbers t.node
text_has text usage t h = tree_has (items_of usage text) t.node h.nodes (text_items_have usage text)

pub read_has : (text : List ℕ) (usage : PatternUse) (r : Result PatternTree PatternError) → IfOk r (λ t. IsTreeOf text usage t) → IfOk r (λ t. HasNumbers t.node)
read_has text usage (Ok t) h = text_has text usage t h
read_has text usage (Err e) h = tt
