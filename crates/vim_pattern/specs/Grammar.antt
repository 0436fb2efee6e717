-- The grammar. A pattern is one or more branches with `\|` between them, a branch one or more concats
-- with `\&` between them, a concat a list of pieces, and a piece an atom with at most one multi after it.
-- The number is how many levels may still be opened.
use Rattle.std.specs.Prelude.{◌≡◌, ℕ, suc, List, [], ◌∷◌, ◌++◌, Bool, Option}
use Rattle.pattern_items.specs.declared.atom.Atom.{Atom as AnyAtom}
use Rattle.pattern_items.specs.declared.atom.Atom.TheVariants.{Char}
use Rattle.pattern_items.specs.declared.item.Multi.{Multi as AnyMulti}
use Rattle.pattern_items.specs.declared.item.Kind.TheVariants.{Counted, Plain, External, Optional}
use Rattle.pattern_items.specs.declared.item.Sign.TheVariants.{Atom, Multi, Open, Close, Square, Bar, Also, Quiet}
use Rattle.pattern_items.specs.Place.{Item, item}
use Rattle.vim_pattern.specs.Shape.{Shape, one, group, external, with_multi, seq_of, and_of, or_of, optional_of}

mutual
  -- one or more branches
  pub data IsPattern : ℕ → List Item → List Shape → Type 0 where
    branch : {room : ℕ} {is : List Item} {ts : List Shape} → IsBranch room is ts → IsPattern room is (and_of ts ∷ [])
    or_branch : {room : ℕ} {is : List Item} {ts : List Shape} {js : List Item} {us : List Shape} (at : ℕ) →
        IsPattern room is ts → IsBranch room js us → IsPattern room (is ++ (item at Bar ∷ js)) (ts ++ (and_of us ∷ []))

  -- one or more concats
  pub data IsBranch : ℕ → List Item → List Shape → Type 0 where
    concat : {room : ℕ} {is : List Item} {ts : List Shape} → IsConcat room is ts → IsBranch room is (seq_of ts ∷ [])
    and_concat : {room : ℕ} {is : List Item} {ts : List Shape} {js : List Item} {us : List Shape} (at : ℕ) →
        IsBranch room is ts → IsConcat room js us → IsBranch room (is ++ (item at Also ∷ js)) (ts ++ (seq_of us ∷ []))

  -- any number of pieces; an item that takes no room may stand between them
  pub data IsConcat : ℕ → List Item → List Shape → Type 0 where
    none : {room : ℕ} → IsConcat room [] []
    piece : {room : ℕ} {is : List Item} {ts : List Shape} {js : List Item} {t : Shape} →
        IsConcat room is ts → IsPiece room js t → IsConcat room (is ++ js) (ts ++ (t ∷ []))
    quiet : {room : ℕ} {is : List Item} {ts : List Shape} (at : ℕ) (ignore : Option Bool) →
        IsConcat room is ts → IsConcat room (is ++ (item at (Quiet ignore) ∷ [])) ts

  -- an atom alone, or with its multi
  pub data IsPiece : ℕ → List Item → Shape → Type 0 where
    once : {room : ℕ} {is : List Item} {t : Shape} → IsLoose room is t → IsPiece room is t
    times : {room : ℕ} {is : List Item} {t : Shape} (at : ℕ) (m : AnyMulti) →
        IsLoose room is t → IsPiece room (is ++ (item at (Multi m) ∷ [])) (with_multi m t)

  -- an atom outside of an optional list, where a bracket is a character
  pub data IsLoose : ℕ → List Item → Shape → Type 0 where
    atom : {room : ℕ} {is : List Item} {t : Shape} → IsAtom room is t → IsLoose room is t
    square : {room : ℕ} (at : ℕ) → IsLoose room (item at Square ∷ []) (one (Char 93))

  -- one item, a group of any kind, or an optional list of one atom or more
  pub data IsAtom : ℕ → List Item → Shape → Type 0 where
    leaf : {room : ℕ} (at : ℕ) (l : AnyAtom) → IsAtom room (item at (Atom l) ∷ []) (one l)
    counted : {room : ℕ} {is : List Item} {ts : List Shape} (at : ℕ) (n : ℕ) (to : ℕ) →
        IsPattern room is ts → IsAtom (suc room) (item at (Open (Counted n)) ∷ (is ++ (item to Close ∷ []))) (group (or_of ts) n)
    plain : {room : ℕ} {is : List Item} {ts : List Shape} (at : ℕ) (to : ℕ) →
        IsPattern room is ts → IsAtom (suc room) (item at (Open Plain) ∷ (is ++ (item to Close ∷ []))) (or_of ts)
    externals : {room : ℕ} {is : List Item} {ts : List Shape} (at : ℕ) (n : ℕ) (to : ℕ) →
        IsPattern room is ts → IsAtom (suc room) (item at (Open (External n)) ∷ (is ++ (item to Close ∷ []))) (external (or_of ts) n)
    optional : {room : ℕ} {is : List Item} {t : Shape} {ts : List Shape} (at : ℕ) (to : ℕ) →
        IsAtoms room is (t ∷ ts) → IsAtom (suc room) (item at (Open Optional) ∷ (is ++ (item to Square ∷ []))) (optional_of (t ∷ ts))

  -- the atoms of an optional list, of which none has a multi
  pub data IsAtoms : ℕ → List Item → List Shape → Type 0 where
    no_atoms : {room : ℕ} → IsAtoms room [] []
    next_atom : {room : ℕ} {is : List Item} {ts : List Shape} {js : List Item} {t : Shape} →
        IsAtoms room is ts → IsAtom room js t → IsAtoms room (is ++ js) (ts ++ (t ∷ []))
    quiet_atom : {room : ℕ} {is : List Item} {ts : List Shape} (at : ℕ) (ignore : Option Bool) →
        IsAtoms room is ts → IsAtoms room (is ++ (item at (Quiet ignore) ∷ [])) ts

-- the tree of a list of items: 100 levels may be opened
abbrev pub IsTree : List Item → Shape → Type 0
IsTree is t = (ts : List Shape) × IsPattern 100 is ts × (t ≡ or_of ts)

-- some items after these make a tree
abbrev pub IsStart : List Item → Type 0
IsStart is = (js : List Item) × (t : Shape) × IsTree (is ++ js) t
