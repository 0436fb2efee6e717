-- The fault of items that have no tree. It belongs to the first item with which the items before it are
-- the start of no tree. If there is no such item, it is Unclosed, at the first item that is still open.
use Rattle.std.specs.Prelude.{◌≡◌, ℕ, ◌+◌, if◌then◌else◌, List, [], ◌∷◌, ◌++◌, Bool, true, false}
use Rattle.pattern_items.specs.declared.item.Kind.{Kind}
use Rattle.pattern_items.specs.declared.item.Kind.TheVariants.{Counted, Plain, External, Optional}
use Rattle.pattern_items.specs.declared.cause.PatternCause.{PatternCause}
use Rattle.pattern_items.specs.declared.cause.PatternCause.TheVariants as cause
use Rattle.pattern_items.specs.Place.{Item}
use Rattle.pattern_items.specs.declared.item.Sign.{Sign}
use Rattle.pattern_items.specs.declared.item.Sign.TheVariants.{Atom, Multi, Open, Close, Square, Bar, Also, Quiet, Wrong}
use Rattle.vim_pattern.specs.Shape.{Shape}
use Rattle.vim_pattern.specs.Grammar.{IsTree, IsStart}

-- the place of the offending character, from 0, and the cause
pub record Fault : Type 0 where
  pub at : ℕ
  pub cause : PatternCause

-- the last of these items is a multi
abbrev pub is_multi : Sign → Bool
is_multi (Multi m) = true
is_multi _ = false

abbrev pub ends_in_multi : List Item → Bool
ends_in_multi [] = false
ends_in_multi (i ∷ []) = is_multi i.sign
ends_in_multi (i ∷ j ∷ is) = ends_in_multi (j ∷ is)

-- an item that is open
pub record Opened : Type 0 where
  pub at : ℕ
  pub kind : Kind

abbrev pub is_optional : Kind → Bool
is_optional (Counted n) = false
is_optional Plain = false
is_optional (External n) = false
is_optional Optional = true

abbrev pub without_top : List Opened → List Opened
without_top [] = []
without_top (o ∷ os) = os

abbrev pub without_list : List Opened → List Opened
without_list [] = []
without_list (o ∷ os) = if is_optional o.kind then os else o ∷ os

abbrev pub open_with : List Opened → ℕ → Sign → List Opened
open_with os at (Open k) = record { at = at; kind = k } ∷ os
open_with os at Close = without_top os
open_with os at Square = without_list os
open_with os at _ = os

-- the items that are open after these, the innermost first
abbrev pub open_after : List Opened → List Item → List Opened
open_after os [] = os
open_after os (i ∷ is) = open_after (open_with os i.at i.sign) is

abbrev pub innermost : List Opened → ℕ
innermost [] = 0
innermost (o ∷ os) = o.at

abbrev pub outermost_of : Opened → List Opened → ℕ
outermost_of o [] = o.at
outermost_of o (p ∷ os) = outermost_of p os

abbrev pub fault_at : ℕ → PatternCause → Fault
fault_at at c = record { at = at; cause = c }

-- What is wrong with an item behind others. A multi may come after a multi, and a bar or an ampersand may leave an
-- optional list unclosed. Atoms and items that take no room are always the start of a tree with what is before them.
abbrev pub blame : Bool → List Opened → ℕ → Sign → Fault
blame after_multi os at (Wrong before c) = fault_at (at + before) c
blame after_multi os at (Open k) = fault_at at cause.TooNested
blame after_multi os at Close = fault_at at cause.UnopenedClose
blame after_multi os at Square = fault_at at cause.EmptyOptional
blame after_multi os at (Multi m) = fault_at at (if after_multi then cause.DoubleCount else cause.NothingToRepeat)
blame after_multi os at Bar = fault_at (innermost os) cause.Unclosed
blame after_multi os at Also = fault_at (innermost os) cause.Unclosed
blame after_multi os at (Atom l) = fault_at at cause.BadCode
blame after_multi os at (Quiet ignore) = fault_at at cause.BadCode

pub data IsFault : List Item → Fault → Type 0 where
  at_item : (before : List Item) (i : Item) (more : List Item) → IsStart before → (IsStart (before ++ (i ∷ [])) → ⊥) →
      IsFault (before ++ (i ∷ more)) (blame (ends_in_multi before) (open_after [] before) i.at i.sign)
  at_end : {is : List Item} {o : Opened} {os : List Opened} → IsStart is → ((t : Shape) → IsTree is t → ⊥) → open_after [] is ≡ o ∷ os →
      IsFault is (fault_at (outermost_of o os) cause.Unclosed)
