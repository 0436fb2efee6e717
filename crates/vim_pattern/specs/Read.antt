-- Reading from the left: what has been read so far, and the first item that cannot follow it.
use Rattle.std.specs.Prelude.{ℕ, ◌+◌, nat_lt, if◌then◌else◌, length, List, [], ◌∷◌, ◌++◌, Result, Ok, Err, Bool, false, Option, Some, None}
use Rattle.pattern_items.specs.declared.atom.Atom.TheVariants.{Char}
use Rattle.pattern_items.specs.declared.item.Multi.{Multi as AnyMulti}
use Rattle.pattern_items.specs.declared.item.Kind.{Kind}
use Rattle.pattern_items.specs.declared.item.Kind.TheVariants.{Counted, Plain, External, Optional}
use Rattle.pattern_items.specs.declared.cause.PatternCause.{PatternCause}
use Rattle.pattern_items.specs.declared.cause.PatternCause.TheVariants as cause
use Rattle.pattern_items.specs.Place.{Item}
use Rattle.pattern_items.specs.declared.item.Sign.{Sign}
use Rattle.pattern_items.specs.declared.item.Sign.TheVariants.{Atom, Multi, Open, Close, Square, Bar, Also, Quiet, Wrong}
use Rattle.vim_pattern.specs.Fault.{Fault, fault_at, is_optional}
use Rattle.vim_pattern.specs.Shape.{Shape, one, group, external, with_multi, seq_of, and_of, or_of, optional_of}

-- what stands directly before: nothing that a multi can repeat, an atom, or a piece that has its multi
pub data Last : Type 0 where
  nothing : Last
  loose : Shape → Last
  fixed : Shape → Last

abbrev pub shapes_of : Last → List Shape
shapes_of nothing = []
shapes_of (loose t) = t ∷ []
shapes_of (fixed t) = t ∷ []

-- a pattern of which a part has been read: its branches, the concats of the last branch and the pieces of the last concat
pub record Part : Type 0 where
  pub branches : List Shape
  pub concats : List Shape
  pub pieces : List Shape
  pub last : Last

abbrev pub new_part : Part
new_part = record { branches = []; concats = []; pieces = []; last = nothing }

abbrev pub settled : Part → List Shape
settled p = p.pieces ++ shapes_of p.last

abbrev pub branch_of : Part → Shape
branch_of p = and_of (p.concats ++ (seq_of (settled p) ∷ []))

abbrev pub pattern_of : Part → Shape
pattern_of p = or_of (p.branches ++ (branch_of p ∷ []))

abbrev pub put : Shape → Part → Part
put t p = record p { pieces = settled p; last = loose t }

abbrev pub ended : Part → Part
ended p = record p { pieces = settled p; last = nothing }

abbrev pub with_bar : Part → Part
with_bar p = record { branches = p.branches ++ (branch_of p ∷ []); concats = []; pieces = []; last = nothing }

abbrev pub with_also : Part → Part
with_also p = record { branches = p.branches; concats = p.concats ++ (seq_of (settled p) ∷ []); pieces = []; last = nothing }

-- an item that is open, and what had been read before it
pub record Outer : Type 0 where
  pub at : ℕ
  pub kind : Kind
  pub part : Part

pub record State : Type 0 where
  pub here : Part
  pub under : List Outer

abbrev pub start : State
start = record { here = new_part; under = [] }

abbrev pub Step : Type 0
Step = Result State Fault

abbrev pub refuse : ℕ → PatternCause → Step
refuse at c = Err (record { at = at; cause = c })

abbrev pub on_part : (Part → Part) → State → State
on_part f s = record s { here = f s.here }

-- the innermost open item is an optional list, in which nothing but atoms may stand
abbrev pub in_list : List Outer → Bool
in_list [] = false
in_list (o ∷ os) = is_optional o.kind

abbrev pub top_at : List Outer → ℕ
top_at [] = 0
top_at (o ∷ os) = o.at

abbrev pub multi_step : ℕ → AnyMulti → Bool → State → Last → Step
multi_step at m in_a_list s nothing = refuse at cause.NothingToRepeat
multi_step at m in_a_list s (loose t) = if in_a_list then refuse at cause.NothingToRepeat else Ok (record s { here = record s.here { last = fixed (with_multi m t) } })
multi_step at m in_a_list s (fixed t) = refuse at cause.DoubleCount

-- why a multi can't stand behind this, and what stands there with one
abbrev pub multi_fault : Bool → Last → Option PatternCause
multi_fault in_a_list nothing = Some cause.NothingToRepeat
multi_fault in_a_list (loose t) = if in_a_list then Some cause.NothingToRepeat else None
multi_fault in_a_list (fixed t) = Some cause.DoubleCount

abbrev pub repeated : AnyMulti → Last → Last
repeated m nothing = nothing
repeated m (loose t) = fixed (with_multi m t)
repeated m (fixed t) = fixed t

abbrev pub with_repeated : AnyMulti → Part → Part
with_repeated m p = record p { last = repeated m p.last }

abbrev pub opened : ℕ → Kind → State → State
opened at k s = record { here = new_part; under = record { at = at; kind = k; part = s.here } ∷ s.under }

abbrev pub open_step : ℕ → Kind → State → Step
open_step at k s = if nat_lt (length s.under) 100 then Ok (record { here = new_part; under = record { at = at; kind = k; part = s.here } ∷ s.under }) else refuse at cause.TooNested

-- back in what had been read before, with this atom
abbrev pub back : Outer → List Outer → Shape → State
back o os t = record { here = put t o.part; under = os }

abbrev pub close_kind : ℕ → Part → Outer → List Outer → Kind → Step
close_kind at p o os (Counted n) = Ok (back o os (group (pattern_of p) n))
close_kind at p o os Plain = Ok (back o os (pattern_of p))
close_kind at p o os (External n) = Ok (back o os (external (pattern_of p) n))
close_kind at p o os Optional = refuse at cause.UnopenedClose

abbrev pub close_step : ℕ → Part → List Outer → Step
close_step at p [] = refuse at cause.UnopenedClose
close_step at p (o ∷ os) = close_kind at p o os o.kind

abbrev pub list_step : ℕ → Outer → List Outer → List Shape → Step
list_step at o os [] = refuse at cause.EmptyOptional
list_step at o os (t ∷ ts) = Ok (back o os (optional_of (t ∷ ts)))

abbrev pub back_with_list : ℕ → Option Shape → Part → List Outer → Step
back_with_list at None p os = refuse at cause.EmptyOptional
back_with_list at (Some t) p os = Ok (record { here = put t p; under = os })

abbrev pub square_step : ℕ → State → List Outer → Step
square_step at s [] = Ok (on_part (put (one (Char 93))) s)
square_step at s (o ∷ os) = if is_optional o.kind then list_step at o os (settled s.here) else Ok (on_part (put (one (Char 93))) s)

abbrev pub step : State → ℕ → Sign → Step
step s at (Atom l) = Ok (on_part (put (one l)) s)
step s at (Multi m) = multi_step at m (in_list s.under) s s.here.last
step s at (Open k) = open_step at k s
step s at Close = close_step at s.here s.under
step s at Square = square_step at s s.under
step s at Bar = if in_list s.under then refuse (top_at s.under) cause.Unclosed else Ok (on_part with_bar s)
step s at Also = if in_list s.under then refuse (top_at s.under) cause.Unclosed else Ok (on_part with_also s)
step s at (Quiet ignore) = Ok (on_part ended s)
step s at (Wrong before c) = refuse (at + before) c

-- the first item that is still open
abbrev pub outermost : Outer → List Outer → ℕ
outermost o [] = o.at
outermost o (p ∷ os) = outermost p os

abbrev pub finish : Part → List Outer → Result Shape Fault
finish p [] = Ok (pattern_of p)
finish p (o ∷ os) = Err (fault_at (outermost o os) cause.Unclosed)

abbrev pub after : Step → (State → Result Shape Fault) → Result Shape Fault
after (Ok s) f = f s
after (Err e) f = Err e

abbrev pub read : List Item → State → Result Shape Fault
read [] s = finish s.here s.under
read (i ∷ is) s = after (step s i.at i.sign) (λ t. read is t)
