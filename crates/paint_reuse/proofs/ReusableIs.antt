-- The test of a line passes exactly where the four conditions hold.
use Rattle.std.proofs.Common.{arith, ap, ◌∙◌, ◌≡◌, ◌<ℤ◌, ◌≤ℤ◌, ◌⊎◌, inl, inr, ℕ, ℤ, pos, List, slice_get, Some, None, true, refl, int_lt, int_le}
use Rattle.std.specs.Prelude.{Option, ◌&&◌}
use Rattle.std.proofs.lemmas.Bool.{and_parts, or_cases, or_left, or_right}
use Rattle.std.proofs.lemmas.Int.{ints}
use Rattle.syn_base.specs.declared.looked.Looked.{Looked}
use Rattle.paint_rules.specs.Line.{Note}
use Rattle.paint_rules.specs.States.{State}
use Rattle.paint_shift.specs.Change.{AreBefore, AreFrom, KeepsNumber}
use Rattle.paint_reuse.specs.declared.change.Change.{Change}
use Rattle.paint_reuse.specs.Change.{old_line}
use Rattle.paint_reuse.specs.Reusable.{IsReusable, FourConditionsMakeALineReusable}
use Rattle.paint_reuse.specs.Reuse.{is_clear, is_reusable, keeps_number, may_stay, stays_as}
use Rattle.paint_reuse.specs.SameState.{same_state}
use Rattle.paint_reuse.proofs.Numbers.{keeps_same, same_keeps}
use Rattle.paint_reuse.proofs.SameStates.{both_true, equal_states}

lt_of_test : (x y : ℤ) → int_lt x y ≡ true → x <ℤ y
lt_of_test x y h = grind (arith, ints)

le_of_test : (x y : ℤ) → int_le x y ≡ true → x ≤ℤ y
le_of_test x y h = grind (arith, ints)

test_lt : (x y : ℤ) → x <ℤ y → int_lt x y ≡ true
test_lt x y h = grind (arith, ints)

test_le : (x y : ℤ) → x ≤ℤ y → int_le x y ≡ true
test_le x y h = grind (arith, ints)

-- before the change, or behind it
pub apart_of : (e : Change) (looked : Option Looked) → is_clear e looked ≡ true → AreBefore e.a looked ⊎ AreFrom e.b looked
apart_of e None h = inl tt
apart_of e (Some looked) h = by (or_cases _ _ h)
  where
    by : (int_lt looked.high (pos e.a) ≡ true) ⊎ (int_le (pos e.b) looked.low ≡ true) → (looked.high <ℤ pos e.a) ⊎ (pos e.b ≤ℤ looked.low)
    by (inl p) = inl (lt_of_test _ _ p)
    by (inr p) = inr (le_of_test _ _ p)

pub clear_of : (e : Change) (looked : Option Looked) → AreBefore e.a looked ⊎ AreFrom e.b looked → is_clear e looked ≡ true
clear_of e None h = refl
clear_of e (Some looked) (inl h) = or_left _ _ (test_lt looked.high (pos e.a) h)
clear_of e (Some looked) (inr h) = or_right _ _ (test_le (pos e.b) looked.low h)

-- and under the same number, if that was looked at
pub number_of : (j k : ℕ) (looked : Option Looked) → keeps_number j k looked ≡ true → KeepsNumber j k looked
number_of j k None h = tt
number_of j k (Some looked) h = keeps_same j k looked h

pub same_of : (j k : ℕ) (looked : Option Looked) → KeepsNumber j k looked → keeps_number j k looked ≡ true
same_of j k None h = refl
same_of j k (Some looked) h = same_keeps j k looked h

module _ (notes : List Note) (e : Change) (k : ℕ) (s : State) where
  by_note : (j : ℕ) (note : Option Note) → old_line e k ≡ Some j → slice_get notes j ≡ note → may_stay e j k s note ≡ true → IsReusable notes e k s
  by_note j None was found h = absurd cc
  by_note j (Some note) was found h =
      let all = and_parts (is_clear e note.looked && keeps_number j k note.looked) (same_state note.before s) h in
      let lines = and_parts (is_clear e note.looked) (keeps_number j k note.looked) all.0 in
      record {
        line = j;
        was = was;
        note = note;
        noted = found;
        apart = apart_of e note.looked lines.0;
        number = number_of j k note.looked lines.1;
        begins = (equal_states note.before s).0 all.1;
      }

  by_line : (line : Option ℕ) → old_line e k ≡ line → stays_as notes e k s line ≡ true → IsReusable notes e k s
  by_line None was h = absurd cc
  by_line (Some j) was h = by_note j (slice_get notes j) was refl h

  pub conditions : is_reusable notes e k s ≡ true → IsReusable notes e k s
  unfolding is_reusable
  conditions h = by_line (old_line e k) refl h

  passes : IsReusable notes e k s → is_reusable notes e k s ≡ true
  unfolding is_reusable
  passes r =
      let lines = both_true _ _ (clear_of e r.note.looked r.apart) (same_of r.line k r.note.looked r.number) in
      ap (stays_as notes e k s) r.was ∙ ap (may_stay e r.line k s) r.noted
      ∙ both_true _ _ lines ((equal_states r.note.before s).1 r.begins)

pub reusable_so : FourConditionsMakeALineReusable
reusable_so notes e k s = (conditions notes e k s, passes notes e k s)
