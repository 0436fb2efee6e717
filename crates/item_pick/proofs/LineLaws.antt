-- Items that start nowhere in a line.
use Rattle.slots.specs.declared.marks.Marks.{Marks}
use Rattle.slots.specs.Entries.{IsMarked}
use Rattle.slots.proofs.EntryLaws.{all_marked}
use Rattle.item_pick.proofs.Common.{◌≡◌, ◌⊎◌, item_numbered, LineStands, refl, sym, subst, arith, ℕ, ◌+◌, ◌≤◌, length, Result, Ok, Err, IfOk, Looked, ItemId, Place, Text, line_at, Pattern, Rules, item_of, place_at, Run, HoldsLine, HoldsLines, IsLater, IsPatternOf, IsBarren, IsLackedIn, inl, inr, two_lines, RunStands, IsWhole}
use Rattle.item_pick.specs.declared.line_known.LineKnown.{LineKnown}
use Rattle.item_pick.specs.Tables.{IsNearBy}
use Rattle.item_pick.proofs.NeedLaws.{IsNeedLaw, lacked_quiet}
use Rattle.item_pick.proofs.TableLaws.{covered_quiet}

-- what holds anyway
pub ok_always : {A E : Type 0} (P : Type 0) (result : Result A E) → P → IfOk result (λ _. P)
ok_always P (Ok x) p = p
ok_always P (Err e) p = tt

module _ (r : Rules) (t : Text) (l : ℕ) where
  -- one whose need the line lacks
  pub lacked_barren : IsNeedLaw r → (i : ItemId) → IsLackedIn r (line_at t l) i → IsBarren r t l i
  lacked_barren law i lacked at floor k within held = lacked_quiet r law t (place_at l at) i lacked k held floor

  -- one that a run tells of at all places
  pub whole_barren : (run : Run) (count : ℕ) → count ≡ length (line_at t l) + 1 → RunStands r t l run → IsWhole run l count → IsBarren r t l run.item
  whole_barren run count is stands whole at floor k within held =
      covered_quiet r t l at floor k count run.item run held stands
      (record {
        same = refl;
        to = whole.to;
        above = omega (arith, whole.above);
        below = omega (arith, whole.below, is, within);
        held = subst (HoldsLines k) (sym whole.looked) held;
        enough = (0, whole.least, omega arith);
      })
      is

-- so it may be sought from any later column
pub barren_later : (r : Rules) (t : Text) (p : Place) (i : ItemId) → IsBarren r t p.line i → p.col ≤ length (line_at t p.line) → (k : Looked) → HoldsLine k p.line →
    (pattern : Pattern) → IsPatternOf (item_of r.items i).kind pattern → (col next : ℕ) → col ≤ next → IsLater r t i pattern p k col next
barren_later r t p i barren present k held pattern its col next ahead = record {
  ahead = ahead;
  idle = λ c from below within. barren p.col 0 k present held pattern its c (omega arith) within;
}

-- one item more that is near
pub more_near : (r : Rules) (t : Text) (l : ℕ) (line : LineKnown) (new : Marks) (i : ItemId) (pair : Looked) → ((k : ℕ) → IsMarked new k → IsMarked line.near k ⊎ (k ≡ i.0)) → LineStands r t l line → pair ≡ two_lines l → IsNearBy r t l i →
    LineStands r t l (record line { near = new; pair = pair })
more_near r t l line new i pair put stands is one = record {
  keys = stands.keys;
  held = stands.held;
  runs = stands.runs;
  barren = stands.barren;
  near = λ k marked. elim (put k marked) [
    | inl before ↦ (is, (stands.near k before).1)
    | inr this ↦ (is, subst (λ n. IsNearBy r t l (item_numbered n)) (sym this) one)
  ];
  ends = stands.ends;
}

-- one item more that is barren
pub more_barren : (r : Rules) (t : Text) (l : ℕ) (line : LineKnown) (new : Marks) (number : ℕ) → ((k : ℕ) → IsMarked new k → IsMarked line.barren k ⊎ (k ≡ number)) → LineStands r t l line → IsBarren r t l (item_numbered number) → LineStands r t l (record line { barren = new })
more_barren r t l line new number put stands one =
    record { keys = stands.keys; held = stands.held; runs = stands.runs; barren = all_marked (λ k. IsBarren r t l (item_numbered k)) line.barren new number put stands.barren one; near = stands.near; ends = stands.ends }
