-- Notes with some of them exchanged, and a line gone over.
use Rattle.std.proofs.Common.{arith, sym, ap, ◌∙◌, ◌≡◌, ◌<◌, ◌+◌, ℕ, suc, zero, List, [], ◌∷◌, ◌++◌, take, drop, length, slice_get, slice_set, get_or, Some, None, Ok, Bool, false, not}
use Rattle.std.specs.Prelude.{Option}
use Rattle.std.specs.Option.{option_map}
use Rattle.std.proofs.lemmas.Option.{slice_get_within, get_or_from_slice_get, slice_get-map}
use Rattle.std.proofs.lemmas.List.{take_more, take_more_set, drop-set-lt, append-nil, length-drop, drop-drop}
use Rattle.syn_base.specs.declared.places.Span.{Span}
use Rattle.match_rules.specs.Ways.{Text}
use Rattle.paint_rules.specs.Rules.{Rules}
use Rattle.paint_rules.specs.States.{State, empty_state, next_line}
use Rattle.paint_reuse.specs.declared.change.Change.{Change}
use Rattle.paint_reuse.specs.Change.{old_line}
use Rattle.paint_reuse.specs.Kept.{KeptNote, line_note}
use Rattle.paint_reuse.specs.Report.{differs, same_spans}
use Rattle.paint_reuse.specs.Work.{Went, before_at, is_told, kept_spans, told}
use Rattle.paint_reuse.proofs.Places.{get_dropped}
use Rattle.paint_reuse.proofs.ReportIs.{spans_are_same}

-- the state before the next line
pub before_more : (s : State) (notes : List KeptNote) (j : ℕ) (note : KeptNote) → slice_get notes j ≡ Some note → before_at s notes (suc j) ≡ next_line note.after
before_more s [] j note h = cc
before_more s (x ∷ []) zero note h = ap (λ (n : KeptNote). next_line n.after) (some_is _ _ h)
  where
    some_is : (a b : KeptNote) → Some a ≡ Some b → a ≡ b
    some_is a b h = cc
before_more s (x ∷ (y ∷ ys)) zero note h = ap (λ (n : KeptNote). next_line n.after) (some_is _ _ h)
  where
    some_is : (a b : KeptNote) → Some a ≡ Some b → a ≡ b
    some_is a b h = cc
before_more s (x ∷ xs) (suc j) note h = before_more (next_line x.after) xs j note h

module _ (old P : List KeptNote) (j : ℕ) (note : KeptNote) (below : drop j P ≡ drop j old) (found : slice_get old j ≡ Some note) where
  in_old : j < length old
  in_old = slice_get_within old j note found

  pub in_patched : j < length P
  in_patched = omega (arith, length-drop j P, length-drop j old, ap length below, in_old)

  same_there : slice_get P j ≡ Some note
  same_there =
      let z : j + 0 ≡ j = omega arith in
      sym (ap (slice_get P) z) ∙ sym (get_dropped j P 0) ∙ ap (λ (l : List KeptNote). slice_get l 0) below ∙ get_dropped j old 0 ∙ ap (slice_get old) z ∙ found

  pub take_kept : take (suc j) P ≡ take j P ++ note ∷ []
  take_kept =
      let e : suc j ≡ j + 1 = omega arith in
      ap (λ (n : ℕ). take n P) e ∙ take_more P j note in_patched ∙ ap (λ (x : KeptNote). take j P ++ x ∷ []) (get_or_from_slice_get P j note note same_there)

drop_tail : {X : Type 0} (n : ℕ) (xs ys : List X) → drop n xs ≡ drop n ys → drop (suc n) xs ≡ drop (suc n) ys
drop_tail {X} n xs ys h =
    let e : suc n ≡ n + 1 = omega arith in
    ap (λ (k : ℕ). drop k xs) e ∙ sym (drop-drop 1 n xs) ∙ ap (λ (l : List X). drop 1 l) h ∙ drop-drop 1 n ys ∙ ap (λ (k : ℕ). drop k ys) (sym e)

-- an old line is told by the spans that it had
told_by : (old : List KeptNote) (e : Change) (k j : ℕ) (spans : List Span) (note : KeptNote) → slice_get old j ≡ Some note → old_line e k ≡ Some j → is_told old e k spans ≡ not (same_spans spans note.spans)
told_by old e k j spans note found was =
    let at : get_or (kept_spans old) j [] ≡ note.spans = get_or_from_slice_get (kept_spans old) j note.spans [] (slice_get-map (λ (n : KeptNote). n.spans) old j ∙ ap (option_map (λ (n : KeptNote). n.spans)) found) in
    ap (λ (o : Option ℕ). differs (kept_spans old) o spans) was ∙ ap (λ (x : List Span). not (same_spans spans x)) at

-- a line that keeps its note
pub went_kept : (rules : Rules) (t : Text) (old : List KeptNote) (e : Change) (j k : ℕ) (s : State) (P : List KeptNote) (told0 : List ℕ) (note : KeptNote) → drop j P ≡ drop j old → slice_get old j ≡ Some note → old_line e k ≡ Some j → line_note rules t k s ≡ Ok note → Went rules t old e j k s P P told0 told0 None
went_kept rules t old e j k s P told0 note below found was painted =
    let d : is_told old e k note.spans ≡ false = told_by old e k j note.spans note found was ∙ ap not (spans_are_same note.spans) in
    record {
      note = note;
      painted = painted;
      made = take_kept old P j note below found;
      rest = drop_tail j P old below;
      tells = sym (ap (λ (b : Bool). told0 ++ told b k) d ∙ append-nil told0);
      after = before_more empty_state old j note found;
    }

-- a line that is painted anew
pub went_painted : (rules : Rules) (t : Text) (old : List KeptNote) (e : Change) (j k : ℕ) (s : State) (P P' : List KeptNote) (told0 told1 : List ℕ) (note was_note : KeptNote) (after : State) → P' ≡ slice_set P j note → drop j P ≡ drop j old → slice_get old j ≡ Some was_note → old_line e k ≡ Some j → line_note rules t k s ≡ Ok note → told1 ≡ told0 ++ told (not (same_spans note.spans was_note.spans)) k → after ≡ next_line note.after → Went rules t old e j k s P P' told0 told1 (Some after)
went_painted rules t old e j k s P P' told0 told1 note was_note after p below found was painted tells next_is =
    let d : is_told old e k note.spans ≡ not (same_spans note.spans was_note.spans) = told_by old e k j note.spans was_note found was in
    let e1 : suc j ≡ j + 1 = omega arith in
    record {
      note = note;
      painted = painted;
      made = ap (take (suc j)) p ∙ ap (λ (n : ℕ). take n (slice_set P j note)) e1 ∙ take_more_set P j note (in_patched old P j was_note below found);
      rest = ap (drop (suc j)) p ∙ drop-set-lt (suc j) P j note (omega arith) ∙ drop_tail j P old below;
      tells = tells ∙ sym (ap (λ (b : Bool). told0 ++ told b k) d);
      after = next_is;
    }
