-- The work of an edit in three stretches: the old lines above, the new ones, and the old lines below.
use Rattle.std.proofs.Common.{arith, subst, sym, ap, ◌∙◌, ◌≡◌, ◌≤◌, ◌+◌, ◌-◌, ℕ, List, ◌++◌, take, drop, length, length-take, Ok, Err, refl, append_assoc}
use Rattle.std.proofs.lemmas.List.{take_all, drop_at, take-append-le, take-take, drop-drop}
use Rattle.match_rules.specs.Ways.{Text}
use Rattle.paint_rules.specs.Rules.{Rules}
use Rattle.paint_rules.specs.States.{State, empty_state}
use Rattle.paint_reuse.specs.declared.change.Change.{Change}
use Rattle.paint_reuse.specs.Change.{replaced}
use Rattle.paint_reuse.specs.Reuse.{to_paint_from}
use Rattle.paint_reuse.specs.Kept.{KeptNote, RefusedLine, notes_from, text_notes, walked, whole_of}
use Rattle.paint_reuse.specs.Report.{report, report_from}
use Rattle.paint_reuse.specs.Work.{Splits, kept_spans, put_in, work}
use Rattle.paint_reuse.proofs.Places.{length_replaced}
use Rattle.paint_reuse.proofs.Works.{ends, first_count, splits, work_count, work_report, work_walked}

module _ (rules : Rules) (t : Text) (old : List KeptNote) (e : Change) where
  -- the lines to paint
  abbrev pub most : ℕ
  most = to_paint_from rules t (notes_from 0 old) e 0 t empty_state

  refused_whole : (x : RefusedLine) → (work rules t old e 0 (length t) empty_state).end ≡ Err x → text_notes rules t ≡ Err x
  unfolding text_notes
  refused_whole x h = ap (whole_of (walked rules t 0 (length t) empty_state).notes) (sym ((work_walked rules t old e 0 (length t) empty_state).1) ∙ h)

  pub refused : (x : RefusedLine) → (work rules t old e 0 (length t) empty_state).end ≡ Err x → text_notes rules t ≡ Err x
  refused x h = refused_whole x h

  pub painted_whole : (s : State) → (work rules t old e 0 (length t) empty_state).end ≡ Ok s → text_notes rules t ≡ Ok (work rules t old e 0 (length t) empty_state).notes
  unfolding text_notes
  painted_whole s h =
      let w = work_walked rules t old e 0 (length t) empty_state in
      ap (whole_of (walked rules t 0 (length t) empty_state).notes) (sym (w.1) ∙ h) ∙ ap (λ (l : List KeptNote). Ok l) (sym (w.0))

  module _ (c1 c2 c3 : ℕ) (total : length t ≡ c1 + (c2 + c3)) where
    pub refused_1 : (x : RefusedLine) → (work rules t old e 0 c1 empty_state).end ≡ Err x → text_notes rules t ≡ Err x
    refused_1 x h = refused x ((ends rules t old e 0 c1 (length t) empty_state x (omega arith) h).0)

    pub count_1 : (work rules t old e 0 c1 empty_state).count ≤ most
    count_1 = omega (arith, first_count rules t old e 0 c1 (c2 + c3) (length t) empty_state total, work_count rules t old e 0 t empty_state)

    module _ (s1 : State) (end1 : (work rules t old e 0 c1 empty_state).end ≡ Ok s1) (k1 : ℕ) (is1 : k1 ≡ c1) where
      one : Splits (work rules t old e 0 (length t) empty_state) (work rules t old e 0 c1 empty_state) (work rules t old e k1 (c2 + c3) s1)
      one =
          let q : 0 + c1 ≡ k1 = omega arith in
          subst (λ (i : ℕ). Splits (work rules t old e 0 (length t) empty_state) (work rules t old e 0 c1 empty_state) (work rules t old e i (c2 + c3) s1)) q (splits rules t old e 0 c1 (c2 + c3) (length t) empty_state s1 total end1)

      refused_rest : (x : RefusedLine) → (work rules t old e k1 (c2 + c3) s1).end ≡ Err x → text_notes rules t ≡ Err x
      refused_rest x h = refused x (one.end ∙ h)

      pub refused_2 : (x : RefusedLine) → (work rules t old e k1 c2 s1).end ≡ Err x → text_notes rules t ≡ Err x
      refused_2 x h = refused_rest x ((ends rules t old e k1 c2 (c2 + c3) s1 x (omega arith) h).0)

      pub count_2 : (work rules t old e 0 c1 empty_state).count + (work rules t old e k1 c2 s1).count ≤ most
      count_2 = omega (arith, one.count, first_count rules t old e k1 c2 c3 (c2 + c3) s1 refl, work_count rules t old e 0 t empty_state)

      module _ (s2 : State) (end2 : (work rules t old e k1 c2 s1).end ≡ Ok s2) (k2 : ℕ) (is2 : k2 ≡ k1 + c2) where
        two : Splits (work rules t old e k1 (c2 + c3) s1) (work rules t old e k1 c2 s1) (work rules t old e k2 c3 s2)
        two = subst (λ (i : ℕ). Splits (work rules t old e k1 (c2 + c3) s1) (work rules t old e k1 c2 s1) (work rules t old e i c3 s2)) (sym is2) (splits rules t old e k1 c2 c3 (c2 + c3) s1 s2 refl end2)

        pub refused_3 : (x : RefusedLine) → (work rules t old e k2 c3 s2).end ≡ Err x → text_notes rules t ≡ Err x
        refused_3 x h = refused_rest x (two.end ∙ h)

        pub count_3 : (work rules t old e 0 c1 empty_state).count + (work rules t old e k1 c2 s1).count + (work rules t old e k2 c3 s2).count ≤ most
        count_3 = omega (arith, one.count, two.count, work_count rules t old e 0 t empty_state)

        three_notes : (work rules t old e 0 (length t) empty_state).notes ≡ (work rules t old e 0 c1 empty_state).notes ++ (work rules t old e k1 c2 s1).notes ++ (work rules t old e k2 c3 s2).notes
        three_notes = one.notes ∙ ap (λ (l : List KeptNote). (work rules t old e 0 c1 empty_state).notes ++ l) two.notes ∙ sym (append_assoc (work rules t old e 0 c1 empty_state).notes (work rules t old e k1 c2 s1).notes (work rules t old e k2 c3 s2).notes)

        three_report : (work rules t old e 0 (length t) empty_state).report ≡ (work rules t old e 0 c1 empty_state).report ++ (work rules t old e k1 c2 s1).report ++ (work rules t old e k2 c3 s2).report
        three_report = one.report ∙ ap (λ (l : List ℕ). (work rules t old e 0 c1 empty_state).report ++ l) two.report ∙ sym (append_assoc (work rules t old e 0 c1 empty_state).report (work rules t old e k1 c2 s1).report (work rules t old e k2 c3 s2).report)

        -- the new notes, put together
        module _ (a b n : ℕ) (P1 P3 fresh : List KeptNote) (ordered : a ≤ b) (inside : b ≤ n) (full1 : length P1 ≡ n) (full3 : length P3 ≡ n)
            (above : (work rules t old e 0 c1 empty_state).notes ≡ take a P1) (new : (work rules t old e k1 c2 s1).notes ≡ fresh) (below : take b P1 ++ (work rules t old e k2 c3 s2).notes ≡ take n P3) where
          cut : length (take b P1) ≡ b
          cut = simp length-take (omega arith)

          patches : P3 ≡ take b P1 ++ (work rules t old e k2 c3 s2).notes
          patches = sym (take_all n P3 (omega arith)) ∙ sym below

          put : (work rules t old e 0 (length t) empty_state).notes ≡ put_in P3 a b fresh
          put =
              let p : take a P3 ≡ take a P1 = ap (take a) patches ∙ take-append-le a (take b P1) (work rules t old e k2 c3 s2).notes (omega (arith, cut)) ∙ take-take a b P1 ordered in
              let q : drop b P3 ≡ (work rules t old e k2 c3 s2).notes = ap (drop b) patches ∙ drop_at (take b P1) (work rules t old e k2 c3 s2).notes b cut in
              three_notes ∙ ap (λ (l : List KeptNote). l ++ (work rules t old e k1 c2 s1).notes ++ (work rules t old e k2 c3 s2).notes) (above ∙ sym p) ∙ ap (λ (l : List KeptNote). take a P3 ++ l ++ (work rules t old e k2 c3 s2).notes) new ∙ ap (λ (l : List KeptNote). take a P3 ++ fresh ++ l) (sym q)

          pub painted_all : (s3 : State) → (work rules t old e k2 c3 s2).end ≡ Ok s3 → text_notes rules t ≡ Ok (put_in P3 a b fresh)
          painted_all s3 h = painted_whole s3 (one.end ∙ two.end ∙ h) ∙ ap (λ (l : List KeptNote). Ok l) put

          pub told_all : (told1 told2 told3 : List ℕ) → (work rules t old e 0 c1 empty_state).report ≡ told1 → told1 ++ (work rules t old e k1 c2 s1).report ≡ told2 → told2 ++ (work rules t old e k2 c3 s2).report ≡ told3 → told3 ≡ report (kept_spans old) (kept_spans (put_in P3 a b fresh)) e
          told_all told1 told2 told3 h1 h2 h3 =
              sym h3 ∙ ap (λ (l : List ℕ). l ++ (work rules t old e k2 c3 s2).report) (sym h2) ∙ ap (λ (l : List ℕ). l ++ (work rules t old e k1 c2 s1).report ++ (work rules t old e k2 c3 s2).report) (sym h1) ∙ sym three_report ∙ work_report rules t old e 0 (length t) empty_state ∙ ap (λ (l : List KeptNote). report_from (kept_spans old) e 0 (kept_spans l)) put

-- how many lines each stretch has
pub total_is : (text : List (List ℕ)) (a b n : ℕ) (new : List (List ℕ)) → a ≤ b → b ≤ length text → n ≡ length text → length (replaced text a b new) ≡ (a - 0) + (length new + (n - b))
total_is text a b n new ordered inside full = omega (arith, length_replaced text a b new ordered inside)

pub dropped_on : {X : Type 0} (a b : ℕ) (xs ys : List X) → a ≤ b → drop a xs ≡ drop a ys → drop b xs ≡ drop b ys
dropped_on {X} a b xs ys h e =
    let q : a + (b - a) ≡ b = omega arith in
    ap (λ (n : ℕ). drop n xs) (sym q) ∙ sym (drop-drop (b - a) a xs) ∙ ap (λ (l : List X). drop (b - a) l) e ∙ drop-drop (b - a) a ys ∙ ap (λ (n : ℕ). drop n ys) q
