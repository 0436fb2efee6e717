-- The work of an edit, a line further and at a refusal.
use Rattle.std.proofs.Common.{arith, subst, sym, ap, ◌∙◌, ◌≡◌, ◌≤◌, ◌+◌, ℕ, suc, zero, List, [], ◌∷◌, ◌++◌, length, take, None, Option, Result, Ok, Err, Bool, true, false, refl, append_assoc, zero-add, if◌then◌else◌}
use Rattle.syn_base.specs.declared.places.Span.{Span}
use Rattle.match_rules.specs.Ways.{Text}
use Rattle.paint_rules.specs.Line.{PaintedLine, Refusal, painted_line}
use Rattle.paint_rules.specs.Painted.{Painted, Done, Refused}
use Rattle.paint_rules.specs.Rules.{Rules}
use Rattle.paint_rules.specs.States.{State, empty_state, next_line}
use Rattle.paint_reuse.specs.declared.change.Change.{Change}
use Rattle.paint_reuse.specs.Change.{old_line}
use Rattle.paint_reuse.specs.Kept.{KeptNote, RefusedLine, kept_of, line_note, notes_from, then_walked, walked}
use Rattle.paint_shift.specs.Elsewhere.{line_in}
use Rattle.paint_reuse.specs.Report.{differs, report_from}
use Rattle.paint_reuse.specs.Reuse.{one_unless, to_paint_from}
use Rattle.paint_reuse.specs.Work.{Work, work, then_work, told, is_told, kept_spans, reusable, refused_line, before_at, state_by, Went, NewWent, Along, Splits}

module _ (rules : Rules) (t : Text) (old : List KeptNote) (e : Change) where
  -- the work at a painted line
  work_painted : (k n : ℕ) (s : State) (note : KeptNote) → line_note rules t k s ≡ Ok note → work rules t old e k (suc n) s ≡ then_work old e k (reusable old e k s) (Ok note) (work rules t old e (suc k) n)
  work_painted k n s note h = ap (λ (p : Result KeptNote Refusal). then_work old e k (reusable old e k s) p (work rules t old e (suc k) n)) h

  along_suc : (whole : Work) (j k n : ℕ) (s : State) (g : Option State) (P P' made0 : List KeptNote) (told0 told1 told2 : List ℕ) (c0 c1 c2 : ℕ) → Along whole (work rules t old e k (suc n) s) made0 (take j P) told0 told1 c0 c1 → Went rules t old e j k s P P' told1 told2 g → c2 ≤ c1 + one_unless (reusable old e k s) → Along whole (work rules t old e (suc k) n (state_by g (before_at empty_state old (suc j)))) made0 (take (suc j) P') told0 told2 c0 c2
  along_suc whole j k n s g P P' made0 told0 told1 told2 c0 c1 c2 a w c =
      let rest = work rules t old e (suc k) n (next_line w.note.after) in
      let u = work_painted k n s w.note w.painted in
      let f : work rules t old e (suc k) n (state_by g (before_at empty_state old (suc j))) ≡ work rules t old e (suc k) n (next_line w.note.after) = ap (work rules t old e (suc k) n) w.after in
      rw f (record {
        notes = a.notes ∙ ap (λ (x : Work). take j P ++ x.notes) u ∙ sym (append_assoc (take j P) (w.note ∷ []) (work rules t old e (suc k) n (next_line w.note.after)).notes) ∙ ap (λ (l : List KeptNote). l ++ (work rules t old e (suc k) n (next_line w.note.after)).notes) (sym w.made);
        report = a.report ∙ ap (λ (x : Work). told1 ++ x.report) u ∙ sym (append_assoc told1 (told (is_told old e k w.note.spans) k) (work rules t old e (suc k) n (next_line w.note.after)).report) ∙ ap (λ (l : List ℕ). l ++ (work rules t old e (suc k) n (next_line w.note.after)).report) (sym w.tells);
        count = omega (arith, a.count, ap (λ (x : Work). x.count) u);
        end = a.end ∙ ap (λ (x : Work). x.end) u;
      })

  -- an old line further
  pub along_more : (whole : Work) (j j' k k' n n' : ℕ) (s : State) (g : Option State) (P P' made0 : List KeptNote) (told0 told1 told2 : List ℕ) (c0 c1 c2 : ℕ) → j' ≡ suc j → k' ≡ suc k → n ≡ suc n' → Along whole (work rules t old e k n s) made0 (take j P) told0 told1 c0 c1 → Went rules t old e j k s P P' told1 told2 g → c2 ≤ c1 + one_unless (reusable old e k s) → Along whole (work rules t old e k' n' (state_by g (before_at empty_state old j'))) made0 (take j' P') told0 told2 c0 c2
  along_more whole j j' k k' n n' s g P P' made0 told0 told1 told2 c0 c1 c2 ej ek en a w c =
      let b = subst (λ (m : ℕ). Along whole (work rules t old e k m s) made0 (take j P) told0 told1 c0 c1) en a in
      rw (ej, ek) (along_suc whole j k n' s g P P' made0 told0 told1 told2 c0 c1 c2 b w c)

  -- a new line further
  along_new_suc : (whole : Work) (k n : ℕ) (s s' : State) (made0 made1 made2 : List KeptNote) (told0 told1 told2 : List ℕ) (c0 c1 c2 : ℕ) → Along whole (work rules t old e k (suc n) s) made0 made1 told0 told1 c0 c1 → old_line e k ≡ None → NewWent rules t k s made1 made2 told1 told2 s' → c2 ≤ c1 + one_unless (reusable old e k s) → Along whole (work rules t old e (suc k) n s') made0 made2 told0 told2 c0 c2
  along_new_suc whole k n s s' made0 made1 made2 told0 told1 told2 c0 c1 c2 a fresh w c =
      let u = work_painted k n s w.note w.painted in
      let d : told (is_told old e k w.note.spans) k ≡ k ∷ [] = ap (λ (o : Option ℕ). told (differs (kept_spans old) o w.note.spans) k) fresh in
      let f : work rules t old e (suc k) n s' ≡ work rules t old e (suc k) n (next_line w.note.after) = ap (work rules t old e (suc k) n) w.after in
      rw f (record {
        notes = a.notes ∙ ap (λ (x : Work). made1 ++ x.notes) u ∙ sym (append_assoc made1 (w.note ∷ []) (work rules t old e (suc k) n (next_line w.note.after)).notes) ∙ ap (λ (l : List KeptNote). l ++ (work rules t old e (suc k) n (next_line w.note.after)).notes) (sym w.made);
        report = a.report ∙ ap (λ (x : Work). told1 ++ x.report) u ∙ ap (λ (l : List ℕ). told1 ++ (l ++ (work rules t old e (suc k) n (next_line w.note.after)).report)) d ∙ sym (append_assoc told1 (k ∷ []) (work rules t old e (suc k) n (next_line w.note.after)).report) ∙ ap (λ (l : List ℕ). l ++ (work rules t old e (suc k) n (next_line w.note.after)).report) (sym w.tells);
        count = omega (arith, a.count, ap (λ (x : Work). x.count) u);
        end = a.end ∙ ap (λ (x : Work). x.end) u;
      })

  pub along_new : (whole : Work) (k k' n n' : ℕ) (s s' : State) (made0 made1 made2 : List KeptNote) (told0 told1 told2 : List ℕ) (c0 c1 c2 : ℕ) → k' ≡ suc k → n ≡ suc n' → Along whole (work rules t old e k n s) made0 made1 told0 told1 c0 c1 → old_line e k ≡ None → NewWent rules t k s made1 made2 told1 told2 s' → c2 ≤ c1 + one_unless (reusable old e k s) → Along whole (work rules t old e k' n' s') made0 made2 told0 told2 c0 c2
  along_new whole k k' n n' s s' made0 made1 made2 told0 told1 told2 c0 c1 c2 ek en a fresh w c =
      let b = subst (λ (m : ℕ). Along whole (work rules t old e k m s) made0 made1 told0 told1 c0 c1) en a in
      rw ek (along_new_suc whole k n' s s' made0 made1 made2 told0 told1 told2 c0 c1 c2 b fresh w c)

  refused_end : (k n : ℕ) (s : State) (x : Refusal) → line_note rules t k s ≡ Err x → (work rules t old e k (suc n) s).end ≡ Err (refused_line k x)
  refused_end k n s x h = ap (λ (p : Result KeptNote Refusal). (then_work old e k (reusable old e k s) p (work rules t old e (suc k) n)).end) h

  -- a refused line is the end
  pub stop_at : (whole : Work) (k n n' : ℕ) (s : State) (made0 made1 : List KeptNote) (told0 told1 : List ℕ) (c0 c1 : ℕ) (x : Refusal) → n ≡ suc n' → Along whole (work rules t old e k n s) made0 made1 told0 told1 c0 c1 → line_note rules t k s ≡ Err x → whole.end ≡ Err (refused_line k x)
  stop_at whole k n n' s made0 made1 told0 told1 c0 c1 x en a h = a.end ∙ ap (λ (m : ℕ). (work rules t old e k m s).end) en ∙ refused_end k n' s x h

  one_of : (k : ℕ) (b : Bool) (p : Result KeptNote Refusal) (rest : State → Work) → one_unless b ≤ (then_work old e k b p rest).count
  one_of k b (Ok note) rest = omega arith
  one_of k b (Err x) rest = omega arith

  -- a line counts once
  pub count_at : (whole : Work) (k n n' : ℕ) (s : State) (made0 made1 : List KeptNote) (told0 told1 : List ℕ) (c0 c1 c2 : ℕ) → n ≡ suc n' → Along whole (work rules t old e k n s) made0 made1 told0 told1 c0 c1 → c2 ≤ c1 + one_unless (reusable old e k s) → c2 ≤ c0 + whole.count
  count_at whole k n n' s made0 made1 told0 told1 c0 c1 c2 en a c =
      omega (arith, a.count, ap (λ (m : ℕ). (work rules t old e k m s).count) en, one_of k (reusable old e k s) (line_note rules t k s) (work rules t old e (suc k) n'))

  -- the notes, the report, the count and the end of the work are those of the painting
  both_step : (k n : ℕ) (b : Bool) (p : Result KeptNote Refusal) → ((s : State) → ((work rules t old e (suc k) n s).notes ≡ (walked rules t (suc k) n s).notes) × ((work rules t old e (suc k) n s).end ≡ (walked rules t (suc k) n s).end)) → ((then_work old e k b p (work rules t old e (suc k) n)).notes ≡ (then_walked k p (walked rules t (suc k) n)).notes) × ((then_work old e k b p (work rules t old e (suc k) n)).end ≡ (then_walked k p (walked rules t (suc k) n)).end)
  both_step k n b (Err x) h = (refl, refl)
  both_step k n b (Ok note) h = (ap (λ (l : List KeptNote). note ∷ l) ((h (next_line note.after)).0), (h (next_line note.after)).1)

  pub work_walked : (k n : ℕ) (s : State) → ((work rules t old e k n s).notes ≡ (walked rules t k n s).notes) × ((work rules t old e k n s).end ≡ (walked rules t k n s).end)
  work_walked k zero s = (refl, refl)
  work_walked k (suc n) s = both_step k n (reusable old e k s) (line_note rules t k s) (work_walked (suc k) n)

  count_step : (k : ℕ) (lines : List (List ℕ)) (s : State) (b : Bool) (p : Painted Refusal PaintedLine) → ((s : State) → (work rules t old e (suc k) (length lines) s).count ≡ to_paint_from rules t (notes_from 0 old) e (suc k) lines s) → (then_work old e k b (kept_of k s p) (work rules t old e (suc k) (length lines))).count ≡ one_unless b + elim p [ Refused refusal looked ↦ 0 | Done p looked ↦ to_paint_from rules t (notes_from 0 old) e (suc k) lines (next_line p.after) ]
  count_step k lines s b (Refused x looked) h = omega arith
  count_step k lines s b (Done p looked) h = ap (λ (m : ℕ). one_unless b + m) (h (next_line p.after))

  pub work_count : (k : ℕ) (lines : List (List ℕ)) (s : State) → (work rules t old e k (length lines) s).count ≡ to_paint_from rules t (notes_from 0 old) e k lines s
  unfolding line_note
  work_count k [] s = refl
  work_count k (x ∷ lines) s = count_step k lines s (reusable old e k s) (painted_line (line_in rules t k) s) (work_count (suc k) lines)

  told_step : (k : ℕ) (b : Bool) (note : KeptNote) (rest : List (List Span)) (told1 : List ℕ) → told1 ≡ report_from (kept_spans old) e (suc k) rest → b ≡ is_told old e k note.spans → told b k ++ told1 ≡ report_from (kept_spans old) e k (note.spans ∷ rest)
  told_step k b note rest told1 h q = told_by b h ∙ ap (λ (c : Bool). if c then k ∷ report_from (kept_spans old) e (suc k) rest else report_from (kept_spans old) e (suc k) rest) q
    where
      told_by : (b : Bool) → told1 ≡ report_from (kept_spans old) e (suc k) rest → told b k ++ told1 ≡ (if b then k ∷ report_from (kept_spans old) e (suc k) rest else report_from (kept_spans old) e (suc k) rest)
      told_by true h = ap (λ (l : List ℕ). k ∷ l) h
      told_by false h = h

  report_step : (k n : ℕ) (b : Bool) (p : Result KeptNote Refusal) → ((s : State) → (work rules t old e (suc k) n s).report ≡ report_from (kept_spans old) e (suc k) (kept_spans (work rules t old e (suc k) n s).notes)) → (then_work old e k b p (work rules t old e (suc k) n)).report ≡ report_from (kept_spans old) e k (kept_spans (then_work old e k b p (work rules t old e (suc k) n)).notes)
  report_step k n b (Err x) h = refl
  report_step k n b (Ok note) h = told_step k (is_told old e k note.spans) note _ _ (h (next_line note.after)) refl

  pub work_report : (k n : ℕ) (s : State) → (work rules t old e k n s).report ≡ report_from (kept_spans old) e k (kept_spans (work rules t old e k n s).notes)
  work_report k zero s = refl
  work_report k (suc n) s = report_step k n (reusable old e k s) (line_note rules t k s) (work_report (suc k) n)

  -- two stretches of lines
  splits_step : (k c n m : ℕ) (b : Bool) (p : Result KeptNote Refusal) (s' : State) → ((s : State) → (work rules t old e (suc k) c s).end ≡ Ok s' → Splits (work rules t old e (suc k) m s) (work rules t old e (suc k) c s) (work rules t old e (suc k + c) n s')) → (then_work old e k b p (work rules t old e (suc k) c)).end ≡ Ok s' → Splits (then_work old e k b p (work rules t old e (suc k) m)) (then_work old e k b p (work rules t old e (suc k) c)) (work rules t old e (suc k + c) n s')
  splits_step k c n m b (Err x) s' h q = cc
  splits_step k c n m b (Ok note) s' h q =
      let r = h (next_line note.after) q in
      record {
        notes = ap (λ (l : List KeptNote). note ∷ l) r.notes;
        report = ap (λ (l : List ℕ). told (is_told old e k note.spans) k ++ l) r.report ∙ sym (append_assoc (told (is_told old e k note.spans) k) _ _);
        count = omega (arith, r.count);
        end = r.end;
      }

  pub splits : (k c n m : ℕ) (s s' : State) → m ≡ c + n → (work rules t old e k c s).end ≡ Ok s' → Splits (work rules t old e k m s) (work rules t old e k c s) (work rules t old e (k + c) n s')
  splits k zero n m s s' em h =
      let k0 : k + 0 ≡ k = omega arith in
      let m0 : m ≡ n = omega arith in
      let s0 : s ≡ s' = cc in
      let f : work rules t old e k m s ≡ work rules t old e (k + 0) n s' = ap (λ (i : ℕ). work rules t old e k i s) m0 ∙ ap (work rules t old e k n) s0 ∙ ap (λ (i : ℕ). work rules t old e i n s') (sym k0) in
      record {
        notes = ap (λ (w : Work). w.notes) f;
        report = ap (λ (w : Work). w.report) f;
        count = ap (λ (w : Work). w.count) f ∙ sym (zero-add _);
        end = ap (λ (w : Work). w.end) f;
      }
  splits k (suc c) n zero s s' em h = absurd (omega arith)
  splits k (suc c) n (suc m) s s' em h =
      let m1 : m ≡ c + n = omega arith in
      let k1 : suc k + c ≡ k + suc c = omega arith in
      let r = splits_step k c n m (reusable old e k s) (line_note rules t k s) s' (λ s2. splits (suc k) c n m s2 s' m1) h in
      subst (λ (i : ℕ). Splits (work rules t old e k (suc m) s) (work rules t old e k (suc c) s) (work rules t old e i n s')) k1 r

  ends_step : (k c m : ℕ) (b : Bool) (p : Result KeptNote Refusal) (x : RefusedLine) → ((s : State) → (work rules t old e (suc k) c s).end ≡ Err x → ((work rules t old e (suc k) m s).end ≡ Err x) × ((work rules t old e (suc k) m s).count ≡ (work rules t old e (suc k) c s).count)) → (then_work old e k b p (work rules t old e (suc k) c)).end ≡ Err x → ((then_work old e k b p (work rules t old e (suc k) m)).end ≡ Err x) × ((then_work old e k b p (work rules t old e (suc k) m)).count ≡ (then_work old e k b p (work rules t old e (suc k) c)).count)
  ends_step k c m b (Err y) x h q = (q, refl)
  ends_step k c m b (Ok note) x h q = let r = h (next_line note.after) q in (r.0, ap (λ (i : ℕ). one_unless b + i) (r.1))

  -- a refusal in the first stretch is that of all
  pub ends : (k c m : ℕ) (s : State) (x : RefusedLine) → c ≤ m → (work rules t old e k c s).end ≡ Err x → ((work rules t old e k m s).end ≡ Err x) × ((work rules t old e k m s).count ≡ (work rules t old e k c s).count)
  ends k zero m s x em h = cc
  ends k (suc c) zero s x em h = absurd (omega arith)
  ends k (suc c) (suc m) s x em h = ends_step k c m (reusable old e k s) (line_note rules t k s) x (λ s2. ends (suc k) c m s2 x (omega arith)) h

  count_by : (k c n m : ℕ) (s : State) (r : Result State RefusedLine) → m ≡ c + n → (work rules t old e k c s).end ≡ r → (work rules t old e k c s).count ≤ (work rules t old e k m s).count
  count_by k c n m s (Ok s') em h = omega (arith, (splits k c n m s s' em h).count)
  count_by k c n m s (Err x) em h = let c1 : c ≤ m = omega arith in omega (arith, (ends k c m s x c1 h).1)

  pub first_count : (k c n m : ℕ) (s : State) → m ≡ c + n → (work rules t old e k c s).count ≤ (work rules t old e k m s).count
  first_count k c n m s em = count_by k c n m s _ em refl

  few_step : (k n : ℕ) (b : Bool) (p : Result KeptNote Refusal) → ((s : State) → (work rules t old e (suc k) n s).count ≤ n) → (then_work old e k b p (work rules t old e (suc k) n)).count ≤ suc n
  few_step k n true (Ok note) h = omega (arith, h (next_line note.after))
  few_step k n false (Ok note) h = omega (arith, h (next_line note.after))
  few_step k n true (Err x) h = omega arith
  few_step k n false (Err x) h = omega arith

  -- no more than all lines are painted
  pub few_painted : (k n : ℕ) (s : State) → (work rules t old e k n s).count ≤ n
  few_painted k zero s = omega arith
  few_painted k (suc n) s = few_step k n (reusable old e k s) (line_note rules t k s) (few_painted (suc k) n)
