-- Lines that stand in a text more than once.
use Rattle.std.proofs.Common.{arith, sym, subst, ap, ◌∙◌, ◌≡◌, ◌<◌, ◌+◌, ◌-◌, ◌≤ℤ◌, ◌<ℤ◌, ◌+ℤ◌, ◌-ℤ◌, ℕ, ℤ, pos, List, [], ◌∷◌, ◌++◌, zero, suc, length, Some, Ok, true, false}
use Rattle.std.specs.Prelude.{slice_get, negsuc}
use Rattle.std.proofs.lemmas.Int.{by_lt_z, ints}
use Rattle.syn_base.specs.Agreement.{AgreeAt, or_behind, seen_at}
use Rattle.syn_base.specs.Looked.{moved_by}
use Rattle.syn_base.specs.declared.looked.Looked.{Looked}
use Rattle.match_rules.specs.Ways.{Text}
use Rattle.paint_rules.specs.Line.{PaintedLine, Refusal, painted_line}
use Rattle.paint_rules.specs.Painted.{Painted, Done}
use Rattle.paint_rules.specs.Rules.{Rules}
use Rattle.paint_rules.specs.States.{State, empty_state}
use Rattle.paint_shift.specs.Elsewhere.{AgreeOn, ArePaintedAlike, line_in, looked_of, moved}
use Rattle.paint_reuse.specs.Kept.{KeptNote, line_note, walked}
use Rattle.paint_reuse.specs.Work.{WalksOn}
use Rattle.paint_reuse.proofs.NoteLaws.{moved_forth, note_painted, painted_noted}
use Rattle.paint_reuse.proofs.Walks.{noted}
use Rattle.state_cache.specs.Repeats.{AreEqualLines, StandsAlso}

true_is_not_false : true ≡ false → ⊥
true_is_not_false h = cc

-- ---- where equal lines stand

-- the same stands at both
agree_at : (t : Text) (i l : ℕ) (shift : ℤ) → pos l ≡ pos i +ℤ shift → AreEqualLines t i l → AgreeAt t t shift (pos i)
agree_at t i l shift at e = record {
  from_before_first = omega (arith, ints, at);
  to_behind_last = omega (arith, ints, at, e.second);
  same = ap (seen_at t) (sym at) ∙ ap or_behind (sym e.same);
}

-- what stands about line j, as far as a painting looked, stands about line k
module _ (t : Text) (j k : ℕ) (looked : Looked) (own : AreEqualLines t j k) where
  abbrev by : ℤ
  by = pos k -ℤ pos j

  own_line : AgreeAt t t by (pos j)
  own_line = agree_at t j k by (omega (arith, ints)) own

  line_before : (0 < j) → (0 < k) → AreEqualLines t (j - 1) (k - 1) → (l : ℤ) → l ≡ pos j -ℤ pos 1 → AgreeAt t t by l
  line_before some more e l is =
      let at : pos (k - 1) ≡ pos (j - 1) +ℤ by = omega (arith, ints, some, more) in
      let same : pos (j - 1) ≡ l = omega (arith, ints, some, is) in
      subst (AgreeAt t t by) same (agree_at t (j - 1) (k - 1) by at e)

  line_behind : AreEqualLines t (j + 1) (k + 1) → (l : ℤ) → l ≡ pos j +ℤ pos 1 → AgreeAt t t by l
  line_behind e l is =
      let at : pos (k + 1) ≡ pos (j + 1) +ℤ by = omega (arith, ints) in
      let same : pos (j + 1) ≡ l = omega (arith, ints, is) in
      subst (AgreeAt t t by) same (agree_at t (j + 1) (k + 1) by at e)

  -- so it is of the lines beside, where a painting looked at them
  pub stands_also : looked.numbered ≡ false → negsuc 0 ≤ℤ looked.low → looked.high ≤ℤ pos 1 → (looked.low <ℤ pos 0 → (0 < j) × ((0 < k) × AreEqualLines t (j - 1) (k - 1))) → (pos 0 <ℤ looked.high → AreEqualLines t (j + 1) (k + 1)) → StandsAlso t j k looked
  stands_also free low high before behind = record {
    unmoved = λ numbered. absurd (true_is_not_false (sym numbered ∙ free));
    each_line = λ l from to.
        by_lt_z l (pos j)
        (λ less. let b = before (omega (arith, ints, less, from)) in line_before b.0 b.1.0 b.1.1 l (omega (arith, ints, less, from, low)))
        (λ least. by_lt_z (pos j) l
        (λ more. line_behind (behind (omega (arith, ints, more, to))) l (omega (arith, ints, more, to, high)))
        (λ most. let same : pos j ≡ l = omega (arith, ints, least, most) in subst (AgreeAt t t by) same own_line));
  }

-- ---- the note of a line that repeats another

module _ (rules : Rules) (alike : ArePaintedAlike rules) (t : Text) (j k : ℕ) (on : j < length t) where
  pub repeats : (note : KeptNote) → line_note rules t j note.before ≡ Ok note → StandsAlso t j k note.looked → line_note rules t k note.before ≡ Ok note
  repeats note own also =
      let p : PaintedLine = record { spans = note.spans; after = note.after } in
      let looked : Looked = moved_by note.looked (pos j) in
      let by = pos k -ℤ pos j in
      let at : pos k ≡ pos j +ℤ by = omega (arith, ints) in
      let painted : painted_line (line_in rules t j) note.before ≡ Done p (Some looked) = note_painted rules t j note.before note own in
      let looked_are : looked_of (painted_line (line_in rules t j) note.before) ≡ Some looked = ap (λ (q : Painted Refusal PaintedLine). looked_of q) painted in
      let there : painted_line (line_in rules t k) note.before ≡ Done p (Some (moved_by looked by)) =
      alike t t by j k note.before at on (subst (AgreeOn t t by) (sym looked_are) also) ∙ ap (moved by) painted in
      let none : (pos j +ℤ by) +ℤ (pos 0 -ℤ pos k) ≡ pos 0 = omega (arith, ints) in
      painted_noted rules t k note.before p (moved_by looked by) there
      ∙ ap (λ (l : Looked). Ok (record { before = note.before; spans = note.spans; after = note.after; looked = l })) (moved_forth note.looked (pos j) by (pos 0 -ℤ pos k) none)

-- each note that was made is that of its line
made_before : (made rest : List KeptNote) (i : ℕ) (note : KeptNote) → slice_get made i ≡ Some note → slice_get (made ++ rest) i ≡ Some note
made_before [] rest i note h = cc
made_before (x ∷ made) rest zero note h = h
made_before (x ∷ made) rest (suc i) note h = made_before made rest i note h

pub made_is : (rules : Rules) (t : Text) (l : ℕ) (made : List KeptNote) (s : State) → WalksOn rules t l made s → (i : ℕ) (note : KeptNote) → slice_get made i ≡ Some note → line_note rules t i note.before ≡ Ok note
made_is rules t l made s walks i note h =
    let all = walked rules t 0 (length t) empty_state in
    let rest = (walked rules t l (length t - l) s).notes in
    let here : slice_get all.notes i ≡ Some note = ap (λ (xs : List KeptNote). slice_get xs i) walks.notes ∙ made_before made rest i note h in
    let z : i ≡ 0 + i = omega arith in
    ap (λ (n : ℕ). line_note rules t n note.before) z ∙ (noted rules t 0 (length t) empty_state i note here).0
