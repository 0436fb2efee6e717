-- A reusable line has the note of its old line.
use Rattle.std.proofs.Common.{arith, sym, subst, ap, ◌∙◌, ◌≡◌, ◌<◌, ◌≤◌, ◌+◌, ◌≤ℤ◌, ◌<ℤ◌, ◌+ℤ◌, ◌-ℤ◌, ◌⊎◌, inl, inr, ℕ, ℤ, pos, List, append_assoc, take, drop, length, Some, None, Ok, true, refl}
use Rattle.std.specs.Prelude.{Option}
use Rattle.std.proofs.lemmas.Bool.{and_parts}
use Rattle.std.proofs.lemmas.Int.{ints}
use Rattle.std.proofs.lemmas.Option.{slice_get_within}
use Rattle.syn_base.specs.Looked.{moved_by}
use Rattle.syn_base.specs.declared.looked.Looked.{Looked}
use Rattle.match_rules.specs.Ways.{Text}
use Rattle.paint_rules.specs.Line.{Note, PaintedLine, Refusal, Whole, painted_line, painting}
use Rattle.paint_rules.specs.Painted.{Painted, Done}
use Rattle.paint_rules.specs.Rules.{Rules}
use Rattle.paint_rules.specs.States.{State}
use Rattle.paint_rules.specs.Syntax.{rules_of}
use Rattle.paint_shift.specs.Change.{AreBefore, AreFrom, KeepsNumber}
use Rattle.paint_shift.specs.Change as shift
use Rattle.paint_shift.specs.Elsewhere.{line_in, looked_of, moved}
use Rattle.paint_shift.proofs.AboutLine.{paintings_look_about}
use Rattle.paint_shift.proofs.ChangeLaws.{changes_leave_other_lines}
use Rattle.paint_laws.specs.LineByLine.{state_before}
use Rattle.paint_laws.proofs.TextLaws.{whole_paintings}
use Rattle.paint_reuse.specs.declared.change.Change.{Change}
use Rattle.paint_reuse.specs.Change.{old_line, replaced}
use Rattle.paint_reuse.specs.Kept.{KeptNote, line_note}
use Rattle.paint_reuse.specs.Local.{IsLocal}
use Rattle.paint_reuse.specs.Reusable.{IsReusable, KeepsItsPainting, ReusableLinesKeepTheirPainting}
use Rattle.paint_reuse.specs.Reuse.{is_clear, is_reusable, keeps_number}
use Rattle.paint_reuse.specs.Work.{is_untouched}
use Rattle.paint_reuse.proofs.NoteLaws.{looks, moved_forth, note_painted, painted_noted, unmoved}
use Rattle.paint_reuse.proofs.Places.{old_cases}
use Rattle.paint_reuse.proofs.ReusableIs.{apart_of, conditions, number_of}

module _ (rules : Rules) (local : IsLocal rules) (text : Text) (a b : ℕ) (new : List (List ℕ)) (ordered : a ≤ b) (inside : b ≤ length text) where
  abbrev change : Change
  change = record { a = a; b = b; count = length new }

  module _ (k j : ℕ) (s : State) (p : PaintedLine) (looked : Looked) (on : j < length text) (painted : painted_line (line_in rules text j) s ≡ Done p (Some looked)) where
    looked_are : looked_of (painted_line (line_in rules text j) s) ≡ Some looked
    looked_are = ap (λ (q : Painted Refusal PaintedLine). looked_of q) painted

    own : (looked.low ≤ℤ pos j) × (pos j ≤ℤ looked.high)
    own =
        let w = local.about text j s on in
        let e : w.lines ≡ looked = some_is w.lines looked (sym w.are ∙ looked_are) in
        (subst (λ (l : Looked). l.low ≤ℤ pos j) e w.about.low_to_start, subst (λ (l : Looked). pos j ≤ℤ l.high) e w.about.high_from_start)
      where
        some_is : (x y : Looked) → Some x ≡ Some y → x ≡ y
        some_is x y h = cc

    -- the changed text, as the law of changes has it
    same_text : shift.replaced text a b new ≡ replaced text a b new
    same_text = sym (append_assoc (take a text) new (drop b text))

    same_line : (l : ℕ) → painted_line (line_in rules (replaced text a b new) l) s ≡ painted_line (line_in rules (shift.replaced text a b new) l) s
    same_line l = ap (λ (t : Text). painted_line (line_in rules t l) s) (sym same_text)

    stands_by : ((k < a) × (j ≡ k)) ⊎ ((a + length new ≤ k) × (k + b ≡ j + (a + length new))) → (looked.high <ℤ pos a) ⊎ (pos b ≤ℤ looked.low) → KeepsNumber j k (Some looked) → painted_line (line_in rules (replaced text a b new) k) s ≡ moved (pos k -ℤ pos j) (Done p (Some looked))
    stands_by (inl at) (inl clear) same_number =
        let same : j ≡ k = at.1 in
        let none : pos k -ℤ pos j ≡ pos 0 = omega (arith, ints, same) in
        let before : AreBefore a (looked_of (painted_line (line_in rules text j) s)) = subst (AreBefore a) (sym looked_are) clear in
        subst (λ (l : ℕ). painted_line (line_in rules (replaced text a b new) l) s ≡ moved (pos k -ℤ pos j) (Done p (Some looked))) same
        (same_line j ∙ (local.leaves text a b new s ordered inside).lines_before j on before ∙ painted ∙ ap (λ (l : Looked). Done p (Some l)) (sym (unmoved looked (pos k -ℤ pos j) none)))
    stands_by (inl at) (inr clear) same_number = let o = own in absurd (omega (arith, ints, o.0, o.1, clear, at.0, at.1, ordered))
    stands_by (inr at) (inl clear) same_number = let o = own in absurd (omega (arith, ints, o.0, o.1, clear, at.0, at.1, ordered))
    stands_by (inr at) (inr clear) same_number =
        let there : k + b ≡ j + (a + length new) = at.1 in
        let by : pos (a + length new) -ℤ pos b ≡ pos k -ℤ pos j = omega (arith, ints, there) in
        let behind : AreFrom b (looked_of (painted_line (line_in rules text j) s)) = subst (AreFrom b) (sym looked_are) clear in
        let number : KeepsNumber j k (looked_of (painted_line (line_in rules text j) s)) = subst (KeepsNumber j k) (sym looked_are) same_number in
        same_line k ∙ (local.leaves text a b new s ordered inside).lines_behind j k on there behind number ∙ ap (moved (pos (a + length new) -ℤ pos b)) painted ∙ ap (λ (x : ℤ). moved x (Done p (Some looked))) by

    -- a line that looked at nothing of the change is painted as its old line
    pub stands : old_line change k ≡ Some j → (looked.high <ℤ pos a) ⊎ (pos b ≤ℤ looked.low) → KeepsNumber j k (Some looked) → painted_line (line_in rules (replaced text a b new) k) s ≡ moved (pos k -ℤ pos j) (Done p (Some looked))
    stands was = stands_by (old_cases change k j was)

  -- and has its note
  pub untouched_stands : (k j : ℕ) (note : KeptNote) → j < length text → line_note rules text j note.before ≡ Ok note → old_line change k ≡ Some j → is_untouched change j k note.looked ≡ true → line_note rules (replaced text a b new) k note.before ≡ Ok note
  untouched_stands k j note on noted was untouched =
      let p : PaintedLine = record { spans = note.spans; after = note.after } in
      let looked : Looked = moved_by note.looked (pos j) in
      let both = and_parts (is_clear change (Some looked)) (keeps_number j k (Some looked)) untouched in
      let there = stands k j note.before p looked on (note_painted rules text j note.before note noted) was
      (apart_of change (Some looked) both.0) (number_of j k (Some looked) both.1) in
      let none : (pos j +ℤ (pos k -ℤ pos j)) +ℤ (pos 0 -ℤ pos k) ≡ pos 0 = omega (arith, ints) in
      painted_noted rules (replaced text a b new) k note.before p (moved_by (moved_by note.looked (pos j)) (pos k -ℤ pos j)) there
      ∙ ap (λ (l : Looked). Ok (record { before = note.before; spans = note.spans; after = note.after; looked = l })) (moved_forth note.looked (pos j) (pos k -ℤ pos j) (pos 0 -ℤ pos k) none)

-- by the rules of a syntax
module _ (rules : Rules) (local : IsLocal rules) (t : Text) (notes : List Note) (whole : painting rules t ≡ Whole notes) (a b : ℕ) (new : List (List ℕ)) (ordered : a ≤ b) (inside : b ≤ length t) (k : ℕ) (state : State) where
  abbrev of : Change
  of = record { a = a; b = b; count = length new }

  keeps_looked : (r : IsReusable notes of k state) (looked : Option Looked) → r.note.looked ≡ looked → KeepsItsPainting rules (replaced t a b new) notes of k state
  keeps_looked r None is =
      let w = (whole_paintings rules t notes).0 whole in
      let own = w.each r.line r.note (sym r.noted) in
      let l = looks rules t r.line (state_before notes r.line) in
      let none : Some (l.0) ≡ None = sym l.1 ∙ ap (λ (q : Painted Refusal PaintedLine). looked_of q) own.painted ∙ is in
      absurd cc
  keeps_looked r (Some looked) is =
      let note = r.note in
      let j = r.line in
      let w = (whole_paintings rules t notes).0 whole in
      let own = w.each j note (sym r.noted) in
      let on : j < length t = omega (arith, slice_get_within notes j note r.noted, w.count) in
      let p : PaintedLine = record { spans = note.spans; after = note.after } in
      let from : state_before notes j ≡ state = sym own.begins ∙ r.begins in
      let painted : painted_line (line_in rules t j) state ≡ Done p (Some looked) = ap (painted_line (line_in rules t j)) (sym from) ∙ own.painted ∙ ap (λ (l : Option Looked). Done p l) is in
      let apart = subst (λ (l : Option Looked). AreBefore a l ⊎ AreFrom b l) is r.apart in
      let number = subst (KeepsNumber j k) is r.number in
      record {
        line = j;
        was = r.was;
        note = note;
        noted = r.noted;
        begins = r.begins;
        painted = stands rules local t a b new ordered inside k j state p looked on painted r.was apart number ∙ ap (λ (l : Option Looked). moved (pos k -ℤ pos j) (Done p l)) (sym is);
      }

  pub keeps : is_reusable notes of k state ≡ true → KeepsItsPainting rules (replaced t a b new) notes of k state
  keeps h = let r = conditions notes of k state h in keeps_looked r r.note.looked refl

pub rules_are_local : (items : _) (lists : _) (keywords : _) (sets : _) (budget : ℕ) → IsLocal (rules_of items lists keywords sets budget)
rules_are_local items lists keywords sets budget = record {
  about = paintings_look_about items lists keywords sets budget;
  leaves = changes_leave_other_lines items lists keywords sets budget;
}

pub reusable_lines : ReusableLinesKeepTheirPainting
reusable_lines items lists keywords sets budget t notes a b new k state whole ordered inside h =
    keeps (rules_of items lists keywords sets budget) (rules_are_local items lists keywords sets budget) t notes whole a b new ordered inside k state h
