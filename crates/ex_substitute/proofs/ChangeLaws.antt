-- A substitution within the limits of a text.
use Rattle.std.proofs.Common.{◌≡◌, ◌<◌, ◌≤◌, ◌+◌, ◌-◌, ◌==◌, ℕ, true, false, cond, nat_lt, List, [], ◌∷◌, length, get_or, ap, refl, sym, ◌∙◌, arith}
use Rattle.std.specs.Prelude.{Result, Ok, Err}
use Rattle.std.specs.List.{list_any}
use Rattle.std.proofs.lemmas.Bool.Decides.{nat_tests}
use Rattle.syn_base.specs.declared.places.Place.{Place}
use Rattle.match_rules.specs.Ways.{Text, place}
use Rattle.pattern_match.specs.declared.answer.Match.{Match}
use Rattle.ex_substitute.specs.declared.change.Change.{Change}
use Rattle.ex_substitute.specs.declared.error.ExError.{ExError}
use Rattle.ex_substitute.specs.declared.error.ExError.TheVariants.{TooManyLines, LongLine}
use Rattle.ex_substitute.specs.declared.line_count.Tally.{Tally}
use Rattle.ex_substitute.specs.declared.pen.Pen.{Pen}
use Rattle.ex_substitute.specs.declared.refusal.Refusal.{Refusal}
use Rattle.ex_substitute.specs.declared.refusal.Refusal.TheVariants.{Cause, Memory}
use Rattle.ex_substitute.specs.declared.string.Piece.{Piece}
use Rattle.ex_substitute.specs.Answers.{FailsAs}
use Rattle.ex_substitute.specs.Changes.{is_long, lines_after, within_limits, replaced, last_to, line_behind, end_before, substitution}
use Rattle.ex_substitute.specs.Glyphs.{cut, lines_on}
use Rattle.ex_substitute.specs.LineCount.{IsTallyOf, all_breaks}
use Rattle.ex_substitute.specs.Pens.{page_of, blank_pen, with_all, Overfills}
use Rattle.ex_substitute.proofs.CountLaws.{lines-cut, replaced-breaks}
use Rattle.ex_substitute.proofs.PenLaws.{all-page}

-- ---- the last match

last-to-get : (m : Match) (ms : List Match) (d : Match) → last_to m ms ≡ (get_or (m ∷ ms) (length ms) d).to
last-to-get m [] d = refl
last-to-get m (k ∷ ms) d = last-to-get k ms d

pub last-to-some : (m : Match) (ms : List Match) (d k : Match) → (length ms == 0) ≡ false → k ≡ get_or ms (length ms - 1) d → k.to ≡ last_to m ms
last-to-some m [] d k e is = absurd (cc)
last-to-some m (x ∷ ms) d k e is =
    let less : length (x ∷ ms) - 1 ≡ length ms = omega arith in
    ap (λ (y : Match). y.to) is ∙ ap (λ i. (get_or (x ∷ ms) i d).to) less ∙ sym (last-to-get x ms d)

-- ---- the new lines

pub new-lines : (text : Text) (string : List Piece) (from : Place) (found : List Match) (to : Place) →
    lines_on (page_of (with_all text string from found to blank_pen)) ≡ cut (replaced text string from found to)
new-lines text string from found to = ap (λ page. lines_on page) (all-page text string from found to blank_pen refl)

pub count-after : (text : Text) (string : List Piece) (m : Match) (ms : List Match) (tally : Tally) → IsTallyOf string tally →
    lines_after text (substitution text string m ms)
    ≡ length text - (line_behind text m ms - m.from.line) + 1 + all_breaks tally text (place m.from.line 0) (m ∷ ms) (end_before text (line_behind text m ms))
count-after text string m ms tally is =
    let b = line_behind text m ms in
    let run = replaced text string (place m.from.line 0) (m ∷ ms) (end_before text b) in
    let all = replaced-breaks text string tally is (place m.from.line 0) (m ∷ ms) (end_before text b) in
    ap (λ n. length text - (b - m.from.line) + n) (lines-cut run ∙ ap (λ n. n + 1) all)
    ∙ (let last = all_breaks tally text (place m.from.line 0) (m ∷ ms) (end_before text b) in omega arith)

-- ---- the limits

pub too-many : (text : Text) (change : Change) → nat_lt 2000000 (lines_after text change) ≡ true → within_limits text change ≡ Err TooManyLines
too-many text change e =
    ap (λ b. let r : Result Change ExError = cond b (Err TooManyLines) (cond (list_any is_long change.new) (Err LongLine) (Ok change)) in r) e

pub too-long : (text : Text) (change : Change) → nat_lt 2000000 (lines_after text change) ≡ false → list_any is_long change.new ≡ true → within_limits text change ≡ Err LongLine
too-long text change e long =
    ap (λ b. let r : Result Change ExError = cond b (Err TooManyLines) (cond (list_any is_long change.new) (Err LongLine) (Ok change)) in r) e
    ∙ ap (λ b. let r : Result Change ExError = cond b (Err LongLine) (Ok change) in r) long

-- ---- the count of lines

pub total-is : (text : Text) (string : List Piece) (m : Match) (ms : List Match) (tally : Tally) → IsTallyOf string tally → (b kept : ℕ) (to : Place) →
    b ≡ line_behind text m ms → kept ≡ length text - (b - m.from.line) → to ≡ end_before text b →
    kept + 1 + all_breaks tally text (place m.from.line 0) (m ∷ ms) to ≡ lines_after text (substitution text string m ms)
total-is text string m ms tally is b kept to at rest end =
    let last = line_behind text m ms in
    ap (λ n. n + 1 + all_breaks tally text (place m.from.line 0) (m ∷ ms) to) (rest ∙ ap (λ x. length text - (x - m.from.line)) at)
    ∙ ap (λ (p : Place). length text - (last - m.from.line) + 1 + all_breaks tally text (place m.from.line 0) (m ∷ ms) p) (end ∙ ap (λ x. end_before text x) at)
    ∙ sym (count-after text string m ms tally is)

pub above : (n : ℕ) → 2000000 < n → nat_lt 2000000 n ≡ true
above n h = grind (arith, nat_tests)

pub not-above : (n : ℕ) → n ≤ 2000000 → nat_lt 2000000 n ≡ false
not-above n h = grind (arith, nat_tests)

-- ---- what is made

pub change-is : (text : Text) (string : List Piece) (m : Match) (ms : List Match) (b count : ℕ) (new : List (List ℕ)) (to : Place) (pen : Pen) →
    b ≡ line_behind text m ms → to ≡ end_before text b → pen ≡ with_all text string (place m.from.line 0) (m ∷ ms) to blank_pen →
    new ≡ lines_on (page_of pen) → count ≡ length ms + 1 →
    (let change : Change = record { a = m.from.line; b = b; new = new; count = count } in change) ≡ substitution text string m ms
change-is text string m ms b count new to pen at end drawn put number =
    let from = place m.from.line 0 in
    let ends : to ≡ end_before text (line_behind text m ms) = end ∙ ap (λ x. end_before text x) at in
    let lines : new ≡ cut (replaced text string from (m ∷ ms) (end_before text (line_behind text m ms))) =
    put ∙ ap (λ (p : Pen). lines_on (page_of p)) drawn ∙ new-lines text string from (m ∷ ms) to
    ∙ ap (λ (p : Place). cut (replaced text string from (m ∷ ms) p)) ends in
    let numbered : count ≡ length (m ∷ ms) = omega arith in
    cc

pub overfilled : (e : Refusal) (text : Text) (string : List Piece) (m : Match) (ms : List Match) (to : Place) → to ≡ end_before text (line_behind text m ms) →
    nat_lt 2000000 (lines_after text (substitution text string m ms)) ≡ false →
    Overfills e (with_all text string (place m.from.line 0) (m ∷ ms) to blank_pen) → FailsAs e (within_limits text (substitution text string m ms))
overfilled (Cause e) text string m ms to end few h =
    let from = place m.from.line 0 in
    let long : list_any is_long (substitution text string m ms).new ≡ true =
    sym (ap (λ (p : Place). list_any is_long (cut (replaced text string from (m ∷ ms) p))) end)
    ∙ sym (ap (λ l. list_any is_long l) (new-lines text string from (m ∷ ms) to)) ∙ h.1 in
    too-long text (substitution text string m ms) few long ∙ ap (λ (x : ExError). let r : Result Change ExError = Err x in r) (sym h.0)
overfilled Memory text string m ms to end few h = tt
