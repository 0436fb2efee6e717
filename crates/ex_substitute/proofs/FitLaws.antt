-- A change that is made fits its text.
use Rattle.std.proofs.Common.{◌≡◌, ◌<◌, ◌≤◌, ◌+◌, ◌-◌, ℕ, Bool, true, false, cond, nat_lt, List, [], ◌∷◌, ◌++◌, take, drop, length, refl, subst, arith, length-append}
use Rattle.std.specs.Prelude.{None, Result, Ok, Err}
use Rattle.std.specs.List.{list_any}
use Rattle.std.proofs.lemmas.Bool.Decides.{nat_tests}
use Rattle.std.proofs.lemmas.List.{length-take, length-drop}
use Rattle.match_rules.specs.Ways.{Text, place}
use Rattle.pattern_match.specs.declared.answer.Match.{Match}
use Rattle.ex_substitute.specs.declared.change.Change.{Change}
use Rattle.ex_substitute.specs.declared.command.Action.{Action}
use Rattle.ex_substitute.specs.declared.command.Action.TheVariants.{Substitute, Delete}
use Rattle.ex_substitute.specs.declared.error.ExError.{ExError}
use Rattle.ex_substitute.specs.declared.error.ExError.TheVariants.{TooManyLines, LongLine}
use Rattle.ex_substitute.specs.declared.searching.Scope.{Scope}
use Rattle.ex_substitute.specs.declared.string.Piece.{Piece}
use Rattle.ex_substitute.specs.Answers.{◌>>=◌}
use Rattle.ex_substitute.specs.Applying.{trial_of, done_by, applied}
use Rattle.ex_substitute.specs.Commands.{Command}
use Rattle.ex_substitute.specs.Counting.{is_counted}
use Rattle.ex_substitute.specs.Changes.{is_long, lines_after, within_limits, replaced, last_to, line_behind, end_before, substitution, counting, change_by}
use Rattle.ex_substitute.specs.Deleting.{chosen_from, deletion, deleted}
use Rattle.ex_substitute.specs.Fitting.{text_after, FitsText}
use Rattle.ex_substitute.specs.Glyphs.{cut}
use Rattle.ex_substitute.specs.Laws.{AreInOrder}
use Rattle.ex_substitute.specs.LineCount.{breaks}
use Rattle.ex_substitute.specs.Searching.{replacements}
use Rattle.ex_substitute.specs.Trying.{Trial}
use Rattle.ex_substitute.proofs.CountLaws.{lines-cut}
use Rattle.ex_substitute.proofs.OrderLaws.{in-order, last-behind}
use Rattle.ex_substitute.proofs.RisingLaws.{IsRising, chosen-rise, last-in-range, kept-count, some-left}

-- ---- the lines that are left

pub lines-left : (text : Text) (c : Change) → c.a ≤ c.b → c.b ≤ length text → length (text_after text c) ≡ lines_after text c
lines-left text c order within =
    let both = length-append (take c.a text ++ c.new) (drop c.b text) in
    let first = length-append (take c.a text) c.new in
    let before = length-take c.a text in
    let behind = length-drop c.b text in
    omega arith

-- it is within the limits
within-limits-ok : (text : Text) (c change : Change) → within_limits text c ≡ Ok change → (c ≡ change) × (lines_after text c ≤ 2000000)
within-limits-ok text c change e = go (nat_lt 2000000 (lines_after text c)) (list_any is_long c.new) refl e
  where
    go : (many long : Bool) → nat_lt 2000000 (lines_after text c) ≡ many →
        (let r : Result Change ExError = cond many (Err TooManyLines) (cond long (Err LongLine) (Ok c)) in r) ≡ Ok change → (c ≡ change) × (lines_after text c ≤ 2000000)
    go true long few e = absurd (cc)
    go false true few e = absurd (cc)
    go false false few e = (cc, grind (arith, nat_tests))

limited-fits : (text : Text) (c change : Change) → c.a ≤ c.b → c.b ≤ length text → 0 < lines_after text c → within_limits text c ≡ Ok change → FitsText text false change
limited-fits text c change order within some e =
    let limited = within-limits-ok text c change e in
    let count = lines-left text c order within in
    let few : length (text_after text c) ≤ 2000000 = omega (arith, limited.1) in
    subst (λ (it : Change). FitsText text false it) limited.0 (record { order = order; within = within; some = omega arith; few = λ _. few })

-- ---- substitutions

substitution-fits : (text : Text) (string : List Piece) (m : Match) (ms : List Match) (change : Change) → AreInOrder text None (m ∷ ms) →
    within_limits text (substitution text string m ms) ≡ Ok change → FitsText text false change
substitution-fits text string m ms change h e =
    let present : m.from.line < length text = h.0.present in
    let later : m.from.line ≤ (last_to m ms).line = last-behind text None m ms h in
    let run = replaced text string (place m.from.line 0) (m ∷ ms) (end_before text (line_behind text m ms)) in
    let lines : length (cut run) ≡ breaks run + 1 = lines-cut run in
    let some : 0 < length text - (line_behind text m ms - m.from.line) + length (cut run) = omega arith in
    limited-fits text (substitution text string m ms) change (omega arith) (omega arith) some e

counting-fits : (text : Text) (m : Match) (ms : List Match) → m.from.line < length text → FitsText text true (counting m ms)
counting-fits text m ms present =
    let count = lines-left text (counting m ms) (omega arith) (omega arith) in
    record { order = omega arith; within = omega arith; some = omega arith; few = λ h. absurd (cc) }

change-fits : (text : Text) (string : List Piece) (counted : Bool) (found : List Match) (change : Change) → AreInOrder text None found →
    change_by text string counted found ≡ Ok change → FitsText text counted change
change-fits text string counted [] change h e = absurd (cc)
change-fits text string true (m ∷ ms) change h e =
    let same : counting m ms ≡ change = cc in subst (λ (it : Change). FitsText text true it) same (counting-fits text m ms h.0.present)
change-fits text string false (m ∷ ms) change h e = substitution-fits text string m ms change h e

found-fits : (text : Text) (string : List Piece) (counted : Bool) (told : Result (List Match) ExError) (change : Change) →
    ((found : List Match) → told ≡ Ok found → AreInOrder text None found) → (told >>= λ found. change_by text string counted found) ≡ Ok change → FitsText text counted change
found-fits text string counted (Ok found) change h e = change-fits text string counted found change (h found refl) e
found-fits text string counted (Err cause) change h e = absurd (cc)

-- ---- deletions

deletion-fits : (text : Text) (first : ℕ) (rest : List ℕ) (change : Change) → first < length text → IsRising (first + 1) (length text) rest →
    within_limits text (deletion text first rest) ≡ Ok change → FitsText text false change
deletion-fits text first rest change h rising e =
    let kept = kept-count text first rest rising in
    let last = last-in-range first (length text) rest h rising in
    limited-fits text (deletion text first rest) change (omega arith) (omega arith) (some-left text first rest h rising) e

deleted-fits : (text : Text) (line : ℕ) (chosen : List ℕ) (change : Change) → IsRising line (length text) chosen → deleted text chosen ≡ Ok change → FitsText text false change
deleted-fits text line [] change h e = absurd (cc)
deleted-fits text line (first ∷ rest) change h e = deletion-fits text first rest change h.1 h.2 e

chosen-fits : (text : Text) (line : ℕ) (told : Result (List ℕ) ExError) (change : Change) → ((chosen : List ℕ) → told ≡ Ok chosen → IsRising line (length text) chosen) →
    (told >>= λ chosen. deleted text chosen) ≡ Ok change → FitsText text false change
chosen-fits text line (Ok chosen) change h e = deleted-fits text line chosen change (h chosen refl) e
chosen-fits text line (Err cause) change h e = absurd (cc)

-- ---- commands

done-fits : (action : Action) (t : Trial) (a b : ℕ) (change : Change) → a < b → b ≤ length t.x.text → done_by action t a b ≡ Ok change → FitsText t.x.text (is_counted action) change
done-fits (Substitute string all counted) t a b change order within e =
    let scope : Scope = record { all = all; b = b } in
    found-fits t.x.text string counted (replacements t scope a) change (λ found is. in-order t scope a found within is) e
done-fits (Delete others) t a b change order within e =
    chosen-fits t.x.text a (chosen_from t others a (b - a)) change (λ chosen is. chosen-rise t others a (b - a) (length t.x.text) chosen (omega arith) is) e

pub applied-fits : (command : Command) (text : Text) (a b budget : ℕ) (change : Change) → a < b → b ≤ length text →
    applied command text a b budget ≡ Ok change → FitsText text (is_counted command.action) change
applied-fits command text a b budget change order within e = done-fits command.action (trial_of command text budget) a b change order within e
