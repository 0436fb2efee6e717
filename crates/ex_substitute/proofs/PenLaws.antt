-- One run after the other.
use Rattle.std.proofs.Common.{◌≡◌, ◌<◌, ◌≤◌, ◌+◌, ◌-◌, ℕ, zero, suc, Bool, true, false, ◌&&◌, ◌||◌, not, List, [], ◌∷◌, ◌++◌, map, take, drop, get_or, length, cond, subst, ap, refl, sym, ◌∙◌, arith, append_assoc, append-nil, length-append}
use Rattle.std.specs.Prelude.{Option, Some, None, is_some, nat_lt}
use Rattle.std.specs.List.{list_any}
use Rattle.std.proofs.lemmas.List.Folds.{list_any-append}
use Rattle.std.proofs.lemmas.Bool.Decides.{nat_tests}
use Rattle.std.proofs.lemmas.List.{drop_more}
use Rattle.syn_base.specs.declared.places.Place.{Place}
use Rattle.match_rules.specs.Ways.{Text, Capture, IsPlaceOf, line_at, place}
use Rattle.match_rules.specs.OnText.{IsCaptureOf}
use Rattle.pattern_match.specs.declared.answer.Match.{Match}
use Rattle.ex_substitute.specs.declared.casing.Casing.{Casing}
use Rattle.ex_substitute.specs.declared.pen.Pen.{Pen}
use Rattle.pattern_match.specs.OnText.{IsFoundOn}
use Rattle.ex_substitute.specs.declared.refusal.Refusal.{Refusal}
use Rattle.ex_substitute.specs.declared.refusal.Refusal.TheVariants.{Cause, Memory}
use Rattle.ex_substitute.specs.declared.string.Case.{Case}
use Rattle.ex_substitute.specs.declared.string.Piece.{Piece}
use Rattle.ex_substitute.specs.Casings.{cased, casing_after, changed_by, next_change, used, changes_nothing, no_change, asked_by}
use Rattle.ex_substitute.specs.Changes.{is_long, replaced}
use Rattle.ex_substitute.specs.Glyphs.{Glyph, sign, line_break, line_end, stretch, between, Page, written}
use Rattle.ex_substitute.specs.Pens.{page_of, drawn, with_piece, with_pieces, rest_of, with_match, with_all, is_overfull, Overfills}
use Rattle.ex_substitute.specs.Putting.{group_of, run_of, put_from, put_for}

pub drawn-both : (pen : Pen) (run more : List Glyph) → drawn pen (run ++ more) ≡ drawn (drawn pen run) more
drawn-both pen [] more = refl
drawn-both pen (sign c ∷ run) more = drawn-both (record pen { last = pen.last ++ changed_by (next_change pen.casing) c ∷ []; casing = used pen.casing }) run more
drawn-both pen (line_break ∷ run) more = drawn-both (record pen { lines = pen.lines ++ pen.last ∷ []; last = [] }) run more

-- ---- what the rules say of it

pub drawn-page : (pen : Pen) (run : List Glyph) → page_of (drawn pen run) ≡ written (page_of pen) (cased pen.casing run)
drawn-page pen [] = refl
drawn-page pen (sign c ∷ run) = drawn-page (record pen { last = pen.last ++ changed_by (next_change pen.casing) c ∷ []; casing = used pen.casing }) run
drawn-page pen (line_break ∷ run) = drawn-page (record pen { lines = pen.lines ++ pen.last ∷ []; last = [] }) run

pub drawn-casing : (pen : Pen) (run : List Glyph) → (drawn pen run).casing ≡ casing_after pen.casing run
drawn-casing pen [] = refl
drawn-casing pen (sign c ∷ run) = drawn-casing (record pen { last = pen.last ++ changed_by (next_change pen.casing) c ∷ []; casing = used pen.casing }) run
drawn-casing pen (line_break ∷ run) = drawn-casing (record pen { lines = pen.lines ++ pen.last ∷ []; last = [] }) run

pub written-both : (page : Page) (run more : List Glyph) → written page (run ++ more) ≡ written (written page run) more
written-both page [] more = refl
written-both page (sign c ∷ run) more = written-both (record page { last = page.last ++ c ∷ [] }) run more
written-both page (line_break ∷ run) more = written-both (record { lines = page.lines ++ page.last ∷ []; last = [] }) run more

pub uncased : (run : List Glyph) → cased no_change run ≡ run
uncased [] = refl
uncased (sign c ∷ run) = ap (λ r. sign c ∷ r) (uncased run)
uncased (line_break ∷ run) = ap (λ r. line_break ∷ r) (uncased run)

pub stays-uncased : (run : List Glyph) → casing_after no_change run ≡ no_change
stays-uncased [] = refl
stays-uncased (sign c ∷ run) = stays-uncased run
stays-uncased (line_break ∷ run) = stays-uncased run

pub pieces-page : (text : Text) (m : Match) (string : List Piece) (pen : Pen) →
    page_of (with_pieces text m string pen) ≡ written (page_of pen) (put_from text m pen.casing string)
pieces-page text m [] pen = refl
pieces-page text m (piece ∷ string) pen =
    let run = run_of text m piece in
    let rest : Casing → List Glyph = λ casing. put_from text m (asked_by piece casing) string in
    pieces-page text m string (with_piece text m piece pen)
    ∙ ap (λ page. written page (rest (drawn pen run).casing)) (drawn-page pen run)
    ∙ ap (λ casing. written (written (page_of pen) (cased pen.casing run)) (rest casing)) (drawn-casing pen run)
    ∙ sym (written-both (page_of pen) (cased pen.casing run) (rest (casing_after pen.casing run)))

-- ---- characters

-- without a change they are put as they are
pub plain-signs : (lines : List (List ℕ)) (last chars : List ℕ) →
    drawn (record { lines = lines; last = last; casing = no_change }) (map sign chars) ≡ record { lines = lines; last = last ++ chars; casing = no_change }
plain-signs lines last [] = ap (λ l. let pen : Pen = record { lines = lines; last = l; casing = no_change } in pen) (sym (append-nil last))
plain-signs lines last (c ∷ chars) =
    plain-signs lines (last ++ c ∷ []) chars
    ∙ ap (λ l. let pen : Pen = record { lines = lines; last = l; casing = no_change } in pen) (append_assoc last (c ∷ []) chars)

is-plain : (casing : Casing) → changes_nothing casing ≡ true → casing ≡ no_change
is-plain casing e = go casing.once casing.lasting e
  where
    go : (once lasting : Option Case) → (not (is_some once) && not (is_some lasting)) ≡ true → (let casing : Casing = record { once = once; lasting = lasting } in casing) ≡ no_change
    go None None e = refl
    go None (Some c) e = absurd (cc)
    go (Some c) lasting e = absurd (cc)

pub plain-drawn : (pen : Pen) (chars : List ℕ) → changes_nothing pen.casing ≡ true → drawn pen (map sign chars) ≡ record pen { last = pen.last ++ chars }
plain-drawn pen chars e =
    ap (λ casing. drawn (record pen { casing = casing }) (map sign chars)) (is-plain pen.casing e)
    ∙ plain-signs pen.lines pen.last chars
    ∙ sym (ap (λ casing. let p : Pen = record { lines = pen.lines; last = pen.last ++ chars; casing = casing } in p) (is-plain pen.casing e))

-- ---- a line that is too long

last-length : (pen : Pen) (chars : List ℕ) → length (drawn pen (map sign chars)).last ≡ length pen.last + length chars
last-length pen [] = omega arith
last-length pen (c ∷ chars) =
    last-length (record pen { last = pen.last ++ changed_by (next_change pen.casing) c ∷ []; casing = used pen.casing }) chars
    ∙ omega (arith, length-append pen.last (changed_by (next_change pen.casing) c ∷ []))

any-last : (lines : List (List ℕ)) (last : List ℕ) → is_long last ≡ true → list_any is_long (lines ++ last ∷ []) ≡ true
any-last lines last e = list_any-append is_long lines (last ∷ []) ∙ ap (λ b. list_any is_long lines || (b || false)) e ∙ or-true (list_any is_long lines)
  where
    or-true : (b : Bool) → (b || true) ≡ true
    or-true true = refl
    or-true false = refl

pub overfull-by : (pen : Pen) (chars : List ℕ) → 1000000 < length pen.last + length chars → is_overfull (drawn pen (map sign chars)) ≡ true
overfull-by pen chars h =
    let after = drawn pen (map sign chars) in
    let n : length after.last ≡ length pen.last + length chars = last-length pen chars in
    let long : is_long after.last ≡ true = grind (arith, nat_tests) in
    any-last after.lines after.last long

-- it stays so
any-first : (lines : List (List ℕ)) (more : List (List ℕ)) → list_any is_long lines ≡ true → list_any is_long (lines ++ more) ≡ true
any-first lines more e = list_any-append is_long lines more ∙ ap (λ b. b || list_any is_long more) e

longer : (line : List ℕ) (c : ℕ) → is_long line ≡ true → is_long (line ++ c ∷ []) ≡ true
longer line c e = let n : length (line ++ c ∷ []) ≡ length line + 1 = omega (arith, length-append line (c ∷ [])) in grind (arith, nat_tests)

or-cases : (a b c : Bool) → (a || (b || false)) ≡ true → (b ≡ true → c ≡ true) → (a || (c || false)) ≡ true
or-cases true b c e f = refl
or-cases false true c e f = ap (λ x. x || false) (f refl)
or-cases false false c e f = absurd (cc)

longer-last : (lines : List (List ℕ)) (last : List ℕ) (c : ℕ) → list_any is_long (lines ++ last ∷ []) ≡ true → list_any is_long (lines ++ (last ++ c ∷ []) ∷ []) ≡ true
longer-last lines last c e =
    list_any-append is_long lines ((last ++ c ∷ []) ∷ [])
    ∙ or-cases (list_any is_long lines) (is_long last) (is_long (last ++ c ∷ [])) (sym (list_any-append is_long lines (last ∷ [])) ∙ e) (λ l. longer last c l)

pub overfull-stays : (pen : Pen) (run : List Glyph) → is_overfull pen ≡ true → is_overfull (drawn pen run) ≡ true
overfull-stays pen [] e = e
overfull-stays pen (sign c ∷ run) e =
    overfull-stays (record pen { last = pen.last ++ changed_by (next_change pen.casing) c ∷ []; casing = used pen.casing }) run
    (longer-last pen.lines pen.last (changed_by (next_change pen.casing) c) e)
overfull-stays pen (line_break ∷ run) e =
    overfull-stays (record pen { lines = pen.lines ++ pen.last ∷ []; last = [] }) run
    (any-first (pen.lines ++ pen.last ∷ []) ([] ∷ []) e)

pub pieces-stay : (text : Text) (m : Match) (string : List Piece) (pen : Pen) → is_overfull pen ≡ true → is_overfull (with_pieces text m string pen) ≡ true
pieces-stay text m [] pen e = e
pieces-stay text m (piece ∷ string) pen e = pieces-stay text m string (with_piece text m piece pen) (overfull-stays pen (run_of text m piece) e)

pub all-stay : (text : Text) (string : List Piece) (from : Place) (found : List Match) (to : Place) (pen : Pen) → is_overfull pen ≡ true → is_overfull (with_all text string from found to pen) ≡ true
all-stay text string from [] to pen e = overfull-stays pen (between text from to) e
all-stay text string from (m ∷ found) to pen e =
    all-stay text string m.to found to (with_match text string from m pen)
    (pieces-stay text m string (drawn pen (between text from m.from)) (overfull-stays pen (between text from m.from) e))

-- ---- a step that is refused

-- where a step's page is too long, so is what follows from it
pub refused-by : (e : Refusal) (part whole : Pen) → (is_overfull part ≡ true → is_overfull whole ≡ true) → Overfills e part → Overfills e whole
refused-by (Cause e) part whole on h = (h.0, on h.1)
refused-by Memory part whole on h = tt

-- a first run
pub refused-first-run : (e : Refusal) (pen : Pen) (run more all : List Glyph) → all ≡ run ++ more → Overfills e (drawn pen run) → Overfills e (drawn pen all)
refused-first-run e pen run more all same = refused-by e (drawn pen run) (drawn pen all)
    (λ h. ap (λ r. is_overfull (drawn pen r)) same ∙ ap (λ (p : Pen). is_overfull p) (drawn-both pen run more) ∙ overfull-stays (drawn pen run) more h)

-- a first piece of those that are left
pub refused-by-piece : (e : Refusal) (text : Text) (m : Match) (string : List Piece) (i : ℕ) (d : Piece) (pen whole : Pen) → i < length string →
    with_pieces text m (drop i string) pen ≡ whole → Overfills e (with_piece text m (get_or string i d) pen) → Overfills e whole
refused-by-piece e text m string i d pen whole h same =
    let part = with_piece text m (get_or string i d) pen in
    refused-by e part whole
    (λ o. ap (λ (p : Pen). is_overfull p) (sym same ∙ ap (λ l. with_pieces text m l pen) (drop_more string i d h)) ∙ pieces-stay text m (drop (i + 1) string) part o)

-- a first match of those that are left
pub refused-by-match : (e : Refusal) (text : Text) (string : List Piece) (at : Place) (found : List Match) (i : ℕ) (m : Match) (to : Place) (pen whole : Pen) → i < length found →
    m ≡ get_or found i m → with_all text string at (drop i found) to pen ≡ whole → Overfills e (with_match text string at m pen) → Overfills e whole
refused-by-match e text string at found i m to pen whole h is same =
    let part = with_match text string at m pen in
    let first : drop i found ≡ m ∷ drop (i + 1) found = drop_more found i m h ∙ ap (λ k. k ∷ drop (i + 1) found) (sym is) in
    refused-by e part whole
    (λ o. ap (λ (p : Pen). is_overfull p) (sym same ∙ ap (λ l. with_all text string at l to pen) first) ∙ all-stay text string m.to (drop (i + 1) found) to part o)

-- ---- what the rules say of all

gap-page : (text : Text) (from to : Place) (pen : Pen) → pen.casing ≡ no_change → page_of (drawn pen (between text from to)) ≡ written (page_of pen) (between text from to)
gap-page text from to pen plain =
    drawn-page pen (between text from to)
    ∙ ap (λ casing. written (page_of pen) (cased casing (between text from to))) plain
    ∙ ap (λ run. written (page_of pen) run) (uncased (between text from to))

pub all-page : (text : Text) (string : List Piece) (from : Place) (found : List Match) (to : Place) (pen : Pen) → pen.casing ≡ no_change →
    page_of (with_all text string from found to pen) ≡ written (page_of pen) (replaced text string from found to)
all-page text string from [] to pen plain = gap-page text from to pen plain
all-page text string from (m ∷ found) to pen plain =
    let gap = between text from m.from in
    let before = drawn pen gap in
    let rest = replaced text string m.to found to in
    let page : page_of before ≡ written (page_of pen) gap = gap-page text from m.from pen plain in
    let casing : before.casing ≡ no_change = drawn-casing pen gap ∙ ap (λ c. casing_after c gap) plain ∙ stays-uncased gap in
    let put : page_of (with_pieces text m string before) ≡ written (written (page_of pen) gap) (put_for text string m) =
    pieces-page text m string before ∙ ap (λ p. written p (put_from text m before.casing string)) page
    ∙ ap (λ c. written (written (page_of pen) gap) (put_from text m c string)) casing in
    all-page text string m.to found to (with_match text string from m pen) refl
    ∙ ap (λ p. written p rest) put
    ∙ sym (written-both (written (page_of pen) gap) (put_for text string m) rest)
    ∙ sym (written-both (page_of pen) gap (put_for text string m ++ rest))

-- ---- between two places, line by line

pub next-line : (text : Text) (at to : Place) → at.line < to.line →
    between text at to ≡ rest_of text at ++ between text (place (at.line + 1) 0) to
next-line text at to h =
    let e : to.line - at.line ≡ suc (to.line - (at.line + 1)) = omega arith in
    ap (λ n. stretch text at.line at.col n to.col) e
    ∙ sym (append_assoc (map sign (drop at.col (line_at text at.line))) (line_end text at.line) (stretch text (at.line + 1) 0 (to.line - (at.line + 1)) to.col))

pub last-line : (text : Text) (at to : Place) → to.line ≤ at.line →
    between text at to ≡ map sign (take (to.col - at.col) (drop at.col (line_at text at.line)))
last-line text at to h =
    let e : to.line - at.line ≡ 0 = omega arith in
    ap (λ n. stretch text at.line at.col n to.col) e

-- ---- the places of groups

abbrev IsCapturedOn : Text → Capture → Type 0
IsCapturedOn text None = Unit {0}
IsCapturedOn text (Some p) = IsPlaceOf text p.0 × IsPlaceOf text p.1

captured : (text : Text) (c : Capture) → IsCaptureOf text c → IsCapturedOn text c
captured text None h = tt
captured text (Some p) h = (h.begins, h.ends)

captured-if : (text : Text) (c : Capture) (b : Bool) → IsCaptureOf text c → IsCapturedOn text (cond b c None)
captured-if text c true h = captured text c h
captured-if text c false h = tt

group-captured : (text : Text) (m : Match) (number : ℕ) → IsFoundOn text m → IsCapturedOn text (group_of m number)
group-captured text m zero on = (on.whole.begins, on.whole.ends)
group-captured text m (suc i) on = captured-if text (get_or m.caps i None) (nat_lt i 9) (on.captures i)

pub group-on : (text : Text) (m : Match) (number : ℕ) (places : Place × Place) → IsFoundOn text m → group_of m number ≡ Some places →
    IsPlaceOf text places.0 × IsPlaceOf text places.1
group-on text m number places on e = subst (λ (c : Capture). IsCapturedOn text c) e (group-captured text m number on)
