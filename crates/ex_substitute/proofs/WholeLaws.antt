-- The whole text with each match replaced is what a substitution leaves.
use Rattle.std.proofs.Common.{◌≡◌, ◌<◌, ◌≤◌, ◌+◌, ◌-◌, ℕ, zero, suc, min, true, false, cond, nat_lt, List, [], ◌∷◌, ◌++◌, map, take, drop, length, ap, sym, ◌∙◌, arith, append_assoc, append-nil, inl, inr}
use Rattle.std.specs.Prelude.{◌⊎◌, None}
use Rattle.std.proofs.lemmas.Bool.Decides.{nat_tests}
use Rattle.std.proofs.lemmas.List.{length-drop, drop_more, drop_all, take_all, get_or_past}
use Rattle.syn_base.specs.declared.places.Place.{Place}
use Rattle.match_rules.specs.Ways.{Text, line_at, place}
use Rattle.pattern_match.specs.declared.answer.Match.{Match}
use Rattle.ex_substitute.specs.declared.string.Piece.{Piece}
use Rattle.ex_substitute.specs.Changes.{replaced, last_to, line_behind, end_before, substitution}
use Rattle.ex_substitute.specs.Fitting.{text_after}
use Rattle.ex_substitute.specs.Glyphs.{Glyph, sign, line_break, line_end, stretch, between, Page, blank, written, lines_on, cut}
use Rattle.ex_substitute.specs.Laws.{all_replaced, NoMatchKeepsText, WholeTextIsReplaced}
use Rattle.ex_substitute.specs.Putting.{put_for}
use Rattle.ex_substitute.proofs.OrderLaws.{in-order, last-within}
use Rattle.ex_substitute.proofs.PenLaws.{written-both, last-line}

abbrev page_with : List (List ℕ) → List ℕ → Page
page_with lines last = record { lines = lines; last = last }

written-signs : (lines : List (List ℕ)) (last chars : List ℕ) → written (page_with lines last) (map sign chars) ≡ page_with lines (last ++ chars)
written-signs lines last [] = ap (λ l. page_with lines l) (sym (append-nil last))
written-signs lines last (c ∷ chars) = written-signs lines (last ++ c ∷ []) chars ∙ ap (λ l. page_with lines l) (append_assoc last (c ∷ []) chars)

-- lines that stand before stay there
lines-behind : (lines more : List (List ℕ)) (last : List ℕ) (run : List Glyph) →
    lines_on (written (page_with (lines ++ more) last) run) ≡ lines ++ lines_on (written (page_with more last) run)
lines-behind lines more last [] = append_assoc lines more (last ∷ [])
lines-behind lines more last (sign c ∷ run) = lines-behind lines more (last ++ c ∷ []) run
lines-behind lines more last (line_break ∷ run) =
    ap (λ l. lines_on (written (page_with l []) run)) (append_assoc lines more (last ∷ [])) ∙ lines-behind lines (more ++ last ∷ []) [] run

-- ---- the end of a line

broken : (text : Text) (line : ℕ) → line + 1 < length text → line_end text line ≡ line_break ∷ []
broken text line h = let e : nat_lt (line + 1) (length text) ≡ true = grind (arith, nat_tests) in ap (λ b. cond b (line_break ∷ []) []) e

unbroken : (text : Text) (line : ℕ) → length text ≤ line + 1 → line_end text line ≡ []
unbroken text line h = let e : nat_lt (line + 1) (length text) ≡ false = grind (arith, nat_tests) in ap (λ b. cond b (line_break ∷ []) []) e

-- the rest of a line, its end, and what follows
line-written : (lines : List (List ℕ)) (last chars : List ℕ) (end run : List Glyph) →
    written (page_with lines last) (map sign chars ++ (end ++ run)) ≡ written (page_with lines (last ++ chars)) (end ++ run)
line-written lines last chars end run =
    written-both (page_with lines last) (map sign chars) (end ++ run) ∙ ap (λ page. written page (end ++ run)) (written-signs lines last chars)

line-broken : (text : Text) (line : ℕ) (lines : List (List ℕ)) (last chars : List ℕ) (run : List Glyph) → line + 1 < length text →
    written (page_with lines last) (map sign chars ++ (line_end text line ++ run)) ≡ written (page_with (lines ++ (last ++ chars) ∷ []) []) run
line-broken text line lines last chars run h =
    line-written lines last chars (line_end text line) run ∙ ap (λ end. written (page_with lines (last ++ chars)) (end ++ run)) (broken text line h)

line-unbroken : (text : Text) (line : ℕ) (lines : List (List ℕ)) (last chars : List ℕ) (run : List Glyph) → length text ≤ line + 1 →
    written (page_with lines last) (map sign chars ++ (line_end text line ++ run)) ≡ written (page_with lines (last ++ chars)) run
line-unbroken text line lines last chars run h =
    line-written lines last chars (line_end text line) run ∙ ap (λ end. written (page_with lines (last ++ chars)) (end ++ run)) (unbroken text line h)

-- ---- whole lines

next-of : (text : Text) (line : ℕ) → line < length text → drop line text ≡ line_at text line ∷ drop (line + 1) text
next-of text line h = drop_more text line [] h

-- lines with a line behind them
lines-written : (text : Text) (lines : List (List ℕ)) (line more : ℕ) → line + more < length text →
    written (page_with lines []) (stretch text line 0 more 0) ≡ page_with (lines ++ take more (drop line text)) []
lines-written text lines line zero h = ap (λ l. page_with l []) (sym (append-nil lines))
lines-written text lines line (suc more) h =
    let here = line_at text line in
    line-broken text line lines [] here (stretch text (line + 1) 0 more 0) (omega arith)
    ∙ lines-written text (lines ++ here ∷ []) (line + 1) more (omega arith)
    ∙ ap (λ l. page_with l []) (append_assoc lines (here ∷ []) (take more (drop (line + 1) text))
    ∙ ap (λ rest. lines ++ take (suc more) rest) (sym (next-of text line (omega arith))))

-- from a column on up to the end of the text
rest-written : (text : Text) (lines : List (List ℕ)) (last : List ℕ) (line col more : ℕ) → line + suc more ≡ length text →
    lines_on (written (page_with lines last) (stretch text line col (suc more) 0)) ≡ lines ++ (last ++ drop col (line_at text line)) ∷ drop (line + 1) text
rest-written text lines last line col zero h =
    ap (λ page. lines_on page) (line-unbroken text line lines last (drop col (line_at text line)) [] (omega arith))
    ∙ ap (λ l. lines ++ (last ++ drop col (line_at text line)) ∷ l) (sym (drop_all (line + 1) text (omega arith)))
rest-written text lines last line col (suc more) h =
    let chars = drop col (line_at text line) in
    ap (λ page. lines_on page) (line-broken text line lines last chars (stretch text (line + 1) 0 (suc more) 0) (omega arith))
    ∙ rest-written text (lines ++ (last ++ chars) ∷ []) [] (line + 1) 0 more (omega arith)
    ∙ append_assoc lines ((last ++ chars) ∷ []) (line_at text (line + 1) ∷ drop (line + 1 + 1) text)
    ∙ ap (λ l. lines ++ (last ++ chars) ∷ l) (sym (next-of text (line + 1) (omega arith)))

-- ---- before the first match

up-to-column : (text : Text) (line more col : ℕ) → stretch text line 0 more col ≡ stretch text line 0 more 0 ++ map sign (take col (line_at text (line + more)))
up-to-column text line zero col =
    let width : col - 0 ≡ col = omega arith in
    let here : line + 0 ≡ line = omega arith in
    ap (λ n. map sign (take n (line_at text line))) width ∙ ap (λ n. map sign (take col (line_at text n))) (sym here)
up-to-column text line (suc more) col =
    let last = map sign (take col (line_at text (line + suc more))) in
    let rest = stretch text (line + 1) 0 more 0 in
    let there : line + 1 + more ≡ line + suc more = omega arith in
    let later : stretch text (line + 1) 0 more col ≡ rest ++ last = up-to-column text (line + 1) more col ∙ ap (λ n. rest ++ map sign (take col (line_at text n))) there in
    ap (λ run. map sign (line_at text line) ++ (line_end text line ++ run)) later
    ∙ ap (λ run. map sign (line_at text line) ++ run) (sym (append_assoc (line_end text line) rest last))
    ∙ sym (append_assoc (map sign (line_at text line)) (line_end text line ++ rest) last)

-- the lines before that of a place stay as they are
head-stays : (text : Text) (p : Place) (run : List Glyph) → p.line < length text →
    cut (between text (place 0 0) p ++ run) ≡ take p.line text ++ cut (between text (place p.line 0) p ++ run)
head-stays text p run h =
    let whole = stretch text 0 0 p.line 0 in
    let last = map sign (take p.col (line_at text p.line)) in
    let count : p.line - 0 ≡ p.line = omega arith in
    let width : p.col - 0 ≡ p.col = omega arith in
    let here : 0 + p.line ≡ p.line = omega arith in
    let all : between text (place 0 0) p ≡ whole ++ last =
    ap (λ n. stretch text 0 0 n p.col) count ∙ up-to-column text 0 p.line p.col ∙ ap (λ n. whole ++ map sign (take p.col (line_at text n))) here in
    let part : between text (place p.line 0) p ≡ last = last-line text (place p.line 0) p (omega arith) ∙ ap (λ n. map sign (take n (line_at text p.line))) width in
    ap (λ r. cut (r ++ run)) all ∙ ap (λ r. cut r) (append_assoc whole last run)
    ∙ ap (λ page. lines_on page) (written-both blank whole (last ++ run))
    ∙ ap (λ page. lines_on (written page (last ++ run))) (lines-written text [] 0 p.line (omega arith) ∙ ap (λ l. page_with l []) (sym (append-nil (take p.line text))))
    ∙ lines-behind (take p.line text) [] [] (last ++ run)
    ∙ ap (λ r. take p.line text ++ cut (r ++ run)) (sym part)

-- ---- behind the last match

none-there : (text : Text) (p to : Place) → length text ≤ p.line → to.line ≤ p.line → between text p to ≡ []
none-there text p to past h =
    last-line text p to h ∙ ap (λ chars. map sign (take (to.col - p.col) (drop p.col chars))) (get_or_past text p.line [] past)
    ∙ ap (λ chars. map sign (take (to.col - p.col) chars)) (drop_all p.col [] (omega arith))
    ∙ ap (λ chars. map sign chars) (take_all (to.col - p.col) [] (omega arith))

rest-of-line : (text : Text) (p : Place) (b : ℕ) → b ≡ p.line + 1 → between text p (end_before text b) ≡ map sign (drop p.col (line_at text p.line))
rest-of-line text p b e =
    let at : b - 1 ≡ p.line = omega arith in
    let here = line_at text p.line in
    let enough : length (drop p.col here) ≤ length here - p.col = omega (arith, length-drop p.col here) in
    ap (λ n. between text p (place n (length (line_at text n)))) at ∙ last-line text p (place p.line (length here)) (omega arith)
    ∙ ap (λ chars. map sign chars) (take_all (length here - p.col) (drop p.col here) enough)

-- up to the end of the text, the lines behind that of a place stay as they are
gap-stays : (text : Text) (page : Page) (p : Place) → p.line ≤ length text →
    lines_on (written page (between text p (place (length text) 0)))
    ≡ lines_on (written page (between text p (end_before text (min (p.line + 1) (length text))))) ++ drop (min (p.line + 1) (length text)) text
gap-stays text page p within = go (present-or p.line (length text))
  where
    present-or : (line n : ℕ) → (line < n) ⊎ (n ≤ line)
    present-or line n = grind arith

    go : (p.line < length text) ⊎ (length text ≤ p.line) →
        lines_on (written page (between text p (place (length text) 0)))
        ≡ lines_on (written page (between text p (end_before text (min (p.line + 1) (length text))))) ++ drop (min (p.line + 1) (length text)) text
    go (inl h) =
        let b = min (p.line + 1) (length text) in
        let at : b ≡ p.line + 1 = omega arith in
        let more : length text - p.line ≡ suc (length text - (p.line + 1)) = omega arith in
        let chars = drop p.col (line_at text p.line) in
        ap (λ n. lines_on (written page (stretch text p.line p.col n 0))) more
        ∙ rest-written text page.lines page.last p.line p.col (length text - (p.line + 1)) (omega arith)
        ∙ sym (append_assoc page.lines ((page.last ++ chars) ∷ []) (drop (p.line + 1) text))
        ∙ ap (λ l. l ++ drop (p.line + 1) text) (sym (ap (λ run. lines_on (written page run)) (rest-of-line text p b at) ∙ ap (λ page. lines_on page) (written-signs page.lines page.last chars)))
        ∙ ap (λ n. lines_on (written page (between text p (end_before text b))) ++ drop n text) (sym at)
    go (inr h) =
        let b = min (p.line + 1) (length text) in
        let all : between text p (place (length text) 0) ≡ [] = none-there text p (place (length text) 0) h h in
        let part : between text p (end_before text b) ≡ [] = none-there text p (end_before text b) h (omega arith) in
        let rest : drop b text ≡ [] = drop_all b text (omega arith) in
        ap (λ run. lines_on (written page run)) (all ∙ sym part)
        ∙ sym (append-nil (lines_on (written page (between text p (end_before text b)))))
        ∙ ap (λ l. lines_on (written page (between text p (end_before text b))) ++ l) (sym rest)

two-written : (page : Page) (gap put rest : List Glyph) → written page (gap ++ (put ++ rest)) ≡ written (written (written page gap) put) rest
two-written page gap put rest = written-both page gap (put ++ rest) ∙ written-both (written page gap) put rest

tail-stays : (text : Text) (string : List Piece) (page : Page) (m : Match) (ms : List Match) → (last_to m ms).line ≤ length text →
    lines_on (written page (replaced text string m.to ms (place (length text) 0)))
    ≡ lines_on (written page (replaced text string m.to ms (end_before text (line_behind text m ms)))) ++ drop (line_behind text m ms) text
tail-stays text string page m [] h = gap-stays text page m.to h
tail-stays text string page m (k ∷ ms) h =
    let gap = between text m.to k.from in
    let put = put_for text string k in
    let b = line_behind text k ms in
    ap (λ page. lines_on page) (two-written page gap put (replaced text string k.to ms (place (length text) 0)))
    ∙ tail-stays text string (written (written page gap) put) k ms h
    ∙ ap (λ page. lines_on page ++ drop b text) (sym (two-written page gap put (replaced text string k.to ms (end_before text b))))

-- ---- the whole text

pub no-match : NoMatchKeepsText
no-match text string h =
    let more : length text - 0 ≡ suc (length text - 1) = omega arith in
    ap (λ n. lines_on (written blank (stretch text 0 0 n 0))) more
    ∙ rest-written text [] [] 0 0 (length text - 1) (omega arith)
    ∙ sym (next-of text 0 h)

part-and-rest : (text : Text) (string : List Piece) (m : Match) (ms : List Match) → m.from.line < length text → (last_to m ms).line ≤ length text →
    text_after text (substitution text string m ms) ≡ all_replaced text string (m ∷ ms)
part-and-rest text string m ms present within =
    let b = line_behind text m ms in
    let put = put_for text string m in
    let gap = between text (place m.from.line 0) m.from in
    let rest = replaced text string m.to ms (place (length text) 0) in
    let part = replaced text string m.to ms (end_before text b) in
    let page = written (written blank gap) put in
    sym (head-stays text m.from (put ++ rest) present
    ∙ ap (λ l. take m.from.line text ++ l) (ap (λ page. lines_on page) (two-written blank gap put rest) ∙ tail-stays text string page m ms within
    ∙ ap (λ page. lines_on page ++ drop b text) (sym (two-written blank gap put part)))
    ∙ sym (append_assoc (take m.from.line text) (cut (gap ++ (put ++ part))) (drop b text)))

pub whole : WholeTextIsReplaced
whole t scope a string m ms within e =
    let order = in-order t scope a (m ∷ ms) within e in
    part-and-rest t.x.text string m ms order.0.present (last-within t.x.text None m ms order)
