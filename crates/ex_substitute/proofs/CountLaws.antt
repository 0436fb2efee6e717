-- How many breaks a run has.
use Rattle.std.proofs.Common.{◌≡◌, ◌<◌, ◌≤◌, ◌+◌, ◌-◌, ◌*◌, ℕ, zero, suc, min, Bool, true, false, cond, nat_lt, nat_eq, List, [], ◌∷◌, ◌++◌, map, take, drop, get_or, length, ap, refl, sym, ◌∙◌, arith, inl, inr}
use Rattle.std.specs.Prelude.{Some, None, ◌⊎◌, slice_get}
use Rattle.std.proofs.lemmas.Bool.Decides.{nat_tests}
use Rattle.std.proofs.lemmas.List.{length-append, drop_more, drop_all}
use Rattle.std.proofs.lemmas.Option.{get_or_from_slice_get}
use Rattle.match_rules.specs.Ways.{Text, line_at}
use Rattle.syn_base.specs.declared.places.Place.{Place}
use Rattle.pattern_match.specs.declared.answer.Match.{Match}
use Rattle.ex_substitute.specs.declared.casing.Casing.{Casing}
use Rattle.ex_substitute.specs.declared.line_count.Tally.{Tally}
use Rattle.ex_substitute.specs.declared.string.Piece.{Piece}
use Rattle.ex_substitute.specs.declared.string.Piece.TheVariants.{Char, Break, Group, Once, Lasting, Plain}
use Rattle.ex_substitute.specs.Casings.{cased, casing_after, used, asked_by, no_change}
use Rattle.ex_substitute.specs.Changes.{replaced}
use Rattle.ex_substitute.specs.Glyphs.{Glyph, sign, line_break, line_end, stretch, between, Page, written, blank, cut}
use Rattle.ex_substitute.specs.LineCount.{breaks, is_break, is_group, break_times, group_times, times_from, IsTallyOf, group_breaks, weigh, breaks_by, all_breaks}
use Rattle.ex_substitute.specs.Putting.{text_of, run_of, put_from, put_for}

pub breaks-both : (run more : List Glyph) → breaks (run ++ more) ≡ breaks run + breaks more
breaks-both [] more = omega arith
breaks-both (sign c ∷ run) more = breaks-both run more
breaks-both (line_break ∷ run) more = omega (arith, breaks-both run more)

pub no-breaks : (chars : List ℕ) → breaks (map sign chars) ≡ 0
no-breaks [] = refl
no-breaks (c ∷ chars) = no-breaks chars

breaks-cased : (casing : Casing) (run : List Glyph) → breaks (cased casing run) ≡ breaks run
breaks-cased casing [] = refl
breaks-cased casing (sign c ∷ run) = breaks-cased (used casing) run
breaks-cased casing (line_break ∷ run) = ap (λ n. 1 + n) (breaks-cased casing run)

-- ---- lines that are cut

lines-written : (page : Page) (run : List Glyph) → length (written page run).lines ≡ length page.lines + breaks run
lines-written page [] = omega arith
lines-written page (sign c ∷ run) = lines-written (record page { last = page.last ++ c ∷ [] }) run
lines-written page (line_break ∷ run) =
    lines-written (record { lines = page.lines ++ page.last ∷ []; last = [] }) run ∙ omega (arith, length-append page.lines (page.last ∷ []))

pub lines-cut : (run : List Glyph) → length (cut run) ≡ breaks run + 1
lines-cut run = length-append (written blank run).lines ((written blank run).last ∷ []) ∙ omega (arith, lines-written blank run)

-- ---- between two places

end-breaks : (text : Text) (line : ℕ) → breaks (line_end text line) ≡ cond (nat_lt (line + 1) (length text)) 1 0
end-breaks text line = go (nat_lt (line + 1) (length text))
  where
    go : (b : Bool) → breaks (cond b (line_break ∷ []) []) ≡ cond b 1 0
    go true = refl
    go false = refl

least : (n line more : ℕ) → cond (nat_lt (line + 1) n) 1 0 + (min (line + 1 + more) (n - 1) - (line + 1)) ≡ min (line + suc more) (n - 1) - line
least n line more = grind (arith, nat_tests)

stretch-breaks : (text : Text) (line col more to : ℕ) → breaks (stretch text line col more to) ≡ min (line + more) (length text - 1) - line
stretch-breaks text line col zero to = no-breaks (take (to - col) (drop col (line_at text line))) ∙ omega arith
stretch-breaks text line col (suc more) to =
    let chars = map sign (drop col (line_at text line)) in
    let rest = stretch text (line + 1) 0 more to in
    breaks-both chars (line_end text line ++ rest) ∙ ap (λ n. n + breaks (line_end text line ++ rest)) (no-breaks (drop col (line_at text line)))
    ∙ omega (arith, breaks-both (line_end text line) rest) ∙ ap (λ n. n + breaks rest) (end-breaks text line)
    ∙ ap (λ n. cond (nat_lt (line + 1) (length text)) 1 0 + n) (stretch-breaks text (line + 1) 0 more to) ∙ least (length text) line more

pub between-breaks : (text : Text) (from to : Place) → min to.line (length text - 1) - from.line ≡ breaks (between text from to)
between-breaks text from to =
    let all : breaks (between text from to) ≡ min (from.line + (to.line - from.line)) (length text - 1) - from.line = stretch-breaks text from.line from.col (to.line - from.line) to.col in
    omega arith

-- ---- a string by how often it has each group

other-times : (string : List Piece) (piece : Piece) (k more : ℕ) → ((n : ℕ) → is_group n piece ≡ false) → times_from (piece ∷ string) k more ≡ times_from string k more
other-times string piece k zero none = refl
other-times string piece k (suc more) none =
    ap (λ b. (cond b 1 0 + group_times k string) ∷ times_from (piece ∷ string) (k + 1) more) (none k)
    ∙ ap (λ l. (0 + group_times k string) ∷ l) (other-times string piece (k + 1) more none)
    ∙ ap (λ n. n ∷ times_from string (k + 1) more) (let e : 0 + group_times k string ≡ group_times k string = omega arith in e)

one-time : (b : Bool) (n w : ℕ) → b ≡ true → (cond b 1 0 + n) * w ≡ n * w + w
one-time true n w e = omega arith
one-time false n w e = absurd (cc)

no-time : (b : Bool) (n w : ℕ) → b ≡ false → (cond b 1 0 + n) * w ≡ n * w
no-time true n w e = absurd (cc)
no-time false n w e = omega arith

outside : (string : List Piece) (j : ℕ) (w : ℕ → ℕ) (k more : ℕ) → (j < k) ⊎ (k + more ≤ j) → weigh (times_from (Group j ∷ string) k more) w k ≡ weigh (times_from string k more) w k
outside string j w k zero h = refl
outside string j w k (suc more) h =
    let out : (j < k + 1) ⊎ (k + 1 + more ≤ j) = grind arith in
    let differs : nat_eq j k ≡ false = grind (arith, nat_tests) in
    let first : (cond (nat_eq j k) 1 0 + group_times k string) * w k ≡ group_times k string * w k = no-time (nat_eq j k) (group_times k string) (w k) differs in
    ap (λ n. n + weigh (times_from (Group j ∷ string) (k + 1) more) w (k + 1)) first
    ∙ ap (λ n. group_times k string * w k + n) (outside string j w (k + 1) more out)

within-step : (string : List Piece) (j : ℕ) (w : ℕ → ℕ) (k more : ℕ) (b : Bool) → nat_eq j k ≡ b → k ≤ j → j < k + suc more →
    (k + 1 ≤ j → weigh (times_from (Group j ∷ string) (k + 1) more) w (k + 1) ≡ weigh (times_from string (k + 1) more) w (k + 1) + w j) →
    weigh (times_from (Group j ∷ string) k (suc more)) w k ≡ weigh (times_from string k (suc more)) w k + w j
within-step string j w k more true e h l later =
    let same : j ≡ k = grind (arith, nat_tests) in
    let first : (cond (nat_eq j k) 1 0 + group_times k string) * w k ≡ group_times k string * w k + w k = one-time (nat_eq j k) (group_times k string) (w k) e in
    let rest : weigh (times_from (Group j ∷ string) (k + 1) more) w (k + 1) ≡ weigh (times_from string (k + 1) more) w (k + 1) = outside string j w (k + 1) more (inl (omega arith)) in
    let weight : w k ≡ w j = ap w (sym same) in
    omega arith
within-step string j w k more false e h l later =
    let past : k + 1 ≤ j = grind (arith, nat_tests) in
    let first : (cond (nat_eq j k) 1 0 + group_times k string) * w k ≡ group_times k string * w k = no-time (nat_eq j k) (group_times k string) (w k) e in
    let rest : weigh (times_from (Group j ∷ string) (k + 1) more) w (k + 1) ≡ weigh (times_from string (k + 1) more) w (k + 1) + w j = later past in
    omega arith

within : (string : List Piece) (j : ℕ) (w : ℕ → ℕ) (k more : ℕ) → k ≤ j → j < k + more → weigh (times_from (Group j ∷ string) k more) w k ≡ weigh (times_from string k more) w k + w j
within string j w k zero h l = absurd (omega arith)
within string j w k (suc more) h l = within-step string j w k more (nat_eq j k) refl h l (λ past. within string j w (k + 1) more past (omega arith))

none-weighs : (w : ℕ → ℕ) (k more : ℕ) → weigh (times_from [] k more) w k ≡ 0
none-weighs w k zero = refl
none-weighs w k (suc more) = omega (arith, none-weighs w (k + 1) more)

-- how many breaks the pieces put
abbrev put_breaks : Text → Match → List Piece → ℕ
put_breaks text m [] = 0
put_breaks text m (piece ∷ string) = breaks (run_of text m piece) + put_breaks text m string

put-from-breaks : (text : Text) (m : Match) (casing : Casing) (string : List Piece) → breaks (put_from text m casing string) ≡ put_breaks text m string
put-from-breaks text m casing [] = refl
put-from-breaks text m casing (piece ∷ string) =
    let run = run_of text m piece in
    let rest = put_from text m (asked_by piece (casing_after casing run)) string in
    breaks-both (cased casing run) rest ∙ ap (λ n. n + breaks rest) (breaks-cased casing run)
    ∙ ap (λ n. breaks run + n) (put-from-breaks text m (asked_by piece (casing_after casing run)) string)

abbrev weight_of : Text → Match → List Piece → ℕ
weight_of text m string = break_times string + weigh (times_from string 0 10) (group_breaks text m) 0

no-group : (text : Text) (m : Match) (j : ℕ) → 10 ≤ j → group_breaks text m j ≡ 0
no-group text m zero h = absurd (omega arith)
no-group text m (suc i) h = let past : nat_lt i 9 ≡ false = grind (arith, nat_tests) in ap (λ b. breaks (text_of text (cond b (get_or m.caps i None) None))) past

quiet-piece : (text : Text) (m : Match) (string : List Piece) (piece : Piece) (n : ℕ) → ((k : ℕ) → is_group k piece ≡ false) → cond (is_break piece) 1 0 ≡ n →
    put_breaks text m string ≡ weight_of text m string → n + put_breaks text m string ≡ weight_of text m (piece ∷ string)
quiet-piece text m string piece n none same rest =
    let times : weigh (times_from (piece ∷ string) 0 10) (group_breaks text m) 0 ≡ weigh (times_from string 0 10) (group_breaks text m) 0 =
    ap (λ l. weigh l (group_breaks text m) 0) (other-times string piece 0 10 none) in
    omega arith

group-piece : (text : Text) (m : Match) (string : List Piece) (j : ℕ) → put_breaks text m string ≡ weight_of text m string →
    group_breaks text m j + put_breaks text m string ≡ weight_of text m (Group j ∷ string)
group-piece text m string j rest = go (nat_lt j 10) refl
  where
    go : (b : Bool) → nat_lt j 10 ≡ b → group_breaks text m j + put_breaks text m string ≡ weight_of text m (Group j ∷ string)
    go true e =
        let few : j < 0 + 10 = grind (arith, nat_tests) in
        let times : weigh (times_from (Group j ∷ string) 0 10) (group_breaks text m) 0 ≡ weigh (times_from string 0 10) (group_breaks text m) 0 + group_breaks text m j =
        within string j (group_breaks text m) 0 10 (omega arith) few in
        omega arith
    go false e =
        let many : 0 + 10 ≤ j = grind (arith, nat_tests) in
        let times : weigh (times_from (Group j ∷ string) 0 10) (group_breaks text m) 0 ≡ weigh (times_from string 0 10) (group_breaks text m) 0 =
        outside string j (group_breaks text m) 0 10 (inr many) in
        let none : group_breaks text m j ≡ 0 = no-group text m j (omega arith) in
        omega arith

pieces-weigh : (text : Text) (m : Match) (string : List Piece) → put_breaks text m string ≡ weight_of text m string
pieces-weigh text m [] = let none : weigh (times_from [] 0 10) (group_breaks text m) 0 ≡ 0 = none-weighs (group_breaks text m) 0 10 in omega arith
pieces-weigh text m (Char c ∷ string) = quiet-piece text m string (Char c) 0 (λ k. refl) refl (pieces-weigh text m string)
pieces-weigh text m (Break ∷ string) = quiet-piece text m string Break 1 (λ k. refl) refl (pieces-weigh text m string)
pieces-weigh text m (Group j ∷ string) = group-piece text m string j (pieces-weigh text m string)
pieces-weigh text m (Once case ∷ string) = quiet-piece text m string (Once case) 0 (λ k. refl) refl (pieces-weigh text m string)
pieces-weigh text m (Lasting case ∷ string) = quiet-piece text m string (Lasting case) 0 (λ k. refl) refl (pieces-weigh text m string)
pieces-weigh text m (Plain ∷ string) = quiet-piece text m string Plain 0 (λ k. refl) refl (pieces-weigh text m string)

pub string-breaks : (text : Text) (m : Match) (string : List Piece) (tally : Tally) → IsTallyOf string tally → breaks (put_for text string m) ≡ breaks_by tally text m
string-breaks text m string tally is =
    put-from-breaks text m no_change string ∙ pieces-weigh text m string
    ∙ ap (λ n. n + weigh (times_from string 0 10) (group_breaks text m) 0) (sym is.breaks)
    ∙ ap (λ l. tally.breaks + weigh l (group_breaks text m) 0) (sym is.groups)

-- ---- all that is replaced

pub replaced-breaks : (text : Text) (string : List Piece) (tally : Tally) → IsTallyOf string tally → (from : Place) (found : List Match) (to : Place) →
    breaks (replaced text string from found to) ≡ all_breaks tally text from found to
replaced-breaks text string tally is from [] to = refl
replaced-breaks text string tally is from (m ∷ found) to =
    let gap = between text from m.from in
    let rest = replaced text string m.to found to in
    let first : breaks (gap ++ (put_for text string m ++ rest)) ≡ breaks gap + breaks (put_for text string m ++ rest) = breaks-both gap (put_for text string m ++ rest) in
    let second : breaks (put_for text string m ++ rest) ≡ breaks (put_for text string m) + breaks rest = breaks-both (put_for text string m) rest in
    let put : breaks (put_for text string m) ≡ breaks_by tally text m = string-breaks text m string tally is in
    let all : breaks rest ≡ all_breaks tally text m.to found to = replaced-breaks text string tally is m.to found to in
    omega arith

-- ---- one group after the other

pub weigh-step : (groups : List ℕ) (w : ℕ → ℕ) (i times : ℕ) → i < length groups → Some times ≡ slice_get groups i →
    weigh (drop i groups) w i ≡ times * w i + weigh (drop (i + 1) groups) w (i + 1)
weigh-step groups w i times h there =
    ap (λ l. weigh l w i) (drop_more groups i times h)
    ∙ ap (λ n. n * w i + weigh (drop (i + 1) groups) w (i + 1)) (get_or_from_slice_get groups i times times (sym there))

pub weigh-end : (groups : List ℕ) (w : ℕ → ℕ) (i : ℕ) → length groups ≤ i → weigh (drop i groups) w i ≡ 0
weigh-end groups w i h = ap (λ l. weigh l w i) (drop_all i groups h)
