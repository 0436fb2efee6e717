-- Folds of which some go on: what a fold that begins or ends, and a line more, make of them.
use Rattle.std.proofs.Common.{◌≡◌, ℕ, zero, suc, ◌+◌, ◌-◌, ◌<◌, ◌≤◌, List, [], ◌∷◌, ◌++◌, length, get_or, set, min, refl, ap, sym, inl, inr, ◌∙◌, arith, map, drop, subst, append_assoc, drop-cons}
use Rattle.std.specs.List.{All, range_with_len}
use Rattle.std.proofs.lemmas.Bool.{cases_lt, cond-true, cond-false, le-leb, lt-leb}
use Rattle.std.proofs.lemmas.List.{append-nil, drop_all}
use Rattle.std.proofs.lemmas.List.FromFn.{map-range_with_len_more}
use Rattle.std.proofs.lemmas.List.Elements.{All-head, All-tail}
use Rattle.syn_folds.specs.declared.stretches.Fold.{Fold}
use Rattle.syn_folds.specs.Begun.{HaveBegun, HaveEnded, ended, with_last}
use Rattle.syn_folds.specs.Folds.{begun_at, fold_at, folds_from, stretch}

-- a line that reaches a level goes on in its stretch; no other does
pub stretch_on : (level l : ℕ) (ls : List ℕ) → level ≤ l → stretch level (l ∷ ls) ≡ 1 + stretch level ls
stretch_on level l ls reaches = cond-true _ _ _ (le-leb level l reaches)

pub stretch_off : (level l : ℕ) (ls : List ℕ) → l < level → stretch level (l ∷ ls) ≡ 0
stretch_off level l ls below = cond-false _ _ _ (lt-leb level l below)

length-with_last : (folds : List Fold) (place last : ℕ) → length (with_last folds place last) ≡ length folds
length-with_last [] place last = refl
length-with_last (f ∷ folds) zero last = refl
length-with_last (f ∷ folds) (suc place) last = ap suc (length-with_last folds place last)

with_last-append : (folds more : List Fold) (place last : ℕ) → place < length folds → with_last (folds ++ more) place last ≡ with_last folds place last ++ more
with_last-append [] more place last lt = absurd (omega arith)
with_last-append (f ∷ folds) more zero last lt = refl
with_last-append (f ∷ folds) more (suc place) last lt =
    ap (λ fs. f ∷ fs) (with_last-append folds more place last (omega arith))

with_last-end : (folds : List Fold) (f : Fold) (last : ℕ) → with_last (folds ++ f ∷ []) (length folds) last ≡ folds ++ record f { last = last } ∷ []
with_last-end [] f last = refl
with_last-end (g ∷ folds) f last = ap (λ fs. g ∷ fs) (with_last-end folds f last)

with_last-set : (folds : List Fold) (place last : ℕ) (d : Fold) → place < length folds → set folds place (record (get_or folds place d) { last = last }) ≡ with_last folds place last
with_last-set [] place last d lt = absurd (omega arith)
with_last-set (f ∷ folds) zero last d lt = refl
with_last-set (f ∷ folds) (suc place) last d lt =
    ap (λ fs. f ∷ fs) (with_last-set folds place last d (omega arith))

pub last_set : (folds : List Fold) (place last : ℕ) (f : Fold) → place < length folds → f ≡ get_or folds place f → set folds place (record f { last = last }) ≡ with_last folds place last
last_set folds place last f lt is =
    ap (λ (g : Fold). set folds place (record g { last = last })) is ∙ with_last-set folds place last f lt

length-ended : (line : ℕ) (levels : List ℕ) (level : ℕ) (places : List ℕ) (folds : List Fold) → length (ended line levels level places folds) ≡ length folds
length-ended line levels level [] folds = refl
length-ended line levels level (place ∷ places) folds =
    length-with_last (ended line levels (suc level) places folds) place _ ∙ length-ended line levels (suc level) places folds

ended-append : (line : ℕ) (levels : List ℕ) (level : ℕ) (places : List ℕ) (folds more : List Fold) → All (λ place. place < length folds) places → ended line levels level places (folds ++ more) ≡ ended line levels level places folds ++ more
ended-append line levels level [] folds more stand = refl
ended-append line levels level (place ∷ places) folds more stand =
    let last : ℕ = line + stretch level levels - 1 in
    let long : length (ended line levels (suc level) places folds) ≡ length folds =
    length-ended line levels (suc level) places folds in
    let here : place < length folds = All-head (λ p. p < length folds) place places stand in
    ap (λ fs. with_last fs place last)
    (ended-append line levels (suc level) places folds more (All-tail (λ p. p < length folds) place places stand))
    ∙ with_last-append (ended line levels (suc level) places folds) more place last (omega arith)

-- one more that goes on, of the level behind those of the others
ended-push : (line : ℕ) (levels : List ℕ) (level : ℕ) (places : List ℕ) (place : ℕ) (folds : List Fold) (n : ℕ) → level + length places ≡ n → ended line levels level (places ++ place ∷ []) folds ≡ ended line levels level places (with_last folds place (line + stretch n levels - 1))
ended-push line levels level [] place folds n e =
    let same : level ≡ n = omega arith in ap (λ k. with_last folds place (line + stretch k levels - 1)) same
ended-push line levels level (p ∷ places) place folds n e =
    ap (λ fs. with_last fs p (line + stretch level levels - 1))
    (ended-push line levels (suc level) places place folds n (omega arith))

-- the fold that began last has ended before this line
pub one_ended : (line : ℕ) (places : List ℕ) (place : ℕ) (folds : List Fold) (last n : ℕ) → line ≡ last + 1 → length places + 1 ≡ n → HaveEnded line n (places ++ place ∷ []) folds places (with_last folds place last)
one_ended line places place folds last n e long levels off =
    let same : last ≡ line + stretch n levels - 1 = omega arith in
    ap (λ k. ended line levels 1 places (with_last folds place k)) same
    ∙ sym (ended-push line levels 1 places place folds n (omega arith))

-- a level that isn't reached is one of those above it
stretch_above : (low high : ℕ) (levels : List ℕ) → low ≤ high → stretch low levels ≡ 0 → stretch high levels ≡ 0
stretch_above low high [] le off = refl
stretch_above low high (l ∷ ls) le off =
    elim (cases_lt l low) [
      | inl lt ↦ stretch_off high l ls (omega arith)
      | inr reaches ↦ absurd (omega (arith, stretch_on low l ls reaches))
    ]

pub more_ended : (line low high : ℕ) (places left fewer : List ℕ) (folds kept less : List Fold) → low ≤ high → HaveEnded line low places folds left kept → HaveEnded line high left kept fewer less → HaveEnded line low places folds fewer less
more_ended line low high places left fewer folds kept less le first then levels off =
    then levels (stretch_above low high levels le off) ∙ first levels off

-- nothing begins at a line that is no higher than the line before
begun_none : (line before level : ℕ) (levels : List ℕ) → level ≤ before → begun_at line before level levels ≡ []
begun_none line before level levels none =
    let no : level - before ≡ 0 = omega arith in
    ap (λ n. map (fold_at line levels) (range_with_len (before + 1) n)) no

-- a fold begins at this line
pub one_begun : (line : ℕ) (places : List ℕ) (folds : List Fold) (last n : ℕ) → All (λ place. place < length folds) places → length places + 1 ≡ n → HaveBegun line (length places) n places folds (places ++ length folds ∷ []) (folds ++ record { first = line; last = last; level = n } ∷ [])
one_begun line places folds last n stand long levels =
    let f : Fold = record { first = line; last = last; level = n } in
    let one : n - length places ≡ 1 = omega arith in
    ended-push line levels 1 places (length folds) (folds ++ f ∷ []) n (omega arith)
    ∙ ap (ended line levels 1 places) (with_last-end folds f (line + stretch n levels - 1))
    ∙ ended-append line levels 1 places folds (fold_at line levels n ∷ []) stand
    ∙ ap (λ v. ended line levels 1 places folds ++ fold_at line levels v ∷ []) (sym long)
    ∙ ap (λ k. ended line levels 1 places folds ++ map (fold_at line levels) (range_with_len (length places + 1) k)) (sym one)

pub more_begun : (line before level next : ℕ) (places now later : List ℕ) (folds more most : List Fold) → before ≤ level → next ≡ level + 1 → HaveBegun line before level places folds now more → HaveBegun line level (level + 1) now more later most → HaveBegun line before next places folds later most
more_begun line before level next places now later folds more most le e first then levels =
    let one : level + 1 - level ≡ 1 = omega arith in
    let count : level - before + 1 ≡ next - before = omega arith in
    let f : ℕ → Fold = fold_at line levels in
    then levels
    ∙ ap (λ fs. fs ++ begun_at line level (level + 1) levels) (first levels)
    ∙ ap (λ k. (ended line levels 1 places folds ++ begun_at line before level levels) ++ map f (range_with_len (level + 1) k)) one
    ∙ append_assoc (ended line levels 1 places folds) (begun_at line before level levels) (f (level + 1) ∷ [])
    ∙ ap (λ fs. ended line levels 1 places folds ++ fs)
    (sym (map-range_with_len_more f (before + 1) (level - before) (level + 1) (omega arith))
    ∙ ap (λ k. map f (range_with_len (before + 1) k)) count)

-- all that go on do so behind a line that reaches their levels
ended-next : (line l : ℕ) (ls : List ℕ) (level : ℕ) (places : List ℕ) (folds : List Fold) → level + length places ≤ suc l → ended line (l ∷ ls) level places folds ≡ ended (suc line) ls level places folds
ended-next line l ls level [] folds within = refl
ended-next line l ls level (place ∷ places) folds within =
    let on : stretch level (l ∷ ls) ≡ 1 + stretch level ls = stretch_on level l ls (omega arith) in
    let same : line + stretch level (l ∷ ls) - 1 ≡ suc line + stretch level ls - 1 = omega arith in
    ap (λ fs. with_last fs place (line + stretch level (l ∷ ls) - 1))
    (ended-next line l ls (suc level) places folds (omega arith))
    ∙ ap (with_last (ended (suc line) ls (suc level) places folds) place) same

-- what begins at a line goes by the levels that it has in common with the line before
begun_common : (line before level common : ℕ) (levels : List ℕ) → common ≡ min before level → begun_at line common level levels ≡ begun_at line before level levels
begun_common line before level common levels e =
    elim (cases_lt before level) [
      | inl lt ↦ let same : common ≡ before = omega arith in ap (λ b. begun_at line b level levels) same
      | inr le ↦
          let high : level ≤ common = omega arith in
          begun_none line common level levels high ∙ sym (begun_none line before level levels le)
    ]

-- a line more: some folds end before it, and some begin at it
pub line_more : (line l : ℕ) (ls : List ℕ) (places left now : List ℕ) (folds kept more all : List Fold) → ended line (l ∷ ls) 1 places folds ++ folds_from line (length places) (l ∷ ls) ≡ all → HaveEnded line (l + 1) places folds left kept → length left ≡ min (length places) l → HaveBegun line (length left) l left kept now more → length now ≡ l → ended (suc line) ls 1 now more ++ folds_from (suc line) (length now) ls ≡ all
line_more line l ls places left now folds kept more all before off some on full =
    let next : ended line (l ∷ ls) 1 now more ≡ ended (suc line) ls 1 now more =
    ended-next line l ls 1 now more (omega arith) in
    let ends : ended line (l ∷ ls) 1 left kept ≡ ended line (l ∷ ls) 1 places folds =
    off (l ∷ ls) (stretch_off (l + 1) l ls (omega arith)) in
    let begins : ended line (l ∷ ls) 1 now more ≡ ended line (l ∷ ls) 1 left kept ++ begun_at line (length left) l (l ∷ ls) =
    on (l ∷ ls) in
    let common : begun_at line (length left) l (l ∷ ls) ≡ begun_at line (length places) l (l ∷ ls) =
    begun_common line (length places) l (length left) (l ∷ ls) some in
    let goes_on : folds_from (suc line) (length now) ls ≡ folds_from (suc line) l ls =
    ap (λ n. folds_from (suc line) n ls) full in
    ap (λ fs. fs ++ folds_from (suc line) (length now) ls) (sym next ∙ begins)
    ∙ ap (λ fs. (fs ++ begun_at line (length left) l (l ∷ ls)) ++ folds_from (suc line) (length now) ls) ends
    ∙ ap (λ fs. (ended line (l ∷ ls) 1 places folds ++ fs) ++ folds_from (suc line) (length now) ls) common
    ∙ ap (λ fs. (ended line (l ∷ ls) 1 places folds ++ begun_at line (length places) l (l ∷ ls)) ++ fs) goes_on
    ∙ append_assoc (ended line (l ∷ ls) 1 places folds) (begun_at line (length places) l (l ∷ ls)) (folds_from (suc line) l ls)
    ∙ before

-- the same, where the levels are those of a list from a line on
pub next_line : (levels : List ℕ) (line next : ℕ) (places left now : List ℕ) (folds kept more all : List Fold) → line < length levels → next ≡ line + 1 → ended line (drop line levels) 1 places folds ++ folds_from line (length places) (drop line levels) ≡ all → HaveEnded line (get_or levels line 0 + 1) places folds left kept → length left ≡ min (length places) (get_or levels line 0) → HaveBegun line (length left) (get_or levels line 0) left kept now more → length now ≡ get_or levels line 0 → ended next (drop next levels) 1 now more ++ folds_from next (length now) (drop next levels) ≡ all
next_line levels line next places left now folds kept more all within e before off some on full =
    let l : ℕ = get_or levels line 0 in
    let at : next ≡ suc line = omega arith in
    let cut : drop line levels ≡ l ∷ drop (suc line) levels = drop-cons levels line 0 within in
    let before_too : ended line (l ∷ drop (suc line) levels) 1 places folds ++ folds_from line (length places) (l ∷ drop (suc line) levels) ≡ all =
    subst (λ ls. ended line ls 1 places folds ++ folds_from line (length places) ls ≡ all) cut before in
    subst (λ k. ended k (drop k levels) 1 now more ++ folds_from k (length now) (drop k levels) ≡ all) (sym at)
    (line_more line l (drop (suc line) levels) places left now folds kept more all before_too off some on full)

-- behind the last line all have ended
pub all_ended : (levels : List ℕ) (line end : ℕ) (places left : List ℕ) (folds kept all : List Fold) → line ≡ end → length levels ≤ line → ended line (drop line levels) 1 places folds ++ folds_from line (length places) (drop line levels) ≡ all → HaveEnded end 1 places folds left kept → length left ≡ min (length places) 0 → kept ≡ all
all_ended levels line end places [] folds kept all at past before off none =
    let cut : drop line levels ≡ [] = drop_all line levels past in
    off [] refl
    ∙ ap (λ k. ended k [] 1 places folds) (sym at)
    ∙ sym (append-nil (ended line [] 1 places folds))
    ∙ subst (λ ls. ended line ls 1 places folds ++ folds_from line (length places) ls ≡ all) cut before
all_ended levels line end places (p ∷ left) folds kept all at past before off none = absurd (omega arith)
