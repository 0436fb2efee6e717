-- A page and the groups that it shows go from line to line.
use Rattle.std.proofs.Common.{◌≡◌, ℕ, suc, ◌+◌, ◌-◌, ◌<◌, List, [], ◌∷◌, ◌++◌, length, drop, drop-cons, get_or, refl, ap, sym, ◌∙◌, add-one, arith}
use Rattle.std.specs.Prelude.{Bool, Some, replicate, slice_get}
use Rattle.std.specs.List.{flat_map, fold}
use Rattle.std.proofs.lemmas.List.{append_assoc}
use Rattle.std.proofs.lemmas.Grind.{flat_map-append}
use Rattle.std.proofs.lemmas.List.Sums.{fold-append}
use Rattle.std.proofs.lemmas.Option.{slice_get_within, get_or_from_slice_get}
use Rattle.syn_base.specs.declared.places.GroupId.{GroupId}
use Rattle.syn_base.specs.declared.places.Span.{Span}
use Rattle.hi_links.specs.declared.highlight.Highlight.{Highlight}
use Rattle.html_writer.specs.declared.PageOptions.{PageOptions}
use Rattle.hi_links.specs.FinalGroup.{final_group}
use Rattle.html_writer.specs.Page.{character_text, final_groups, line_text, lines_text, numbered_text, with_used}
use Rattle.html_writer.proofs.Appending.{behind}

-- the element at a place, and those behind it
split_at : {X : Type 0} (xs : List X) (i : ℕ) (x : X) → Some x ≡ slice_get xs i → drop i xs ≡ x ∷ drop (i + 1) xs
split_at xs i x found =
    let within : i < length xs = slice_get_within xs i x (sym found) in
    let same : get_or xs i x ≡ x = get_or_from_slice_get xs i x x (sym found) in
    let next : drop (suc i) xs ≡ drop (i + 1) xs = ap (λ (n : ℕ). drop n xs) (sym (add-one i)) in
    drop-cons xs i x within ∙ ap (λ first. first ∷ drop (suc i) xs) same ∙ ap (λ rest. x ∷ rest) next

-- two texts one behind the other
pub text_behind : (pre : Bool) (xs ys start before after : List ℕ) → before ≡ start ++ line_text pre xs → after ≡ before ++ line_text pre ys → after ≡ start ++ line_text pre (xs ++ ys)
text_behind pre xs ys start before after so_far appended =
    behind start before after (line_text pre xs) (line_text pre ys) so_far appended
    ∙ ap (λ text. start ++ text) (sym (flat_map-append (character_text pre) xs ys))

-- a further space, and those behind it
pub spaced_further : (pre : Bool) (count i : ℕ) (before after whole : List ℕ) → i < count → after ≡ before ++ character_text pre 32 → before ++ line_text pre (replicate (count - i) 32) ≡ whole → after ++ line_text pre (replicate (count - (i + 1)) 32) ≡ whole
spaced_further pre count i before after whole within written so_far =
    let more : count - i ≡ suc (count - (i + 1)) = omega (arith, within) in
    let rest : List ℕ = line_text pre (replicate (count - (i + 1)) 32) in
    let next : line_text pre (replicate (count - i) 32) ≡ character_text pre 32 ++ rest = rw more refl in
    rw (written, append_assoc before (character_text pre 32) rest) (ap (λ text. before ++ text) (sym next) ∙ so_far)

-- the groups shown with that of a further span, and the spans behind it
pub used_further : (links : List Highlight) (spans : List Span) (i : ℕ) (d : Span) → i < length spans → (before after whole : List GroupId) → after ≡ with_used before (final_group links (get_or spans i d).group) → fold with_used before (final_groups links (drop i spans)) ≡ whole → fold with_used after (final_groups links (drop (i + 1) spans)) ≡ whole
used_further links spans i d within before after whole added so_far =
    let next : drop (suc i) spans ≡ drop (i + 1) spans = ap (λ (n : ℕ). drop n spans) (sym (add-one i)) in
    let split : drop i spans ≡ get_or spans i d ∷ drop (i + 1) spans = drop-cons spans i d within ∙ ap (λ rest. get_or spans i d ∷ rest) next in
    rw added (ap (λ more. fold with_used before (final_groups links more)) (sym split) ∙ so_far)

-- the groups shown with those of a further line, and the lines behind it
pub shown_further : (links : List Highlight) (painting : List (List Span)) (i : ℕ) (spans : List Span) (before after whole : List GroupId) → Some spans ≡ slice_get painting i → after ≡ fold with_used before (final_groups links spans) → fold with_used before (flat_map (final_groups links) (drop i painting)) ≡ whole → fold with_used after (flat_map (final_groups links) (drop (i + 1) painting)) ≡ whole
shown_further links painting i spans before after whole found added so_far =
    let rest : List GroupId = flat_map (final_groups links) (drop (i + 1) painting) in
    rw added (sym (fold-append with_used before (final_groups links spans) rest)
    ∙ ap (λ lines. fold with_used before (flat_map (final_groups links) lines)) (sym (split_at painting i spans found))
    ∙ so_far)

-- the page with a further line, and the lines behind it
pub written_further : (names : List (List ℕ)) (links : List Highlight) (options : PageOptions) (width i : ℕ) (lines : List (List ℕ)) (painting : List (List Span)) (line : List ℕ) (spans : List Span) (before after whole : List ℕ) → Some line ≡ slice_get lines i → Some spans ≡ slice_get painting i → after ≡ before ++ numbered_text names links options width (i + 1) line spans → before ++ lines_text names links options width (i + 1) (drop i lines) (drop i painting) ≡ whole → after ++ lines_text names links options width (i + 1 + 1) (drop (i + 1) lines) (drop (i + 1) painting) ≡ whole
written_further names links options width i lines painting line spans before after whole line_found spans_found written so_far =
    let rest : List ℕ = lines_text names links options width (i + 1 + 1) (drop (i + 1) lines) (drop (i + 1) painting) in
    let text : List ℕ = numbered_text names links options width (i + 1) line spans in
    let next : lines_text names links options width (i + 1) (drop i lines) (drop i painting) ≡ text ++ rest =
    rw (split_at lines i line line_found, split_at painting i spans spans_found) refl in
    rw (written, append_assoc before text rest) (ap (λ more. before ++ more) (sym next) ∙ so_far)

-- the page from its parts
pub whole_page : (head styles start lines end p0 p1 p2 p3 p4 p5 : List ℕ) → p0 ≡ [] → p1 ≡ p0 ++ head → p2 ≡ p1 ++ styles → p3 ≡ p2 ++ start → p4 ≡ p3 ++ lines → p5 ≡ p4 ++ end → p5 ≡ head ++ styles ++ start ++ lines ++ end
whole_page head styles start lines end p0 p1 p2 p3 p4 p5 e0 e1 e2 e3 e4 e5 =
    behind [] p4 p5 (head ++ styles ++ start ++ lines) end
    (behind [] p3 p4 (head ++ styles ++ start) lines
    (behind [] p2 p3 (head ++ styles) start (behind [] p1 p2 head styles (e1 ∙ ap (λ p. p ++ head) e0) e2) e3) e4) e5
