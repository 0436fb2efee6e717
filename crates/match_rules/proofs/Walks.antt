-- Walks along a text, and the text between their ends.
use Rattle.std.proofs.Common.{◌≡◌, ℕ, zero, suc, ◌+◌, ◌-◌, ◌<◌, ◌≤◌, true, List, [], ◌∷◌, ◌++◌, drop, take, refl, sym, ap, ◌∙◌, arith, subst}
use Rattle.std.specs.Prelude.{Some}
use Rattle.std.proofs.lemmas.Option.{slice_get_within, get_or_from_slice_get}
use Rattle.std.proofs.lemmas.List.{drop_more, drop_all}
use Rattle.std.proofs.lemmas.Bool.Decides.{nat_tests}
use Rattle.syn_base.specs.declared.places.Place.{Place}
use Rattle.match_rules.specs.Ways.{Text, line_at, behind_character, behind_line_end}
use Rattle.match_rules.specs.Atoms.{character_at, is_line_end, Piece, character, line_end, characters, pieces_over, text_between}

-- these pieces stand at a place, one behind the other, and lead to another place
abbrev pub Walks : Text → Place → List Piece → Place → Type 0
Walks text p [] r = p ≡ r
Walks text p (character c ∷ pieces) r = (character_at text p ≡ Some c) × Walks text (behind_character p) pieces r
Walks text p (line_end ∷ pieces) r = (is_line_end text p ≡ true) × Walks text (behind_line_end p) pieces r

pub Walks-append : (text : Text) (p q r : Place) (a b : List Piece) → Walks text p a q → Walks text q b r → Walks text p (a ++ b) r
Walks-append text p q r [] b h k = subst (λ s. Walks text s b r) (sym h) k
Walks-append text p q r (character c ∷ a) b h k = (h.0, Walks-append text (behind_character p) q r a b h.1 k)
Walks-append text p q r (line_end ∷ a) b h k = (h.0, Walks-append text (behind_line_end p) q r a b h.1 k)

-- a walk leads forwards
pub record IsForwards (p r : Place) : Type 0 where
  pub line : p.line ≤ r.line
  pub col : p.line ≡ r.line → p.col ≤ r.col

pub walk-forwards : (text : Text) (p r : Place) (pieces : List Piece) → Walks text p pieces r → IsForwards p r
walk-forwards text p r [] h =
    subst (λ s. IsForwards p s) h (record { line = omega arith; col = λ e. omega arith })
walk-forwards text p r (character c ∷ pieces) h =
    let k = walk-forwards text (behind_character p) r pieces h.1 in
    record { line = k.line; col = λ e. let l : p.col + 1 ≤ r.col = k.col e in omega arith }
walk-forwards text p r (line_end ∷ pieces) h =
    let k = walk-forwards text (behind_line_end p) r pieces h.1 in
    let l : p.line + 1 ≤ r.line = k.line in
    record { line = omega arith; col = λ e. absurd (omega arith) }

drop-character : (text : Text) (p : Place) (c : ℕ) → character_at text p ≡ Some c → drop p.col (line_at text p.line) ≡ c ∷ drop (p.col + 1) (line_at text p.line)
drop-character text p c h =
    drop_more (line_at text p.line) p.col 0 (slice_get_within (line_at text p.line) p.col c h)
    ∙ ap (λ d. d ∷ drop (p.col + 1) (line_at text p.line)) (get_or_from_slice_get (line_at text p.line) p.col c 0 h)

one_character : (text : Text) (p : Place) (c ends stop : ℕ) → character_at text p ≡ Some c → (ends ≡ 0 → p.col < stop) →
    pieces_over text p.line p.col ends stop ≡ character c ∷ pieces_over text p.line (p.col + 1) ends stop
one_character text p c zero stop h less =
    let l : p.col < stop = less refl in
    let e : stop - p.col ≡ suc (stop - (p.col + 1)) = omega arith in
    rw (drop-character text p c h, e) refl
one_character text p c (suc ends) stop h less = rw (drop-character text p c h) refl

is_end : (text : Text) (p : Place) → is_line_end text p ≡ true → drop p.col (line_at text p.line) ≡ []
is_end text p h = drop_all p.col (line_at text p.line) (grind (arith, nat_tests))

-- the text between its ends is what it walked over
pub walk-text : (text : Text) (p r : Place) (pieces : List Piece) → Walks text p pieces r → text_between text p r ≡ pieces
walk-text text p r [] h =
    let e : p.line - p.line ≡ 0 = omega arith in
    let f : p.col - p.col ≡ 0 = omega arith in
    subst (λ s. text_between text p s ≡ []) h (rw (e, f) refl)
walk-text text p r (character c ∷ pieces) h =
    let k = walk-forwards text (behind_character p) r pieces h.1 in
    one_character text p c (r.line - p.line) r.col h.0 (λ e. let l : p.col + 1 ≤ r.col = k.col (omega (arith, k.line)) in omega arith)
    ∙ ap (λ s. character c ∷ s) (walk-text text (behind_character p) r pieces h.1)
walk-text text p r (line_end ∷ pieces) h =
    let k = walk-forwards text (behind_line_end p) r pieces h.1 in
    let l : p.line + 1 ≤ r.line = k.line in
    let e : r.line - p.line ≡ suc (r.line - (p.line + 1)) = omega arith in
    rw (e, is_end text p h.0) (ap (λ s. line_end ∷ s) (walk-text text (behind_line_end p) r pieces h.1))

-- ---- from the pieces to the characters

abbrev pub characters_of : List Piece → List ℕ
characters_of [] = []
characters_of (character c ∷ pieces) = c ∷ characters_of pieces
characters_of (line_end ∷ pieces) = characters_of pieces

characters-back : (cs : List ℕ) → characters_of (characters cs) ≡ cs
characters-back [] = refl
characters-back (c ∷ cs) = ap (λ ds. c ∷ ds) (characters-back cs)

pub characters-same : (cs ds : List ℕ) → characters cs ≡ characters ds → cs ≡ ds
characters-same cs ds h = sym (characters-back cs) ∙ (ap characters_of h ∙ characters-back ds)

-- in one line the text between two places is its characters
pub text_in_line-between : (text : Text) (p r : Place) → p.line ≡ r.line → text_between text p r ≡ characters (take (r.col - p.col) (drop p.col (line_at text p.line)))
text_in_line-between text p r h = let e : r.line - p.line ≡ 0 = omega arith in rw e refl
