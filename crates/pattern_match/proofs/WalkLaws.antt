-- Laws of how far a text stands.
use Rattle.std.proofs.Common.{◌≡◌, ℕ, zero, suc, ◌+◌, ◌-◌, ◌<◌, ◌≤◌, Bool, true, false, not, List, [], ◌∷◌, ◌++◌, take, drop, length, get_or, refl, sym, ap, ◌∙◌, arith, append_assoc}
use Rattle.std.proofs.lemmas.List.{at_drop_more, at_drop_all}
use Rattle.std.specs.Prelude.{Option, Some, None}
use Rattle.syn_base.specs.declared.places.Place.{Place}
use Rattle.match_rules.specs.Ways.{Text, Context, line_at, place}
use Rattle.match_rules.specs.Atoms.{Piece, character, line_end, characters, behind_piece, behind_pieces, last_line_of, text_between, only_if}
use Rattle.pattern_match.specs.declared.walks.Walked.{Walked}
use Rattle.pattern_match.specs.Walks.{walked, walked_on}

-- ---- tests

pub not_true : (b : Bool) → not b ≡ true → b ≡ false
not_true true e = absurd (cc)
not_true false e = refl

pub not_false : (b : Bool) → not b ≡ false → b ≡ true
not_false true e = refl
not_false false e = absurd (cc)

-- ---- one text behind another

walked-append : (x : Context) (a b : List Piece) (p : Place) → walked x (a ++ b) p ≡ walked_on x (walked x a p) b
walked-append x [] b p = refl
walked-append x (piece ∷ a) b p =
    elim (behind_piece x piece p) as (λ o. elim o as (λ _. Walked) [ None ↦ record { at = p; whole = false } | Some q ↦ walked x (a ++ b) q ]
    ≡ walked_on x (elim o as (λ _. Walked) [ None ↦ record { at = p; whole = false } | Some q ↦ walked x a q ]) b)
    [ None ↦ refl | Some q ↦ walked-append x a b q ]

walked_on-stopped : (x : Context) (w : Walked) (b : List Piece) → w.whole ≡ false → walked_on x w b ≡ w
walked_on-stopped x w b e = rw e refl

walked_on-whole : (x : Context) (w : Walked) (b : List Piece) → w.whole ≡ true → walked_on x w b ≡ walked x b w.at
walked_on-whole x w b e = rw e refl

-- the first text doesn't stand
walked-stopped : (x : Context) (a b : List Piece) (p : Place) (w : Walked) → w ≡ walked x a p → w.whole ≡ false → w ≡ walked x (a ++ b) p
walked-stopped x a b p w is stopped =
    sym (walked-append x a b p ∙ ap (λ v. walked_on x v b) (sym is) ∙ walked_on-stopped x w b stopped)

-- the first text stands
walked-further : (x : Context) (a b : List Piece) (p : Place) (w : Walked) → w ≡ walked x a p → w.whole ≡ true → walked x b w.at ≡ walked x (a ++ b) p
walked-further x a b p w is whole =
    sym (walked-append x a b p ∙ ap (λ v. walked_on x v b) (sym is) ∙ walked_on-whole x w b whole)

-- the first piece stands, or doesn't
walked-past : (x : Context) (piece : Piece) (rest : List Piece) (p q : Place) → Some q ≡ behind_piece x piece p → walked x rest q ≡ walked x (piece ∷ rest) p
walked-past x piece rest p q e =
    ap (λ o. elim o as (λ _. Walked) [ None ↦ record { at = p; whole = false } | Some r ↦ walked x rest r ]) e

walked-none : (x : Context) (piece : Piece) (rest : List Piece) (p : Place) → None ≡ behind_piece x piece p → record { at = p; whole = false } ≡ walked x (piece ∷ rest) p
walked-none x piece rest p e =
    ap (λ o. elim o as (λ _. Walked) [ None ↦ record { at = p; whole = false } | Some r ↦ walked x rest r ]) e

-- ---- the rest of a line and its line end

walked-rest : (x : Context) (cs text : List ℕ) (p : Place) (w : Walked) → w ≡ walked x (characters text) p → text ≡ cs → w ≡ walked x (characters cs) p
walked-rest x cs text p w is rest = is ∙ ap (λ t. walked x (characters t) p) rest

pub walked-rest_stopped : (x : Context) (cs text : List ℕ) (p : Place) (w : Walked) → w ≡ walked x (characters text) p → text ≡ cs → not w.whole ≡ true → w ≡ walked x (characters cs ++ (line_end ∷ [])) p
walked-rest_stopped x cs text p w is rest stopped =
    walked-stopped x (characters cs) (line_end ∷ []) p w (walked-rest x cs text p w is rest) (not_true w.whole stopped)

pub walked-rest_end : (x : Context) (cs text : List ℕ) (p q : Place) (w : Walked) → w ≡ walked x (characters text) p → text ≡ cs → not w.whole ≡ false → Some q ≡ behind_piece x line_end w.at → record { at = q; whole = true } ≡ walked x (characters cs ++ (line_end ∷ [])) p
walked-rest_end x cs text p q w is rest whole e =
    walked-past x line_end [] w.at q e
    ∙ walked-further x (characters cs) (line_end ∷ []) p w (walked-rest x cs text p w is rest) (not_false w.whole whole)

pub walked-rest_no_end : (x : Context) (cs text : List ℕ) (p : Place) (w : Walked) → w ≡ walked x (characters text) p → text ≡ cs → not w.whole ≡ false → None ≡ behind_piece x line_end w.at → record { at = w.at; whole = false } ≡ walked x (characters cs ++ (line_end ∷ [])) p
walked-rest_no_end x cs text p w is rest whole e =
    walked-none x line_end [] w.at e
    ∙ walked-further x (characters cs) (line_end ∷ []) p w (walked-rest x cs text p w is rest) (not_false w.whole whole)

-- ---- where the pieces lead, and the line in which they end

pub behind_pieces-walked : (x : Context) (a : List Piece) (p : Place) → behind_pieces x a p ≡ only_if (walked x a p).whole (walked x a p).at
behind_pieces-walked x [] p = refl
behind_pieces-walked x (piece ∷ a) p =
    elim (behind_piece x piece p) as (λ o. elim o as (λ _. Option Place) [ None ↦ None | Some q ↦ behind_pieces x a q ]
    ≡ (let w : Walked = elim o as (λ _. Walked) [ None ↦ record { at = p; whole = false } | Some q ↦ walked x a q ] in only_if w.whole w.at))
    [ None ↦ refl | Some q ↦ behind_pieces-walked x a q ]

pub last_line_of-walked : (x : Context) (a : List Piece) (p : Place) → last_line_of x a p ≡ (walked x a p).at.line
last_line_of-walked x [] p = refl
last_line_of-walked x (piece ∷ a) p =
    elim (behind_piece x piece p) as (λ o. elim o as (λ _. ℕ) [ None ↦ p.line | Some q ↦ last_line_of x a q ]
    ≡ (let w : Walked = elim o as (λ _. Walked) [ None ↦ record { at = p; whole = false } | Some q ↦ walked x a q ] in w.at.line))
    [ None ↦ refl | Some q ↦ last_line_of-walked x a q ]

-- ---- the text between two places

-- over one more line end
pub text_between-line : (text : Text) (from to : Place) → from.line < to.line → text_between text from to ≡ characters (drop from.col (line_at text from.line)) ++ (line_end ∷ text_between text (place (from.line + 1) 0) to)
text_between-line text from to before =
    let ends : to.line - from.line ≡ suc (to.line - (from.line + 1)) = omega arith in
    rw ends refl

-- in one line
pub text_between-last : (text : Text) (from to : Place) → to.line ≤ from.line → text_between text from to ≡ characters (take (to.col - from.col) (drop from.col (line_at text from.line)))
text_between-last text from to last =
    let ends : to.line - from.line ≡ zero = omega arith in
    rw ends refl

-- what is left of it, once the rest of a line and its line end stand
pub walked-line : (x : Context) (from to p : Place) (w : Walked) → from.line < to.line → w ≡ walked x (characters (drop from.col (line_at x.text from.line)) ++ (line_end ∷ [])) p → w.whole ≡ true → walked x (text_between x.text (place (from.line + 1) 0) to) w.at ≡ walked x (text_between x.text from to) p
walked-line x from to p w before is whole =
    let cs = characters (drop from.col (line_at x.text from.line)) in
    let rest = text_between x.text (place (from.line + 1) 0) to in
    walked-further x (cs ++ (line_end ∷ [])) rest p w is whole
    ∙ ap (λ a. walked x a p) (append_assoc cs (line_end ∷ []) rest ∙ sym (text_between-line x.text from to before))

pub walked-line_stopped : (x : Context) (from to p : Place) (w : Walked) → from.line < to.line → w ≡ walked x (characters (drop from.col (line_at x.text from.line)) ++ (line_end ∷ [])) p → w.whole ≡ false → w ≡ walked x (text_between x.text from to) p
walked-line_stopped x from to p w before is stopped =
    let cs = characters (drop from.col (line_at x.text from.line)) in
    let rest = text_between x.text (place (from.line + 1) 0) to in
    walked-stopped x (cs ++ (line_end ∷ [])) rest p w is stopped
    ∙ ap (λ a. walked x a p) (append_assoc cs (line_end ∷ []) rest ∙ sym (text_between-line x.text from to before))

-- ---- characters

-- the characters from the i-th on begin with it
walked-here : (x : Context) (text : List ℕ) (i c : ℕ) (p : Place) → i < length text → c ≡ get_or text i c → walked x (characters (drop i text)) p ≡ walked x (character c ∷ characters (drop (i + 1) text)) p
walked-here x text i c p within is =
    at_drop_more (λ cs. walked x (characters cs) p) text i c within
    ∙ ap (λ d. walked x (character d ∷ characters (drop (i + 1) text)) p) (sym is)

pub walked-character : (x : Context) (text : List ℕ) (i c : ℕ) (p q : Place) → i < length text → c ≡ get_or text i c → Some q ≡ behind_piece x (character c) p → walked x (characters (drop (i + 1) text)) q ≡ walked x (characters (drop i text)) p
walked-character x text i c p q within is e =
    walked-past x (character c) (characters (drop (i + 1) text)) p q e ∙ sym (walked-here x text i c p within is)

pub walked-no_character : (x : Context) (text : List ℕ) (i c : ℕ) (p : Place) → i < length text → c ≡ get_or text i c → None ≡ behind_piece x (character c) p → record { at = p; whole = false } ≡ walked x (characters (drop i text)) p
walked-no_character x text i c p within is e =
    walked-none x (character c) (characters (drop (i + 1) text)) p e ∙ sym (walked-here x text i c p within is)

pub walked-end : (x : Context) (text : List ℕ) (i : ℕ) (p : Place) → length text ≤ i → record { at = p; whole = true } ≡ walked x (characters (drop i text)) p
walked-end x text i p past = sym (at_drop_all (λ cs. walked x (characters cs) p) text i past)
