-- An atom leads to the same place in both texts, moved, where they agree on the lines that it looks at.
use Rattle.std.proofs.Common.{◌≡◌, ℕ, ◌+◌, ◌<◌, ◌≤◌, Bool, true, false, List, [], ◌∷◌, ◌++◌, refl, ap, ◌∙◌, arith}
use Rattle.std.specs.Prelude.{Option, Some, None, pos, nat_lt, nat_eq, ◌&&◌, if◌then◌else◌}
use Rattle.std.proofs.lemmas.Bool.Decides.{nat_tests}
use Rattle.syn_base.specs.declared.places.Place.{Place}
use Rattle.match_rules.specs.Ways.{Context, is_after, is_same_place, behind_character, behind_line_end}
use Rattle.match_rules.specs.Atoms.{character_at, is_line_end, only_if, behind_if, behind_one, behind_one_or_end, Piece, character, line_end, behind_piece, behind_pieces, last_line_of}
use Rattle.match_rules.proofs.Kept.{behind_character-kept, behind_line_end-kept}
use Rattle.match_rules.proofs.Walks.{Walks, Walks-append}
use Rattle.match_rules.proofs.Outset.{IsLaterOrNone, behind_piece-later, last_line-later}
use Rattle.match_rules.proofs.Sides.{Two, other, IsLineOf, AgreesOn, Moved, SameLine, same_line}

-- the same pieces lead from place to place in both texts
pub record Reached (two : Two) (p q p' q' : Place) : Type 0 where
  pub pieces : List Piece
  pub walk : Walks two.x.text p pieces p'
  pub walk_other : Walks two.text q pieces q'

pub no_step : (two : Two) (p q : Place) → Reached two p q p q
no_step two p q = record { pieces = []; walk = refl; walk_other = refl }

pub further : (two : Two) (p q p' q' p'' q'' : Place) → Reached two p q p' q' → Reached two p' q' p'' q'' → Reached two p q p'' q''
further two p q p' q' p'' q'' h k = record {
  pieces = h.pieces ++ k.pieces;
  walk = Walks-append two.x.text p p' p'' h.pieces k.pieces h.walk k.walk;
  walk_other = Walks-append two.text q q' q'' h.pieces k.pieces h.walk_other k.walk_other;
}

-- both lead nowhere, or to the same place by the same pieces
abbrev pub FitMoved : Two → Place → Place → Option Place → Option Place → Type 0
FitMoved two p q None None = Unit {0}
FitMoved two p q (Some p') (Some q') = Moved two p' q' × Reached two p q p' q'
FitMoved two p q None (Some q') = ⊥
FitMoved two p q (Some p') None = ⊥

pub fit-further : (two : Two) (p q p' q' : Place) (o r : Option Place) → Reached two p q p' q' → FitMoved two p' q' o r → FitMoved two p q o r
fit-further two p q p' q' None None h k = tt
fit-further two p q p' q' (Some a) (Some b) h k = (k.0, further two p q p' q' a b h k.1)
fit-further two p q p' q' None (Some b) h k = absurd k
fit-further two p q p' q' (Some a) None h k = absurd k

pub only_if-moved : (two : Two) (p q p' q' : Place) (b d : Bool) → d ≡ b → (b ≡ true → d ≡ true → Moved two p' q' × Reached two p q p' q') → FitMoved two p q (only_if b p') (only_if d q')
only_if-moved two p q p' q' true true e h = h refl refl
only_if-moved two p q p' q' false false e h = tt
only_if-moved two p q p' q' true false e h = absurd (cc)
only_if-moved two p q p' q' false true e h = absurd (cc)

-- a test that takes nothing
pub stay-moved : (two : Two) (p q : Place) (b d : Bool) → Moved two p q → d ≡ b → FitMoved two p q (only_if b p) (only_if d q)
stay-moved two p q b d m e = only_if-moved two p q p q b d e (λ _ _. (m, no_step two p q))

-- ---- a character or a line end

pub character-same : (two : Two) (p q : Place) → Moved two p q → SameLine two p.line q.line → character_at two.text q ≡ character_at two.x.text p
character-same two p q m s = rw (s.chars, m.col) refl

pub line_end-same : (two : Two) (p q : Place) → Moved two p q → SameLine two p.line q.line → is_line_end two.text q ≡ is_line_end two.x.text p
line_end-same two p q m s = rw (s.chars, m.col, s.here) refl

behind_character-moved : (two : Two) (p q : Place) (c : ℕ) → Moved two p q → character_at two.x.text p ≡ Some c → character_at two.text q ≡ Some c → Moved two (behind_character p) (behind_character q) × Reached two p q (behind_character p) (behind_character q)
behind_character-moved two p q c m h k = (
  record {
    line = m.line;
    col = ap (λ n. n + 1) m.col;
    on = behind_character-kept two.x.text p c m.on h;
    there = behind_character-kept two.text q c m.there k;
  },
  record { pieces = character c ∷ []; walk = (h, refl); walk_other = (k, refl) },
)

behind_line_end-moved : (two : Two) (p q : Place) → Moved two p q → is_line_end two.x.text p ≡ true → is_line_end two.text q ≡ true → Moved two (behind_line_end p) (behind_line_end q) × Reached two p q (behind_line_end p) (behind_line_end q)
behind_line_end-moved two p q m h k = (
  record {
    line = omega (arith, m.line);
    col = refl;
    on = behind_line_end-kept two.x.text p h;
    there = behind_line_end-kept two.text q k;
  },
  record { pieces = line_end ∷ []; walk = (h, refl); walk_other = (k, refl) },
)

behind_if-moved : (two : Two) (test : ℕ → Bool) (p q : Place) → Moved two p q → (o r : Option ℕ) → character_at two.x.text p ≡ o → character_at two.text q ≡ r → r ≡ o → FitMoved two p q (behind_if test o p) (behind_if test r q)
behind_if-moved two test p q m None None h k e = tt
behind_if-moved two test p q m (Some c) (Some d) h k e =
    let same : d ≡ c = cc in
    let there : character_at two.text q ≡ Some c = cc in
    only_if-moved two p q (behind_character p) (behind_character q) (test c) (test d) (ap test same) (λ _ _. behind_character-moved two p q c m h there)
behind_if-moved two test p q m None (Some d) h k e = absurd (cc)
behind_if-moved two test p q m (Some c) None h k e = absurd (cc)

pub behind_one-moved : (two : Two) (test : ℕ → Bool) (p q : Place) → Moved two p q → SameLine two p.line q.line → FitMoved two p q (behind_one two.x.text test p) (behind_one two.text test q)
behind_one-moved two test p q m s = behind_if-moved two test p q m (character_at two.x.text p) (character_at two.text q) refl refl (character-same two p q m s)

pub behind_end-moved : (two : Two) (p q : Place) → Moved two p q → SameLine two p.line q.line → FitMoved two p q (only_if (is_line_end two.x.text p) (behind_line_end p)) (only_if (is_line_end two.text q) (behind_line_end q))
behind_end-moved two p q m s =
    only_if-moved two p q (behind_line_end p) (behind_line_end q) (is_line_end two.x.text p) (is_line_end two.text q) (line_end-same two p q m s) (λ h k. behind_line_end-moved two p q m h k)

second_of : (a b : Bool) → (a && b) ≡ true → b ≡ true
second_of true b h = h
second_of false b h = absurd (cc)

by_end : (two : Two) (takes_end : Bool) (test : ℕ → Bool) (p q : Place) → Moved two p q → SameLine two p.line q.line → (b d : Bool) → (takes_end && is_line_end two.x.text p) ≡ b → d ≡ b →
    FitMoved two p q (if b then Some (behind_line_end p) else behind_one two.x.text test p) (if d then Some (behind_line_end q) else behind_one two.text test q)
by_end two takes_end test p q m s true true h k =
    let e : is_line_end two.x.text p ≡ true = second_of takes_end (is_line_end two.x.text p) h in
    behind_line_end-moved two p q m e (line_end-same two p q m s ∙ e)
by_end two takes_end test p q m s false false h k = behind_one-moved two test p q m s
by_end two takes_end test p q m s true false h k = absurd (cc)
by_end two takes_end test p q m s false true h k = absurd (cc)

pub behind_one_or_end-moved : (two : Two) (takes_end : Bool) (test : ℕ → Bool) (p q : Place) → Moved two p q → SameLine two p.line q.line → FitMoved two p q (behind_one_or_end two.x.text takes_end test p) (behind_one_or_end two.text takes_end test q)
behind_one_or_end-moved two takes_end test p q m s =
    by_end two takes_end test p q m s (takes_end && is_line_end two.x.text p) (takes_end && is_line_end two.text q) refl (ap (λ b. takes_end && b) (line_end-same two p q m s))

-- ---- the text that a reference stands for

behind_piece-moved : (two : Two) (piece : Piece) (p q : Place) → Moved two p q → SameLine two p.line q.line → FitMoved two p q (behind_piece two.x piece p) (behind_piece (other two) piece q)
behind_piece-moved two (character c) p q m s = behind_one-moved two _ p q m s
behind_piece-moved two line_end p q m s = behind_end-moved two p q m s

-- the texts agree from a line to another
abbrev pub AgreesUpTo : Two → ℕ → ℕ → Type 0
AgreesUpTo two low high = (l : ℕ) → low ≤ l → l ≤ high → AgreesOn two (pos l)

abbrev PiecesMoved : Two → List Piece → Place → Place → Type 0
PiecesMoved two pieces p q =
    FitMoved two p q (behind_pieces two.x pieces p) (behind_pieces (other two) pieces q) × IsLineOf two (last_line_of two.x pieces p) (last_line_of (other two) pieces q)

abbrev rest_of : Context → List Piece → Option Place → Option Place
rest_of x pieces o = elim o [ None ↦ None | Some q ↦ behind_pieces x pieces q ]

abbrev last_of : Context → List Piece → Place → Option Place → ℕ
last_of x pieces p o = elim o [ None ↦ p.line | Some q ↦ last_line_of x pieces q ]

pieces-step : (two : Two) (pieces : List Piece) → ((p q : Place) → Moved two p q → AgreesUpTo two p.line (last_line_of two.x pieces p) → PiecesMoved two pieces p q) →
    (p q : Place) (o r : Option Place) → Moved two p q → FitMoved two p q o r → IsLaterOrNone p o → AgreesUpTo two p.line (last_of two.x pieces p o) →
    FitMoved two p q (rest_of two.x pieces o) (rest_of (other two) pieces r) × IsLineOf two (last_of two.x pieces p o) (last_of (other two) pieces q r)
pieces-step two pieces rest p q None None m f later agrees = (tt, m.line)
pieces-step two pieces rest p q (Some p') (Some q') m f later agrees =
    let r = rest p' q' f.0 (λ l low high. agrees l (omega (arith, later, low)) high) in
    (fit-further two p q p' q' _ _ f.1 r.0, r.1)
pieces-step two pieces rest p q None (Some q') m f later agrees = absurd f
pieces-step two pieces rest p q (Some p') None m f later agrees = absurd f

pub pieces-moved : (two : Two) (pieces : List Piece) (p q : Place) → Moved two p q → AgreesUpTo two p.line (last_line_of two.x pieces p) → PiecesMoved two pieces p q
pieces-moved two [] p q m agrees = ((m, no_step two p q), m.line)
pieces-moved two (piece ∷ pieces) p q m agrees =
    let s : SameLine two p.line q.line = same_line two p.line q.line m.line (agrees p.line (omega arith) (last_line-later two.x (piece ∷ pieces) p)) in
    pieces-step two pieces (pieces-moved two pieces) p q (behind_piece two.x piece p) (behind_piece (other two) piece q) m (behind_piece-moved two piece p q m s) (behind_piece-later two.x piece p) agrees

-- ---- the order of places

same_lt : (a b c d : ℕ) → (a < b → c < d) → (c < d → a < b) → nat_lt a b ≡ nat_lt c d
same_lt a b c d h k = grind (arith, nat_tests, h, k)

pub same_eq : (a b c d : ℕ) → (a ≡ b → c ≡ d) → (c ≡ d → a ≡ b) → nat_eq a b ≡ nat_eq c d
same_eq a b c d h k = grind (arith, nat_tests, h, k)

pub after-moved : (two : Two) (p q p' q' : Place) → Moved two p q → Moved two p' q' → is_after q' q ≡ is_after p' p
after-moved two p q p' q' m n =
    let lt : nat_lt q.line q'.line ≡ nat_lt p.line p'.line = same_lt q.line q'.line p.line p'.line (λ h. omega (arith, m.line, n.line)) (λ h. omega (arith, m.line, n.line)) in
    let eq : nat_eq q.line q'.line ≡ nat_eq p.line p'.line = same_eq q.line q'.line p.line p'.line (λ h. omega (arith, m.line, n.line)) (λ h. omega (arith, m.line, n.line)) in
    rw (lt, eq, m.col, n.col) refl

pub same_place-moved : (two : Two) (p q p' q' : Place) → Moved two p q → Moved two p' q' → is_same_place q' q ≡ is_same_place p' p
same_place-moved two p q p' q' m n =
    let eq : nat_eq q'.line q.line ≡ nat_eq p'.line p.line = same_eq q'.line q.line p'.line p.line (λ h. omega (arith, m.line, n.line)) (λ h. omega (arith, m.line, n.line)) in
    rw (eq, m.col, n.col) refl
