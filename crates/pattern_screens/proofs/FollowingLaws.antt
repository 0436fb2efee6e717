-- Behind an atom of one character, where what follows it fails, an attempt has no way, is within the
-- budget, and looks at its line alone.
use Rattle.pattern_screens.proofs.Common.{◌≡◌, refl, sym, ap, subst, arith, ◌∙◌, ℕ, ◌+◌, ◌*◌, ◌≤◌, Bool, true, false, List, [], ◌∷◌, ◌++◌, length, append-nil, pos, not, nat_eq, nat_lt, ◌&&◌, ◌||◌, and_parts, nat_tests, Looked, Place, one_line, Atom, Char, Any, Is, Set, LineStart, Shape, one, seq, or, fits, lines_looked, way_behind, character_at, only_if, answer_of, attempt, for_tree, Mark, Tick, followed, visits, behind_fit, Context, Way, behind_character, line_at, place, way_from, followed-append, failing_cost, most_cost, FailBefore, is_line_start, takes_first, takes_leaf, takes_piece, key_numbered, key_of, is_plain, plain_fits, rest_fails, rest_tree, second_of, IsInVain, is_dead, is_futile, still_of, Key}
use Rattle.pattern_screens.proofs.Bounded.{Bounded, one-or, relaxed}
use Rattle.pattern_screens.proofs.FailingLaws.{isnt_more}
use Rattle.pattern_screens.proofs.FirstScreens.{fits-told, plain-looks}
use Rattle.pattern_screens.proofs.InVain.{in-vain, in-vain-within}
use Rattle.pattern_screens.proofs.Screened.{dead}
use Rattle.pattern_screens.proofs.Stands.{At, LooksAt}

plain-moves : (w : Way) (p : Place) (a : Atom) → is_plain a ≡ true → way_behind w p a ≡ record w { at = p }
plain-moves w p (Char c) h = refl
plain-moves w p (Any takes_end) h = refl
plain-moves w p (Is class negative takes_end) h = refl
plain-moves w p (Set ranges) h = refl
plain-moves w p _ h = absurd (cc)

module _ (y : Context) (line col : ℕ) (inside : col + 1 ≤ length (line_at y.text line)) where
  abbrev start : Place
  start = place line col

  abbrev next : Place
  next = place line (col + 1)

  abbrev key : Key
  key = key_of y.sets (line_at y.text line) (col + 1)

  abbrev later : Bool
  later = nat_lt 0 col

  -- no way, so many ticks, each of which looks at the line alone
  abbrev Vain : ℕ → List Mark → Type 0
  Vain cost marks = Bounded (At next) (LooksAt line) 0 cost marks

  module _ (rest : Shape) (futile : is_dead (still_of y.sets y.ignore key rest) ≡ true) where
    abbrev behind : Shape → List Mark
    behind piece = followed (visits y piece (way_from start)) (visits y rest)

    one-tick : (looked : Looked) → LooksAt line looked → Vain (1 + most_cost rest) (Tick looked ∷ [])
    one-tick looked own = record { here = tt; few = omega arith; cheap = omega arith; seen = (own, tt) }

    -- what follows is tried in vain at the next column
    rest-vain : Vain (most_cost rest) (visits y rest (way_from next))
    rest-vain = dead y line (col + 1) inside rest futile (way_from next) refl

    plain-vain : (a : Atom) → is_plain a ≡ true → Vain (1 + most_cost rest) (behind (one a))
    plain-vain a plain =
        let w : Way = way_from start in
        let l : Looked = lines_looked y w a in
        let own = plain-looks y w a plain in
        let f = visits y rest in
        let moved : f (way_behind w next a) ++ [] ≡ f (way_from next) = append-nil _ ∙ ap f (plain-moves w next a plain) in
        elim (plain_fits y.sets y.ignore (character_at y.text start) a) as (λ b. fits y w a ≡ only_if b (behind_character start) → Vain (1 + most_cost rest) (behind (one a))) [
          | false ↦ λ e. subst (λ o. Vain (1 + most_cost rest) (Tick l ∷ followed (behind_fit w a o) f)) (sym e) (one-tick l own)
          | true ↦ λ e.
              subst (λ o. Vain (1 + most_cost rest) (Tick l ∷ followed (behind_fit w a o) f)) (sym e)
              (subst (λ m. Vain (1 + most_cost rest) (Tick l ∷ m)) (sym moved)
              (record { here = rest-vain.here; few = rest-vain.few; cheap = omega (arith, rest-vain.cheap); seen = (own, rest-vain.seen) }))
        ] (fits-told y w a plain)

    -- the start of a line doesn't fit behind its first column
    start-vain : later ≡ true → Vain (1 + most_cost rest) (behind (one LineStart))
    start-vain is =
        let w : Way = way_from start in
        let e : nat_eq col 0 ≡ false = grind (arith, nat_tests) in
        subst (λ b. Vain (1 + most_cost rest) (Tick (one_line (pos line)) ∷ followed (behind_fit w LineStart (only_if b start)) (visits y rest))) (sym e) (one-tick (one_line (pos line)) refl)

    leaf-by : (a : Atom) (plain : Bool) → is_plain a ≡ plain → plain || (is_line_start a && later) ≡ true → Vain (1 + most_cost rest) (behind (one a))
    leaf-by a true is e = plain-vain a is
    leaf-by LineStart false is e = start-vain e
    leaf-by _ false is e = absurd (cc)

    leaf-vain : (leaf : Shape) → takes_leaf later leaf ≡ true → Vain (1 + most_cost rest) (behind leaf)
    leaf-vain (one a) e = leaf-by a (is_plain a) refl e
    leaf-vain _ e = absurd (cc)

    piece-vain : (piece : Shape) → takes_piece later piece ≡ true → Vain (2 * (most_cost rest + 1)) (behind piece)
    piece-vain (one a) e = relaxed (leaf-vain (one a) e) (omega arith) (omega arith)
    piece-vain (or a b) e =
        let both = and_parts (takes_leaf later a) (takes_leaf later b) e in
        subst (Vain (2 * (most_cost rest + 1))) (sym (followed-append (visits y a (way_from start)) (visits y b (way_from start)) (visits y rest)))
        (relaxed (one-or (leaf-vain a both.0) (leaf-vain b both.1)) (omega arith) (omega arith))
    piece-vain _ e = absurd (cc)

  node-vain : (node : Shape) → takes_first later node ≡ true → is_dead (still_of y.sets y.ignore key (second_of node)) ≡ true → IsInVain start (2 * (most_cost (second_of node) + 1)) false (answer_of (visits y node (way_from start)))
  node-vain (seq a b) first futile = in-vain start (piece-vain b futile a first)
  node-vain _ first futile = absurd (cc)

pub after-law : FailBefore
after-law tree x budget line col number first is e =
    let a = and_parts (rest_fails x.sets x.ignore number tree) (not (nat_lt budget (2 * (failing_cost (rest_tree tree) + 1)))) e in
    let b = and_parts (nat_lt number 777) (is_futile x.sets x.ignore (key_numbered number) (rest_tree tree)) a.0 in
    let at-key : is_futile x.sets x.ignore (key_of x.sets (line_at x.text line) (col + 1)) (rest_tree tree) ≡ true = subst (λ (k : Key). is_futile x.sets x.ignore k (rest_tree tree) ≡ true) is.is b.1 in
    in-vain-within (place line col) (2 * (failing_cost (rest_tree tree) + 1)) budget false (attempt tree x (place line col)) (isnt_more budget (2 * (failing_cost (rest_tree tree) + 1)) a.1)
    (node-vain (for_tree tree x) line col is.within tree.node first at-key)
