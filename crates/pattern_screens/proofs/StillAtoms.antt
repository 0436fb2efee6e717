-- What an atom does at a column, where it takes nothing.
use Rattle.pattern_screens.proofs.Common.{◌≡◌, ℕ, zero, suc, ◌≤◌, Bool, true, false, List, [], ◌∷◌, length, refl, sym, ap, ◌∙◌, arith, subst, Option, Some, None, pos, ◌&&◌, not, nat_lt, nat_eq, slice_get, if◌then◌else◌, nat_tests, none-some, class_holds, is_same, Sets, Looked, Place, one_line, Atom, Char, Any, Is, Set, LineEnd, LineStart, LineStop, WordStart, WordStop, MatchStart, MatchStop, Context, Way, line_at, place, behind_character, behind_line_end, character_at, is_line_end, only_if, behind_if, behind_one, behind_one_or_end, fits, lines_looked, way_behind, keyword_at, keyword_before, keyword_in, has_keyword, turned_round, collection_holds, Tick, tried, behind_fit, plain_takes, takes, next_of, other_of, last_of, last_in, key_of, is_end, is_keyword, is_first, is_after_keyword, may_take, takes_end, atom_ways, Key, still, unless, still_atom}
use Rattle.pattern_screens.specs.declared.key.Next.TheVariants as next
use Rattle.pattern_screens.proofs.Bounded.{relaxed}
use Rattle.pattern_screens.proofs.Stands.{LooksAt, Stands, Told, told, untold}
use Rattle.pattern_screens.proofs.Taking.{not-taken}

-- a place's key
pub record IsKeyAt (x : Context) (p : Place) (key : Key) : Type 0 where
  pub next : next_of x.sets (character_at x.text p) ≡ key.next
  pub stop : nat_eq p.col (length (line_at x.text p.line)) ≡ is_end key.next
  pub keyword : keyword_at x p ≡ is_keyword x.sets key.next
  pub first : nat_eq p.col 0 ≡ is_first key.last
  pub after : keyword_before x p ≡ is_after_keyword key.last
  pub within : p.col ≤ length (line_at x.text p.line)

-- ---- the key of a column of a line

other-is-no-end : (b : Bool) → is_end (other_of b) ≡ false
other-is-no-end true = refl
other-is-no-end false = refl

some-is-no-end : (sets : Sets) (c : ℕ) → is_end (next_of sets (Some c)) ≡ false
some-is-no-end sets c =
    elim (nat_lt c 256) as (λ b. is_end (if b then next.Code c else other_of (has_keyword sets (Some c))) ≡ false)
    [ true ↦ refl | false ↦ other-is-no-end (has_keyword sets (Some c)) ]

stop-key : (sets : Sets) (line : List ℕ) (col : ℕ) → col ≤ length line → nat_eq col (length line) ≡ is_end (next_of sets (slice_get line col))
stop-key sets [] col h = grind (arith, nat_tests)
stop-key sets (c ∷ line) zero h = let z : nat_eq 0 (suc (length line)) ≡ false = grind (arith, nat_tests) in z ∙ sym (some-is-no-end sets c)
stop-key sets (c ∷ line) (suc col) h = let z : nat_eq (suc col) (suc (length line)) ≡ nat_eq col (length line) = grind (arith, nat_tests) in z ∙ stop-key sets line col (omega arith)

keyword-of-other : (sets : Sets) (b : Bool) → b ≡ is_keyword sets (other_of b)
keyword-of-other sets true = refl
keyword-of-other sets false = refl

pub keyword-key : (sets : Sets) (o : Option ℕ) → has_keyword sets o ≡ is_keyword sets (next_of sets o)
keyword-key sets None = refl
keyword-key sets (Some c) =
    elim (nat_lt c 256) as (λ b. has_keyword sets (Some c) ≡ is_keyword sets (if b then next.Code c else other_of (has_keyword sets (Some c))))
    [ true ↦ refl | false ↦ keyword-of-other sets (has_keyword sets (Some c)) ]

first-key : (sets : Sets) (line : List ℕ) (col : ℕ) → nat_eq col 0 ≡ is_first (last_in sets line col)
first-key sets line zero = refl
first-key sets line (suc col) = elim (has_keyword sets (slice_get line col)) as (λ b. nat_eq (suc col) 0 ≡ is_first (last_of b)) [ true ↦ grind (arith, nat_tests) | false ↦ grind (arith, nat_tests) ]

of-keyword : (b : Bool) → b ≡ is_after_keyword (last_of b)
of-keyword true = refl
of-keyword false = refl

after-key : (sets : Sets) (line : List ℕ) (col : ℕ) → keyword_in sets line col ≡ is_after_keyword (last_in sets line col)
after-key sets line zero = refl
after-key sets line (suc col) = of-keyword (has_keyword sets (slice_get line col))

pub column-key : (x : Context) (number col : ℕ) → col ≤ length (line_at x.text number) → IsKeyAt x (place number col) (key_of x.sets (line_at x.text number) col)
column-key x number col h =
    let line : List ℕ = line_at x.text number in
    record {
      next = refl;
      stop = stop-key x.sets line col h;
      keyword = keyword-key x.sets (slice_get line col);
      first = first-key x.sets line col;
      after = after-key x.sets line col;
      within = h;
    }

-- ---- one tick

dead-tick : (w : Way) (a : Atom) (o : Option Place) (l : Looked) → o ≡ None → LooksAt w.at.line l → Stands w.at (still false) 0 1 (Tick l ∷ behind_fit w a o)
dead-tick w a None l e h = record {
  bounded = record { here = tt; few = omega arith; cheap = omega arith; seen = (h, tt) };
  none = λ _. refl;
  some = λ e. absurd (cc);
}
dead-tick w a (Some p) l e h = absurd (none-some p (sym e))

tick-if : (w : Way) (a : Atom) (b : Bool) → (way_behind w w.at a).at ≡ w.at → Stands w.at (still b) 1 1 (Tick (one_line (pos w.at.line)) ∷ behind_fit w a (only_if b w.at))
tick-if w a true h = record {
  bounded = record { here = (h, tt); few = omega arith; cheap = omega arith; seen = (refl, tt) };
  none = λ e. absurd (cc);
  some = λ e. omega arith;
}
tick-if w a false h =
    let dead = dead-tick w a None (one_line (pos w.at.line)) refl refl in
    record { bounded = relaxed dead.bounded (omega arith) (omega arith); none = dead.none; some = dead.some }

-- ---- what takes a character

no_character : (test : ℕ → Bool) (p : Place) (o : Option ℕ) → takes false test o ≡ false → behind_if test o p ≡ None
no_character test p None h = refl
no_character test p (Some c) h = ap (λ b. only_if b (behind_character p)) h

-- a line end that is taken or not, where a character stands or where none is tested
no_end : (with_end ends : Bool) (test : ℕ → Bool) (p : Place) (o : Option ℕ) → (with_end ≡ true → ends ≡ false) → takes false test o ≡ false →
    (if with_end && ends then Some (behind_line_end p) else behind_if test o p) ≡ None
no_end false ends test p o e h = no_character test p o h
no_end true true test p o e h = absurd (let k = e refl in cc)
no_end true false test p o e h = no_character test p o h

without_end : (with_end : Bool) (test : ℕ → Bool) (o : Option ℕ) → takes with_end test o ≡ false → takes false test o ≡ false
without_end with_end test None h = refl
without_end with_end test (Some c) h = h

-- an atom that takes none of what stands here
taking : (x : Context) (w : Way) (a : Atom) (t : Bool) → LooksAt w.at.line (lines_looked x w a) → (t ≡ false → fits x w a ≡ None) → Told w.at (unless t) 0 1 (tried x w a)
taking x w a true l f = untold
taking x w a false l f = told (dead-tick w a (fits x w a) (lines_looked x w a) (f refl) l)

and-ends : (a b c : Bool) → b ≡ c → c ≡ false → (a && b) ≡ false
and-ends true b c e h = e ∙ h
and-ends false b c e h = refl

one-fails : (x : Context) (p : Place) (test : ℕ → Bool) → takes false test (character_at x.text p) ≡ false → behind_one x.text test p ≡ None
one-fails x p test h = no_character test p (character_at x.text p) h

line-ends : (x : Context) (p : Place) (key : Key) → IsKeyAt x p key → is_end key.next ≡ false → is_line_end x.text p ≡ false
line-ends x p key k h = and-ends (nat_lt p.line (length x.text)) (nat_eq p.col (length (line_at x.text p.line))) (is_end key.next) k.stop h

some-stands : (x : Context) (p : Place) (key : Key) → IsKeyAt x p key → (with_end : Bool) (test : ℕ → Bool) → takes with_end test (character_at x.text p) ≡ false → with_end ≡ true → is_end key.next ≡ false
some-stands x p key k with_end test h e =
    elim (character_at x.text p) as (λ o. takes with_end test o ≡ false → next_of x.sets o ≡ key.next → is_end key.next ≡ false) [
      | None ↦ λ t n. absurd (let z : with_end ≡ false = t in cc)
      | Some c ↦ λ t n. ap is_end (sym n) ∙ some-is-no-end x.sets c
    ] h k.next

one-or-end-fails : (x : Context) (p : Place) (key : Key) → IsKeyAt x p key → (with_end : Bool) (test : ℕ → Bool) → takes with_end test (character_at x.text p) ≡ false → behind_one_or_end x.text with_end test p ≡ None
one-or-end-fails x p key k with_end test h =
    no_end with_end (is_line_end x.text p) test p (character_at x.text p)
    (λ e. line-ends x p key k (some-stands x p key k with_end test h e)) (without_end with_end test (character_at x.text p) h)

-- an atom that may not take what stands here takes nothing
none-taken : (x : Context) (p : Place) (key : Key) → IsKeyAt x p key → (a : Atom) → may_take x.sets x.ignore a key.next ≡ false → takes (takes_end a) (plain_takes x.sets x.ignore a) (character_at x.text p) ≡ false
none-taken x p key k a h = not-taken x.sets x.ignore a (character_at x.text p) (ap (may_take x.sets x.ignore a) k.next ∙ h)

-- an atom that goes by what stands beside it
standing : (w : Way) (a : Atom) (b c : Bool) → c ≡ b → (way_behind w w.at a).at ≡ w.at → Told w.at (Some (still b)) 1 1 (Tick (one_line (pos w.at.line)) ∷ behind_fit w a (only_if c w.at))
standing w a b c e h = told (subst (λ c. Stands w.at (still b) 1 1 (Tick (one_line (pos w.at.line)) ∷ behind_fit w a (only_if c w.at))) (sym e) (tick-if w a b h))

pub atom-stands : (x : Context) (w : Way) (key : Key) → IsKeyAt x w.at key → (a : Atom) → Told w.at (still_atom x.sets x.ignore key a) (atom_ways false a) 1 (tried x w a)
atom-stands x w key k (Char c) =
    taking x w (Char c) (may_take x.sets x.ignore (Char c) key.next) refl
    (λ h. one-fails x w.at (λ d. is_same c d x.ignore) (none-taken x w.at key k (Char c) h))
atom-stands x w key k (Any with_end) =
    taking x w (Any with_end) (may_take x.sets x.ignore (Any with_end) key.next) refl
    (λ h. one-or-end-fails x w.at key k with_end (λ d. true) (none-taken x w.at key k (Any with_end) h))
atom-stands x w key k (Is class negative with_end) =
    taking x w (Is class negative with_end) (may_take x.sets x.ignore (Is class negative with_end) key.next) refl
    (λ h. one-or-end-fails x w.at key k with_end (λ d. turned_round negative (class_holds class d x.sets)) (none-taken x w.at key k (Is class negative with_end) h))
atom-stands x w key k (Set ranges) =
    taking x w (Set ranges) (may_take x.sets x.ignore (Set ranges) key.next) refl
    (λ h. one-or-end-fails x w.at key k ranges.line_end (λ d. collection_holds ranges d x.sets x.ignore) (none-taken x w.at key k (Set ranges) h))
atom-stands x w key k LineEnd = taking x w LineEnd (is_end key.next) refl (λ h. ap (λ b. only_if b (behind_line_end w.at)) (line-ends x w.at key k h))
atom-stands x w key k LineStart = standing w LineStart (is_first key.last) (nat_eq w.at.col 0) k.first refl
atom-stands x w key k LineStop = standing w LineStop (is_end key.next) (nat_eq w.at.col (length (line_at x.text w.at.line))) k.stop refl
atom-stands x w key k WordStart =
    standing w WordStart (is_keyword x.sets key.next && not (is_after_keyword key.last)) (keyword_at x w.at && not (keyword_before x w.at))
    (λ i. k.keyword i && not (k.after i)) refl
atom-stands x w key k WordStop =
    standing w WordStop (is_after_keyword key.last && not (is_keyword x.sets key.next)) (keyword_before x w.at && not (keyword_at x w.at))
    (λ i. k.after i && not (k.keyword i)) refl
atom-stands x w key k MatchStart = standing w MatchStart true true refl refl
atom-stands x w key k MatchStop = standing w MatchStop true true refl refl
atom-stands x w key k _ = untold
