-- The matches are few enough: each ends behind the one before.
use Rattle.std.proofs.Common.{◌≡◌, ◌<◌, ◌≤◌, ◌+◌, ◌-◌, ℕ, zero, suc, Bool, true, false, ◌&&◌, ◌||◌, not, nat_lt, nat_eq, List, [], ◌∷◌, ◌++◌, length, ap, refl, sym, ◌∙◌, subst, arith, inl, inr, append_assoc, append-nil}
use Rattle.std.specs.Prelude.{Option, Some, None, IfSome, ◌⊎◌, Result, Ok, Err}
use Rattle.std.proofs.lemmas.Bool.Decides.{nat_tests}
use Rattle.syn_base.specs.declared.places.Place.{Place}
use Rattle.match_rules.specs.Ways.{Text, line_at}
use Rattle.match_rules.specs.OnText.{IsStretchOf}
use Rattle.pattern_match.specs.declared.answer.Match.{Match}
use Rattle.pattern_match.specs.OnText.{IsFoundOn}
use Rattle.ex_substitute.specs.declared.error.ExError.{ExError}
use Rattle.ex_substitute.specs.declared.refusal.Refusal.{Refusal}
use Rattle.ex_substitute.specs.declared.searching.Scope.{Scope}
use Rattle.ex_substitute.specs.Answers.{◌>>=◌, FailsAs}
use Rattle.ex_substitute.specs.Searching.{is_behind, is_taken, line_from, next_after, places_from, places_count, found_from, replacements}
use Rattle.ex_substitute.specs.Trying.{Trial, first_of}
use Rattle.ex_substitute.proofs.AnswerLaws.{fails-on, joined_to}
use Rattle.ex_substitute.proofs.TryLaws.{found-counts}

-- ---- how many places stand behind one

abbrev pub left : Text → ℕ → ℕ → ℕ
left [] line col = 0
left (l ∷ text) zero col = length l - col + places_count text
left (l ∷ text) (suc line) col = left text line col

abbrev pub left_of : Text → Option Place → ℕ
left_of text None = places_count text
left_of text (Some p) = left text p.line p.col

left-below : (text : Text) (line col : ℕ) → left text line col < places_count text
left-below [] line col = omega arith
left-below (l ∷ text) zero col = omega arith
left-below (l ∷ text) (suc line) col = omega (arith, left-below text line col)

falls-by-line : (text : Text) (line col later c : ℕ) → line < later → later ≤ length text → left text later c < left text line col
falls-by-line [] line col later c h l = absurd (omega arith)
falls-by-line (x ∷ text) zero col zero c h l = absurd (omega arith)
falls-by-line (x ∷ text) zero col (suc later) c h l = omega (arith, left-below text later c)
falls-by-line (x ∷ text) (suc line) col zero c h l = absurd (omega arith)
falls-by-line (x ∷ text) (suc line) col (suc later) c h l = falls-by-line text line col later c (omega arith) (omega arith)

falls-by-column : (text : Text) (line col c : ℕ) → col < c → c ≤ length (line_at text line) → left text line c < left text line col
falls-by-column [] line col c h l = absurd (omega arith)
falls-by-column (x ∷ text) zero col c h l = omega arith
falls-by-column (x ∷ text) (suc line) col c h l = falls-by-column text line col c h l

-- a match that is taken behind an end doesn't end there
ends-behind : (el ec fl fc tl tc : ℕ) →
    (not (nat_lt fl el || (nat_eq fl el && nat_lt fc ec)) && not ((nat_eq fl tl && nat_eq fc tc) && (nat_eq fl el && nat_eq fc ec))) ≡ true →
    (nat_lt tl fl || (nat_eq tl fl && nat_lt tc fc)) ≡ false →
    (el < tl) ⊎ ((el ≡ tl) × (ec < tc))
ends-behind el ec fl fc tl tc taken ordered = grind (arith, nat_tests)

and-second : (a b : Bool) → (a && b) ≡ true → b ≡ true
and-second true b e = e
and-second false b e = absurd (cc)

falls-by : (text : Text) (e p : Place) → p.line ≤ length text → p.col ≤ length (line_at text p.line) → (e.line < p.line) ⊎ ((e.line ≡ p.line) × (e.col < p.col)) →
    left text p.line p.col < left text e.line e.col
falls-by text e p l c (inl later) = falls-by-line text e.line e.col p.line p.col later l
falls-by text e p l c (inr further) =
    subst (λ (line : ℕ). left text p.line p.col < left text line e.col) (sym further.0) (falls-by-column text p.line e.col p.col further.1 c)

-- fewer places stand behind a match's end than behind the end before
falls-behind : (text : Text) (end : Option Place) (m : Match) → is_behind end m ≡ true → IsStretchOf text m.from m.to → left text m.to.line m.to.col < left_of text end
falls-behind text None m taken on = left-below text m.to.line m.to.col
falls-behind text (Some e) m taken on =
    falls-by text e m.to on.ends.line on.ends.col (ends-behind e.line e.col m.from.line m.from.col m.to.line m.to.col taken on.in_order)

pub falls : (t : Trial) (end : Option Place) (m : Match) (places : List Place) → first_of t (is_taken end) places ≡ Ok (Some m) → IsFoundOn t.x.text m →
    left t.x.text m.to.line m.to.col < left_of t.x.text end
falls t end m places found on =
    let counted = found-counts t (is_taken end) m places found in
    falls-behind t.x.text end m (and-second (nat_eq m.from.line counted.0.line) (is_behind end m) counted.1) on.whole

-- ---- the matches so far, with those to come, are all

pub record Stands (t : Trial) (scope : Scope) (all : Result (List Match) ExError) (found : List Match) (end at : Option Place) : Type 0 where
  pub room : ℕ
  pub enough : left_of t.x.text end < room
  pub all_found : joined_to found (found_from t scope room end at) ≡ all

-- what is found from a place on, by its first match
abbrev pub after_first : Trial → Scope → ℕ → Result (Option Match) ExError → Result (List Match) ExError
after_first t scope room told = told >>= λ found. elim found [
  | None ↦ Ok []
  | Some m ↦ (found_from t scope room (Some m.to) (next_after t.x.text scope m) >>= λ more. Ok (m ∷ more))
]

joined-step : {A : Type 0} (before : List A) (x : A) (more : Result (List A) ExError) → joined_to (before ++ x ∷ []) more ≡ joined_to before (more >>= λ rest. Ok (x ∷ rest))
joined-step {A} before x (Ok rest) = ap (λ (l : List A). let r : Result (List A) ExError = Ok l in r) (append_assoc before (x ∷ []) rest)
joined-step before x (Err e) = refl

pub begins : (t : Trial) (scope : Scope) (a : ℕ) (at : Option Place) → at ≡ line_from scope a → Stands t scope (replacements t scope a) [] None at
begins t scope a at e = record {
  room = places_count t.x.text + 1;
  enough = omega arith;
  all_found = joined-nil (found_from t scope (places_count t.x.text + 1) None at) ∙ ap (λ p. found_from t scope (places_count t.x.text + 1) None p) e;
}
  where
    joined-nil : {A : Type 0} (r : Result (List A) ExError) → joined_to [] r ≡ r
    joined-nil (Ok l) = refl
    joined-nil (Err e) = refl

-- with some room, the first match decides
by-first : (t : Trial) (scope : Scope) (n room : ℕ) (end at : Option Place) → n < room →
    (less : ℕ) × (room ≡ suc less) × (found_from t scope room end at ≡ after_first t scope less (first_of t (is_taken end) (places_from t.x.text scope at)))
by-first t scope n zero end at h = absurd (omega arith)
by-first t scope n (suc less) end at h = (less, refl, refl)

pub stands-next : (t : Trial) (scope : Scope) (all : Result (List Match) ExError) (found : List Match) (end at : Option Place) (m : Match) →
    Stands t scope all found end at → first_of t (is_taken end) (places_from t.x.text scope at) ≡ Ok (Some m) → IsFoundOn t.x.text m →
    Stands t scope all (found ++ m ∷ []) (Some m.to) (next_after t.x.text scope m)
stands-next t scope all found end at m s e on =
    let first = by-first t scope (left_of t.x.text end) s.room end at s.enough in
    let fewer : left t.x.text m.to.line m.to.col < left_of t.x.text end = falls t end m (places_from t.x.text scope at) e on in
    let enough : left_of t.x.text end < s.room = s.enough in
    let room : s.room ≡ suc first.0 = first.1 in
    record {
      room = first.0;
      enough = omega arith;
      all_found = joined-step found m (found_from t scope first.0 (Some m.to) (next_after t.x.text scope m))
          ∙ sym (ap (λ r. joined_to found r) (first.2 ∙ ap (λ told. after_first t scope first.0 told) e)) ∙ s.all_found;
    }

pub stands-none : (t : Trial) (scope : Scope) (all : Result (List Match) ExError) (found : List Match) (end at : Option Place) →
    Stands t scope all found end at → first_of t (is_taken end) (places_from t.x.text scope at) ≡ Ok None → all ≡ Ok found
stands-none t scope all found end at s e =
    let first = by-first t scope (left_of t.x.text end) s.room end at s.enough in
    sym s.all_found ∙ ap (λ r. joined_to found r) (first.2 ∙ ap (λ told. after_first t scope first.0 told) e)
    ∙ ap (λ (l : List Match). let r : Result (List Match) ExError = Ok l in r) (append-nil found)

pub stands-refused : (t : Trial) (scope : Scope) (all : Result (List Match) ExError) (found : List Match) (end at : Option Place) (e : Refusal) →
    Stands t scope all found end at → FailsAs e (first_of t (is_taken end) (places_from t.x.text scope at)) → FailsAs e all
stands-refused t scope all found end at e s =
    let first = by-first t scope (left_of t.x.text end) s.room end at s.enough in
    fails-on e (first_of t (is_taken end) (places_from t.x.text scope at)) all
    (λ cause told. sym s.all_found ∙ ap (λ r. joined_to found r) (first.2 ∙ ap (λ r. after_first t scope first.0 r) told))

pub stands-nowhere : (t : Trial) (scope : Scope) (all : Result (List Match) ExError) (found : List Match) (end at : Option Place) →
    Stands t scope all found end at → at ≡ None → all ≡ Ok found
stands-nowhere t scope all found end at s none =
    stands-none t scope all found end at s (ap (λ (p : Option Place). first_of t (is_taken end) (places_from t.x.text scope p)) none)

-- a place of the range is one of the text
pub within-text : (n b : ℕ) (at : Option Place) → b ≤ n → IfSome at (λ p. p.line < b) → IfSome at (λ p. p.line < n)
within-text n b None h at = at
within-text n b (Some p) h at = omega arith
