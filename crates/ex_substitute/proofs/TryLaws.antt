-- One place after the other.
use Rattle.std.proofs.Common.{◌≡◌, ◌<◌, ◌≤◌, ◌+◌, ◌-◌, ℕ, suc, Bool, true, false, List, [], ◌∷◌, ◌++◌, ap, refl, sym, ◌∙◌, arith, cond, nat_lt}
use Rattle.std.specs.Prelude.{Option, Some, None, is_some, Result, Ok, Err}
use Rattle.syn_base.specs.declared.places.Place.{Place}
use Rattle.match_rules.specs.Ways.{Text, place}
use Rattle.std.proofs.lemmas.Bool.Decides.{nat_tests}
use Rattle.match_rules.specs.Attempt.{attempt}
use Rattle.pattern_match.specs.declared.answer.Match.{Match}
use Rattle.pattern_match.specs.declared.answer.Attempt.TheVariants.{TooCostly}
use Rattle.pattern_match.specs.Answers.{found_or_absent}
use Rattle.ex_substitute.specs.declared.error.ExError.{ExError}
use Rattle.ex_substitute.specs.declared.refusal.Refusal.{Refusal}
use Rattle.ex_substitute.specs.Answers.{◌>>=◌, FailsAs}
use Rattle.ex_substitute.specs.Trying.{Trial, Counts, told_at, tried, columns, places_in, places_of, first_of, is_counted_by}
use Rattle.ex_substitute.proofs.AnswerLaws.{fails-on}

pub columns-step : (line at end : ℕ) → at < end → columns line at (end - at) ≡ place line at ∷ columns line (at + 1) (end - (at + 1))
columns-step line at end h = let e : end - at ≡ suc (end - (at + 1)) = omega arith in ap (λ n. columns line at n) e

pub columns-end : (line at end : ℕ) → end ≤ at → columns line at (end - at) ≡ []
columns-end line at end h = let e : end - at ≡ 0 = omega arith in ap (λ n. columns line at n) e

-- what follows a first attempt
abbrev pub then_on : Trial → Counts → Place → List Place → Result (Option Match) ExError → Result (Option Match) ExError
then_on t counts p places told = told >>= λ found. elim (is_counted_by counts p found) [ true ↦ Ok found | false ↦ first_of t counts places ]

at-place : (t : Trial) (counts : Counts) (line at end : ℕ) → at < end →
    first_of t counts (columns line at (end - at)) ≡ then_on t counts (place line at) (columns line (at + 1) (end - (at + 1))) (tried t (place line at))
at-place t counts line at end h = ap (λ places. first_of t counts places) (columns-step line at end h)

counted-or : (t : Trial) (counts : Counts) (p : Place) (places : List Place) (found : Option Match) (b : Bool) → is_counted_by counts p found ≡ b →
    then_on t counts p places (Ok found) ≡ elim b [ true ↦ Ok found | false ↦ first_of t counts places ]
counted-or t counts p places found b e = ap (λ (c : Bool). let r : Result (Option Match) ExError = elim c [ true ↦ Ok found | false ↦ first_of t counts places ] in r) e

pub passed-over : (t : Trial) (counts : Counts) (line at end : ℕ) (found : Option Match) → at < end → tried t (place line at) ≡ Ok found → is_counted_by counts (place line at) found ≡ false →
    first_of t counts (columns line at (end - at)) ≡ first_of t counts (columns line (at + 1) (end - (at + 1)))
passed-over t counts line at end found h e uncounted =
    at-place t counts line at end h ∙ ap (λ told. then_on t counts (place line at) (columns line (at + 1) (end - (at + 1))) told) e
    ∙ counted-or t counts (place line at) (columns line (at + 1) (end - (at + 1))) found false uncounted

pub found-here : (t : Trial) (counts : Counts) (line at end : ℕ) (found : Option Match) → at < end → tried t (place line at) ≡ Ok found → is_counted_by counts (place line at) found ≡ true →
    first_of t counts (columns line at (end - at)) ≡ Ok found
found-here t counts line at end found h e counted =
    at-place t counts line at end h ∙ ap (λ told. then_on t counts (place line at) (columns line (at + 1) (end - (at + 1))) told) e
    ∙ counted-or t counts (place line at) (columns line (at + 1) (end - (at + 1))) found true counted

pub costly-here : (t : Trial) (counts : Counts) (line at end : ℕ) (cause : ExError) → at < end → tried t (place line at) ≡ Err cause →
    first_of t counts (columns line at (end - at)) ≡ Err cause
costly-here t counts line at end cause h e =
    at-place t counts line at end h ∙ ap (λ told. then_on t counts (place line at) (columns line (at + 1) (end - (at + 1))) told) e

pub none-left : (t : Trial) (counts : Counts) (line at end : ℕ) → end ≤ at → first_of t counts (columns line at (end - at)) ≡ Ok None
none-left t counts line at end h = ap (λ places. first_of t counts places) (columns-end line at end h)

-- where an attempt is refused, so is the search
pub refused-here : (t : Trial) (counts : Counts) (line at end : ℕ) (all : Result (Option Match) ExError) (e : Refusal) → at < end →
    first_of t counts (columns line at (end - at)) ≡ all → FailsAs e (tried t (place line at)) → FailsAs e all
refused-here t counts line at end all e h rest = fails-on e (tried t (place line at)) all (λ cause told. sym rest ∙ costly-here t counts line at end cause h told)

-- ---- one list of places after the other

abbrev pub or_else : Result (Option Match) ExError → Result (Option Match) ExError → Result (Option Match) ExError
or_else (Ok None) more = more
or_else (Ok (Some m)) more = Ok (Some m)
or_else (Err e) more = Err e

match-or-else : (t : Trial) (counts : Counts) (m : Match) (places others : List Place) (b : Bool) →
    first_of t counts (places ++ others) ≡ or_else (first_of t counts places) (first_of t counts others) →
    (let all : Result (Option Match) ExError = elim b [ true ↦ Ok (Some m) | false ↦ first_of t counts (places ++ others) ] in all)
    ≡ or_else (elim b [ true ↦ Ok (Some m) | false ↦ first_of t counts places ]) (first_of t counts others)
match-or-else t counts m places others true same = refl
match-or-else t counts m places others false same = same

told-or-else : (t : Trial) (counts : Counts) (p : Place) (places others : List Place) (told : Result (Option Match) ExError) →
    first_of t counts (places ++ others) ≡ or_else (first_of t counts places) (first_of t counts others) →
    then_on t counts p (places ++ others) told ≡ or_else (then_on t counts p places told) (first_of t counts others)
told-or-else t counts p places others (Ok None) same = same
told-or-else t counts p places others (Ok (Some m)) same = match-or-else t counts m places others (counts p m) same
told-or-else t counts p places others (Err e) same = refl

pub first-of-both : (t : Trial) (counts : Counts) (places others : List Place) →
    first_of t counts (places ++ others) ≡ or_else (first_of t counts places) (first_of t counts others)
first-of-both t counts [] others = refl
first-of-both t counts (p ∷ places) others = told-or-else t counts p places others (tried t p) (first-of-both t counts places others)

or-else-none : (found : Option Match) (more : Result (Option Match) ExError) → is_some found ≡ false → or_else (Ok found) more ≡ more
or-else-none None more e = refl
or-else-none (Some m) more e = absurd (cc)

or-else-some : (found : Option Match) (more : Result (Option Match) ExError) → is_some found ≡ true → or_else (Ok found) more ≡ Ok found
or-else-some None more e = absurd (cc)
or-else-some (Some m) more e = refl

pub none-first : (t : Trial) (counts : Counts) (places others : List Place) (found : Option Match) → first_of t counts places ≡ Ok found → is_some found ≡ false →
    first_of t counts (places ++ others) ≡ first_of t counts others
none-first t counts places others found e none =
    first-of-both t counts places others ∙ ap (λ r. or_else r (first_of t counts others)) e ∙ or-else-none found (first_of t counts others) none

pub some-first : (t : Trial) (counts : Counts) (places others : List Place) (found : Option Match) → first_of t counts places ≡ Ok found → is_some found ≡ true →
    first_of t counts (places ++ others) ≡ Ok found
some-first t counts places others found e some =
    first-of-both t counts places others ∙ ap (λ r. or_else r (first_of t counts others)) e ∙ or-else-some found (first_of t counts others) some

pub refused-first : (t : Trial) (counts : Counts) (places others : List Place) (all : Result (Option Match) ExError) (e : Refusal) →
    first_of t counts (places ++ others) ≡ all → FailsAs e (first_of t counts places) → FailsAs e all
refused-first t counts places others all e same = fails-on e (first_of t counts places) all
    (λ cause told. sym same ∙ first-of-both t counts places others ∙ ap (λ r. or_else r (first_of t counts others)) told)

-- ---- one line after the other

pub line-after-line : (text : Text) (line b : ℕ) → line < b → places_of text line (b - line) ≡ places_in text line 0 ++ places_of text (line + 1) (b - (line + 1))
line-after-line text line b h = let e : b - line ≡ suc (b - (line + 1)) = omega arith in ap (λ n. places_of text line n) e

pub no-line : (text : Text) (line b : ℕ) → b ≤ line → places_of text line (b - line) ≡ []
no-line text line b h = let e : b - line ≡ 0 = omega arith in ap (λ n. places_of text line n) e

pub line-passed : (t : Trial) (counts : Counts) (line b : ℕ) (found : Option Match) → line < b → first_of t counts (places_in t.x.text line 0) ≡ Ok found → is_some found ≡ false →
    first_of t counts (places_of t.x.text line (b - line)) ≡ first_of t counts (places_of t.x.text (line + 1) (b - (line + 1)))
line-passed t counts line b found h e none =
    ap (λ places. first_of t counts places) (line-after-line t.x.text line b h)
    ∙ none-first t counts (places_in t.x.text line 0) (places_of t.x.text (line + 1) (b - (line + 1))) found e none

pub found-in-line : (t : Trial) (counts : Counts) (line b : ℕ) (found : Option Match) → line < b → first_of t counts (places_in t.x.text line 0) ≡ Ok found → is_some found ≡ true →
    first_of t counts (places_of t.x.text line (b - line)) ≡ Ok found
found-in-line t counts line b found h e some =
    ap (λ places. first_of t counts places) (line-after-line t.x.text line b h)
    ∙ some-first t counts (places_in t.x.text line 0) (places_of t.x.text (line + 1) (b - (line + 1))) found e some

pub refused-in-line : (t : Trial) (counts : Counts) (line b : ℕ) (all : Result (Option Match) ExError) (e : Refusal) → line < b →
    first_of t counts (places_of t.x.text line (b - line)) ≡ all → FailsAs e (first_of t counts (places_in t.x.text line 0)) → FailsAs e all
refused-in-line t counts line b all e h same =
    refused-first t counts (places_in t.x.text line 0) (places_of t.x.text (line + 1) (b - (line + 1))) all e
    (sym (ap (λ places. first_of t counts places) (line-after-line t.x.text line b h)) ∙ same)

pub no-line-left : (t : Trial) (counts : Counts) (line b : ℕ) → b ≤ line → first_of t counts (places_of t.x.text line (b - line)) ≡ Ok None
no-line-left t counts line b h = ap (λ places. first_of t counts places) (no-line t.x.text line b h)

-- ---- a match that is found counts

counts-here : (t : Trial) (counts : Counts) (m k : Match) (p : Place) (places : List Place) (b : Bool) → counts p k ≡ b →
    (let all : Result (Option Match) ExError = elim b [ true ↦ Ok (Some k) | false ↦ first_of t counts places ] in all) ≡ Ok (Some m) →
    (first_of t counts places ≡ Ok (Some m) → (q : Place) × (counts q m ≡ true)) → (q : Place) × (counts q m ≡ true)
counts-here t counts m k p places true e same on = (p, sym (ap (λ (f : Match). counts p f) (let eq : k ≡ m = cc in eq)) ∙ e)
counts-here t counts m k p places false e same on = on same

told-counts : (t : Trial) (counts : Counts) (m : Match) (p : Place) (places : List Place) (told : Result (Option Match) ExError) →
    then_on t counts p places told ≡ Ok (Some m) →
    (first_of t counts places ≡ Ok (Some m) → (q : Place) × (counts q m ≡ true)) → (q : Place) × (counts q m ≡ true)
told-counts t counts m p places (Ok None) same on = on same
told-counts t counts m p places (Ok (Some k)) same on = counts-here t counts m k p places (counts p k) refl same on
told-counts t counts m p places (Err e) same on = absurd (cc)

pub found-counts : (t : Trial) (counts : Counts) (m : Match) (places : List Place) → first_of t counts places ≡ Ok (Some m) → (q : Place) × (counts q m ≡ true)
found-counts t counts m [] same = absurd (cc)
found-counts t counts m (p ∷ places) same = told-counts t counts m p places (tried t p) same (found-counts t counts m places)

-- ---- an attempt that is passed over

pub vain-tried : (t : Trial) (p : Place) → (attempt t.tree t.x p).way ≡ None → (attempt t.tree t.x p).cost ≤ t.budget → tried t p ≡ Ok None
vain-tried t p none cheap =
    let a = attempt t.tree t.x p in
    let within : nat_lt t.budget a.cost ≡ false = grind (arith, nat_tests) in
    ap (λ b. told_at p (cond b TooCostly (found_or_absent t.x.text p a a.way))) within ∙ ap (λ w. told_at p (found_or_absent t.x.text p a w)) none
