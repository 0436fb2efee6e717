use Rattle.std.proofs.Common.{◌≡◌, ◌+◌, ℕ, IfSome, None, Some, Option, slice_get, length, List, nat_lt, arith, Bor, refl}
use Rattle.std.specs.Prelude.{is_some, slice_index_or}
use Rattle.std.proofs.lemmas.Bool.Decides.{nat_tests}
use Rattle.std.proofs.lemmas.Option.{slice_get_read}
use Rattle.std.specs.Option.{option_copied}
use Rattle.pattern_needs.specs.Nonblanks.{IsSecondOf}
use Rattle.pattern_needs.proofs.held.second_nonblank.Goals as goal

-- what a look-up gives stands there
found : (line : List ℕ) (at : ℕ) (o : Option (Bor ℕ)) → is_some o ≡ nat_lt at (length line) → IfSome o (λ x. x.now ≡ slice_index_or line at x.now) →
    (P : ℕ → Type 0) → ((c : ℕ) → slice_get line at ≡ Some c → P c) → IfSome (option_copied o) P
found line at None e h P f = tt
found line at (Some x) e h P f = f x.now (slice_get_read line (length line) at x.now refl (grind (arith, nat_tests, e)) h)

pub returns : goal.returns
returns c =
    let first = c.past_blanks-first.ensures in
    let second = c.past_blanks.ensures in
    let behind : c.in_ok-behind.behind ≡ c.past_blanks-first.result + 1 = c.in_ok-behind.ensures.1 in
    let copied : c.copied.result ≡ option_copied c.get.result = c.copied.ensures in
    rw copied (found c.args.line.now c.past_blanks.result c.get.result c.get.ensures.lookup.0 c.get.ensures.lookup.1 (IsSecondOf c.args.line.now) (λ d there. (
      c.past_blanks-first.result,
      (
        c.past_blanks.result,
        record {
          before = λ i e below. first.blanks i e (omega arith) below;
          nonblank = first.nonblank;
          later = omega (arith, behind, second.from);
          between = λ i e above below. second.blanks i e (omega (arith, behind, above)) below;
          there = there;
          too = second.nonblank d there;
        },
      ),
    )))
