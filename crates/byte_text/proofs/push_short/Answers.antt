use Rattle.std.proofs.Common.{◌≡◌, ◌+◌, ◌++◌, ◌/◌, ◌%◌, ◌<◌, ◌≤◌, ◌∙◌, [], ◌∷◌, ap, arith, rules}
use Rattle.std.proofs.lemmas.Bool.Decides.{nat_tests}
use Rattle.std.proofs.lemmas.Fmt.{decimal_digit, decimal_step}
use Rattle.byte_text.proofs.push_short.Goals as goal

pub returns-then-number-lt10 : goal.returns-then-number-lt10
returns-then-number-lt10 c =
    let n = c.args.number in
    let small : n < 10 = grind (arith, nat_tests, c.if-number-lt10.true) in
    let same : n ≡ n % 10 = omega arith in
    rw (decimal_digit n small ∙ ap (λ d. (48 + d) ∷ []) same) (search rules)

pub returns : goal.returns
returns c =
    let n = c.args.number in
    let large : 10 ≤ n = grind (arith, nat_tests, c.if-number-lt10.false) in
    rw (decimal_step n large (omega (arith, c.requires)) ∙ ap (λ d. d ++ ((48 + n % 10) ∷ [])) (decimal_digit (n / 10) (omega (arith, c.requires))))
    (search rules)
