use Rattle.std.proofs.Common.{◌≡◌, ◌<◌, ◌≤◌, ◌+◌, ◌-◌, ◌∙◌, ap, sym, arith}
use Rattle.std.proofs.lemmas.Bool.{cond-false, cond-true, le-ltb, lt-ltb}
use Rattle.syn_folds.specs.declared.rows.Row.TheVariants.{Closed}
use Rattle.syn_folds.proofs.rows.run_row.Goals as goal

pub returns-then-first-last : goal.returns-then-first-last
returns-then-first-last c =
    let two : 1 < c.args.last + 1 - c.args.first = omega arith in
    let end : c.args.last ≡ c.args.first + (c.args.last + 1 - c.args.first) - 1 = omega arith in
    ap (Closed c.args.first) end ∙ sym (cond-true _ _ _ (lt-ltb 1 (c.args.last + 1 - c.args.first) two))

pub returns-else-first-last : goal.returns-else-first-last
returns-else-first-last c =
    let one : c.args.last + 1 - c.args.first ≤ 1 = omega arith in
    sym (cond-false _ _ _ (le-ltb 1 (c.args.last + 1 - c.args.first) one))
