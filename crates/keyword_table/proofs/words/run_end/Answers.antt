use Rattle.std.proofs.Common.{sym, ◌∙◌, arith}
use Rattle.keyword_table.proofs.WordLaws.{has_at-within, run_length-more, run_length-none}
use Rattle.keyword_table.proofs.words.run_end.Goals as goal

pub loop-end-init : goal.loop-end-init
loop-end-init c =
    let more = run_length-more c.args.set.now c.args.line.now c.args.col c.requires in
    let within = has_at-within c.args.set.now c.args.line.now c.args.col c.requires in
    record { ahead = omega arith; inside = omega arith; run = omega arith }

pub loop-end-preserved : goal.loop-end-preserved
loop-end-preserved c =
    let has = sym c.has_at.ensures.has ∙ c.loop-end-test.true in
    let more = run_length-more c.args.set.now c.args.line.now c.loop-end.end has in
    let within = has_at-within c.args.set.now c.args.line.now c.loop-end.end has in
    let ahead = c.loop-end.invariant.ahead in
    let run = c.loop-end.invariant.run in
    record { ahead = omega arith; inside = omega arith; run = omega arith }

pub returns-clause-end : goal.returns-clause-end
returns-clause-end c =
    let none = run_length-none c.args.set.now c.args.line.now c.loop-end.end (sym c.has_at.ensures.has ∙ c.loop-end-test.false) in
    let run = c.loop-end.invariant.run in
    omega arith
