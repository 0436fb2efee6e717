use Rattle.std.proofs.Common.{ℕ, ◌+◌, ◌<◌, Bool, ◌&&◌, ◌||◌, eqb, ap, ◌∙◌, arith}
use Rattle.char_class.specs.Bits.{has_code}
use Rattle.match_rules.specs.Collections.{part_holds}
use Rattle.pattern_match.proofs.TableLaws.{none_before, all_in, one_more}
use Rattle.pattern_match.proofs.tables.add_part.Goals as goal

pub loop-code-init : goal.loop-code-init
loop-code-init c = λ k within.
    none_before (λ d. part_holds c.args.part d c.args.sets.now c.args.ignore) _ _ k _ (c.bounds-low.ensures c.args.sets.now) within

pub returns : goal.returns
returns c = λ k within.
    let holds : ℕ → Bool = λ d. part_holds c.args.part d c.args.sets.now c.args.ignore in
    c.loop-code.invariant k within
    ∙ all_in holds _ c.bounds-low.result.high c.loop-code.code k _ (c.bounds-low.ensures c.args.sets.now) within (omega (arith, c.loop-code-test.false))

pub returns-2 : goal.returns-2
returns-2 c = λ k within.
    let holds : ℕ → Bool = λ d. part_holds c.args.part d c.args.sets.now c.args.ignore in
    let code = c.loop-code.code in
    let old = has_code c.args.codes.now k in
    let past : c.bounds-low.result.high < code + 1 = omega arith in
    c.add_code.ensures k
    ∙ ap (λ b. c.part_has.result && eqb k code || b) (c.loop-code.invariant k within)
    ∙ one_more holds c.part_has.result old k code (c.part_has.ensures ∙ ap holds c.from.ensures)
    ∙ all_in holds _ c.bounds-low.result.high (code + 1) k old (c.bounds-low.ensures c.args.sets.now) within past
