use Rattle.std.proofs.Common.{ℕ, ◌+◌, ◌<◌, ◌&&◌, not, cond, eqb, ap, ◌∙◌, arith}
use Rattle.char_class.specs.SoFar.{bounds_of}
use Rattle.char_class.specs.Bits.{has_bit}
use Rattle.char_class.specs.OptionValue.{is_named}
use Rattle.char_class.proofs.SetLaws.{members_in-applied, one_more_code}
use Rattle.char_class.proofs.char_set.CharSet.apply.Goals as goal

pub returns : goal.returns
returns c =
    let done : (bounds_of c.args.part.members).1 < c.loop-code.code = rw (← c.bounds-low.ensures) c.loop-code-test.false in
    rw (← c.self.view_is) (members_in-applied _ _ c.args.part c.loop-code.code c.loop-code.invariant done)

pub returns-2 : goal.returns-2
returns-2 c =
    let part = c.args.part in
    let old = c.self.inside.codes.words in
    let code = c.loop-code.code in
    let done : (bounds_of part.members).1 < code + 1 = rw (← c.bounds-low.ensures) (omega arith) in
    let changed = λ (k : ℕ). c.apply_to.ensures k
    ∙ ap (λ b. cond (is_named part.members k && eqb k code) (not part.taken_out) b) (c.loop-code.invariant k)
    ∙ one_more_code (is_named part.members k) (not part.taken_out) (has_bit old k) k code in
    rw (← c.self.view_is) (members_in-applied old _ part (code + 1) changed done)
