use Rattle.std.proofs.Common.{arith}
use Rattle.ex_substitute.proofs.SecondLaws.{no-second-step}
use Rattle.ex_substitute.proofs.seconds.seconds_of.Goals as goal

pub loop-code-init : goal.loop-code-init
loop-code-init c = λ code less out. absurd (omega (arith, less))

pub loop-code-preserved : goal.loop-code-preserved
loop-code-preserved c = no-second-step _ c.loop-code.codes c.set.new.self c.loop-code.code c.is_no_second.result c.set.ensures c.is_no_second.ensures c.loop-code.invariant

pub returns : goal.returns
returns c = λ code less out. c.loop-code.invariant code (omega arith) out

pub returns-2 : goal.returns-2
returns-2 c = λ code less out.
    no-second-step _ c.loop-code.codes c.set.new.self c.loop-code.code c.is_no_second.result c.set.ensures c.is_no_second.ensures c.loop-code.invariant code (omega arith) out
