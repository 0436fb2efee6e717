use Rattle.std.proofs.Common.{arith}
use Rattle.std.proofs.lemmas.Bool.Decides.{nat_tests}
use Rattle.pattern_needs.proofs.HeldLaws.{has_bit-apart}
use Rattle.pattern_needs.proofs.characters.have_common.Goals as goal

pub returns : goal.returns
returns c e k = has_bit-apart c.args.a.now c.args.b.now k (grind (arith, nat_tests, e))
