use Rattle.pattern_match.proofs.VainLaws.{decided}
use Rattle.pattern_match.proofs.vain.Vain.is_left_out.Goals as goal

pub returns-in_default : goal.returns-in_default
returns-in_default c = λ h. decided c.args.self.now c.in_default.not-LeftOut c.in_default.not-Noted
