use Rattle.std.proofs.Common.{◌∙◌, sym}
use Rattle.ex_substitute.proofs.CandidateLaws.{follow-vain, in-vain}
use Rattle.ex_substitute.proofs.trying.Trying.is_candidate.Goals as goal

pub returns-then-not-may_begin_at : goal.returns-then-not-may_begin_at
returns-then-not-may_begin_at c = λ _. in-vain c.first_screens_are_sound.ensures.sound c.args.self.now c.args.line.now c.args.col (sym c.if-not-may_begin_at.ensures)

pub returns : goal.returns
returns c = λ e. follow-vain c.failures_are_sound.ensures.before c.args.self.now c.args.seconds.now c.args.line.now c.args.col c.requires.seconds (sym c.may_follow_at.ensures ∙ e)
