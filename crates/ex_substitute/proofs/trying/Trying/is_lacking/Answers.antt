use Rattle.std.proofs.Common.{◌∙◌, sym}
use Rattle.ex_substitute.proofs.CandidateLaws.{lacking-vain, need-of}
use Rattle.ex_substitute.proofs.trying.Trying.is_lacking.Goals as goal

pub returns-in-Some : goal.returns-in-Some
returns-in-Some c = λ e.
    lacking-vain c.needs_are_sound.ensures c.args.self.now c.in-Some.needs c.args.line.now c.args.col
    (need-of (record { tree = c.self.inside.command.now.tree; context = c.self.inside.context; budget = c.self.inside.budget }) c.args.self.now c.self.inside.needs c.in-Some.needs c.self.invariant.1 c.in-Some.is c.self.view_is)
    (sym c.are_lacked.ensures ∙ e)
