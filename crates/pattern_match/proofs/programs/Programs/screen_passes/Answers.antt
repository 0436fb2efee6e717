use Rattle.std.proofs.Common.{sym, ◌∙◌}
use Rattle.pattern_match.proofs.ScreenLaws.{vain_at}
use Rattle.pattern_match.proofs.programs.Programs.screen_passes.Goals as goal

pub returns-clause-vain : goal.returns-clause-vain
returns-clause-vain c tree added fails =
    vain_at tree c.args.context.now c.args.line.now c.args.col (sym (c.lets_through.ensures tree added) ∙ fails)
