use Rattle.std.proofs.Common.{ℕ, ◌<◌, ◌∙◌, refl, sym, subst}
use Rattle.edit_session.specs.Session.{carries_out, refuses}
use Rattle.edit_session.specs.Steps.{standing}
use Rattle.edit_session.proofs.CauseLaws.{carries_meet_none, carries_unharmed, unharmed_by}
use Rattle.edit_session.proofs.FitLaws.{fits_text}
use Rattle.edit_session.proofs.commands.Commands.obey.Goals as goal

pub carry_out-requires : goal.carry_out-requires
carry_out-requires g c =
    record { some = subst (λ (n : ℕ). 0 < n) c.len.ensures.count c.len.ensures.some; fits = fits_text c.args.command (g.D.Lines.lines c.args.self.now.document) c.len.result c.in-Ok.resolved c.requires.other c.len.ensures.count (sym c.resolve.ensures.resolved ∙ c.in-Ok.is) }

pub returns-in-Ok-clause-unharmed : goal.returns-in-Ok-clause-unharmed
returns-in-Ok-clause-unharmed g c =
    let s = standing g.D.Lines.lines g.D.Document.shown g.D.Document.painter c.args.self.now in
    let now = standing g.D.Lines.lines g.D.Document.shown g.D.Document.painter c.carry_out.new.self in
    unharmed_by _ c.carry_out.result s now (carries_out s c.args.line c.args.command c.in-Ok.resolved) c.carry_out.ensures.answer (carries_unharmed s c.args.line c.args.command c.in-Ok.resolved) (carries_meet_none s c.args.line c.args.command c.in-Ok.resolved)

pub returns-in_ok-cause-in-Err-clause-unharmed : goal.returns-in_ok-cause-in-Err-clause-unharmed
returns-in_ok-cause-in-Err-clause-unharmed g c =
    let s = standing g.D.Lines.lines g.D.Document.shown g.D.Document.painter c.args.self.now in
    let now = standing g.D.Lines.lines g.D.Document.shown g.D.Document.painter c.refuse.new.self in
    unharmed_by _ c.refuse.result s now (refuses s c.args.line c.as_slice.result.now) c.refuse.ensures.answer (λ none. absurd (cc)) refl
