use Rattle.std.proofs.Common.{length, subst}
use Rattle.edit_script.specs.declared.commands.Resolved.{Resolved}
use Rattle.edit_script.specs.declared.commands.Resolved.TheVariants.{CopyTo, Move}
use Rattle.edit_session.specs.Steps.{FitsText}
use Rattle.edit_session.proofs.FitLaws.{some_copied, some_moved}
use Rattle.edit_session.proofs.commands.Commands.carry_out.Goals as goal

pub edit-requires-in-Move-clause-some : goal.edit-requires-in-Move-clause-some
edit-requires-in-Move-clause-some g c =
    let text = g.D.Lines.lines c.args.self.now.document in
    let P : Resolved → Type 0 = FitsText (length text) (length c.args.command.lines) in
    let fits : P (Move c.in-Move.a c.in-Move.b c.in-Move.dest) = subst P c.in-Move.is c.requires.fits in
    some_moved text c.in-Move.a c.in-Move.b c.in-Move.dest c.in_ok-made-in-Move.made c.in_ok-made-in-Move.ensures fits.0 fits.1 fits.2 c.requires.some

pub edit-requires-in-CopyTo-clause-some : goal.edit-requires-in-CopyTo-clause-some
edit-requires-in-CopyTo-clause-some g c =
    let text = g.D.Lines.lines c.args.self.now.document in
    let P : Resolved → Type 0 = FitsText (length text) (length c.args.command.lines) in
    let fits : P (CopyTo c.in-CopyTo.a c.in-CopyTo.b c.in-CopyTo.dest) = subst P c.in-CopyTo.is c.requires.fits in
    some_copied text c.in-CopyTo.a c.in-CopyTo.b c.in-CopyTo.dest c.in_ok-made-in-CopyTo.made c.in_ok-made-in-CopyTo.ensures fits.2 c.requires.some
