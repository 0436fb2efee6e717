use Rattle.std.proofs.Common.{◌+◌, refl}
use Rattle.edit_session.proofs.LineLaws.{printed_in_range}
use Rattle.edit_session.proofs.commands.push_range.Goals as goal

pub loop-number-preserved : goal.loop-number-preserved
loop-number-preserved g c =
    printed_in_range (g.D.Document.painter c.args.document.now) (g.D.Document.shown c.args.document.now) c.loop-number.number (c.loop-number.number + 1) c.args.b _ c.loop-number.out.items c.print_line.new.out.items
    c.loop-number-test.true refl c.loop-number.invariant c.in_ok-print_line.ensures
