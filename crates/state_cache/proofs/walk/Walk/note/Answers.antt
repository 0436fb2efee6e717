use Rattle.std.proofs.Common.{ap, sym, subst, ◌∙◌, Ok}
use Rattle.paint_shift.proofs.Elsewhere.{lines_are_painted_alike}
use Rattle.paint_reuse.specs.Kept.{KeptNote}
use Rattle.state_cache.specs.Brushes.{items_by, rules_by}
use Rattle.state_cache.specs.Notes.{NoteFits}
use Rattle.state_cache.proofs.walk.Walk.note.Goals as goal

pub returns-in_ok-copy-in-Some-clause-noted : goal.returns-in_ok-copy-in-Some-clause-noted
returns-in_ok-copy-in-Some-clause-noted g c =
    let syntax = c.args.brush.now.syntax.now in
    let alike = lines_are_painted_alike syntax.items (syntax.clusters).lists syntax.keywords syntax.sets c.args.brush.now.budget in
    c.in-Some.ensures.noted (rules_by c.args.brush.now) alike c.requires.walks ∙ ap (λ (n : KeptNote). Ok n) (sym c.in_ok-copy-in-Some.ensures)

pub returns-in_ok-copy-in-Some-clause-fits : goal.returns-in_ok-copy-in-Some-clause-fits
returns-in_ok-copy-in-Some-clause-fits g c =
    let fits = c.in-Some.ensures.fits (items_by c.args.brush.now) c.requires.stands.notes in
    subst (NoteFits (items_by c.args.brush.now)) (sym c.in_ok-copy-in-Some.ensures) fits
