use Rattle.std.proofs.Common.{arith, ap}
use Rattle.std.proofs.lemmas.List.Elements.{All-push}
use Rattle.paint_reuse.specs.Reuse.{one_unless}
use Rattle.paint_reuse.proofs.Steps.{new_is_none}
use Rattle.state_stack.specs.TopFirst.{top_first}
use Rattle.state_cache.specs.Edits.{change_by, items_of, old_by}
use Rattle.state_cache.specs.Notes.{NoteFits}
use Rattle.state_cache.proofs.edit.Edit.new_line.Goals as goal

pub returns-in_err-note-clause-steps : goal.returns-in_err-note-clause-steps
returns-in_err-note-clause-steps g c =
    omega (arith, c.in_err-note.ensures.steps, ap one_unless (new_is_none (old_by c.args.self.now) (change_by c.args.self.now) c.args.k (top_first c.args.given) c.requires.is_new))

pub returns-in_err-next-clause-steps : goal.returns-in_err-next-clause-steps
returns-in_err-next-clause-steps g c =
    omega (arith, c.in_ok-note.ensures.steps, ap one_unless (new_is_none (old_by c.args.self.now) (change_by c.args.self.now) c.args.k (top_first c.args.given) c.requires.is_new))

pub returns-in_err-push-clause-steps : goal.returns-in_err-push-clause-steps
returns-in_err-push-clause-steps g c =
    omega (arith, c.in_ok-note.ensures.steps, ap one_unless (new_is_none (old_by c.args.self.now) (change_by c.args.self.now) c.args.k (top_first c.args.given) c.requires.is_new))

pub returns-in_err-push-2-clause-steps : goal.returns-in_err-push-2-clause-steps
returns-in_err-push-2-clause-steps g c =
    omega (arith, c.in_ok-note.ensures.steps, ap one_unless (new_is_none (old_by c.args.self.now) (change_by c.args.self.now) c.args.k (top_first c.args.given) c.requires.is_new))

pub returns-clause-steps : goal.returns-clause-steps
returns-clause-steps g c =
    omega (arith, c.in_ok-note.ensures.steps, ap one_unless (new_is_none (old_by c.args.self.now) (change_by c.args.self.now) c.args.k (top_first c.args.given) c.requires.is_new))

pub returns-clause-fits : goal.returns-clause-fits
returns-clause-fits g c = c.in_ok-next.ensures.fits (items_of c.args.self.now) c.in_ok-note.ensures.fits.after

pub returns-clause-fresh : goal.returns-clause-fresh
returns-clause-fresh g c =
    rw c.in_ok-push-2.ensures.ok (All-push (NoteFits (items_of c.args.self.now)) c.args.fresh.now c.in_ok-note.note c.requires.fresh c.in_ok-note.ensures.fits)
