use Rattle.state_cache.specs.Brushes.{items_by}
use Rattle.state_cache.proofs.walk.Walk.paint.Goals as goal

pub returns-clause-stands : goal.returns-clause-stands
returns-clause-stands g c = c.in_ok-push.ensures.fits (items_by c.args.brush.now) c.in_ok-note.ensures.fits (record { notes = c.requires.stands.notes; state = c.requires.stands.state })
