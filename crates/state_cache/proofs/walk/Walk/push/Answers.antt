use Rattle.std.proofs.lemmas.List.Elements.{All-push}
use Rattle.state_cache.specs.Notes.{NoteFits}
use Rattle.state_cache.proofs.walk.Walk.push.Goals as goal

pub returns-clause-fits : goal.returns-clause-fits
returns-clause-fits c = λ n f h. record {
  notes = rw c.in_ok-push.ensures.list (All-push (NoteFits n) c.args.self.now.notes.0 c.args.note h.notes f);
  state = c.in_ok-self.ensures.fits n f.after;
}
