use Rattle.paint_reuse.proofs.ReuseLaw.{rules_are_local}
use Rattle.paint_reuse.proofs.Walks.{kept}
use Rattle.state_cache.specs.Spans.{syntax_rules}
use Rattle.state_cache.proofs.painted.made_by.Goals as goal

pub walk-requires-clause-sound : goal.walk-requires-clause-sound
walk-requires-clause-sound g c =
    let syntax = c.args.syntax.now in
    let budget = c.args.budget in
    record {
      budget = c.requires.budget;
      painted = c.requires.noted.painted;
      count = (kept (syntax_rules syntax budget) c.args.changed.text.now.lines c.args.notes.now.0 c.requires.noted.painted).full;
      fit = c.requires.noted.fit;
      within = c.requires.noted.within;
      local = rules_are_local syntax.items (syntax.clusters).lists syntax.keywords syntax.sets budget;
    }
