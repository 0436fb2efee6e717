use Rattle.std.proofs.Common.{subst}
use Rattle.state_cache.specs.PaintedText.{IsPainted}
use Rattle.state_cache.specs.Spans.{syntax_rules}
use Rattle.state_cache.proofs.KeptLaws.{count, fit, spans}
use Rattle.state_cache.proofs.painted.Painted.syntax.Goals as goal

pub returns-clause-painted : goal.returns-clause-painted
returns-clause-painted c =
    let p = c.self.inside in
    let r = syntax_rules p.syntax p.budget in
    let painted = c.self.invariant.noted.painted in
    subst IsPainted c.self.view_is (record {
      budget = c.self.invariant.budget_is;
      spans = spans r p.text.lines p.notes.0 painted;
      count = count r p.text.lines p.notes.0 painted;
      fit = fit r p.text.lines p.notes.0 painted;
    })
