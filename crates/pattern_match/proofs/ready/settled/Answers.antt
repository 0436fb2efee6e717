use Rattle.std.proofs.Common.{sym, ◌∙◌}
use Rattle.pattern_match.specs.Steps.{shape_of}
use Rattle.pattern_match.proofs.FateLaws.{stands_never, stands_stays}
use Rattle.pattern_match.proofs.StandsLaws.{stands_itself}
use Rattle.pattern_match.proofs.ready.settled.Goals.{in-Never, in-Stays, in-Passes}
use Rattle.pattern_match.proofs.ready.settled.Goals as goal

pub returns : goal.returns
returns c = elim c.match-fate.branch [
  | in-Never w ↦ rw w.result-is (stands_never (shape_of c.args.step) (sym c.requires.comes ∙ w.in-Never.is))
  | in-Stays w ↦ rw w.result-is (stands_stays (shape_of c.args.step) (sym c.requires.comes ∙ w.in-Stays.is))
  | in-Passes w ↦ rw w.result-is (stands_itself (shape_of c.args.step))
]
