use Rattle.vim_pattern.specs.Shape.{empty, or}
use Rattle.pattern_match.specs.StandsFor.{StandsFor}
use Rattle.pattern_match.specs.Steps.{shape_of}
use Rattle.pattern_match.proofs.TakesLaws.{optional_made}
use Rattle.pattern_match.proofs.ready.optional.Goals as goal

pub returns : goal.returns
returns c =
    let h : StandsFor (shape_of c.settled.result.step) (or (shape_of c.args.part.step) empty) =
    rw c.in_ok-new.ensures.ok at c.settled.ensures in
    optional_made (shape_of c.settled.result.step) (shape_of c.args.part.step) c.args.part.takes h
    c.args.part.taking c.requires
