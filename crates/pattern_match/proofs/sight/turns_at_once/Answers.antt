use Rattle.std.proofs.Common.{arith}
use Rattle.pattern_match.proofs.RunLaws.{none-allowed}
use Rattle.pattern_match.proofs.sight.turns_at_once.Goals as goal

pub returns-in_default : goal.returns-in_default
returns-in_default g c =
    let col = c.requires.on_text.col in
    record {
      taken = record { run = λ some. absurd (omega arith); allowed = none-allowed c.args.turns.now.most; within = omega arith };
      fits = λ some. absurd (omega arith);
      within = omega arith;
    }
