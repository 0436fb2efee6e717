use Rattle.std.proofs.Common.{◌≡◌, ◌≤◌, drop}
use Rattle.std.specs.Prelude.{Some}
use Rattle.program_words.specs.Words.{number_after}
use Rattle.program_words.proofs.options.number_of.Given as goal

abbrev pub invariant-loop-byte : goal.invariant-loop-byte
invariant-loop-byte l =
    (l.number ≤ l.most)
    × (number_after l.most (Some 0) l.digits ≡ number_after l.most (Some l.number) (drop l.byte-index l.digits))
