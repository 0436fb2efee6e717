use Rattle.std.proofs.Common.{◌≡◌, false, take, All}
use Rattle.char_class.specs.Folds.{is_same}
use Rattle.pattern_match.proofs.to_end.has.Given as goal

-- the character isn't among those so far
abbrev pub invariant-loop-d : goal.invariant-loop-d
invariant-loop-d l = All (λ d. is_same l.c d l.ignore ≡ false) (take l.d-index l.characters)
