use Rattle.std.proofs.Common.{◌≡◌, ℕ, false}
use Rattle.std.specs.Prelude.{nat_lt, if◌then◌else◌}
use Rattle.char_class.specs.Bits.{has_code}
use Rattle.vim_pattern.specs.Shape.{bare}
use Rattle.pattern_needs.specs.Asking.{atoms_in}
use Rattle.pattern_needs.specs.Needs.{needed, some_takes}
use Rattle.pattern_needs.proofs.needs.codes_taken.Given as goal

-- the codes below `code` are in where an atom takes their characters
abbrev pub invariant-loop-code : goal.invariant-loop-code
invariant-loop-code l =
    (c : ℕ) → has_code l.codes c
    ≡ (if nat_lt c l.code then some_takes l.by.sets.now l.by.ignore (atoms_in (needed (bare l.part))) c else false)
