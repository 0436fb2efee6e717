use Rattle.std.proofs.Common.{◌≡◌, ℕ, false}
use Rattle.std.specs.Prelude.{Some, not, nat_lt, ◌||◌, if◌then◌else◌}
use Rattle.char_class.specs.Bits.{has_code}
use Rattle.ex_substitute.specs.Begins.{screen_passes}
use Rattle.ex_substitute.proofs.begins.codes_of.Given as goal

-- the codes below `code` are in where a match may begin with their characters
abbrev pub invariant-loop-code : goal.invariant-loop-code
invariant-loop-code l =
    (c : ℕ) → has_code l.codes c ≡ (if nat_lt c l.code then not l.is_screened || screen_passes l.command.tree l.context (Some c) else false)
