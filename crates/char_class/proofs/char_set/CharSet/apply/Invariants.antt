use Rattle.std.proofs.Common.{◌≡◌, ℕ}
use Rattle.std.specs.Prelude.{◌&&◌, not, nat_lt, if◌then◌else◌}
use Rattle.char_class.specs.Bits.{has_bit}
use Rattle.char_class.specs.OptionValue.{is_named}
use Rattle.char_class.proofs.char_set.CharSet.apply.Given as goal

-- the codes below `code` that the part names are put in or taken out
abbrev pub invariant-loop-code : goal.invariant-loop-code
invariant-loop-code l =
    (c : ℕ) → has_bit l.self-inside.codes.words c ≡
    (if is_named l.part.members c && nat_lt c l.code then not l.part.taken_out else has_bit l.initial.self-inside.codes.words c)
