use Rattle.std.proofs.Common.{◌≡◌, ℕ, ◌<◌, ◌&&◌, ◌||◌}
use Rattle.std.specs.Prelude.{nat_lt}
use Rattle.char_class.specs.Bits.{has_code}
use Rattle.match_rules.specs.Collections.{part_holds}
use Rattle.pattern_match.proofs.tables.add_part.Given as goal

-- the codes of the part below `code` are in
abbrev pub invariant-loop-code : goal.invariant-loop-code
invariant-loop-code l =
    (c : ℕ) → c < 256 → has_code l.codes c ≡ (part_holds l.part c l.sets l.ignore && nat_lt c l.code || has_code l.initial.codes c)
