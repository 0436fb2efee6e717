use Rattle.std.proofs.Common.{◌≡◌, ℕ, ◌<◌, ◌||◌, drop}
use Rattle.char_class.specs.Bits.{has_code}
use Rattle.pattern_match.specs.ReadyParts.{some_fixed_holds}
use Rattle.pattern_match.proofs.tables.codes_of.Given as goal

-- the codes of the parts before are in
abbrev pub invariant-loop-part : goal.invariant-loop-part
invariant-loop-part l =
    (c : ℕ) → c < 256 → (has_code l.codes c || some_fixed_holds (drop l.part-index l.parts) c l.sets l.ignore) ≡ some_fixed_holds l.parts c l.sets l.ignore
