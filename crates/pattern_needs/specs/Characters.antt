-- Some characters: those below 256 one by one, and all others together.
use Rattle.std.specs.Prelude.{ℕ, Bool, nat_lt, if◌then◌else◌}
use Rattle.char_class.specs.Bits.{has_bit}
use Rattle.pattern_needs.specs.declared.characters.Characters.{Characters}

-- whether a character may be among them
abbrev pub holds : Characters → ℕ → Bool
holds some c = if nat_lt c 256 then has_bit some.words c else some.others
