-- Between which codes below 256 the parts of a collection lie.
use Rattle.std.specs.Prelude.{◌≡◌, ℕ, ◌<◌, ◌≤◌, Bool, true, nat_lt, nat_le, if◌then◌else◌}
use Rattle.char_class.specs.declared.sets.Sets.{Sets}
use Rattle.pattern_items.specs.declared.atom.SetPart.{SetPart}
use Rattle.match_rules.specs.Collections.{part_holds}

-- the codes that pass lie from `low` to `high`
pub record LieIn (holds : ℕ → Bool) (low high : ℕ) : Type 0 where
  pub from : (c : ℕ) → c < 256 → holds c ≡ true → low ≤ c
  pub to : (c : ℕ) → c < 256 → holds c ≡ true → c ≤ high

-- the codes of a part do, whatever the sets are
abbrev pub PartLiesIn : SetPart → Bool → ℕ → ℕ → Type 0
PartLiesIn part ignore low high = (sets : Sets) → LieIn (λ c. part_holds part c sets ignore) low high

-- the first code whose fold may stand at `low` or behind it: the letters of ASCII and what stands
-- between them count as one
abbrev pub first_alike : ℕ → ℕ
first_alike low = if nat_lt low 65 then low else if nat_le low 122 then 65 else 123

-- the last one whose fold may stand at `high` or before it
abbrev pub last_alike : ℕ → ℕ
last_alike high = if nat_lt high 65 then high else if nat_le high 122 then 122 else 255
