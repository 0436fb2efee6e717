-- Lines that stand in a text more than once.
use Rattle.std.specs.Prelude.{◌≡◌, ◌<◌, ℕ, pos, ◌-ℤ◌, length, slice_get}
use Rattle.syn_base.specs.Agreement.{Agree}
use Rattle.syn_base.specs.Looked.{moved_by}
use Rattle.syn_base.specs.declared.looked.Looked.{Looked}
use Rattle.match_rules.specs.Ways.{Text}

-- both lines are there, and have the same characters
pub record AreEqualLines (t : Text) (j k : ℕ) : Type 0 where
  pub first : j < length t
  pub second : k < length t
  pub same : slice_get t j ≡ slice_get t k

-- what was looked at about line j, counted from it, stands about line k too
abbrev pub StandsAlso : Text → ℕ → ℕ → Looked → Type 0
StandsAlso t j k looked = Agree t t (pos k -ℤ pos j) (moved_by looked (pos j))
