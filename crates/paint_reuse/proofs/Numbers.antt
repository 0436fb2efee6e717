-- Lines that keep their number.
use Rattle.std.proofs.Common.{sym, ◌≡◌, ℕ, Some, Bool, true, false, refl}
use Rattle.std.specs.Prelude.{◌==◌, ◌||◌, not}
use Rattle.std.proofs.lemmas.Bool.{eq-eqb, eqb-true}
use Rattle.syn_base.specs.declared.looked.Looked.{Looked}
use Rattle.paint_reuse.specs.Reuse.{keeps_number}

keeps_by : (b : Bool) (j k : ℕ) → (b ≡ true → k ≡ j) → (not b || (j == k)) ≡ true
keeps_by true j k h = eq-eqb j k (sym (h refl))
keeps_by false j k h = refl

-- where a number was looked at, the line has it still
pub same_keeps : (j k : ℕ) (looked : Looked) → (looked.numbered ≡ true → k ≡ j) → keeps_number j k (Some looked) ≡ true
same_keeps j k looked h = keeps_by looked.numbered j k h

kept_by : (b : Bool) (j k : ℕ) → (not b || (j == k)) ≡ true → b ≡ true → k ≡ j
kept_by true j k h looked = sym (eqb-true j k h)
kept_by false j k h looked = absurd (cc)

pub keeps_same : (j k : ℕ) (looked : Looked) → keeps_number j k (Some looked) ≡ true → looked.numbered ≡ true → k ≡ j
keeps_same j k looked h = kept_by looked.numbered j k h
