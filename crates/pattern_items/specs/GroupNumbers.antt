-- The numbers of groups, of externals and of references to them: 1 to 9.
use Rattle.std.specs.Prelude.{ℕ, ◌≤◌}
use Rattle.pattern_items.specs.declared.atom.Atom.{Atom}
use Rattle.pattern_items.specs.declared.atom.Atom.TheVariants.{Ref, ExternalRef}

pub record IsOneToNine (n : ℕ) : Type 0 where
  pub least : 1 ≤ n
  pub most : n ≤ 9

abbrev pub HasNumber : Atom → Type 0
HasNumber (Ref n) = IsOneToNine n
HasNumber (ExternalRef n) = IsOneToNine n
HasNumber _ = Unit {0}
