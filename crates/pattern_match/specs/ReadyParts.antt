-- The parts of a collection, by whether an option's set decides on them, and what the tables of a
-- collection hold: the characters below 256 of the parts on which none decides.
use Rattle.std.specs.Prelude.{◌≡◌, ℕ, ◌<◌, Bool, true, false, ◌&&◌, not, List}
use Rattle.std.specs.List.{list_any}
use Rattle.char_class.specs.Bits.{has_code}
use Rattle.char_class.specs.declared.sets.Sets.{Sets}
use Rattle.syn_base.specs.declared.class.Class.{Class}
use Rattle.syn_base.specs.declared.class.Class.TheVariants.{Ident, Keyword, File, IdentNoDigit, KeywordNoDigit, FileNoDigit}
use Rattle.pattern_items.specs.declared.atom.SetPart.{SetPart}
use Rattle.pattern_items.specs.declared.atom.SetPart.TheVariants.{Of}
use Rattle.match_rules.specs.Collections.{part_holds}
use Rattle.char_class.specs.declared.codes.Codes.{Codes}

abbrev pub is_optional_class : Class → Bool
is_optional_class Ident = true
is_optional_class Keyword = true
is_optional_class File = true
is_optional_class IdentNoDigit = true
is_optional_class KeywordNoDigit = true
is_optional_class FileNoDigit = true
is_optional_class _ = false

-- an option's set decides what it holds
abbrev pub is_optional : SetPart → Bool
is_optional (Of class) = is_optional_class class
is_optional _ = false

abbrev pub some_part_holds : List SetPart → ℕ → Sets → Bool → Bool
some_part_holds parts c sets ignore = list_any (λ part. part_holds part c sets ignore) parts

abbrev pub some_fixed_holds : List SetPart → ℕ → Sets → Bool → Bool
some_fixed_holds parts c sets ignore = list_any
    (λ part. not (is_optional part) && part_holds part c sets ignore) parts

abbrev pub some_optional_holds : List SetPart → ℕ → Sets → Bool → Bool
some_optional_holds parts c sets ignore =
    list_any (λ part. is_optional part && part_holds part c sets ignore) parts

-- a table holds what the fixed parts do, whatever the sets are
pub record IsTableOf (parts : List SetPart) (ignore : Bool) (codes : Codes) : Type 0 where
  pub holds : (c : ℕ) (sets : Sets) → c < 256 →
      has_code codes c ≡ some_fixed_holds parts c sets ignore

pub record AreTables (parts : List SetPart) (exact ignoring : Codes) (has_optional : Bool) : Type 0
  where
    pub is_exact : IsTableOf parts false exact
    pub is_ignoring : IsTableOf parts true ignoring
    pub optional : has_optional ≡ list_any is_optional parts
