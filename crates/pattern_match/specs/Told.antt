-- What is told of an atom at the place of a way, where it looks at its own line alone: where it leads,
-- or that it doesn't fit.
use Rattle.std.specs.Prelude.{◌≡◌, ℕ, Bool, true, false, Some, None, nat_eq}
use Rattle.syn_base.specs.declared.places.Place.{Place}
use Rattle.pattern_items.specs.declared.atom.Atom.{Atom}
use Rattle.match_rules.specs.Ways.{Context, Text, Way, IsPlaceOf}
use Rattle.match_rules.specs.Atoms.{fits, lines_looked, own_line}
use Rattle.pattern_match.specs.Contexts.{context_in}
use Rattle.pattern_match.specs.Standing.{Stands}
use Rattle.pattern_match.specs.declared.context.Context.{Context as ContextOf}
use Rattle.pattern_match.specs.declared.standing.Standing.TheVariants.{Character}
use Rattle.pattern_match.specs.declared.told.Fit.{Fit}
use Rattle.pattern_match.specs.declared.told.Fit.TheVariants.{Takes, Stays, Refuses, Unsure}

-- that an atom which looks at its own line alone leads to a place, that it doesn't fit, or nothing
pub data Told : Type 0 where
  To : (place : Place) → Told
  Nowhere : Told
  Nothing : Told

abbrev pub IsTold : Context → Way → Atom → Told → Type 0
IsTold x w a (To p) = (fits x w a ≡ Some p) × (lines_looked x w a ≡ own_line w) × IsPlaceOf x.text p
IsTold x w a Nowhere = (fits x w a ≡ None) × (lines_looked x w a ≡ own_line w)
IsTold x w a Nothing = Unit {0}

abbrev pub to_if : Bool → Place → Told
to_if true p = To p
to_if false p = Nowhere

-- ---- by the character alone

abbrev pub takes_if : Bool → Fit
takes_if true = Takes
takes_if false = Refuses

abbrev pub stays_if : Bool → Fit
stays_if true = Stays
stays_if false = Refuses

-- where an atom leads from here, or behind the character
abbrev pub told_by : Fit → Place → Place → Told
told_by Takes here behind = To behind
told_by Stays here behind = To here
told_by Refuses here behind = Nowhere
told_by Unsure here behind = Nothing

-- so much a character tells of an atom, wherever it stands, if it is the first of its line, or if not
abbrev pub IsFit : ContextOf → Atom → ℕ → Bool → Fit → Type 0
IsFit context a c start fit =
    (text : Text) (w : Way) (behind : Place) → IsPlaceOf text w.at → nat_eq w.at.col 0 ≡ start → Stands text w.at (Character c behind) →
    IsTold (context_in text context) w a (told_by fit w.at behind)
