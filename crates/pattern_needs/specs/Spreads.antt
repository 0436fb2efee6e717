-- How many ways and ticks a part has at most in a line of at most so many characters, by whether a blank stands
-- where it begins, and where its ways end.
use Rattle.std.specs.Prelude.{◌≡◌, ◌≤◌, ◌+◌, ◌*◌, ℕ, suc, Bool, true, false, List, [], ◌∷◌, Option, None, Some, length}
use Rattle.char_class.specs.declared.sets.Sets.{Sets}
use Rattle.syn_base.specs.declared.places.Place.{Place}
use Rattle.vim_pattern.specs.Shape.{Shape}
use Rattle.match_rules.specs.Ways.{Context, Way, line_at}
use Rattle.match_rules.specs.Atoms.{character_at}
use Rattle.match_rules.specs.Marks.{Mark, Tick, Reach}
use Rattle.match_rules.specs.Visits.{visits}
use Rattle.match_rules.proofs.MarkLaws.{AllWays}
use Rattle.pattern_screens.proofs.Bounded.{AllTicks}
use Rattle.pattern_screens.proofs.LinedParts.{IsIn}
use Rattle.pattern_screens.proofs.Stands.{LooksAt}
use Rattle.pattern_needs.specs.Nonblanks.{is_blank}
use Rattle.pattern_needs.specs.declared.spread.Spread.{Spread}
use Rattle.pattern_needs.specs.declared.spread.Spreads.{Spreads}

abbrev pub has_blank : Option ℕ → Bool
has_blank None = false
has_blank (Some c) = is_blank c

-- whether a blank stands at a place
abbrev pub before_blank : Context → Place → Bool
before_blank x p = has_blank (character_at x.text p)

abbrev pub of_kind : ℕ → ℕ → Bool → ℕ
of_kind blank other true = blank
of_kind blank other false = other

-- what marks cost where each way costs so much more, before a blank and elsewhere
abbrev pub weight : Context → ℕ → ℕ → List Mark → ℕ
weight x blank other [] = 0
weight x blank other (Tick l ∷ marks) = suc (weight x blank other marks)
weight x blank other (Reach w ∷ marks) = of_kind blank other (before_blank x w.at) + weight x blank other marks

-- marks that stay in a line, look at it alone, and cost no more than this
pub record Weighs (x : Context) (l blank other most : ℕ) (marks : List Mark) : Type 0 where
  pub here : AllWays (λ v. IsIn x l v.at) marks
  pub light : weight x blank other marks ≤ most
  pub seen : AllTicks (LooksAt l) marks

abbrev pub total : Spread → ℕ → ℕ → ℕ
total s blank other = s.cost + (s.blanks * blank + s.others * other)

abbrev pub from_kind : Spreads → Bool → Spread
from_kind s true = s.blank
from_kind s false = s.other

-- a part has no more ways and ticks than these
abbrev pub IsSpread : Sets → Bool → ℕ → Shape → Spreads → Type 0
IsSpread sets ignore most node s =
    (x : Context) (l blank other : ℕ) → x.sets ≡ sets → x.ignore ≡ ignore → length (line_at x.text l) ≤ most → (w : Way) → IsIn x l w.at →
    Weighs x l blank other (total (from_kind s (before_blank x w.at)) blank other) (visits x node w)

-- ---- parts behind one another, and one or another

abbrev pub then_spread : Spread → Spreads → Spread
then_spread a t = record {
  cost = a.cost + (a.blanks * t.blank.cost + a.others * t.other.cost);
  blanks = a.blanks * t.blank.blanks + a.others * t.other.blanks;
  others = a.blanks * t.blank.others + a.others * t.other.others;
}

abbrev pub then_spreads : Spreads → Spreads → Spreads
then_spreads s t = record { blank = then_spread s.blank t; other = then_spread s.other t }

abbrev pub or_spread : Spread → Spread → Spread
or_spread a b = record { cost = a.cost + b.cost; blanks = a.blanks + b.blanks; others = a.others + b.others }

abbrev pub or_spreads : Spreads → Spreads → Spreads
or_spreads s t = record { blank = or_spread s.blank t.blank; other = or_spread s.other t.other }

-- ---- single parts

-- what stays where it is
abbrev pub still : ℕ → Spreads
still cost = record {
  blank = record { cost = cost; blanks = 1; others = 0 };
  other = record { cost = cost; blanks = 0; others = 1 };
}

-- as many blanks as there are
abbrev pub over_blanks : ℕ → Spreads
over_blanks most = record {
  blank = record { cost = most + 1; blanks = most; others = 1 };
  other = record { cost = 1; blanks = 0; others = 1 };
}

-- ways that end anywhere
abbrev pub anywhere : ℕ → ℕ → Spread
anywhere ways cost = record { cost = cost; blanks = ways; others = ways }

-- ---- a budget

-- in a line of at most so many characters a part stays in it, looks at it alone, and costs no more than a budget
abbrev pub IsCheapPart : Sets → Bool → ℕ → Shape → ℕ → Type 0
IsCheapPart sets ignore most node budget =
    (s : Spreads) × (IsSpread sets ignore most node s × ((s.blank.cost ≤ budget) × (s.other.cost ≤ budget)))
