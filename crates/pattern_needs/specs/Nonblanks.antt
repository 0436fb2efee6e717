-- The characters of a line that aren't blanks, and how many of them are behind a place.
use Rattle.std.specs.Prelude.{◌≡◌, ◌⊎◌, ◌==◌, ◌<◌, ◌≤◌, ℕ, Bool, true, false, ◌||◌, List, Some, slice_get}
use Rattle.char_class.specs.declared.sets.Sets.{Sets}
use Rattle.syn_base.specs.declared.places.Place.{Place}
use Rattle.vim_pattern.specs.Shape.{Shape, one, seq}
use Rattle.match_rules.specs.Ways.{Context, Way, is_after, line_at, place}
use Rattle.match_rules.specs.Visits.{visits}
use Rattle.match_rules.proofs.MarkLaws.{AllWays}
use Rattle.pattern_needs.specs.Characters.{holds}
use Rattle.pattern_items.specs.declared.atom.Atom.TheVariants.{LineStart}
use Rattle.pattern_needs.specs.Fronts.{front_upto}
use Rattle.pattern_needs.specs.declared.characters.Characters.{Characters}
use Rattle.pattern_needs.specs.declared.nonblanks.Counted.{Counted}
use Rattle.pattern_needs.specs.declared.nonblanks.Told.{Told}

-- a space or a tab
abbrev pub is_blank : ℕ → Bool
is_blank c = c == 32 || c == 9

-- the second of a line's characters that aren't blanks, and the columns of the first and of this one
pub record IsSecondAt (line : List ℕ) (c first at : ℕ) : Type 0 where
  pub before : (i d : ℕ) → i < first → slice_get line i ≡ Some d → is_blank d ≡ true
  pub nonblank : (d : ℕ) → slice_get line first ≡ Some d → is_blank d ≡ false
  pub later : first < at
  pub between : (i d : ℕ) → first < i → i < at → slice_get line i ≡ Some d → is_blank d ≡ true
  pub there : slice_get line at ≡ Some c
  pub too : is_blank c ≡ false

abbrev pub IsSecondOf : List ℕ → ℕ → Type 0
IsSecondOf line c = (first : ℕ) × ((at : ℕ) × IsSecondAt line c first at)

-- none of them is behind a place, or the first alone, or the second too, which is among some
abbrev pub StandsAt : ℕ → ℕ → ℕ → ℕ → Counted → Place → Type 0
StandsAt l first at c counted p =
    ((counted.none ≡ true) × ((p.line ≡ l) × (p.col ≤ first)))
    ⊎ (((counted.one ≡ true) × ((p.line ≡ l) × ((first < p.col) × (p.col ≤ at))))
    ⊎ ((holds counted.two c ≡ true) × (is_after p (place l at) ≡ true)))

-- from ways that stand at the one a part leads to ways that stand at the other
abbrev pub Leads : Sets → Bool → Shape → Counted → Counted → Type 0
Leads sets ignore node from to =
    (x : Context) (l first at c : ℕ) → x.sets ≡ sets → x.ignore ≡ ignore → IsSecondAt (line_at x.text l) c first at →
    (w : Way) → StandsAt l first at c from w.at → AllWays (λ v. StandsAt l first at c to v.at) (visits x node w)

-- what stands at the one stands at the other
abbrev pub IsWider : Counted → Counted → Type 0
IsWider a b =
    (l first at c : ℕ) (p : Place) → StandsAt l first at c a p → StandsAt l first at c b p

-- up to a piece a pattern that begins with the line's start has no way from there but where the second is
-- among these
abbrev pub LeadsToSecond : Sets → Bool → Shape → Characters → Type 0
LeadsToSecond sets ignore node characters =
    (x : Context) (l first at c : ℕ) → x.sets ≡ sets → x.ignore ≡ ignore → IsSecondAt (line_at x.text l) c first at → holds characters c ≡ false →
    (w : Way) → w.at ≡ place l 0 → AllWays (λ v. ⊥) (visits x node w)

pub record IsSecondTold (sets : Sets) (ignore : Bool) (node : Shape) (told : Told) : Type 0 where
  pub begins : (rest : Shape) × (node ≡ seq (one LineStart) rest)
  pub second : LeadsToSecond sets ignore (front_upto told.upto node) told.characters
