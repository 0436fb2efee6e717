-- Two texts that agree on some lines under a shift, and two paintings that are alike there.
use Rattle.std.specs.Prelude.{◌≡◌, ◌⊎◌, ◌<◌, ◌≤◌, ◌+◌, ℕ, ℤ, pos, ◌-ℤ◌, Bool, List, length, Option}
use Rattle.std.specs.Prelude.{Some, None}
use Rattle.syn_base.specs.declared.places.Place.{Place}
use Rattle.syn_base.specs.declared.looked.Looked.{Looked}
use Rattle.syn_base.specs.Looked.{moved_by}
use Rattle.syn_base.specs.Agreement.{Agree}
use Rattle.match_rules.specs.Ways.{Text, line_at}
use Rattle.paint_rules.specs.Painted.{Painted, Done, Refused}
use Rattle.vim_pattern.specs.Tree.{PatternTree}
use Rattle.syn_base.specs.declared.places.ItemId.{ItemId}
use Rattle.paint_rules.specs.Rules.{Rules, Here, Matched, Attempt}
use Rattle.syntax_set.specs.declared.item.Pattern.{Pattern}
use Rattle.paint_rules.specs.declared.RegionEnd.{RegionEnd}
use Rattle.paint_rules.specs.EndInLine.{Search, for_ends}
use Rattle.paint_rules.specs.Pick.{Starting, AWord, AMatch, AnEmpty, ARegion, Picked, Start, SkipOn}
use Rattle.paint_rules.specs.Pick.{Nothing}

-- two texts; a line k of the first stands at the line j of the second with j + back ≡ k + ahead
pub record Two : Type 0 where
  pub rules : Rules
  pub one : Text
  pub other : Text
  pub ahead : ℕ
  pub back : ℕ

abbrev pub IsMovedLine : Two → ℕ → ℕ → Type 0
IsMovedLine two k j = j + two.back ≡ k + two.ahead

pub record IsMoved (two : Two) (p q : Place) : Type 0 where
  pub line : q.line + two.back ≡ p.line + two.ahead
  pub col : q.col ≡ p.col

abbrev pub shift : Two → ℤ
shift two = pos two.ahead -ℤ pos two.back

-- they agree on a range of lines
abbrev pub Agrees : Two → Looked → Type 0
Agrees two l = Agree two.one two.other (shift two) l

abbrev pub AgreesOn : Two → Option Looked → Type 0
AgreesOn two None = Unit {0}
AgreesOn two (Some l) = Agrees two l

abbrev pub moved_looked : Two → Option Looked → Option Looked
moved_looked two None = None
moved_looked two (Some l) = Some (moved_by l (shift two))

-- where the texts agree on what the first painting looked at, the second gives a value that is
-- related to the first's, or the same refusal, and looked at the same lines, moved
abbrev pub Follows : (two : Two) {E A B : Type 0} → (A → B → Type 0) → Painted E A → Painted E B →
    Type 0
Follows two {E} {A} {B} R (Done a k) n = AgreesOn two k →
    (b : B) × (n ≡ Done b (moved_looked two k)) × R a b
Follows two R (Refused c k) n = AgreesOn two k → n ≡ Refused c (moved_looked two k)

-- a record, so that its arguments can be read off it
pub record Alike (two : Two) {E A B : Type 0} (R : A → B → Type 0) (m : Painted E A)
    (n : Painted E B) : Type 0 where
  pub follows : Follows two R m n

-- what a line is to a painting
pub record SameLine (two : Two) (k j : ℕ) : Type 0 where
  pub moved : j + two.back ≡ k + two.ahead
  pub chars : line_at two.other j ≡ line_at two.one k
  pub here : (k < length two.one) × (j < length two.other) ⊎ (length two.one ≤ k) ×
      (length two.other ≤ j)

abbrev pub OnBoth : {A B : Type 0} → (A → B → Type 0) → Option A → Option B → Type 0
OnBoth R None None = Unit {0}
OnBoth R (Some a) (Some b) = R a b
OnBoth R _ _ = ⊥

-- a match whose first place lies in a line that the texts agree on
pub record IsMovedMatch (two : Two) (m n : Matched) : Type 0 where
  pub from : IsMoved two m.from n.from
  pub from_line : SameLine two m.from.line n.from.line
  pub to : IsMoved two m.to n.to
  pub externals : n.externals ≡ m.externals

-- and whose end does too
pub record IsSeenMatch (two : Two) (m n : Matched) : Type 0 where
  pub moved : IsMovedMatch two m n
  pub to_line : SameLine two m.to.line n.to.line

-- a line that both texts have
pub record IsPresent (two : Two) (k j : ℕ) : Type 0 where
  pub same : SameLine two k j
  pub on : k < length two.one
  pub there : j < length two.other

pub record IsMovedAttempt (two : Two) (a b : Attempt) : Type 0 where
  pub cost : b.cost ≡ a.cost
  pub looked : b.looked ≡ moved_by a.looked (shift two)
  pub found : OnBoth (IsMovedMatch two) a.found b.found

-- the locality of attempts, as the matcher gives it: from a place of a line that both texts have
abbrev pub AttemptsAreLocal : Two → Type 0
AttemptsAreLocal two =
    (tree : PatternTree) (ignore : Bool) (externals : List (List ℕ)) (p q : Place) →
    IsPresent two p.line q.line → p.col ≤ length (line_at two.one p.line) → IsMoved two p q →
    Agrees two (two.rules.attempt two.one tree ignore externals p).looked →
    IsMovedAttempt two (two.rules.attempt two.one tree ignore externals p)
    (two.rules.attempt two.other tree ignore externals q)

pub record IsMovedEnd (two : Two) (e d : RegionEnd) : Type 0 where
  pub end : IsMoved two e.end d.end
  pub high_to : IsMoved two e.high_to d.high_to
  pub area_end : OnBoth (IsMoved two) e.area_end d.area_end
  pub area_high : OnBoth (IsMoved two) e.area_high d.area_high
  pub area_shows : d.area_shows ≡ e.area_shows

abbrev pub search_one : Two → ItemId → List (List ℕ) → Place → Search
search_one two i externals p =
    record { rules = for_ends two.rules; text = two.one; item = i; externals = externals; from = p }

abbrev pub search_other : Two → ItemId → List (List ℕ) → Place → Search
search_other two i externals p =
    record {
      rules = for_ends two.rules;
      text = two.other;
      item = i;
      externals = externals;
      from =
          p;
    }

-- what starts is the same, with its places moved
pub data IsMovedStart (two : Two) : Starting → Starting → Type 0 where
  word : {i : ItemId} {e : ℕ} → IsMovedStart two (AWord i e) (AWord i e)
  «match» : {i : ItemId} {p : Pattern} {m n : Matched} → IsSeenMatch two m n →
      IsMovedStart two (AMatch i p m) (AMatch i p n)
  empty : {i : ItemId} → IsMovedStart two (AnEmpty i) (AnEmpty i)
  region : {i : ItemId} {p : Pattern} {m n : Matched} {e d : Option RegionEnd} →
      IsSeenMatch two m n → OnBoth (IsMovedEnd two) e d →
      IsMovedStart two (ARegion i p m e) (ARegion i p n d)

pub data IsMovedPick (two : Two) : Picked → Picked → Type 0 where
  start : {a b : Starting} → IsMovedStart two a b → IsMovedPick two (Start a) (Start b)
  skip : IsMovedPick two SkipOn SkipOn
  nothing : IsMovedPick two Nothing Nothing

-- a line of the first text, and of the second
abbrev pub one_at : Two → ℕ → Here
one_at two k = record { rules = two.rules; text = two.one; line = k }

abbrev pub other_at : Two → ℕ → Here
other_at two j = record { rules = two.rules; text = two.other; line = j }
