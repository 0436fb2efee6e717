-- What an attempt answers depends on the lines that it looked at alone. Where two texts agree on them,
-- the one some lines further on, the attempt in the other text has the same cost, and its answer is the
-- same, moved.
use Rattle.std.specs.Prelude.{◌≡◌, ℕ, ℤ, pos, ◌+ℤ◌, Option, Some, None, get_or}
use Rattle.syn_base.specs.declared.places.Place.{Place}
use Rattle.syn_base.specs.Looked.{moved_by}
use Rattle.syn_base.specs.Agreement.{AgreeAt, Agree}
use Rattle.vim_pattern.specs.Tree.{PatternTree}
use Rattle.match_rules.specs.Ways.{Context, Capture, Way, IsPlaceOf}
use Rattle.match_rules.specs.Attempt.{Answer, attempt, lines_of, match_from, match_to, externals_of}

-- two contexts that differ in their texts alone
pub record AreAlike (x y : Context) : Type 0 where
  pub ignore : y.ignore ≡ x.ignore
  pub sets : y.sets ≡ x.sets
  pub externals : y.externals ≡ x.externals

-- a place some lines further on
pub record IsMoved (shift : ℤ) (p q : Place) : Type 0 where
  pub line : pos q.line ≡ pos p.line +ℤ shift
  pub col : q.col ≡ p.col

abbrev pub IsMovedCapture : ℤ → Capture → Capture → Type 0
IsMovedCapture shift None None = Unit {0}
IsMovedCapture shift (Some places) (Some others) =
    IsMoved shift places.0 others.0 × IsMoved shift places.1 others.1
IsMovedCapture shift None (Some others) = ⊥
IsMovedCapture shift (Some places) None = ⊥

-- the same match, moved; the texts agree on the line in which it begins
pub record IsMovedMatch (x y : Context) (shift : ℤ) (p q : Place) (w v : Way) : Type 0 where
  pub from : IsMoved shift (match_from p w) (match_from q v)
  pub from_line : AgreeAt x.text y.text shift (pos (match_from p w).line)
  pub to : IsMoved shift (match_to p w) (match_to q v)
  pub captures : (i : ℕ) → IsMovedCapture shift (get_or w.captures i None)
      (get_or v.captures i None)
  pub externals : externals_of y.text v ≡ externals_of x.text w

abbrev pub IsMovedWay : Context → Context → ℤ → Place → Place → Option Way → Option Way → Type 0
IsMovedWay x y shift p q None None = Unit {0}
IsMovedWay x y shift p q (Some w) (Some v) = IsMovedMatch x y shift p q w v
IsMovedWay x y shift p q None (Some v) = ⊥
IsMovedWay x y shift p q (Some w) None = ⊥

pub record IsMovedAnswer (x y : Context) (shift : ℤ) (p q : Place) (answer other : Answer) : Type 0
  where
    pub cost : other.cost ≡ answer.cost
    pub looked : lines_of q other ≡ moved_by (lines_of p answer) shift
    pub way : IsMovedWay x y shift p q answer.way other.way

-- the law: from a place of the one text and the same place, moved, of the other
abbrev pub IsLocal : PatternTree → Type 0
IsLocal tree =
    (x y : Context) (shift : ℤ) (p q : Place) → AreAlike x y → IsMoved shift p q →
    IsPlaceOf x.text p → IsPlaceOf y.text q →
    Agree x.text y.text shift (lines_of p (attempt tree x p)) →
    IsMovedAnswer x y shift p q (attempt tree x p) (attempt tree y q)
