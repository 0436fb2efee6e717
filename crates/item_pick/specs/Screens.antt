-- Where a pattern may begin next, and what is passed over.
use Rattle.std.specs.Prelude.{◌≡◌, ◌<◌, ◌≤◌, ℕ, length, pos, Option, Some, None}
use Rattle.syn_base.specs.declared.looked.Looked.{Looked}
use Rattle.syn_base.specs.declared.places.Place.{Place}
use Rattle.syn_base.specs.declared.places.ItemId.{ItemId}
use Rattle.syn_base.specs.Looked.{hull_of, one_line}
use Rattle.match_rules.specs.Ways.{Text, line_at}
use Rattle.syntax_set.specs.declared.item.Pattern.{Pattern}
use Rattle.paint_rules.specs.Painted.{Painted, Done, looked_first}
use Rattle.paint_rules.specs.Rules.{Rules, Cause, place_at}
use Rattle.paint_rules.specs.ItemMatch.{match_from}

-- these lines are among those that were looked at
abbrev pub HoldsLines : Looked → Looked → Type 0
HoldsLines k lines = hull_of k lines ≡ k

-- the line was looked at
abbrev pub HoldsLine : Looked → ℕ → Type 0
HoldsLine k l = hull_of k (one_line (pos l)) ≡ k

-- a choice that gives nothing and looks at no line that wasn't looked at before
abbrev pub IsIdle : {A B : Type 0} → (A → Painted Cause (Option B)) → Looked → A → Type 0
IsIdle f k a = looked_first (Some k) (f a) ≡ Done None (Some k)

-- a match from this column has its item start at none of the columns from `above` up to, and without,
-- `below`, and to tell so looks at none but some lines
abbrev pub IsSettled : Rules → Text → ℕ → ItemId → Pattern → ℕ → ℕ → Looked → ℕ → Type 0
IsSettled r t l i pattern above below lines c =
    (at : ℕ) → above ≤ at → at < below → (k : Looked) → HoldsLine k l → HoldsLines k lines →
    IsIdle (match_from r t i pattern (place_at l at)) k c

-- once some lines were looked at, the match of an item may be sought from this column on in place of
-- an earlier one
pub record IsLater (r : Rules) (t : Text) (i : ItemId) (pattern : Pattern) (p : Place) (k : Looked) (col next : ℕ) : Type 0 where
  pub ahead : col ≤ next
  pub idle : (c : ℕ) → col ≤ c → c < next → c ≤ length (line_at t p.line) →
      IsIdle (match_from r t i pattern p) k c

-- an attempt from this column finds nothing with its item start at the place, and looks at these lines
abbrev pub IsVainFrom : Rules → Text → Place → ItemId → Pattern → Looked → ℕ → Type 0
IsVainFrom r t p i pattern lines c =
    (k : Looked) →
    looked_first (Some k) (match_from r t i pattern p c) ≡ Done None (Some (hull_of k lines))
