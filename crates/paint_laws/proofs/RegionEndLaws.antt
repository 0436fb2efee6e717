-- A region ends at the first visited column that has an end.
use Rattle.std.proofs.Common.{◌≡◌, ◌<◌, ◌≤◌, ◌+◌, ◌-◌, ℕ, zero, suc, arith, Bool, true, false}
use Rattle.std.proofs.Common.{List, length, refl, ap, subst, ◌∙◌}
use Rattle.std.specs.Prelude.{pos, Option, Some, None, ◌&&◌, ◌||◌, nat_lt, nat_eq, reverse}
use Rattle.std.proofs.lemmas.Bool.Decides.{nat_tests}
use Rattle.syn_base.specs.Looked.{one_line}
use Rattle.syn_base.specs.declared.places.Place.{Place}
use Rattle.match_rules.specs.Ways.{is_after}
use Rattle.syntax_set.specs.declared.item.ItemKind.{ItemKind}
use Rattle.syntax_set.specs.declared.item.Pattern.{Pattern}
use Rattle.paint_rules.specs.declared.RegionEnd.{RegionEnd}
use Rattle.paint_rules.specs.declared.Which.TheVariants.{Me}
use Rattle.paint_rules.specs.Painted.{Painted, done, looks_at, ◌>>=◌, looked_first, looked_both}
use Rattle.paint_rules.specs.Painted.{first_found}
use Rattle.paint_rules.specs.Rules.{Matched, Cause, place_at}
use Rattle.paint_rules.specs.Offsets.{offset_place}
use Rattle.paint_rules.specs.ItemMatch.{columns, columns_from}
use Rattle.paint_rules.specs.EndInLine.{Search, Skip, NoSkip, SkipTo, SkipLine, skip_of, ends_of}
use Rattle.paint_rules.specs.EndInLine.{tried_at, end_at, skip_past, skip_to, skip_at, end_from}
use Rattle.paint_rules.specs.EndInLine.{end_in_present, end_in_line}
use Rattle.paint_laws.specs.Outcomes.{Gives}
use Rattle.paint_laws.specs.RegionEnds.{kind_of, last_column, IsUnskipped, end_made_at, GoesOn}
use Rattle.paint_laws.specs.RegionEnds.{behind_a_skip, one_on, IsVisited, at_first, at_next, HasEnd}
use Rattle.paint_laws.specs.RegionEnds.{SearchesGoRight, EndsStandAtColumns, ColumnsEndRegions}
use Rattle.paint_laws.proofs.OutcomeLaws.{Tells, told, then_tells, done_tells, OfSome}

same_gives : {E A : Type 0} (p q : Painted E A) (a : A) → p ≡ q → Gives q a → Gives p a
same_gives p q a e g = record { looked = g.looked; is = e ∙ g.is }

bind_gives : {E A B : Type 0} (p : Painted E A) (f : A → Painted E B) (a : A) (b : B) →
    Gives p a → Gives (f a) b → Gives (p >>= f) b
bind_gives p f a b g k = record {
  looked = looked_both g.looked k.looked;
  is = ap (λ p. p >>= f) g.is ∙ ap (looked_first g.looked) k.is;
}

done_gives : {E A : Type 0} (a : A) → Gives {E = E} (done a) a
done_gives a = record { looked = None; is = refl }

if_so : {A : Type 0} (b : Bool) (x y : A) → b ≡ true →
    elim b as (λ _. A) [ true ↦ x | false ↦ y ] ≡ x
if_so true x y e = refl
if_so false x y e = absurd (cc)

if_not : {A : Type 0} (b : Bool) (x y : A) → b ≡ false →
    elim b as (λ _. A) [ true ↦ x | false ↦ y ] ≡ y
if_not true x y e = absurd (cc)
if_not false x y e = refl

lies_right : (l m c d last : ℕ) → nat_lt l m || (nat_eq l m && nat_lt c d) ≡ true →
    nat_lt m l || (nat_eq m l && nat_lt d last) ≡ true → c < d
lies_right l m c d last a b = grind (arith, nat_tests)

module _ (s : Search) where
  abbrev kind : ItemKind
  kind = kind_of s

  abbrev last : ℕ
  last = last_column s

  -- a skip leads to the right
  abbrev IsRight : ℕ → Skip → Type 0
  IsRight c NoSkip = Unit {0}
  IsRight c (SkipTo d) = c < d
  IsRight c SkipLine = Unit {0}

  past_right : (c : ℕ) (me : Place) → is_after me (place_at s.from.line c) ≡ true →
      IsRight c (skip_past s me)
  past_right c me after = by_end (is_after (place_at s.from.line last) me) refl
    where
      by_end : (b : Bool) → is_after (place_at s.from.line last) me ≡ b →
          IsRight c (elim b as (λ _. Skip) [ true ↦ SkipTo me.col | false ↦ SkipLine ])
      by_end true e = lies_right s.from.line me.line c me.col last after e
      by_end false e = tt

  to_right : (c : ℕ) (me : Place) → IsRight c (skip_to s c me)
  to_right c me = by_place (is_after me (place_at s.from.line c)) refl
    where
      by_place : (b : Bool) → is_after me (place_at s.from.line c) ≡ b →
          IsRight c (elim b as (λ _. Skip) [ true ↦ skip_past s me | false ↦ SkipTo (suc c) ])
      by_place true e = past_right c me e
      by_place false e = omega arith

  skip_right : (c : ℕ) (o : Option Pattern) → Tells (IsRight c) (skip_at s o c)
  skip_right c None = done_tells (IsRight c) NoSkip tt
  skip_right c (Some p) = then_tells (IsRight c) (tried_at s p c) _ (λ m g. by_match m)
    where
      by_match : (m : Option Matched) → Tells (IsRight c)
          (elim m as (λ _. Painted Cause Skip) [
            | None ↦ done NoSkip
            | Some m ↦ done (skip_to s c (offset_place s.text m p Me))
          ])
      by_match None = done_tells (IsRight c) NoSkip tt
      by_match (Some m) = done_tells (IsRight c) (skip_to s c (offset_place s.text m p Me))
          (to_right c (offset_place s.text m p Me))

  pub goes_right : {c d : ℕ} → GoesOn s c d → c < d
  goes_right {c = c} (behind_a_skip {d = d} g) =
      told (IsRight c) (skip_at s (skip_of kind) c) (SkipTo d) (skip_right c (skip_of kind)) g
  goes_right (one_on u n) = omega arith

  -- what is done at a column where no end is passed over, with the columns behind it
  abbrev by_found : ℕ → List ℕ → Option RegionEnd → Painted Cause (Option RegionEnd)
  by_found c cs found = elim found as (λ _. Painted Cause (Option RegionEnd))
      [ None ↦ end_from s kind cs (suc c) | Some e ↦ done (Some e) ]

  abbrev by_skip : ℕ → List ℕ → Skip → Painted Cause (Option RegionEnd)
  by_skip c cs skip = elim skip as (λ _. Painted Cause (Option RegionEnd)) [
    | NoSkip ↦ first_found (end_at s c) (reverse (ends_of kind)) >>= by_found c cs
    | SkipTo next ↦ end_from s kind cs next
    | SkipLine ↦ done None
  ]

  abbrev look : ℕ → List ℕ → Painted Cause (Option RegionEnd)
  look c cs = skip_at s (skip_of kind) c >>= by_skip c cs

  -- An end that is found stands at a visited column

  abbrev Stands : RegionEnd → Type 0
  Stands e = (c : ℕ) × HasEnd s c e

  -- at a visited column, where what is found from each column behind it stands
  module _ (c : ℕ) (cs : List ℕ) (here : IsVisited s c) (within : c ≤ last)
      (go : (on : ℕ) → suc c ≤ on → IsVisited s on →
      Tells (OfSome Stands) (end_from s kind cs on)) where
    found_stands : (found : Option RegionEnd) → IsUnskipped s c →
        Gives (end_made_at s c) found → Tells (OfSome Stands) (by_found c cs found)
    found_stands None u k = go (suc c) (omega arith) (at_next here within (one_on u k))
    found_stands (Some e) u k = done_tells (OfSome Stands) (Some e)
        (c, record { visited = here; within = within; unskipped = u; made = k })

    skip_stands : (skip : Skip) → Gives (skip_at s (skip_of kind) c) skip →
        Tells (OfSome Stands) (by_skip c cs skip)
    skip_stands (SkipTo d) g =
        go d (goes_right (behind_a_skip g)) (at_next here within (behind_a_skip g))
    skip_stands SkipLine g = done_tells (OfSome Stands) None tt
    skip_stands NoSkip g =
        then_tells (OfSome Stands) (end_made_at s c) (by_found c cs)
        (λ found k. found_stands found g k)

    look_stands : Tells (OfSome Stands) (look c cs)
    look_stands = then_tells (OfSome Stands) (skip_at s (skip_of kind) c) (by_skip c cs) skip_stands

  from_stands : (n c on : ℕ) → (0 < n → c + n ≤ suc last) → c ≤ on → IsVisited s on →
      Tells (OfSome Stands) (end_from s kind (columns c n) on)
  from_stands zero c on fits le v = done_tells (OfSome Stands) None tt
  from_stands (suc n) c on fits le v =
      by_test (λ on. from_stands n (suc c) on
      (λ some. let bound : c + suc n ≤ suc last = fits (omega arith) in omega (arith, bound)))
      (nat_lt c on) refl
    where
      by_test : ((on : ℕ) → suc c ≤ on → IsVisited s on →
          Tells (OfSome Stands) (end_from s kind (columns (suc c) n) on)) → (b : Bool) →
          nat_lt c on ≡ b → Tells (OfSome Stands)
          (elim b as (λ _. Painted Cause (Option RegionEnd)) [
            | true ↦ end_from s kind (columns (suc c) n) on
            | false ↦ look c (columns (suc c) n)
          ])
      by_test go true e = go on (grind (arith, nat_tests)) v
      by_test go false e =
          let same : on ≡ c = grind (arith, nat_tests) in
          let here : IsVisited s c = subst (IsVisited s) same v in
          let bound : c + suc n ≤ suc last = fits (omega arith) in
          look_stands c (columns (suc c) n) here (omega (arith, bound)) go

  present_stands : (b : Bool) → Tells (OfSome Stands) (end_in_present s b)
  present_stands false = done_tells (OfSome Stands) None tt
  present_stands true =
      from_stands (suc last - s.from.col) s.from.col s.from.col (λ some. omega (arith, some))
      (omega arith) at_first

  line_stands : Tells (OfSome Stands) (end_in_line s)
  line_stands =
      then_tells (OfSome Stands) (looks_at (one_line (pos s.from.line))) _
      (λ _ _. present_stands (nat_lt s.from.line (length s.text)))

  -- The end of a visited column is found

  abbrev search_at : ℕ → Painted Cause (Option RegionEnd)
  search_at c = end_from s kind (columns_from c last) c

  -- columns before the mark are passed over
  passed : (n m c on : ℕ) → m ≡ (c + n) - on → c ≤ on →
      end_from s kind (columns c n) on ≡ end_from s kind (columns on m) on
  passed zero m c on e le =
      let none : zero ≡ m = omega (arith, e) in
      ap (λ m. end_from s kind (columns on m) on) none
  passed (suc n) m c on e le =
      by_test (passed n m (suc c) on (omega (arith, e))) (nat_lt c on) refl
    where
      by_test : (suc c ≤ on →
          end_from s kind (columns (suc c) n) on ≡ end_from s kind (columns on m) on) →
          (b : Bool) → nat_lt c on ≡ b →
          end_from s kind (columns c (suc n)) on ≡ end_from s kind (columns on m) on
      by_test go true less =
          if_so (nat_lt c on) _ _ less ∙ go (grind (arith, nat_tests))
      by_test go false less =
          let here : c ≡ on = grind (arith, nat_tests) in
          let all : suc n ≡ m = omega (arith, e, here) in
          λ j. end_from s kind (columns (here j) (all j)) on

  at_column : (c : ℕ) → c ≤ last → search_at c ≡ look c (columns (suc c) (last - c))
  at_column c le =
      let more : suc last - c ≡ suc (last - c) = omega arith in
      let here : nat_lt c c ≡ false = grind (arith, nat_tests) in
      ap (λ n. end_from s kind (columns c n) c) more ∙ if_not (nat_lt c c) _ _ here

  from_next : (c d : ℕ) → c ≤ last → c < d →
      end_from s kind (columns (suc c) (last - c)) d ≡ search_at d
  from_next c d le less = passed (last - c) (suc last - d) (suc c) d (omega arith) less

  goes_on : {c d : ℕ} → c ≤ last → GoesOn s c d → (o : Option RegionEnd) →
      Gives (search_at d) o → Gives (search_at c) o
  goes_on {c = c} le (behind_a_skip {d = d} g) o r =
      let cs = columns (suc c) (last - c) in
      same_gives (search_at c) (look c cs) o (at_column c le)
      (bind_gives (skip_at s (skip_of kind) c) (by_skip c cs) (SkipTo d) o g
      (same_gives (end_from s kind cs d) (search_at d) o
      (from_next c d le (goes_right (behind_a_skip g))) r))
  goes_on {c = c} le (one_on u n) o r =
      let cs = columns (suc c) (last - c) in
      same_gives (search_at c) (look c cs) o (at_column c le)
      (bind_gives (skip_at s (skip_of kind) c) (by_skip c cs) NoSkip o u
      (bind_gives (end_made_at s c) (by_found c cs) None o n
      (same_gives (end_from s kind cs (suc c)) (search_at (suc c)) o
      (from_next c (suc c) le (omega arith)) r)))

  from_first : {c : ℕ} → IsVisited s c → (o : Option RegionEnd) → Gives (search_at c) o →
      Gives (search_at s.from.col) o
  from_first at_first o g = g
  from_first (at_next {c = c} v le n) o g = from_first v o (goes_on le n o g)

  ends_here : (c : ℕ) (e : RegionEnd) → HasEnd s c e → Gives (search_at c) (Some e)
  ends_here c e h =
      let cs = columns (suc c) (last - c) in
      same_gives (search_at c) (look c cs) (Some e) (at_column c h.within)
      (bind_gives (skip_at s (skip_of kind) c) (by_skip c cs) NoSkip (Some e) h.unskipped
      (bind_gives (end_made_at s c) (by_found c cs) (Some e) (Some e) h.made
      (done_gives (Some e))))

  line_ends : (c : ℕ) (e : RegionEnd) → s.from.line < length s.text → HasEnd s c e →
      Gives (end_in_line s) (Some e)
  line_ends c e less h =
      let here : true ≡ nat_lt s.from.line (length s.text) = grind (arith, nat_tests) in
      bind_gives (looks_at (one_line (pos s.from.line)))
      (λ _. end_in_present s (nat_lt s.from.line (length s.text))) tt (Some e)
      (record { looked = Some (one_line (pos s.from.line)); is = refl })
      (subst (λ b. Gives (end_in_present s b) (Some e)) here
      (from_first h.visited (Some e) (ends_here c e h)))

pub searches_go_right : SearchesGoRight
searches_go_right s c d g = goes_right s g

pub ends_stand_at_columns : EndsStandAtColumns
ends_stand_at_columns s end g =
    told (OfSome (Stands s)) (end_in_line s) (Some end) (line_stands s) g

pub columns_end_regions : ColumnsEndRegions
columns_end_regions s c end less h = line_ends s c end less h
