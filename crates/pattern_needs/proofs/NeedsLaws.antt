-- Attempts in a line that lacks what the pattern needs are in vain.
use Rattle.std.proofs.Common.{◌≡◌, ℕ, zero, suc, ◌≤◌, Bool, true, false, List, [], ◌∷◌, length, refl, sym, ap, ◌∙◌, arith, subst}
use Rattle.std.specs.Prelude.{Some, not, nat_le, nat_lt, drop, slice_get}
use Rattle.std.specs.List.{list_any}
use Rattle.std.proofs.lemmas.Bool.{and_parts, not-true, or_parts}
use Rattle.std.proofs.lemmas.Bool.Decides.{nat_tests}
use Rattle.std.proofs.lemmas.Option.{same_Some, none-some}
use Rattle.syn_base.specs.declared.places.Place.{Place}
use Rattle.match_rules.specs.Ways.{Context, Way, line_at, place, way_from}
use Rattle.vim_pattern.specs.Shape.{Shape}
use Rattle.vim_pattern.specs.Tree.{PatternTree}
use Rattle.match_rules.specs.Attempt.{for_tree}
use Rattle.match_rules.specs.Marks.{Mark}
use Rattle.match_rules.specs.Visits.{visits}
use Rattle.pattern_screens.proofs.FailingLaws.{isnt_more}
use Rattle.pattern_screens.proofs.LinedParts.{IsIn, Lined}
use Rattle.pattern_screens.proofs.InVain.{in-vain}
use Rattle.pattern_screens.proofs.Bounded.{ways_of}
use Rattle.pattern_needs.specs.LineCosts.{cost_of, is_cheap_in, nothing, stays}
use Rattle.pattern_needs.specs.Needs.{lacks, some_takes}
use Rattle.pattern_needs.specs.NeedsLaw.{AreNeedsSound}
use Rattle.pattern_needs.proofs.Lacking.{Lacks, none-lacking}
use Rattle.pattern_needs.proofs.CostLaws.{cost-below, nothing-below}
use Rattle.pattern_needs.proofs.CostWays.{by_left, cost-light, left_at, ticks-weigh}
use Rattle.pattern_needs.proofs.LineParts.{IsFrom, stay-looks, stay-ways}

-- what no character behind a column is, none at a place behind it is
pub none-there : (f : ℕ → Bool) (line : List ℕ) (from i c : ℕ) → list_any f (drop from line) ≡ false → from ≤ i → slice_get line i ≡ Some c → f c ≡ false
none-there f [] from i c h l e = absurd (none-some c e)
none-there f (d ∷ line) zero zero c h l e = ap f (sym (same_Some d c e)) ∙ (or_parts (f d) (list_any f line) h).0
none-there f (d ∷ line) zero (suc i) c h l e = none-there f line zero i c (or_parts (f d) (list_any f line) h).1 (omega arith) e
none-there f (d ∷ line) (suc from) zero c h l e = absurd (omega arith)
none-there f (d ∷ line) (suc from) (suc i) c h l e = none-there f line from i c h (omega arith) e

pub cheap-is : (most budget : ℕ) (tree : PatternTree) → is_cheap_in most budget tree ≡ true → (stays tree.node ≡ true) × (cost_of tree.node nothing most ≤ budget)
cheap-is most budget tree e =
    let t = and_parts (stays tree.node) (not (nat_lt budget (cost_of tree.node nothing most))) e in
    (t.0, isnt_more budget (cost_of tree.node nothing most) t.1)

-- marks without a way of a part that is within a budget
pub bounded-vain : (x : Context) (node : Shape) (most budget line col : ℕ) → length (line_at x.text line) ≤ most → col ≤ length (line_at x.text line) → stays node ≡ true → cost_of node nothing most ≤ budget →
    ways_of (visits x node (way_from (place line col))) ≡ 0 → Lined x line 0 budget (visits x node (way_from (place line col)))
bounded-vain x node most budget line col short within stay cheap none =
    let w : Way = way_from (place line col) in
    let at : IsIn x line w.at = record { on = refl; within = within } in
    let marks : List Mark = visits x node w in
    record {
      here = stay-ways x line node stay w at;
      few = omega (arith, none);
      cheap = omega (
        arith,
        ticks-weigh (by_left x line nothing) marks,
        cost-light x line node stay nothing (nothing-below nothing) w at,
        cost-below node nothing nothing (nothing-below nothing) (left_at x line w.at) most (omega (arith, short)),
        cheap,
      );
      seen = stay-looks x line node stay w at;
    }

is_within : (a b : ℕ) → nat_le a b ≡ true → a ≤ b
is_within a b e = grind (arith, nat_tests)

pub needs-law : AreNeedsSound
needs-law tree x budget need line from col is lacked later within =
    let y : Context = for_tree tree x in
    let start : Place = place line col in
    let chars : List ℕ = line_at x.text line in
    let k = and_parts (nat_le (length chars) need.most) (lacks need.sets need.ignore chars from need.atoms) lacked in
    let cheap = cheap-is need.most budget tree is.cheap in
    let short : length chars ≤ need.most = is_within (length chars) need.most k.0 in
    let at : IsFrom y line from start = record { on = refl; within = within; from = later } in
    let none : list_any (some_takes need.sets need.ignore need.atoms) (drop from chars) ≡ false = not-true (list_any (some_takes need.sets need.ignore need.atoms) (drop from chars)) k.1 in
    let here : list_any (some_takes y.sets y.ignore need.atoms) (drop from chars) ≡ false = subst (λ s. list_any (some_takes s y.ignore need.atoms) (drop from chars) ≡ false) is.by_sets (subst (λ i. list_any (some_takes need.sets i need.atoms) (drop from chars) ≡ false) is.by_case none) in
    let lack : Lacks y line from need.atoms = λ i c l e. none-there (some_takes y.sets y.ignore need.atoms) chars from i c here l e in
    let none-here : ways_of (visits y tree.node (way_from start)) ≡ 0 = none-lacking y line from tree.node cheap.0 need.atoms is.atoms lack (way_from start) at in
    in-vain {R = IsIn y line} {marks = visits y tree.node (way_from start)} start (bounded-vain y tree.node need.most budget line col short within cheap.0 cheap.1 none-here)
