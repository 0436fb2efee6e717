-- What is left of a text, with what has been built and noted, is the whole.
use Rattle.std.proofs.Common.{◌≡◌, ℕ, ◌+◌, ◌<◌, ◌≤◌, length, drop, List, [], ◌∷◌, Bool, true, false, Ok, refl, sym, ap, subst, ◌∙◌, arith}
use Rattle.std.specs.Prelude.{◌||◌, if◌then◌else◌, count_by}
use Rattle.std.specs.List.{list_any}
use Rattle.std.proofs.lemmas.List.Sums.{sum_by-cons}
use Rattle.pattern_items.specs.declared.item.Surroundings.{Surroundings}
use Rattle.pattern_items.specs.declared.item.Placed.{Placed}
use Rattle.pattern_items.specs.declared.item.PatternUse.{PatternUse}
use Rattle.pattern_items.specs.Place.{Item, items_from, items_of, item, placed, is_counted, is_external, first_surroundings}
use Rattle.pattern_items.proofs.PlaceLaws.{items_step, placed_counts}
use Rattle.vim_pattern.specs.declared.notes.Noted.{Noted}
use Rattle.vim_pattern.specs.Shape.{Shape}
use Rattle.vim_pattern.specs.Pattern.{IsSummaryOf, asks_case, sets_match_start, holds_line_stop, case_by}
use Rattle.vim_pattern.specs.Summary.{noted_next, tree_of}
use Rattle.vim_pattern.specs.Read.{State, start, step, after, read}

-- these notes with those of the items to come
abbrev pub noted_with : Noted → List Item → Noted
noted_with n is = record {
  ignores_case = n.ignores_case || list_any (λ i. asks_case true i.sign) is;
  heeds_case = n.heeds_case || list_any (λ i. asks_case false i.sign) is;
  moves_start = n.moves_start || list_any (λ i. sets_match_start i.sign) is;
  line_end = n.line_end || list_any (λ i. holds_line_stop i.sign) is;
}

abbrev pub nothing_noted : Noted
nothing_noted = record { ignores_case = false; heeds_case = false; moves_start = false; line_end = false }

abbrev pub groups_in : List Item → ℕ
groups_in is = count_by (λ i. is_counted i.sign) is

abbrev pub externals_in : List Item → ℕ
externals_in is = count_by (λ i. is_external i.sign) is

pub record Progress (all : List Item) (x : Surroundings) (place : ℕ) (rest : List ℕ) (n : Noted) (s : State) : Type 0 where
  pub same : read (items_from 0 x place rest) s ≡ read all start
  pub noted : noted_with n (items_from 0 x place rest) ≡ noted_with nothing_noted all
  pub groups : x.groups + groups_in (items_from 0 x place rest) ≡ groups_in all
  pub externals : x.externals + externals_in (items_from 0 x place rest) ≡ externals_in all

pub nothing_read : (usage : PatternUse) (text : List ℕ) → Progress (items_of usage text) (first_surroundings usage) 0 text nothing_noted start
nothing_read usage text = record { same = refl; noted = refl; groups = omega arith; externals = omega arith }

or_assoc : (a b c : Bool) → (a || (b || c)) ≡ ((a || b) || c)
or_assoc true b c = refl
or_assoc false b c = refl

noted_step : (n : Noted) (i : Item) (is : List Item) → noted_with n (i ∷ is) ≡ noted_with (noted_next n i.sign) is
noted_step n i is = λ k. record {
  ignores_case = or_assoc n.ignores_case (asks_case true i.sign) (list_any (λ j. asks_case true j.sign) is) k;
  heeds_case = or_assoc n.heeds_case (asks_case false i.sign) (list_any (λ j. asks_case false j.sign) is) k;
  moves_start = or_assoc n.moves_start (sets_match_start i.sign) (list_any (λ j. sets_match_start j.sign) is) k;
  line_end = or_assoc n.line_end (holds_line_stop i.sign) (list_any (λ j. holds_line_stop j.sign) is) k;
}

module _ (all : List Item) (x : Surroundings) (place : ℕ) (rest : List ℕ) (n : Noted) (s : State) (p : Placed) (e : p ≡ placed x rest) where
  -- the items behind this one
  abbrev behind : List Item
  behind = items_from 0 p.next (place + p.len) (drop p.len rest)

  split : 0 < length rest → 1 ≤ p.len → items_from 0 x place rest ≡ item place p.sign ∷ behind
  split h k =
      items_step x place rest h (subst (λ q. 1 ≤ q.len) e k)
      ∙ (λ i. item place (sym e i).sign ∷ items_from 0 (sym e i).next (place + (sym e i).len) (drop (sym e i).len rest))

  one_group : p.next.groups ≡ x.groups + (if is_counted p.sign then 1 else 0)
  one_group = subst (λ q. q.next.groups ≡ x.groups + (if is_counted q.sign then 1 else 0)) (sym e) ((placed_counts x rest).groups)

  one_external : p.next.externals ≡ x.externals + (if is_external p.sign then 1 else 0)
  one_external = subst (λ q. q.next.externals ≡ x.externals + (if is_external q.sign then 1 else 0)) (sym e) ((placed_counts x rest).externals)

  split_next : (t : State) → 0 < length rest → 1 ≤ p.len → step s place p.sign ≡ Ok t → Progress all x place rest n s →
      Progress all p.next (place + p.len) (drop p.len rest) (noted_next n p.sign) t
  split_next t h k told g =
      let halves : items_from 0 x place rest ≡ item place p.sign ∷ behind = split h k in
      let groups : x.groups + groups_in (item place p.sign ∷ behind) ≡ groups_in all = ap (λ is. x.groups + groups_in is) (sym halves) ∙ g.groups in
      let externals : x.externals + externals_in (item place p.sign ∷ behind) ≡ externals_in all = ap (λ is. x.externals + externals_in is) (sym halves) ∙ g.externals in
      let one : p.next.groups ≡ x.groups + (if is_counted p.sign then 1 else 0) = one_group in
      let other : p.next.externals ≡ x.externals + (if is_external p.sign then 1 else 0) = one_external in
      let groups_more : groups_in (item place p.sign ∷ behind) ≡ (if is_counted p.sign then 1 else 0) + groups_in behind = sum_by-cons _ (item place p.sign) behind in
      let externals_more : externals_in (item place p.sign ∷ behind) ≡ (if is_external p.sign then 1 else 0) + externals_in behind = sum_by-cons _ (item place p.sign) behind in
      record {
        same = sym (ap (λ is. read is s) halves ∙ ap (λ v. after v (λ u. read behind u)) told) ∙ g.same;
        noted = sym (ap (λ is. noted_with n is) halves ∙ noted_step n (item place p.sign) behind) ∙ g.noted;
        groups = omega arith;
        externals = omega arith;
      }

  pub progress_next : (t : State) (m : Noted) (more : List ℕ) → 0 < length rest → 1 ≤ p.len → m ≡ noted_next n p.sign → step s place p.sign ≡ Ok t → more ≡ drop p.len rest →
      Progress all x place rest n s → Progress all p.next (place + p.len) more m t
  progress_next t m more h k noted told left g =
      subst (λ cs. Progress all p.next (place + p.len) cs m t) (sym left)
      (subst (λ v. Progress all p.next (place + p.len) (drop p.len rest) v t) (sym noted) (split_next t h k told g))

-- where nothing is left, the notes are the summary
or_false : (a : Bool) → (a || false) ≡ a
or_false true = refl
or_false false = refl

pub all_noted : (all : List Item) (x : Surroundings) (place : ℕ) (n : Noted) (s : State) (t : Shape) → Progress all x place [] n s → IsSummaryOf all (tree_of t n x.groups x.externals)
all_noted all x place n s t g =
    let ignores : n.ignores_case ≡ list_any (λ i. asks_case true i.sign) all = sym (or_false n.ignores_case) ∙ (λ k. (g.noted k).ignores_case) in
    let heeds : n.heeds_case ≡ list_any (λ i. asks_case false i.sign) all = sym (or_false n.heeds_case) ∙ (λ k. (g.noted k).heeds_case) in
    record {
      case = λ k. case_by (ignores k) (heeds k);
      groups = let e : x.groups + 0 ≡ groups_in all = g.groups in omega arith;
      externals = let e : x.externals + 0 ≡ externals_in all = g.externals in omega arith;
      moves_start = sym (or_false n.moves_start) ∙ (λ k. (g.noted k).moves_start);
      line_end = sym (or_false n.line_end) ∙ (λ k. (g.noted k).line_end);
    }
