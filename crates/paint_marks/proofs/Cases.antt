-- Worked cases: what small marked syntaxes show in small texts, and what that is in the old groups.
use Rattle.std.specs.Prelude.{◌≡◌, ℕ, List, [], ◌∷◌, map, Option, Some, None, codes, nat_eq, true, false}
use Rattle.std.specs.Prelude.{refl, zero, suc}
use Rattle.std.specs.Option.{option_map}
use Rattle.char_class.specs.CharSet.{set_has, is_member}
use Rattle.char_class.specs.Folds.{is_same, range_holds}
use Rattle.syn_base.specs.declared.places.Span.{Span}
use Rattle.keyword_table.specs.Candidates.{candidates}
use Rattle.keyword_table.specs.Words.{word_end}
use Rattle.match_rules.specs.Ways.{Text}
use Rattle.syntax_set.specs.Membership.{cluster_has}
use Rattle.syntax_set.specs.declared.item.Item.{Item}
use Rattle.syntax_set.specs.declared.item.ItemKind.TheVariants.{Match}
use Rattle.syntax_set.specs.declared.item.Pattern.{Pattern}
use Rattle.paint_rules.specs.Syntax.{attempt_by}
use Rattle.paint_rules.proofs.Sample.{lit, group, item, only, region, span, run, syntax}
use Rattle.paint_rules.specs.Line.{painting}
use Rattle.paint_rules.specs.Rules.{Rules, item_of}
use Rattle.paint_marks.specs.Alike.{told_of, unmarked_told}
use Rattle.paint_marks.specs.Naming.{MarksOfGroups, marked_list}
use Rattle.paint_marks.specs.Named.{added_of, IsMarkedButLists, ItemNamesAlike, AreMarkedWithLists}
use Rattle.paint_marks.proofs.NameLaws.{lists_are_enough}
use Rattle.paint_marks.proofs.TextLaws.{spans_are_alike}
use Rattle.paint_marks.specs.OldGroups.{OldGroups, unmarked_spans}

-- the mark 20,000 stands for a group
abbrev stands_for : ℕ → OldGroups
stands_for g h = elim (nat_eq h.0 20000) [ true ↦ group g | false ↦ h ]

-- the spans in the old groups
abbrev run_unmarked : ℕ → List Item → Text → Option (List (List Span))
run_unmarked g items t = option_map (map (unmarked_spans (stands_for g))) (run items [] t)

-- syn match A "ab" / syn match A "cd" conceal
abbrev two_matches : ℕ → List Item
two_matches g = item 0 (Match (lit (codes "ab"))) ∷ item g (Match (lit (codes "cd"))) ∷ []

a_mark_is_a_span_of_its_own : run (two_matches 20000) [] (codes "abcd" ∷ [])
    ≡ Some ((span 1 2 0 ∷ span 3 4 20000 ∷ []) ∷ [])
unfolding attempt_by word_end candidates set_has is_member is_same range_holds cluster_has
a_mark_is_a_span_of_its_own = refl

neighbours_are_joined : run_unmarked 0 (two_matches 20000) (codes "abcd cd" ∷ [])
    ≡ run (two_matches 0) [] (codes "abcd cd" ∷ [])
unfolding attempt_by word_end candidates set_has is_member is_same range_holds cluster_has
neighbours_are_joined = refl

-- syn region A matchgroup=B start="(" end=")" concealends
abbrev with_ends : ℕ → Pattern → Pattern
with_ends g p = record p { matchgroup = Some (group g) }

abbrev a_region : ℕ → List Item
a_region g =
    item 0 (region (with_ends g (lit (codes "("))) None (with_ends g (lit (codes ")")))) ∷ []

areas_show_the_old_matchgroup : run_unmarked 1 (a_region 20000) (codes "a(b)c" ∷ [])
    ≡ Some ((span 2 2 1 ∷ span 3 3 0 ∷ span 4 4 1 ∷ []) ∷ [])
unfolding attempt_by word_end candidates set_has is_member is_same range_holds cluster_has
areas_show_the_old_matchgroup = refl

-- with the body's own group as matchgroup, the three spans are one
areas_join_the_body : run_unmarked 0 (a_region 20000) (codes "a(b)c" ∷ [])
    ≡ Some ((span 2 4 0 ∷ []) ∷ [])
unfolding attempt_by word_end candidates set_has is_member is_same range_holds cluster_has
areas_join_the_body = refl

-- syn region A start="(" end=")" contains=B / syn match B "b" contained conceal
abbrev contained_match : ℕ → List Item
contained_match g =
    record (item 0 (region (lit (codes "(")) None (lit (codes ")")))) { contains = only 1 }
    ∷ record (item g (Match (lit (codes "b")))) { contained = true }
    ∷ []

-- where a list doesn't name the mark of what it names, the spans are others: the lists matter
lists_have_to_name_the_mark : run_unmarked 1 (contained_match 20000) (codes "(b)" ∷ [])
    ≡ Some ((span 1 3 0 ∷ []) ∷ [])
unfolding attempt_by word_end candidates set_has is_member is_same range_holds cluster_has
lists_have_to_name_the_mark = refl

where_it_is_named : run (contained_match 1) [] (codes "(b)" ∷ [])
    ≡ Some ((span 1 1 0 ∷ span 2 2 1 ∷ span 3 3 0 ∷ []) ∷ [])
unfolding attempt_by word_end candidates set_has is_member is_same range_holds cluster_has
where_it_is_named = refl

-- The same with a list that names the mark: a syntax and its marked form

abbrev mark_of_one : MarksOfGroups
mark_of_one g = elim (nat_eq g 1) [ true ↦ 20000 ∷ [] | false ↦ [] ]

abbrev marked_rules : Rules
marked_rules =
    syntax
    (record (item 0 (region (lit (codes "(")) None (lit (codes ")"))))
    { contains = option_map (marked_list mark_of_one) (only 1) }
    ∷ record (item 20000 (Match (lit (codes "b")))) { contained = true }
    ∷ []) []

abbrev own_rules : Rules
own_rules = syntax (contained_match 1) []

each_is_marked : (i : ℕ) →
    IsMarkedButLists (stands_for 1) (added_of marked_rules.items (record { 0 = i }))
    (added_of own_rules.items (record { 0 = i }))
each_is_marked zero = record { live = refl; same = refl }
each_is_marked (suc zero) = record { live = refl; same = refl }
each_is_marked (suc (suc i)) = record { live = refl; same = refl }

lists_name_alike : (of i : ℕ) →
    ItemNamesAlike (stands_for 1) (item_of marked_rules.items (record { 0 = of })).group
    (item_of marked_rules.items (record { 0 = i })) (item_of own_rules.items (record { 0 = i }))
lists_name_alike zero zero = record {
  contains = record { special = refl; groups = refl; clusters = refl };
  containedin = tt;
  nextgroup = tt;
}
lists_name_alike (suc zero) zero = record {
  contains = record { special = refl; groups = refl; clusters = refl };
  containedin = tt;
  nextgroup = tt;
}
lists_name_alike (suc (suc of)) zero = record {
  contains = record { special = refl; groups = refl; clusters = refl };
  containedin = tt;
  nextgroup = tt;
}
lists_name_alike of (suc zero) = record { contains = tt; containedin = tt; nextgroup = tt }
lists_name_alike of (suc (suc i)) = record { contains = tt; containedin = tt; nextgroup = tt }

a_syntax_and_its_marks : AreMarkedWithLists (stands_for 1) marked_rules own_rules
a_syntax_and_its_marks = record {
  as_many = refl;
  each = λ i. each_is_marked i.0;
  lists = λ of i. lists_name_alike of.0 i.0;
  clusters = λ of cluster. record { groups = refl; clusters = λ n. refl };
  else_same = refl;
}

-- so it paints every text alike
it_paints_alike : (t : Text) →
    unmarked_told (stands_for 1) (told_of (painting marked_rules t))
    ≡ told_of (painting own_rules t)
it_paints_alike t =
    spans_are_alike (stands_for 1) marked_rules own_rules
    (lists_are_enough (stands_for 1) marked_rules own_rules a_syntax_and_its_marks) t
