-- What a few marked syntaxes paint.
use Rattle.std.proofs.Common.{◌≡◌, true, [], ◌∷◌, refl}
use Rattle.std.specs.Prelude.{Some, None, codes}
use Rattle.char_class.specs.CharSet.{set_has, is_member}
use Rattle.char_class.specs.Folds.{is_same, range_holds}
use Rattle.keyword_table.specs.Candidates.{candidates}
use Rattle.keyword_table.specs.Words.{word_end}
use Rattle.match_rules.specs.Ways.{Text}
use Rattle.syntax_set.specs.Membership.{cluster_has}
use Rattle.syntax_set.specs.declared.item.ItemKind.TheVariants.{Match}
use Rattle.syntax_set.specs.declared.item.Pattern.{Pattern}
use Rattle.paint_rules.proofs.Sample.{group, item, lit, only, region, span, syntax}
use Rattle.paint_rules.specs.Line.{painting}
use Rattle.paint_rules.specs.Rules.{Rules}
use Rattle.paint_rules.specs.Syntax.{attempt_by}
use Rattle.paint_marks.specs.Alike.{Told, Spans, told_of, unmarked_told}
use Rattle.conceal_view.specs.MarkedPaintings.{marked_rules}
use Rattle.conceal_view.specs.Marking.{old_groups}
use Rattle.conceal_view.specs.Marks.{marks_of}

abbrev marked_told : Rules → Text → Told
marked_told r t = told_of (painting (marked_rules r) t)

abbrev old_told : Rules → Text → Told
old_told r t = unmarked_told (old_groups (marks_of r.items)) (marked_told r t)

-- syn match A "ab" / syn match A "cd" conceal
abbrev two_matches : Rules
two_matches = syntax (item 1 (Match (lit (codes "ab"))) ∷ record (item 1 (Match (lit (codes "cd")))) { conceal = true } ∷ []) []

a_concealed_body : marked_told two_matches (codes "abcd" ∷ []) ≡ Spans ((span 1 2 1 ∷ span 3 4 20000 ∷ []) ∷ [])
unfolding attempt_by word_end candidates set_has is_member is_same range_holds cluster_has
a_concealed_body = refl

it_is_one_span_in_old_groups : old_told two_matches (codes "abcd" ∷ []) ≡ Spans ((span 1 4 1 ∷ []) ∷ [])
unfolding attempt_by word_end candidates set_has is_member is_same range_holds cluster_has
it_is_one_span_in_old_groups = refl

-- syn region A matchgroup=Q start="(" end=")" concealends conceal
abbrev with_matchgroup : Pattern → Pattern
with_matchgroup p = record p { matchgroup = Some (group 2) }

abbrev a_region : Rules
a_region =
    syntax (record (item 1 (region (with_matchgroup (lit (codes "("))) None (with_matchgroup (lit (codes ")"))))) { conceal = true; concealends = true } ∷ []) []

a_body_between_its_areas : marked_told a_region (codes "a(b)c" ∷ []) ≡ Spans ((span 2 2 20001 ∷ span 3 3 20000 ∷ span 4 4 20001 ∷ []) ∷ [])
unfolding attempt_by word_end candidates set_has is_member is_same range_holds cluster_has
a_body_between_its_areas = refl

-- syn region A start="(" end=")" contains=B / syn match B "b" contained conceal
abbrev contained_match : Rules
contained_match =
    syntax
    (record (item 1 (region (lit (codes "(")) None (lit (codes ")")))) { contains = only 2 }
    ∷ record (item 2 (Match (lit (codes "b")))) { contained = true; conceal = true }
    ∷ []) []

-- the list names the mark, so the item still starts
a_contained_body : marked_told contained_match (codes "(b)" ∷ []) ≡ Spans ((span 1 1 1 ∷ span 2 2 20000 ∷ span 3 3 1 ∷ []) ∷ [])
unfolding attempt_by word_end candidates set_has is_member is_same range_holds cluster_has
a_contained_body = refl
