-- The marked form of a sound syntax is sound: patterns keep their numbers and trees, and items theirs.
use Rattle.std.proofs.Common.{◌≡◌, ◌<◌, ℕ, suc, ◌+◌, List, [], ◌∷◌, length, map, refl, sym, subst, ap, ◌∙◌, true, false}
use Rattle.std.proofs.lemmas.List.Elements.{All-nil, All-cons, All-head, All-tail}
use Rattle.std.specs.Prelude.{Bool, if◌then◌else◌, Result, Ok, Err, IfOk}
use Rattle.std.specs.List.{All}
use Rattle.conceal_view.specs.Marking.{in_mark, in_marks, marked_from, marked_item, marked_items, marked_kind, marked_pattern, marks_of_groups, with_marks_named}
use Rattle.conceal_view.specs.Marks.{concealed_areas, concealed_body, number_behind}
use Rattle.conceal_view.specs.declared.marked.Marked.{Marked}
use Rattle.paint_marks.specs.Naming.{MarksOfGroups}
use Rattle.syn_base.specs.declared.places.GroupId.{GroupId}
use Rattle.syn_reader.specs.Soundness.{IsSound}
use Rattle.syn_reader.specs.declared.syntax.Syntax.{Syntax}
use Rattle.syntax_set.specs.Soundness.{AreKindAdded, AreSound, HasAdded, IsAdded}
use Rattle.syntax_set.specs.declared.added_item.AddedItem.{AddedItem}
use Rattle.syntax_set.specs.declared.item.ItemKind.{ItemKind}
use Rattle.syntax_set.specs.declared.item.ItemKind.TheVariants.{Keyword, Match, Region}
use Rattle.syntax_set.specs.declared.item.Pattern.{Pattern}

patterns_sound : (s : Syntax) (mark : GroupId → GroupId) (patterns : List Pattern) → All (IsAdded s.programs) patterns → All (IsAdded s.programs) (map (marked_pattern mark) patterns)
patterns_sound s mark [] h = All-nil (IsAdded s.programs)
patterns_sound s mark (p ∷ patterns) h =
    All-cons (IsAdded s.programs) (marked_pattern mark p) (map (marked_pattern mark) patterns)
    (All-head (IsAdded s.programs) p patterns h) (patterns_sound s mark patterns (All-tail (IsAdded s.programs) p patterns h))

kind_sound : (s : Syntax) (mark : GroupId → GroupId) (kind : ItemKind) → AreKindAdded s.programs kind → AreKindAdded s.programs (marked_kind mark kind)
kind_sound s mark Keyword h = tt
kind_sound s mark (Match p) h = h
kind_sound s mark (Region starts skip ends) h = record {
  starts_added = patterns_sound s mark starts h.starts_added;
  skip_added = h.skip_added;
  ends_added = patterns_sound s mark ends h.ends_added;
}

item_sound : (s : Syntax) (marks : MarksOfGroups) (number : ℕ) (added : AddedItem) → HasAdded s.programs added → HasAdded s.programs (marked_item marks number added)
item_sound s marks number added h = by added.live
  where
    by : (live : Bool) → AreKindAdded s.programs (with_marks_named marks (if live then in_marks number added.item else added.item)).kind
    by true = kind_sound s (in_mark (number + length (concealed_body added.item)) (concealed_areas added.item)) added.item.kind h
    by false = h

items_sound : (s : Syntax) (marks : MarksOfGroups) (number : ℕ) (items : List AddedItem) → AreSound items s.programs → AreSound (marked_from marks number items) s.programs
items_sound s marks number [] h = All-nil (HasAdded s.programs)
items_sound s marks number (added ∷ items) h =
    All-cons (HasAdded s.programs) (marked_item marks number added) (marked_from marks (number_behind number added) items)
    (item_sound s marks number added (All-head (HasAdded s.programs) added items h))
    (items_sound s marks (number_behind number added) items (All-tail (HasAdded s.programs) added items h))

as_many : (marks : MarksOfGroups) (number : ℕ) (items : List AddedItem) → length (marked_from marks number items) ≡ length items
as_many marks number [] = refl
as_many marks number (added ∷ items) = ap suc (as_many marks (number_behind number added) items)

pub marked_sound : (s : Syntax) (marked : List AddedItem) → marked ≡ marked_items s.items → IsSound s.items s.programs s.keywords → IsSound marked s.programs s.keywords
marked_sound s marked is sound =
    let S : List AddedItem → Type 0 = λ m. IsSound m s.programs s.keywords in
    subst S (sym is) (record {
      patterns = items_sound s (marks_of_groups s.items) 20000 s.items sound.patterns;
      numbers = rw (as_many (marks_of_groups s.items) 20000 s.items) sound.numbers;
    })

marked_count : (items marked : List AddedItem) → marked ≡ marked_items items → length marked ≡ length items
marked_count items marked is = ap (λ (m : List AddedItem). length m) is ∙ as_many (marks_of_groups items) 20000 items

-- marks of as many items
pub of_those_items : {E : Type 0} (items : List AddedItem) (result : Result Marked E) → IfOk result (λ marked. marked.items ≡ marked_items items) → IfOk result (λ marked. All (λ mark. mark.item.0 < length marked.items) marked.marks) → IfOk result (λ marked. All (λ mark. mark.item.0 < length items) marked.marks)
of_those_items items (Ok marked) are of = let P : ℕ → Type 0 = λ n. All (λ mark. mark.item.0 < n) marked.marks in subst P (marked_count items marked.items are) of
of_those_items items (Err error) are of = tt
