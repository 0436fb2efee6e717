-- Making the groups that exist from the start, one by one.
use Rattle.std.proofs.Common.{◌≡◌, ℕ, ◌+◌, ◌<◌, List, [], ◌∷◌, ◌++◌, ◌⊎◌, inl, inr, length, take, fold, get_or, Option, Some, false, true, refl, ap, sym, ◌∙◌}
use Rattle.std.specs.Borrow.{Bor}
use Rattle.std.specs.Option.{option_map_or}
use Rattle.std.proofs.lemmas.List.{get_or-map, length-map, take_more}
use Rattle.std.proofs.lemmas.List.Sums.{fold-append}
use Rattle.syn_base.specs.declared.places.GroupId.{GroupId}
use Rattle.syntax_set.specs.declared.set_error.SetError.{SetError}
use Rattle.syntax_set.specs.declared.set_error.SetError.TheVariants.{Memory, TooManyGroups, TooManyItems}
use Rattle.syntax_set.specs.Groups.{group_of, IsRefusedGroup, with_group}
use Rattle.hi_links.specs.declared.highlight.Highlight.{Highlight}
use Rattle.hi_links.specs.declared.highlight.Style.{Style}
use Rattle.hi_links.specs.declared.usual.UsualRow.{UsualRow}
use Rattle.hi_links.specs.declared.usual.UsualHighlight.TheVariants.{LinkedTo, Shown}
use Rattle.hi_links.specs.Highlights.{linked, styled}
use Rattle.hi_links.specs.UsualGroups.{groups_and_links, GroupsAndLinks, HasSomeUsual, IsRefusedUsual, usual_links, UsualGroup, with_all_usual, with_usual, with_usual_links}
use Rattle.hi_links.specs.UsualRows.{usual_group, usual_highlight, usual_rows}

-- a preferred group
pub made_preferred : (names : List (List ℕ)) (links : List Highlight) (row : UsualRow) (style : Style) (g : GroupId)
    → group_of names row.name.now ≡ Some g → row.usual ≡ Shown style
    → with_usual_links names links (usual_group row) ≡ styled links g style false
made_preferred names links row style g found is =
    λ j. option_map_or (λ g. usual_links names links (usual_highlight (is j)) g) (found j) links

-- a minor group
pub made_minor : (names : List (List ℕ)) (links : List Highlight) (row : UsualRow) (other : Bor (List ℕ)) (g : GroupId) (to : Option GroupId)
    → group_of names row.name.now ≡ Some g → row.usual ≡ LinkedTo other → to ≡ group_of names other.now
    → with_usual_links names links (usual_group row) ≡ linked links g to true false
made_minor names links row other g to found is target =
    (λ j. option_map_or (λ g. usual_links names links (usual_highlight (is j)) g) (found j) links)
    ∙ ap (λ to. linked links g to true false) (sym target)

module _ (rows : List UsualRow) (i : ℕ) (default : UsualRow) (within : i < length rows) where
  -- the next of the groups
  pub is_next : (other : UsualGroup) → get_or (usual_rows rows) i other ≡ usual_group (get_or rows i default)
  is_next other = get_or-map usual_group rows i default other within

  one_longer : take (i + 1) (usual_rows rows) ≡ take i (usual_rows rows) ++ usual_group (get_or rows i default) ∷ []
  one_longer =
      let inside : i < length (usual_rows rows) = simp length-map within in
      take_more (usual_rows rows) i (usual_group default) inside
      ∙ ap (λ group. take i (usual_rows rows) ++ group ∷ []) (is_next (usual_group default))

  module _ (start : GroupsAndLinks) (names : List (List ℕ)) (links : List Highlight)
      (so_far : groups_and_links names links ≡ with_all_usual start (take i (usual_rows rows))) where
    -- with one group more
    pub one_more : (new : List (List ℕ)) (new_links : List Highlight) → new ≡ with_group names (get_or rows i default).name.now
        → new_links ≡ with_usual_links new links (usual_group (get_or rows i default))
        → groups_and_links new new_links ≡ with_all_usual start (take (i + 1) (usual_rows rows))
    unfolding with_all_usual
    one_more new new_links named linked =
        (λ j. groups_and_links (named j) (linked_to_named j))
        ∙ ap (λ known. with_usual known (usual_group (get_or rows i default))) so_far
        ∙ sym (fold-append with_usual start (take i (usual_rows rows)) (usual_group (get_or rows i default) ∷ []))
        ∙ ap (λ groups. fold with_usual start groups) (sym one_longer)
      where
        linked_to_named : new_links ≡ with_usual_links (with_group names (get_or rows i default).name.now) links (usual_group (get_or rows i default))
        linked_to_named = linked ∙ ap (λ known. with_usual_links known links (usual_group (get_or rows i default))) named

-- a group was made or not before the refusal
pub some_made : (rows : List UsualRow) (i : ℕ) (default : UsualRow) → i < length rows
    → (old names new : List (List ℕ)) (links : List Highlight)
    → groups_and_links names links ≡ with_all_usual (groups_and_links old []) (take i (usual_rows rows))
    → (new ≡ names) ⊎ (new ≡ with_group names (get_or rows i default).name.now) → HasSomeUsual (usual_rows rows) old new
some_made rows i default within old names new links so_far (inl same) =
    record { count = i; made = same ∙ ap (λ known. known.names) so_far }
some_made rows i default within old names new links so_far (inr more) =
    record {
      count = i + 1;
      made = ap (λ known. known.names) (one_more rows i default within (groups_and_links old []) names links so_far new _ more refl);
    }

-- a name that was refused is one of these
pub refused_one : (rows : List UsualRow) (i : ℕ) (default : UsualRow) → i < length rows
    → (names : List (List ℕ)) (cause : SetError) → IsRefusedGroup names (get_or rows i default).name.now cause
    → IsRefusedUsual (usual_rows rows) names cause
refused_one rows i default within names TooManyItems refused = refused
refused_one rows i default within names TooManyGroups refused =
    let inside : i < length (usual_rows rows) = simp length-map within in
    (refused.1, (i, usual_group (get_or rows i default), inside, is_next rows i default within _, refused.0))
refused_one rows i default within names Memory refused = refused

-- none made yet
pub none_made : (names : List (List ℕ)) (links : List Highlight) → links ≡ [] → groups_and_links names links ≡ with_all_usual (groups_and_links names []) []
unfolding with_all_usual
none_made names links none = ap (groups_and_links names) none
