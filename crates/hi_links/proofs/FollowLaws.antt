-- Following links one by one.
use Rattle.std.proofs.Common.{◌≡◌, ℕ, zero, suc, ◌-◌, List, Some, None, refl, ap, ◌∙◌}
use Rattle.std.specs.Option.{option_map_or}
use Rattle.syn_base.specs.declared.places.GroupId.{GroupId}
use Rattle.hi_links.specs.declared.highlight.Highlight.{Highlight}
use Rattle.hi_links.specs.Highlights.{highlight_of}
use Rattle.hi_links.specs.FinalGroup.{final_group, followed}

-- all of the links are still to be followed
pub none_followed : (links : List Highlight) (g : GroupId) → followed (100 - 0) links g ≡ final_group links g
unfolding final_group
none_followed links g = refl

-- a group without a link leads nowhere
pub end_followed : (most : ℕ) (links : List Highlight) (g : GroupId) → (highlight_of links g).link ≡ None → followed most links g ≡ g
unfolding followed
end_followed zero links g no_link = refl
end_followed (suc most) links g no_link = ap (λ link. option_map_or (λ next. followed most links next) link g) no_link

-- one link more is followed
pub next_followed : (most left : ℕ) (links : List Highlight) (g next : GroupId) → most ≡ suc left → (highlight_of links g).link ≡ Some next
    → followed most links g ≡ followed left links next
unfolding followed
next_followed most left links g next more linked =
    ap (λ n. followed n links g) more ∙ ap (λ link. option_map_or (λ to. followed left links to) link g) linked

-- no link is left to be followed
pub all_followed : (links : List Highlight) (g : GroupId) → followed 0 links g ≡ g
unfolding followed
all_followed links g = refl
