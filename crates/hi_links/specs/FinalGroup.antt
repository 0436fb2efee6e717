-- The final group of a group: where its links lead, when at most 100 are followed.
use Rattle.std.specs.Prelude.{ℕ, zero, suc, List}
use Rattle.std.specs.Option.{option_map_or}
use Rattle.syn_base.specs.declared.places.GroupId.{GroupId}
use Rattle.hi_links.specs.declared.highlight.Highlight.{Highlight}
use Rattle.hi_links.specs.Highlights.{highlight_of}

-- where at most so many links lead from a group
unfoldable pub followed : ℕ → List Highlight → GroupId → GroupId
followed zero links g = g
followed (suc most) links g = option_map_or (λ next. followed most links next) (highlight_of links g).link g

unfoldable pub final_group : List Highlight → GroupId → GroupId
final_group links g = followed 100 links g
