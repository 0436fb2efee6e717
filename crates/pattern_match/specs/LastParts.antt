-- A ready node's last children, one below the other.
use Rattle.std.specs.Prelude.{◌<◌, List, [], ◌∷◌}
use Rattle.vim_pattern.specs.Parted.{node_count, paired, wrapped}
use Rattle.vim_pattern.specs.Shape.{Shape, bare}
use Rattle.pattern_match.specs.declared.ready.Above.{Above}
use Rattle.pattern_match.specs.declared.ready.Above.TheVariants as above
use Rattle.pattern_match.specs.declared.ready.Opened.{Opened}
use Rattle.pattern_match.specs.declared.ready.Opened.TheVariants.{Leaf, Under}
use Rattle.pattern_match.specs.Steps.{shape_of}
use Rattle.pattern_match.specs.StandsFor.{StandsFor}

-- a node's parts but for its last child, with that child
abbrev pub over : Above → Shape → Shape
over (above.Two pair a) t = paired pair (shape_of a.step) t
over (above.One wrap) t = wrapped wrap t

-- the same for several, the uppermost first
abbrev pub all_over : List Above → Shape → Shape
all_over [] t = t
all_over (a ∷ below) t = over a (all_over below t)

-- a ready leaf stands for the node, or its ready parts do with the last child, which is smaller
abbrev pub IsOpened : Opened → Shape → Type 0
IsOpened (Leaf made) node = StandsFor (shape_of made.step) node
IsOpened (Under above last) node =
    StandsFor (over above (bare last.now)) node × (node_count (bare last.now) < node_count node)
