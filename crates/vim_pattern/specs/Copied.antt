-- A tree's last children, one below the other.
use Rattle.std.specs.Prelude.{List, [], ◌∷◌}
use Rattle.vim_pattern.specs.declared.copy.Above.{Above}
use Rattle.vim_pattern.specs.declared.copy.Above.TheVariants as above
use Rattle.vim_pattern.specs.Parted.{paired, wrapped}
use Rattle.vim_pattern.specs.Shape.{Shape, bare}

-- a node's parts but for its last child, with that child
abbrev pub over : Above → Shape → Shape
over (above.Two pair a) t = paired pair (bare a.value) t
over (above.One wrap) t = wrapped wrap t

-- the same for several, the uppermost first
abbrev pub all_over : List Above → Shape → Shape
all_over [] t = t
all_over (a ∷ below) t = over a (all_over below t)
