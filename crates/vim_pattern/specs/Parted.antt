-- A node's parts: what it is of its children, and these.
use Rattle.std.specs.Prelude.{ℕ, ◌+◌, ◌<◌}
use Rattle.vim_pattern.specs.declared.parted.Pair.{Pair}
use Rattle.vim_pattern.specs.declared.parted.Pair.TheVariants as pair
use Rattle.vim_pattern.specs.declared.parted.Parted.{Parted}
use Rattle.vim_pattern.specs.declared.parted.Parted.TheVariants as parted
use Rattle.vim_pattern.specs.declared.parted.Wrap.{Wrap}
use Rattle.vim_pattern.specs.declared.parted.Wrap.TheVariants as wrap
use Rattle.vim_pattern.specs.Shape.{Shape, bare, empty, one, seq, or, and, group, external, repeat, ahead, before, whole}

-- a node of two children
abbrev pub paired : Pair → Shape → Shape → Shape
paired pair.Seq a b = seq a b
paired pair.Or a b = or a b
paired pair.And a b = and a b

-- a node of one child
abbrev pub wrapped : Wrap → Shape → Shape
wrapped (wrap.Group number) t = group t number
wrapped (wrap.External number) t = external t number
wrapped (wrap.Repeat least most lazy) t = repeat t least most lazy
wrapped (wrap.Ahead negative) t = ahead t negative
wrapped (wrap.Before negative limit) t = before t negative limit
wrapped wrap.Whole t = whole t

-- the node of these parts
abbrev pub shape_parted : Parted → Shape
shape_parted parted.Empty = empty
shape_parted (parted.One atom) = one atom.now
shape_parted (parted.Two pair a b) = paired pair (bare a.now) (bare b.now)
shape_parted (parted.Under wrap a) = wrapped wrap (bare a.now)

-- how many nodes a shape has
abbrev pub node_count : Shape → ℕ
node_count empty = 1
node_count (one a) = 1
node_count (seq a b) = node_count a + node_count b + 1
node_count (or a b) = node_count a + node_count b + 1
node_count (and a b) = node_count a + node_count b + 1
node_count (group t n) = node_count t + 1
node_count (external t n) = node_count t + 1
node_count (repeat t least most lazy) = node_count t + 1
node_count (ahead t negative) = node_count t + 1
node_count (before t negative limit) = node_count t + 1
node_count (whole t) = node_count t + 1

-- its children have fewer nodes
abbrev pub AreSmaller : Parted → Shape → Type 0
AreSmaller parted.Empty node = Unit {0}
AreSmaller (parted.One atom) node = Unit {0}
AreSmaller (parted.Two pair a b) node =
    (node_count (bare a.now) < node_count node) × (node_count (bare b.now) < node_count node)
AreSmaller (parted.Under wrap a) node = node_count (bare a.now) < node_count node
