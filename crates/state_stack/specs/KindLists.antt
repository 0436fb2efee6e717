-- The kinds that stand in a list of links.
use Rattle.std.specs.Prelude.{List, [], ◌∷◌}
use Rattle.state_stack.specs.declared.kinds.Kind.{Kind}
use Rattle.state_stack.specs.declared.kinds.KindLink.{KindLink}
use Rattle.state_stack.specs.declared.kinds.KindLink.TheVariants.{Nothing, On}

abbrev pub kinds : KindLink → List Kind
kinds Nothing = []
kinds (On node) = (node.value).kind ∷ (node.value).others
