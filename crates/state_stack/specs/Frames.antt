-- A stack as the list of its frames, the bottom one first.
use Rattle.std.specs.Prelude.{List, [], ◌∷◌, ◌++◌}
use Rattle.paint_rules.specs.Frames.{Frame}
use Rattle.state_stack.specs.declared.kinds.Kind.{Kind}
use Rattle.state_stack.specs.declared.stack.Link.{Link}
use Rattle.state_stack.specs.declared.stack.Link.TheVariants.{Bottom, On}

abbrev pub frames : Link → List Frame
frames Bottom = []
frames (On node) = (node.value).below ++ (node.value).frame ∷ []

-- the kinds of the frames
abbrev pub kinds : Link → List Kind
kinds Bottom = []
kinds (On node) = (node.value).kinds
