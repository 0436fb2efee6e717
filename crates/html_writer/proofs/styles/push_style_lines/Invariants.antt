use Rattle.std.proofs.Common.{◌≡◌, ◌++◌, take}
use Rattle.std.specs.List.{flat_map}
use Rattle.html_writer.specs.Page.{style_line}
use Rattle.html_writer.proofs.styles.push_style_lines.Given as goal

-- the lines so far stand behind what was there
abbrev pub invariant-loop-g : goal.invariant-loop-g
invariant-loop-g l = l.page.items ≡ l.initial.page.items ++ flat_map (style_line l.groups l.links) (take l.g-index l.shown)
