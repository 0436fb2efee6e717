-- The rows of the table of groups that exist from the start.
use Rattle.std.specs.Prelude.{List, map}
use Rattle.hi_links.specs.declared.usual.UsualRow.{UsualRow}
use Rattle.hi_links.specs.declared.usual.UsualHighlight.{UsualHighlight}
use Rattle.hi_links.specs.declared.usual.UsualHighlight.TheVariants.{LinkedTo, Shown}
use Rattle.hi_links.specs.UsualGroups.{linked_to, shown, Usual, UsualGroup}

abbrev pub usual_highlight : UsualHighlight → Usual
usual_highlight (Shown style) = shown style
usual_highlight (LinkedTo other) = linked_to other.now

abbrev pub usual_group : UsualRow → UsualGroup
usual_group row = record { name = row.name.now; usual = usual_highlight row.usual }

abbrev pub usual_rows : List UsualRow → List UsualGroup
usual_rows rows = map usual_group rows
