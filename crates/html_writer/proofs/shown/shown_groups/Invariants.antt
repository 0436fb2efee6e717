use Rattle.std.proofs.Common.{◌≡◌, drop}
use Rattle.std.specs.List.{flat_map, fold}
use Rattle.html_writer.specs.Page.{final_groups, shown_groups, with_used}
use Rattle.html_writer.proofs.shown.shown_groups.Given as goal

-- the groups so far, with those of the lines to come, are the whole painting's
abbrev pub invariant-loop-line : goal.invariant-loop-line
invariant-loop-line g l =
    fold with_used l.shown.keys (flat_map (final_groups l.links) (drop l.line (g.P.Colours.coloured l.painting)))
    ≡ shown_groups l.links (g.P.Colours.coloured l.painting)
