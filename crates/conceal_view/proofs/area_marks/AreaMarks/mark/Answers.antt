use Rattle.std.proofs.Common.{sym, ◌∙◌, ap}
use Rattle.conceal_view.specs.MarkTables.{AreaMarks}
use Rattle.conceal_view.specs.Marking.{in_mark}
use Rattle.conceal_view.proofs.PlaceLaws.{in_mark_at, in_mark_none}
use Rattle.conceal_view.proofs.area_marks.AreaMarks.mark.Goals as goal

pub returns-in-Some : goal.returns-in-Some
returns-in-Some c =
    sym (in_mark_at c.self.inside.first c.self.inside.groups.keys c.args.group c.in-Some.place (sym c.in-Some.ensures.index))
    ∙ ap (λ (areas : AreaMarks). in_mark areas.first areas.groups c.args.group) c.self.view_is

pub returns-in-None : goal.returns-in-None
returns-in-None c =
    sym (in_mark_none c.self.inside.first c.self.inside.groups.keys c.args.group (sym c.in-None.ensures.found))
    ∙ ap (λ (areas : AreaMarks). in_mark areas.first areas.groups c.args.group) c.self.view_is
