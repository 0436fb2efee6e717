use Rattle.std.proofs.Common.{◌<◌, length, subst}
use Rattle.std.specs.List.{All}
use Rattle.std.specs.Prelude.{IfOk}
use Rattle.syn_reader.specs.declared.syntax.Syntax.{Syntax}
use Rattle.vimsyn_cli.proofs.MarkLaws.{of_those_items}
use Rattle.vimsyn_cli.proofs.concealing.marks_in.Goals as goal

pub returns-clause-of_items : goal.returns-clause-of_items
returns-clause-of_items c =
    let P : Syntax → Type 0 = λ s. IfOk c.mark.result (λ marked. All (λ mark. mark.item.0 < length s.items) marked.marks) in
    subst P c.syntax.view_is (of_those_items c.syntax.inside.items c.mark.result c.mark.ensures.items c.mark.ensures.of_items)
