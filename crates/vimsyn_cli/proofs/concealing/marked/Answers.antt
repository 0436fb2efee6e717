use Rattle.std.proofs.Common.{List, subst, sym}
use Rattle.conceal_view.specs.View.{AreNumbered}
use Rattle.conceal_view.specs.declared.marks.Mark.{Mark}
use Rattle.vimsyn_cli.proofs.concealing.marked.Goals as goal

pub returns-clause-numbered : goal.returns-clause-numbered
returns-clause-numbered c =
    let P : List Mark → Type 0 = λ marks. AreNumbered 20000 marks in
    subst P (sym c.exchanged.ensures.marks) c.in_ok-marked.ensures.numbered
