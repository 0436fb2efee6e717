use Rattle.conceal_view.proofs.MarkedLaws.{marked_paintings_are_the_old_ones, marked_rules_are_marked}
use Rattle.conceal_view.proofs.laws.marked_paintings_are_the_old_ones.Goals as goal

pub returns : goal.returns
returns c = record { marked = marked_rules_are_marked; paintings = marked_paintings_are_the_old_ones }
