use Rattle.paint_marks.proofs.BesideLaws.{lists_with_marks, clusters_with_marks}
use Rattle.paint_marks.proofs.NameLaws.{lists_are_enough, members_are_the_same}
use Rattle.paint_marks.proofs.lists_that_name_the_marks_are_enough.Goals as goal

pub returns : goal.returns
returns c =
    record { rules = lists_are_enough; members = members_are_the_same; lists = lists_with_marks; clusters = clusters_with_marks }
