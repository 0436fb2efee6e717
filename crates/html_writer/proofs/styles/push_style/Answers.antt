use Rattle.html_writer.proofs.Appending.{behind}
use Rattle.html_writer.proofs.styles.push_style.Goals as goal

pub returns : goal.returns
returns c =
    behind _ _ _ _ _
    (behind _ _ _ _ _
    (behind _ _ _ _ _ (behind _ _ _ _ _ c.in_ok-push_colour.ensures c.in_ok-push_colour-2.ensures) c.in_ok-push_if.ensures)
    c.in_ok-push_if-2.ensures)
    c.in_ok-push_if-3.ensures
