use Rattle.std.proofs.Common.{◌++◌, ap, ◌∙◌}
use Rattle.std.specs.Prelude.{codes, replicate}
use Rattle.html_writer.specs.Page.{line_text}
use Rattle.html_writer.proofs.Further.{text_behind}
use Rattle.html_writer.proofs.numbers.push_right.Goals as goal

pub returns : goal.returns
returns c =
    let width = c.saturating_sub.ensures in
    let spaces = c.in_ok-push_spaces.ensures ∙ ap (λ n. c.args.page.now.items ++ line_text c.args.pre (replicate n 32)) width in
    text_behind c.args.pre _ (codes " ") _ _ _
    (text_behind c.args.pre _ _ _ _ _ spaces c.in_ok-push_bytes.ensures)
    c.in_ok-push_bytes-2.ensures
