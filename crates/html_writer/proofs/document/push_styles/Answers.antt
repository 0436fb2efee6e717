use Rattle.std.proofs.Common.{◌++◌, ap, ◌∙◌}
use Rattle.std.specs.List.{flat_map}
use Rattle.html_writer.specs.Page.{style_line}
use Rattle.html_writer.proofs.document.push_styles.Goals as goal

pub returns : goal.returns
returns g c =
    c.in_ok-push_style_lines.ensures
    ∙ ap (λ groups. c.args.page.now.items ++ flat_map (style_line c.args.groups.now c.args.links.now) groups) (c.as_slice.ensures.keys ∙ c.in_ok-shown.ensures)
