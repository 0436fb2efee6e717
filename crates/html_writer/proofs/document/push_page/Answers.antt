use Rattle.std.proofs.Common.{length}
use Rattle.std.specs.Prelude.{decimal}
use Rattle.std.specs.List.{flat_map}
use Rattle.html_writer.specs.Page.{body_end, body_start, head_text, lines_text, shown_groups, style_line}
use Rattle.html_writer.proofs.Further.{whole_page}
use Rattle.html_writer.proofs.document.push_page.Goals as goal

pub returns : goal.returns
returns g c =
    let names = c.args.groups.now in
    let links = c.args.links.now in
    let options = c.args.options in
    let lines = g.P.Lines.lines c.args.painting.now in
    let painting = g.P.Colours.coloured c.args.painting.now in
    whole_page (head_text c.args.title.now options.number) (flat_map (style_line names links) (shown_groups links painting))
    (body_start options.pre) (lines_text names links options (length (decimal (length lines))) 1 lines painting) (body_end options.pre)
    c.args.page.now.items c.push_head.new.page.items c.push_styles.new.page.items c.push_body_start.new.page.items
    c.push_lines.new.page.items c.push_body_end.new.page.items
    c.requires.empty c.in_ok-push_head.ensures c.in_ok-push_styles.ensures c.in_ok-push_body_start.ensures c.in_ok-push_lines.ensures c.in_ok-push_body_end.ensures
