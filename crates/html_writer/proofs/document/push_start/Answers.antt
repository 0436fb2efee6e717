use Rattle.std.proofs.Common.{◌++◌}
use Rattle.std.specs.Prelude.{codes}
use Rattle.html_writer.specs.Page.{title_text}
use Rattle.html_writer.proofs.Appending.{behind}
use Rattle.html_writer.proofs.document.push_start.Goals as goal

pub returns : goal.returns
returns c =
    let title = title_text c.args.title.now in
    let opening = codes "<!DOCTYPE html>\n<html>\n<head>\n<meta charset=\"UTF-8\">\n<title>" in
    let body = codes "</title>\n<style>\nbody { color: #000000; background-color: #ffffff; }\n" in
    behind c.args.page.now.items c.push_title.new.page.items c.extend_from_slice-2.new.self.items (opening ++ title) body
    (behind c.args.page.now.items c.extend_from_slice.new.self.items c.push_title.new.page.items opening title
    c.in_ok-extend_from_slice.ensures.items c.in_ok-push_title.ensures)
    c.in_ok-extend_from_slice-2.ensures.items
