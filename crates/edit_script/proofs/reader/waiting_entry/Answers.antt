use Rattle.std.proofs.Common.{◌-◌, take, drop, ap, ◌∙◌}
use Rattle.edit_script.specs.Entries.{entry, whole_lines}
use Rattle.edit_script.proofs.FeedLaws.{if_ok_maps}
use Rattle.edit_script.proofs.ReaderLaws.{line_slice, text_slice, text_within}
use Rattle.edit_script.proofs.reader.waiting_entry.Goals as goal

pub text_entry-requires-clause-line : goal.text_entry-requires-clause-line
text_entry-requires-clause-line c =
    (text_within c.args.text c.args.place.lines c.args.place.at c.args.place.cut c.args.kept.now c.requires).0

pub text_entry-requires-clause-text : goal.text_entry-requires-clause-text
text_entry-requires-clause-text c =
    (text_within c.args.text c.args.place.lines c.args.place.at c.args.place.cut c.args.kept.now c.requires).1

pub returns : goal.returns
returns c =
    let p = c.args.place in
    if_ok_maps c.text_entry.result
    (λ made is line lines whole.
    is
    ∙ ap (λ l. entry p.lines l (whole_lines (take (p.cut - c.args.text) (drop c.args.text c.args.kept.now))) c.args.ended) (line_slice c.args.text p.lines p.at p.cut c.args.kept.now line lines c.requires whole)
    ∙ ap (λ ls. entry p.lines line ls c.args.ended) (text_slice c.args.text p.lines p.at p.cut c.args.kept.now line lines c.requires whole))
    c.text_entry.ensures
