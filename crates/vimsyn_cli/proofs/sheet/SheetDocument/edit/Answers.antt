use Rattle.std.proofs.Common.{◌≡◌, ◌<◌, ◌≤◌, ◌++◌, length, take, drop, subst, sym}
use Rattle.text_buffer.specs.TextOfBytes.{most_lines}
use Rattle.edit_script.specs.Edits.{Replacement}
use Rattle.paint_reuse.specs.Report.{report}
use Rattle.vimsyn_cli.proofs.SheetLaws.{told_within}
use Rattle.vimsyn_cli.proofs.sheet.SheetDocument.edit.Goals as goal

pub edit-requires-clause-some : goal.edit-requires-clause-some
edit-requires-clause-some g c =
    let text = c.args.self.now.painted.text in
    let P : Replacement → Type 0 = λ r. 0 < length (take r.a text ++ r.new ++ drop r.b text) in
    subst P (sym c.replacement.view_is) c.requires.some

pub edit-requires-clause-few : goal.edit-requires-clause-few
edit-requires-clause-few g c =
    let text = c.args.self.now.painted.text in
    let P : Replacement → Type 0 = λ r. length (take r.a text ++ r.new ++ drop r.b text) ≤ most_lines in
    subst P (sym c.replacement.view_is) c.requires.few

pub returns-in-Ok-clause-within : goal.returns-in-Ok-clause-within
returns-in-Ok-clause-within g c =
    let old = c.args.self.now.painted.spans in
    let new = c.edit.new.self.spans in
    let made = c.replacement.inside in
    let is : c.told.result ≡ report old new (record { a = made.a; b = made.b; count = length made.new }) = cc (c.told.ensures.is, c.in-Ok.ensures.told, c.in-Ok.lines-is, c.in-Ok.field-0-is) in
    told_within old new made.a made.b (length made.new) c.told.result (length c.edit.new.self.text) is c.told.ensures.counted
