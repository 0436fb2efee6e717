use Rattle.std.proofs.Common.{◌++◌, ap, ◌∙◌}
use Rattle.edit_script.specs.Entries.{entries_of, kept_of}
use Rattle.edit_script.specs.Kept.{Kept}
use Rattle.edit_script.specs.Reading.{seen}
use Rattle.edit_script.proofs.FeedLaws.{behind_all, further, if_ok_both, if_ok_maps}
use Rattle.edit_script.proofs.script.Script.feed.Goals as goal

pub returns-clause-further : goal.returns-clause-further
returns-clause-further c =
    let old = c.args.self.now in
    if_ok_maps c.read.result (λ entries are before is. further before c.args.piece.now old entries (are ∙ ap (λ (k : Kept). entries_of k.lines (k.bytes ++ c.args.piece.now)) c.self.view_is) is) c.read.ensures.entries

pub returns-clause-behind : goal.returns-clause-behind
returns-clause-behind c =
    let old = c.args.self.now in
    if_ok_both c.read.result (λ entries kept made before is. behind_all before c.args.piece.now old (seen c.read.new.reader) (kept ∙ ap (λ (k : Kept). kept_of k.lines (k.bytes ++ c.args.piece.now)) c.self.view_is) is) c.read.ensures.kept c.read.ensures.entries
