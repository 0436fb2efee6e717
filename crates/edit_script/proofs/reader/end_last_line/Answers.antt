use Rattle.std.proofs.Common.{◌≡◌, ◌≤◌, ◌<◌, [], ◌∷◌, length, rules}
use Rattle.text_buffer.specs.TextOfBytes.{line_break}
use Rattle.edit_script.specs.Reading.{seen}
use Rattle.edit_script.proofs.FeedLaws.{ends_full, ends_empty, if_ok_both}
use Rattle.edit_script.proofs.reader.end_last_line.Goals as goal

pub returns-then-reader-len-clause-ends : goal.returns-then-reader-len-clause-ends
returns-then-reader-len-clause-ends c =
    let r = c.args.reader.now in
    let some : r.place.cut < length r.bytes.items = search rules in
    let break : c.as_slice.result.now ≡ line_break ∷ [] = search rules in
    if_ok_both c.read.result (λ entries kept made. ends_full r.place.lines r.place.cut r.bytes.items (seen c.read.new.reader) [] entries some c.requires.reading.rest kept made) (rw break at c.read.ensures.kept) (rw break at c.read.ensures.entries)

pub returns-clause-ends : goal.returns-clause-ends
returns-clause-ends c =
    let r = c.args.reader.now in
    let none : length r.bytes.items ≤ r.place.cut = search rules in
    rw c.new.ensures (ends_empty r.place.text r.place.lines r.place.at r.place.cut r.bytes.items [] none c.requires.reading)
