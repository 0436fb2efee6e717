use Rattle.std.proofs.Common.{◌<◌, ◌+◌, length, take, drop, sym, ◌∙◌, arith, length-drop}
use Rattle.memchr.specs.Find.{Nowhere, Passes, is_byte}
use Rattle.text_buffer.specs.TextOfBytes.{line_break}
use Rattle.edit_script.proofs.FeedLaws.{FirstBreak, behind_low, between, entries_last, entries_step, kept_step, line_before, read_further, rest_line, rest_of, stands_last, stays_between}
use Rattle.edit_script.proofs.ReaderLaws.{kept_standing, stands_more}
use Rattle.edit_script.proofs.reader.read_lines.Goals as goal

pub end_line-requires : goal.end_line-requires
end_line-requires c =
    let l = c.loop-count in
    let bytes = c.args.bytes.now in
    let count = c.in-Some.count in
    let found : FirstBreak (drop l.next bytes) count = rw (rest_of bytes l.next) at c.in-Some.ensures in
    record {
      stands = stands_more l.now.text l.now.lines l.now.at l.now.cut (between l.begin l.next bytes) (take count (drop l.next bytes)) (between l.begin (l.next + count) bytes) (read_further l.begin l.next count bytes l.invariant.order) (line_before (drop l.next bytes) count found) l.invariant.stands;
    }

pub loop-count-preserved : goal.loop-count-preserved
loop-count-preserved c =
    let l = c.loop-count in
    let i = l.invariant in
    let bytes = c.args.bytes.now in
    let count = c.in-Some.count in
    let now = c.in_ok-now.now in
    let e = c.in_ok-now.ensures in
    let found : FirstBreak (drop l.next bytes) count = rw (rest_of bytes l.next) at c.in-Some.ensures in
    let inside : count < length (drop l.next bytes) = (found.0).high in
    rw c.begin_behind-begin.ensures (record {
      order = behind_low now.text l.begin (l.next + count + 1) (omega (arith, i.order));
      within = omega (arith, inside, length-drop l.next bytes);
      stands = rw (stays_between now.text l.begin l.next count bytes i.order i.within found) e.stands;
      entries = entries_step now l.now.lines l.begin l.next count bytes _ l.entries c.end_line.new.entries i.order i.within found e.kept e.entries i.entries;
      kept = kept_step now l.now.lines l.begin l.next count bytes _ i.order i.within found e.kept i.kept;
    })

pub returns-clause-stands : goal.returns-clause-stands
returns-clause-stands c =
    let l = c.loop-count in
    let bytes = c.args.bytes.now in
    let none : Nowhere (Passes (is_byte line_break) (drop l.next bytes)) 0 (length (drop l.next bytes)) = rw (rest_of bytes l.next) at c.in_default.ensures in
    stands_last l.now.text l.now.lines l.now.at l.now.cut l.begin l.next bytes l.invariant.order (rest_line (drop l.next bytes) none) l.invariant.stands

pub returns-clause-kept : goal.returns-clause-kept
returns-clause-kept c =
    let l = c.loop-count in
    let bytes = c.args.bytes.now in
    let none : Nowhere (Passes (is_byte line_break) (drop l.next bytes)) 0 (length (drop l.next bytes)) = rw (rest_of bytes l.next) at c.in_default.ensures in
    let stands = stands_last l.now.text l.now.lines l.now.at l.now.cut l.begin l.next bytes l.invariant.order (rest_line (drop l.next bytes) none) l.invariant.stands in
    sym (l.invariant.kept ∙ kept_standing l.now.text l.now.lines l.now.at l.now.cut (drop l.begin bytes) stands)

pub returns-clause-entries : goal.returns-clause-entries
returns-clause-entries c =
    let l = c.loop-count in
    let bytes = c.args.bytes.now in
    let none : Nowhere (Passes (is_byte line_break) (drop l.next bytes)) 0 (length (drop l.next bytes)) = rw (rest_of bytes l.next) at c.in_default.ensures in
    let stands = stands_last l.now.text l.now.lines l.now.at l.now.cut l.begin l.next bytes l.invariant.order (rest_line (drop l.next bytes) none) l.invariant.stands in
    entries_last l.now.text l.now.lines l.now.at l.now.cut (drop l.begin bytes) _ l.entries stands l.invariant.entries
