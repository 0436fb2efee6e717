use Rattle.std.proofs.Common.{◌≡◌, ◌+◌, length, arith}
use Rattle.std.proofs.lemmas.Grind.{common_steps}
use Rattle.std.specs.Prelude.{slice_range}
use Rattle.text_buffer.specs.Reading.{lines_after}
use Rattle.text_buffer.proofs.LineLaws.{read_further}
use Rattle.text_buffer.proofs.reading.push_line.Goals as goal

pub returns-clause-read : goal.returns-clause-read
returns-clause-read c =
    let line = slice_range c.args.bytes.now c.args.at c.line_end-end.result in
    let count : c.len.result ≡ length c.args.lines.now.0 = c.len.ensures.count in
    let coming = lines_after c.args.bytes.now (c.line_end-end.result + 1) in
    rw (c.line_end-end.ensures.lines, c.in_ok-push.ensures.list, c.in_ok-line.ensures.line) (read_further c.args.lines.now.0 line coming (rw (← count) c.in_ok-line.ensures.faultless))
