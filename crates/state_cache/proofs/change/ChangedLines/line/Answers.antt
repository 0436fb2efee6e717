use Rattle.std.proofs.Common.{arith, sym, ◌∙◌, ◌≡◌, ◌<◌, ◌≤◌, ◌+◌, ◌-◌, length}
use Rattle.paint_reuse.specs.Change.{replaced}
use Rattle.chunk_list.proofs.ReplacedLaws.{below, length-replaced}
use Rattle.state_cache.proofs.change.ChangedLines.line.Goals as goal

pub overflow_add-below : goal.overflow_add-below
overflow_add-below c =
    let s = c.args.self.now in
    let inside : s.b ≤ length s.text.now.lines = omega (arith, s.whole) in
    let count = length-replaced s.text.now.lines s.a s.b s.new.now s.ordered inside in
    let within : c.args.i < length (replaced s.text.now.lines s.a s.b s.new.now) = c.requires in
    omega (arith, count, within, s.small, s.whole, c.if-i-self.false, c.if-below-len.false, c.len.ensures, c.len-2.ensures)

pub returns : goal.returns
returns c =
    let s = c.args.self.now in
    let inside : s.b ≤ length s.text.now.lines = omega (arith, s.whole) in
    let old = c.args.i - s.a - c.len-2.result + s.b in
    let low : s.b ≤ old = omega arith in
    let same : c.args.i + s.b ≡ old + (s.a + length s.new.now) = omega (arith, c.if-i-self.false, c.if-below-len.false, c.len.ensures, c.len-2.ensures) in
    c.line-2.ensures ∙ sym (below s.text.now.lines s.a s.b s.new.now s.ordered inside c.args.i old low same)
