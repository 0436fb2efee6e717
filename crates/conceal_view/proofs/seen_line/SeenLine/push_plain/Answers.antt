use Rattle.std.proofs.Common.{ap, sym, ◌∙◌, List, ℕ}
use Rattle.conceal_view.specs.Cells.{SeenLine}
use Rattle.conceal_view.proofs.RunLaws.{no_span}
use Rattle.conceal_view.proofs.seen_line.SeenLine.push_plain.Goals as goal

pub returns : goal.returns
returns c =
    let line : SeenLine = record { chars = c.self.inside.chars.items; spans = c.self.inside.spans.items } in
    rw (← c.self.view_is)
    (ap (λ (chars : List ℕ). record line { chars = chars }) c.in_ok-extend_from_slice.ensures.items
    ∙ sym (no_span line c.args.chars.now))
