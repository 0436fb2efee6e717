use Rattle.std.proofs.Common.{sym, ◌∙◌, arith}
use Rattle.syn_reader.proofs.IncludeLaws.{open_further, closed_further}
use Rattle.syn_reader.proofs.includes.open_groups.Goals as goal
use Rattle.syn_reader.proofs.includes.open_groups.Goals.{then-is_open_in+in_ok-push, else-is_open_in}
use Rattle.syn_reader.specs.Includes.{open_groups}

-- an open item's group is put at the end, and another item is passed over
pub loop-place-preserved : goal.loop-place-preserved
loop-place-preserved c =
    let items = c.args.items.now in
    elim c.if-is_open_in.branch [
      | then-is_open_in+in_ok-push w ↦
          rw (w.entries-is, w.in_ok-push.ensures.ok)
          (open_further c.args.number items c.loop-place.place w.item.result.now c.loop-place.entries (open_groups c.args.number items) (sym c.is_open_in.ensures ∙ w.if-is_open_in.true) w.item.ensures c.loop-place.invariant)
      | else-is_open_in w ↦
          rw w.entries-is
          (closed_further c.args.number items c.loop-place.place c.loop-place.entries (open_groups c.args.number items) (omega arith) (sym c.is_open_in.ensures ∙ w.if-is_open_in.false) c.loop-place.invariant)
    ]
