use Rattle.std.proofs.Common.{◌≡◌, suc, ◌-◌, false, length, set, ap, sym, ◌∙◌, arith}
use Rattle.std.specs.Prelude.{slice_get, Some}
use Rattle.std.proofs.lemmas.Option.{slice_get-get_or}
use Rattle.syn_base.specs.declared.places.Span.{Span}
use Rattle.conceal_view.specs.Seeing.{last_goes_on}
use Rattle.conceal_view.proofs.RunLaws.{by_last, none_last, run_begins, run_joins}
use Rattle.conceal_view.proofs.seen_line.push_span.Goals as goal
use Rattle.conceal_view.proofs.seen_line.push_span.Goals.{else-end-gt0-via-then-end-gt0+else-goes_on, else-end-gt0-via-else-end-gt0}

pub returns-then-goes_on : goal.returns-then-goes_on
returns-then-goes_on c =
    let spans = c.args.spans.now.items in
    let k = c.len-end.result - 1 in
    let n : suc k ≡ length spans = omega arith in
    let last : slice_get spans k ≡ Some c.index.result.now =
    slice_get-get_or spans k c.index.result.now (omega arith) ∙ ap Some (sym c.index.ensures) in
    ap (λ (s : Span). set spans k (record s { last = c.args.last })) c.index_mut.ensures.value
    ∙ run_joins spans k c.args.first c.args.last c.args.group c.index_mut.result.now n
    (by_last spans k c.args.first c.args.group c.index.result.now n last ∙ sym c.if-goes_on.ensures)

pub returns : goal.returns
returns c =
    let spans = c.args.spans.now.items in
    let k = c.len-end.result - 1 in
    let ends : last_goes_on spans c.args.first c.args.group ≡ false =
    elim c.else-end-gt0.branch [
      | else-end-gt0-via-then-end-gt0+else-goes_on w ↦
          let n : suc k ≡ length spans = omega arith in
          by_last spans k c.args.first c.args.group w.index.result.now n
          (slice_get-get_or spans k w.index.result.now (omega arith) ∙ ap Some (sym w.index.ensures))
          ∙ sym w.if-goes_on.ensures
      | else-end-gt0-via-else-end-gt0 w ↦ none_last spans c.args.first c.args.group (omega arith)
    ] in
    c.in_ok-push.ensures.items ∙ run_begins spans c.args.first c.args.last c.args.group ends
