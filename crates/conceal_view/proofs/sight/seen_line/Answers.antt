use Rattle.std.proofs.Common.{◌≡◌, ℕ, suc, ◌+◌, List, [], ◌∷◌, length, drop, get_or, subst, ap, sym, ◌∙◌, arith}
use Rattle.std.proofs.Math.Seq.{drop-cons}
use Rattle.std.proofs.lemmas.List.{drop_all}
use Rattle.syn_base.specs.SpansFit.{IsFromColumn}
use Rattle.syn_base.specs.declared.places.Span.{Span}
use Rattle.conceal_view.specs.Cells.{cells_from}
use Rattle.conceal_view.specs.Seeing.{blocks_by, seen_at_last}
use Rattle.conceal_view.specs.View.{Blocks}
use Rattle.conceal_view.proofs.LineLaws.{span_seen, end_seen}
use Rattle.conceal_view.proofs.sight.seen_line.Goals as goal

pub loop-span-preserved : goal.loop-span-preserved
loop-span-preserved c =
    let blocks : Blocks = blocks_by c.args.blocks.now.puts.now in
    let cover = c.args.blocks.now.cover in
    let line = c.args.line.now in
    let spans = c.args.spans.now in
    let k = c.loop-span.span-index in
    let span : Span = get_or spans k (record { first = 0; last = 0; group = record { 0 = 0 } }) in
    let rest = drop (k + 1) spans in
    let more : suc k ≡ k + 1 = omega arith in
    let split : drop k spans ≡ span ∷ rest = drop-cons spans k (record { first = 0; last = 0; group = record { 0 = 0 } }) (omega arith) ∙ ap (λ (n : ℕ). span ∷ drop n spans) more in
    let apart : IsFromColumn c.loop-span.column (length line) (span ∷ rest) =
    subst (λ (ss : List Span). IsFromColumn c.loop-span.column (length line) ss) split c.loop-span.invariant.apart in
    record {
      apart = apart.3;
      so_far =
          span_seen blocks cover line c.loop-span.column span rest c.loop-span.sight c.see.new.self c.see-in-loop-span.new.self
          apart c.in_ok-see.ensures c.in_ok-see-2.ensures
          ∙ ap (λ (ss : List Span). seen_at_last blocks cover c.loop-span.sight (cells_from ss c.loop-span.column (drop c.loop-span.column line))) (sym split)
          ∙ c.loop-span.invariant.so_far;
    }

pub returns : goal.returns
returns c =
    let blocks : Blocks = blocks_by c.args.blocks.now.puts.now in
    let cover = c.args.blocks.now.cover in
    let line = c.args.line.now in
    let spans = c.args.spans.now in
    let none : drop c.loop-span.span-index spans ≡ [] = drop_all c.loop-span.span-index spans (omega arith) in
    let within : IsFromColumn c.loop-span.column (length line) [] =
    subst (λ (ss : List Span). IsFromColumn c.loop-span.column (length line) ss) none c.loop-span.invariant.apart in
    end_seen blocks cover line c.loop-span.column c.loop-span.sight c.see-2.new.self within c.in_ok-see-3.ensures
    ∙ ap (λ (ss : List Span). seen_at_last blocks cover c.loop-span.sight (cells_from ss c.loop-span.column (drop c.loop-span.column line))) (sym none)
    ∙ c.loop-span.invariant.so_far
