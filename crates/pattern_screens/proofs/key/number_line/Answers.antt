use Rattle.pattern_screens.proofs.Common.{◌≡◌, ◌+◌, length, ap, sym, ◌∙◌, subst, arith, AreNumbers, is_keyword, key_numbered, key_of, last_in, last_of}
use Rattle.pattern_screens.proofs.KeyLaws.{end-key, last-after, one-more-number}
use Rattle.pattern_screens.proofs.key.number_line.Goals as goal

pub loop-col-preserved : goal.loop-col-preserved
loop-col-preserved c =
    let sets = c.args.sets.now in
    let line = c.args.line.now in
    let col = c.loop-col.col in
    let is : key_numbered c.number.result ≡ key_of sets line col =
    c.number.ensures.is ∙ (λ i. record { next = c.next_at-next.ensures i; last = c.loop-col.invariant.last i }) in
    record {
      last = c.last_of-last.ensures ∙ ap last_of (c.is_keyword.ensures ∙ ap (is_keyword sets) c.next_at-next.ensures) ∙ sym (last-after sets line col);
      numbers = subst (AreNumbers sets line (col + 1)) (sym c.push_reserved.ensures.items) (one-more-number sets line col c.loop-col.numbers.items c.number.result c.loop-col.invariant.numbers c.number.ensures.below is);
      count = omega (arith, c.push_reserved.ensures.len, c.loop-col.invariant.count);
      room = omega (arith, c.push_reserved.ensures.capacity, c.loop-col.invariant.room);
    }

pub returns : goal.returns
returns c =
    let sets = c.args.sets.now in
    let line = c.args.line.now in
    let at : c.loop-col.col ≡ length line = omega arith in
    let before : AreNumbers sets line (length line) c.loop-col.numbers.items = subst (λ n. AreNumbers sets line n c.loop-col.numbers.items) at c.loop-col.invariant.numbers in
    let last : c.loop-col.last ≡ last_in sets line (length line) = c.loop-col.invariant.last ∙ ap (last_in sets line) at in
    let is : key_numbered c.number-2.result ≡ key_of sets line (length line) =
    c.number-2.ensures.is ∙ (λ i. record { next = sym (end-key sets line) i; last = last i }) in
    subst (AreNumbers sets line (length line + 1)) (sym c.push_reserved-2.ensures.items) (one-more-number sets line (length line) c.loop-col.numbers.items c.number-2.result before c.number-2.ensures.below is)
