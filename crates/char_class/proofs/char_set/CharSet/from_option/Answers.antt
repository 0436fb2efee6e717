use Rattle.std.proofs.Common.{◌≡◌, ◌+◌, ◌≤◌, ◌∷◌, length, drop, sym, ap, ◌∙◌, arith}
use Rattle.std.specs.Str.{chars}
use Rattle.std.proofs.lemmas.Iterator.{YieldsList-from_chars}
use Rattle.std.proofs.lemmas.Iterator.Consumers.{YieldsList-turn, YieldsList-end}
use Rattle.std.proofs.lemmas.List.{at_drop_all, length_push}
use Rattle.std.proofs.lemmas.Result.{err_from_is_err_and}
use Rattle.char_class.specs.SoFar.{resumed}
use Rattle.char_class.proofs.ReadingLaws.{resumed-here}
use Rattle.char_class.proofs.char_set.CharSet.from_option.Goals as goal

pub loop-c-preserved : goal.loop-c-preserved
loop-c-preserved c =
    let text = chars c.args.text.now in
    let turn = YieldsList-turn (YieldsList-from_chars c.args.text.now c.utf8.text cc) c.loop-c.yielded _ c.loop-c.yielded_by _ _ c.in-Some.c c.in-Some.is c.next.ensures.steps in
    let here = resumed-here c.loop-c.reader text _ c.in-Some.c turn c.loop-c.invariant.at in
    let next : c.take.new.self.at ≡ length c.loop-c.yielded + 1 = c.in_ok-take.ensures.next ∙ ap (λ n. n + 1) c.loop-c.invariant.at in
    record {
      at = next ∙ sym (length_push c.loop-c.yielded c.in-Some.c);
      rest = c.in_ok-take.ensures.ok (drop c.take.new.self.at text)
          ∙ ap (λ n. resumed c.loop-c.reader (c.in-Some.c ∷ drop n text)) next
          ∙ sym here ∙ c.loop-c.invariant.rest;
    }

pub returns-in_err-take : goal.returns-in_err-take
returns-in_err-take c =
    let text = chars c.args.text.now in
    let turn = YieldsList-turn (YieldsList-from_chars c.args.text.now c.utf8.text cc) c.loop-c.yielded _ c.loop-c.yielded_by _ _ c.in-Some.c c.in-Some.is c.next.ensures.steps in
    let here = resumed-here c.loop-c.reader text _ c.in-Some.c turn c.loop-c.invariant.at in
    let p = err_from_is_err_and c.from_residual.result c.from_residual.ensures.1 in
    rw (p.1, p.2) (sym (c.in_err-take.ensures.bad _) ∙ sym here ∙ c.loop-c.invariant.rest)

pub returns : goal.returns
returns c =
    let text = chars c.args.text.now in
    let end = YieldsList-end (YieldsList-from_chars c.args.text.now c.utf8.text cc) c.loop-c.yielded _ c.loop-c.yielded_by _ _ c.in-None.is c.next.ensures.steps in
    let past : length text ≤ c.loop-c.reader.at = omega (arith, end.1) in
    c.end.ensures ∙ sym (at_drop_all (resumed c.loop-c.reader) text c.loop-c.reader.at past) ∙ c.loop-c.invariant.rest
