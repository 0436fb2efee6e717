use Rattle.std.proofs.Common.{◌+◌, ◌-◌, ◌++◌, ◌∷◌, [], length, take, drop, ◌∙◌, arith, length-drop}
use Rattle.edit_script.proofs.FeedLaws.{all_done, next_line, one_done, rest_of}
use Rattle.edit_script.proofs.draft.with_lines.Goals as goal

pub loop-end-preserved : goal.loop-end-preserved
loop-end-preserved c =
    let rest = c.loop-end.rest.now in
    let k = c.in-Some.end in
    let i = c.loop-end.invariant in
    let more = take (length rest - (k + 1)) (drop (k + 1) rest) in
    record {
      head = c.in_ok-add_line.ensures.head ∙ i.head;
      done = i.done ++ take k rest ∷ [];
      all = one_done c.args.text.now rest more (take k rest) i.done i.all (next_line rest k c.in-Some.ensures);
      short = rw (rest_of rest (k + 1)) (omega (arith, i.short, length-drop (k + 1) rest));
      is_text = c.in_ok-add_line.ensures.more i.done i.is_text;
    }

pub returns-clause-text : goal.returns-clause-text
returns-clause-text c =
    let i = c.loop-end.invariant in
    rw (all_done c.args.text.now c.loop-end.rest.now i.done i.all c.in_default.ensures) i.is_text
