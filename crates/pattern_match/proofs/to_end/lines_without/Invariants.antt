use Rattle.std.proofs.Common.{◌≡◌, ◌+◌, ◌<◌, ◌≤◌, drop, length}
use Rattle.std.specs.Prelude.{None, sum_by}
use Rattle.syn_base.specs.declared.places.Place.{Place}
use Rattle.char_class.specs.Folds.{is_same}
use Rattle.match_rules.specs.Atoms.{behind_one}
use Rattle.pattern_match.proofs.to_end.lines_without.Given as goal

-- the places so far are counted, and the character stands at none of them
abbrev pub invariant-loop-i : goal.invariant-loop-i
invariant-loop-i g l =
    let text = g.T.Lines.lines l.lines in
    record {
      counted : l.places + sum_by (λ line. length line + 1) (drop l.i text) ≡ sum_by (λ line. length line + 1) (drop l.fn.from text);
      nowhere : (q : Place) → l.fn.from ≤ q.line → q.line < l.i → behind_one text (λ d. is_same l.c d l.ignore) q ≡ None;
    }
