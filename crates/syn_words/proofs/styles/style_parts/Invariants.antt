use Rattle.std.proofs.Common.{◌≡◌, length}
use Rattle.syn_words.specs.Styles.{style_parts, parts_after}
use Rattle.syn_words.proofs.styles.style_parts.Given as goal

-- the parts so far, with those from here on, are all
abbrev pub invariant-loop-fewer : goal.invariant-loop-fewer
invariant-loop-fewer l = parts_after l.some l.so_far l.turns l.reader ≡ style_parts l.initial.reader

abbrev pub decreases-loop-fewer : goal.decreases-loop-fewer
decreases-loop-fewer l = length l.turns
