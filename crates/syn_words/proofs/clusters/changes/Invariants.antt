use Rattle.std.proofs.Common.{◌≡◌, length}
use Rattle.syn_words.specs.Clusters.{changes, changes_after}
use Rattle.syn_words.proofs.clusters.changes.Given as goal

-- the changes so far, with those from here on, are all
abbrev pub invariant-loop-fewer : goal.invariant-loop-fewer
invariant-loop-fewer l = changes_after l.so_far l.turns l.reader ≡ changes l.initial.reader

abbrev pub decreases-loop-fewer : goal.decreases-loop-fewer
decreases-loop-fewer l = length l.turns
