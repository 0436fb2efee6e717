use Rattle.std.proofs.Common.{◌≡◌, length}
use Rattle.syn_words.specs.Lists.{names_after, names_from}
use Rattle.syn_words.proofs.lists.names_from.Given as goal

-- the names so far, with those from here on, are the list
abbrev pub invariant-loop-fewer : goal.invariant-loop-fewer
invariant-loop-fewer l = names_after l.may_be_special l.list l.turns l.reader ≡ names_from l.fn.may_be_special l.initial.reader

abbrev pub decreases-loop-fewer : goal.decreases-loop-fewer
decreases-loop-fewer l = length l.turns
