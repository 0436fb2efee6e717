use Rattle.pattern_screens.proofs.Common.{◌≡◌, chain_of}
use Rattle.pattern_screens.proofs.bounds.Bound.chain.Given as goal

abbrev pub invariant-loop-turn : goal.invariant-loop-turn
invariant-loop-turn l = l.all ≡ chain_of l.self l.turn
