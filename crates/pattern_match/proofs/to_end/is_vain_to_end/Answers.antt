use Rattle.pattern_match.proofs.to_end.is_vain_to_end.Goals as goal

pub returns-then-is_endless-clause-vain : goal.returns-then-is_endless-clause-vain
returns-then-is_endless-clause-vain g c = λ told w e.
    c.look_to_end.ensures.vain told c.args.turns.now (c.is_endless.ensures c.if-is_endless.true) c.requires.free c.requires.greedy w e
