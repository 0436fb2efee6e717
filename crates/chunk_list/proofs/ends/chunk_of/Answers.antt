use Rattle.chunk_list.proofs.EndLaws.{end_before}
use Rattle.chunk_list.proofs.ends.chunk_of.Goals as goal

pub search-requires-clause-to : goal.search-requires-clause-to
search-requires-clause-to c =
    (end_before c.args.ends.now c.args.at c.min-guess.result _ c.start_of.ensures c.if-start_of-at.true).1
