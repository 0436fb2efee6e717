use Rattle.item_pick.proofs.Common.{subst, sym, HoldsLines}
use Rattle.item_pick.proofs.LineLaws.{more_near}
use Rattle.item_pick.proofs.line_known.LineKnown.note_near.Goals as goal

pub returns : goal.returns
returns c r t l is near line =
    more_near r t l c.args.self.now c.put.new.self c.args.id c.args.pair c.put.ensures.kept line is (λ k held. near k (subst (HoldsLines k) (sym is) held))
