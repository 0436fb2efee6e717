use Rattle.item_pick.proofs.Common.{All, IsWanted, sym, subst}
use Rattle.std.proofs.lemmas.List.Elements.{All-push}
use Rattle.item_pick.proofs.tables.Tables.want.Goals as goal

pub returns : goal.returns
returns c r wanted tables =
    let more = subst (All (IsWanted r)) (sym c.in_ok-push.ensures.items) (All-push (IsWanted r) c.args.self.now.wanted.items c.args.wanted tables.wanted wanted) in
    record { rows = tables.rows; outs = tables.outs; firsts = tables.firsts; shut = tables.shut; wanted = more; words = tables.words }
