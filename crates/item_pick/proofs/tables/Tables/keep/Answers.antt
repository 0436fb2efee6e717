use Rattle.item_pick.proofs.Common.{sym, subst, [], ◌∷◌, All, All-append, All-cons, All-nil, RowStands}
use Rattle.item_pick.proofs.tables.Tables.keep.Goals as goal

pub returns : goal.returns
returns c r tables row = record {
  rows = subst (All (RowStands r)) (sym c.in_ok-push.ensures.items)
      (All-append (RowStands r) c.args.self.now.rows.items (c.args.row ∷ []) tables.rows
      (All-cons (RowStands r) c.args.row [] row (All-nil (RowStands r))));
  outs = tables.outs;
  firsts = tables.firsts;
  shut = tables.shut;
  wanted = tables.wanted;
  words = tables.words;
}
