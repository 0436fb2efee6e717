use Rattle.item_pick.proofs.Common.{subst, sym, All, All-nil, IsWanted, RowStands, stays_out}
use Rattle.region_ends.specs.Passing.{is_shut_at}
use Rattle.item_pick.proofs.tables.Tables.new.Goals as goal

pub returns : goal.returns
returns c r = record {
  rows = subst (All (RowStands r)) (sym c.new.ensures.items) (All-nil (RowStands r));
  outs = c.new-3.ensures (stays_out r);
  shut = c.new-4.ensures (is_shut_at r.items r.sets r.budget);
  firsts = c.new-5.ensures r;
  wanted = subst (All (IsWanted r)) (sym c.new-6.ensures.items) (All-nil (IsWanted r));
  words = λ e. absurd (cc);
}
