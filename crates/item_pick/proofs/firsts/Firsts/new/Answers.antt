use Rattle.item_pick.proofs.Common.{fails_at, fails_after, first_asked, idles_before, rest_asked}
use Rattle.item_pick.proofs.firsts.Firsts.new.Goals as goal

pub returns : goal.returns
returns c r = record {
  here = c.new.ensures (first_asked fails_at r);
  before = c.new-2.ensures (first_asked fails_after r);
  behind = c.new-3.ensures (first_asked rest_asked r);
  idle = c.new-4.ensures (idles_before r);
  reaches = λ item reach there. absurd (c.new-5.ensures item reach there);
}
