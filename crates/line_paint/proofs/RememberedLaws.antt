-- What is kept of the syntax tells of quiet columns, and stands in the line that is entered.
use Rattle.line_paint.proofs.Common.{◌≡◌, ◌<◌, ◌≤◌, ℕ, [], sym, subst, None, Some, Looked, Place, Rules, Done, done, looked_first, Nothing, picked, close_once, IsQuietUntil, IsQuiet, Text}
use Rattle.paint_rules.specs.States.{Standing}
use Rattle.item_pick.specs.Started.{here_at}

-- where nothing waits, closes or may start, a column is quiet
pub quiet_where : (r : Rules) (text : Text) (at : Place) (s : Standing) (k : Looked) (end d : ℕ) →
    s.tried ≡ [] → s.waiting ≡ None → IsQuietUntil r text at s.stack s.floor k end → at.col ≤ d → d < end →
    close_once (here_at r text at) d s s.stack ≡ done None →
    IsQuiet (here_at r text at) k d s
quiet_where r text at s k end d tried waits quiet from to stays = record {
  none_tried = tried;
  none_waits = waits;
  stays = stays;
  nothing = subst (λ (t : Standing). looked_first (Some k) (picked (here_at r text at) d t) ≡ Done Nothing (Some k))
      (λ i. record s { tried = sym tried i; waiting = sym waits i })
      (quiet.quiet d from to s.is_over);
}
