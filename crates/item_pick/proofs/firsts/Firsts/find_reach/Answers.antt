use Rattle.item_pick.proofs.Common.{ap, Item, IsAt, all_still, rules_by, item_numbered, IsReachOf}
use Rattle.item_pick.proofs.TableLaws.{reach_by}
use Rattle.item_pick.proofs.firsts.Firsts.find_reach.Goals as goal

pub returns-clause-reach : goal.returns-clause-reach
returns-clause-reach c =
    reach_by (rules_by c.args.asked.now) c.args.by.now.item c.item_of.result.now.ignore (ap (λ (x : Item). x.ignore) c.item_of.ensures) c.args.by.now.pattern.now c.requires.first.first _ c.fails_past_first.ensures c.longest_behind.ensures c.takes_first.ensures

pub returns-in_err-put-clause-stands : goal.returns-in_err-put-clause-stands
returns-in_err-put-clause-stands c =
    let r = rules_by c.args.asked.now in
    let stands = c.requires.stands in
    record {
      here = stands.here;
      before = stands.before;
      behind = stands.behind;
      idle = stands.idle;
      reaches = all_still (λ k e. IsReachOf r (item_numbered k) e) (IsAt c.args.self.now.reaches) (IsAt c.put.new.self) c.args.by.now.item.0 _ c.put.ensures.kept stands.reaches
          (reach_by r c.args.by.now.item c.item_of.result.now.ignore (ap (λ (x : Item). x.ignore) c.item_of.ensures) c.args.by.now.pattern.now c.requires.first.first _ c.fails_past_first.ensures c.longest_behind.ensures c.takes_first.ensures);
    }

pub returns-clause-stands : goal.returns-clause-stands
returns-clause-stands c =
    let r = rules_by c.args.asked.now in
    let stands = c.requires.stands in
    record {
      here = stands.here;
      before = stands.before;
      behind = stands.behind;
      idle = stands.idle;
      reaches = all_still (λ k e. IsReachOf r (item_numbered k) e) (IsAt c.args.self.now.reaches) (IsAt c.put.new.self) c.args.by.now.item.0 _ c.put.ensures.kept stands.reaches
          (reach_by r c.args.by.now.item c.item_of.result.now.ignore (ap (λ (x : Item). x.ignore) c.item_of.ensures) c.args.by.now.pattern.now c.requires.first.first _ c.fails_past_first.ensures c.longest_behind.ensures c.takes_first.ensures);
    }
