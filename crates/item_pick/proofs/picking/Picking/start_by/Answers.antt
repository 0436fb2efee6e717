use Rattle.item_pick.proofs.Common.{◌≡◌, ◌∙◌, sym, ap, Item, Region, item_of, rules_by}
use Rattle.item_pick.proofs.picking.Picking.start_by.Goals as goal

pub returns-in-Region-clause-told : goal.returns-in-Region-clause-told
returns-in-Region-clause-told g c =
    let kind : (item_of (rules_by c.args.self.now.asked.now).items c.args.id).kind ≡ Region c.in-Region.starts c.in-Region.skip c.in-Region.ends =
    sym (ap (λ (x : Item). x.kind) c.item.ensures) ∙ c.in-Region.is in
    rw kind c.start_of_region.ensures.told
