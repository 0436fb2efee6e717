use Rattle.item_pick.proofs.Common.{◌≡◌, ℕ, List, [], reverse, subst, nat_eq, ItemId, place_at, rules_by, IsNextAt, eqb→eq}
use Rattle.std.proofs.lemmas.Float.{T_from_true}
use Rattle.item_pick.proofs.picking.Picking.no_item_left.Goals as goal

pub returns-clause-none : goal.returns-clause-none
returns-clause-none g c e =
    let r = rules_by c.args.self.now.asked.now in
    let t = g.T.Lines.lines c.args.self.now.lines.now in
    let l = c.args.self.now.at.line in
    let p = place_at l c.args.col in
    let floor = c.args.self.now.floor in
    let k = c.args.looked in
    let none : c.in_ok-left.left ≡ 0 = eqb→eq c.in_ok-left.left 0 (T_from_true (nat_eq c.in_ok-left.left 0) e) in
    subst (λ (n : ℕ). IsNextAt r t p floor k [] c.args.choice n 0) c.added-count.ensures.number
    (subst (IsNextAt r t p floor k [] c.args.choice c.added-count.result) none
    (subst (λ (xs : List ItemId). IsNextAt r t p floor k (reverse xs) c.args.choice c.added-count.result c.in_ok-left.left) c.requires.none_tried
    (c.in_ok-left.ensures.next t l c.requires.may.ask.memory.line c.requires.number c.requires.may.held)))
