use Rattle.item_pick.proofs.Common.{◌≡◌, true, sym, admits, ◌<◌, ◌≤◌, ◌-◌, ℕ, List, get_or, length, below_more, arith, ap, subst, rules_in, item_numbered, Lacks, ListStands, RisesTo, StaysOut}
use Rattle.item_pick.specs.Tables.{StartsCheaply}
use Rattle.item_pick.proofs.TableLaws.{narrowed, rises_on}
use Rattle.item_pick.proofs.asked.Asked.narrowed.Goals as goal

pub put_known-requires-clause-cheap : goal.put_known-requires-clause-cheap
put_known-requires-clause-cheap c e =
    let r = rules_in c.args.self.now.parts.now c.args.self.now.budget in
    let here = c.loop-id.id-index in
    let within : here < length c.args.all.now.items.items = omega (arith, c.loop-id-test.true, ap length c.as_slice-id-items.ensures.value) in
    subst (λ (list : List ℕ). StartsCheaply r (item_numbered (get_or list here 0))) (sym c.as_slice-id-items.ensures.value) (c.requires.stands.cheap e here 0 within)

pub loop-id-preserved : goal.loop-id-preserved
loop-id-preserved c =
    let r = rules_in c.args.self.now.parts.now c.args.self.now.budget in
    let kept = c.put_known.ensures.kept in
    let all = c.args.all.now.items.items in
    let here = c.loop-id.id-index in
    let within : here < length all = omega (arith, c.loop-id-test.true, ap length c.as_slice-id-items.ensures.value) in
    record {
      outs = c.put_known.ensures.outs;
      lists = below_more _ _ (λ k h within lacks. c.loop-id.invariant.lists k h within (kept _ lacks))
          (subst (λ (list : List ℕ). get_or list c.loop-id.id-index 0 < length r.items → Lacks c.put_known.new.items.items (get_or list c.loop-id.id-index 0) → StaysOut r c.args.number (item_numbered (get_or list c.loop-id.id-index 0)))
          c.as_slice-id-items.ensures.value c.in_ok-put_known.ensures.here);
      rises = λ n before.
          rises_on (get_or all here 0) n _ (before here (omega arith))
          (subst (λ (list : List ℕ). RisesTo (get_or list here 0) c.loop-id.items.items → RisesTo (get_or list here 0) c.put_known.new.items.items) c.as_slice-id-items.ensures.value c.put_known.ensures.rises
          (c.loop-id.invariant.rises (get_or all here 0) (λ k h. c.requires.stands.rises k here 0 (omega (arith, h)) within)));
      admitted = c.put_known.ensures.admitted c.args.all.now.choice
          (subst (λ (list : List ℕ). admits r c.args.all.now.choice (item_numbered (get_or list here 0)) ≡ true) (sym c.as_slice-id-items.ensures.value) (c.requires.stands.admitted here 0 within))
          c.loop-id.invariant.admitted;
    }

pub returns-clause-rises : goal.returns-clause-rises
returns-clause-rises c =
    let all = c.args.all.now.items.items in
    let end = c.loop-id.id-index in
    let within : end ≤ length all = omega (arith, c.loop-id.auto.id-index-end, ap length c.as_slice-id-items.ensures.value) in
    (c.loop-id.invariant.rises (get_or all (end - 1) 0) (λ k h. c.requires.stands.rises k (end - 1) 0 (omega (arith, h)) (omega (arith, h, within)))).rises

pub returns-clause-lists : goal.returns-clause-lists
returns-clause-lists c =
    let r = rules_in c.args.self.now.parts.now c.args.self.now.budget in
    let all = c.args.all.now.items.items in
    narrowed r c.args.all.now.choice c.args.number all c.loop-id.items.items
    (subst (λ n. ListStands r c.args.all.now.choice n all) c.requires.number c.requires.stands.lists)
    (λ k h. c.loop-id.invariant.lists k (omega (arith, h, ap length c.as_slice-id-items.ensures.value)))

pub returns-clause-admitted : goal.returns-clause-admitted
returns-clause-admitted c = c.loop-id.invariant.admitted
