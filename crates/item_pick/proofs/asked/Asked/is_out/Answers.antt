use Rattle.item_pick.proofs.Common.{◌∙◌, ap, Some, Bool, rules_in, stays_out}
use Rattle.item_pick.proofs.KeptLaws.{out_by, out_told}
use Rattle.item_pick.proofs.asked.Asked.is_out.Goals as goal

pub returns-in-Some-clause-out : goal.returns-in-Some-clause-out
returns-in-Some-clause-out c e =
    let r = rules_in c.args.self.now.parts.now c.args.self.now.budget in
    out_by r c.args.number c.args.id (c.known.ensures (stays_out r) c.requires.outs (c.in-Some.is ∙ ap (λ (b : Bool). Some b) e))

pub returns-in_err-keep-clause-outs : goal.returns-in_err-keep-clause-outs
returns-in_err-keep-clause-outs c =
    let r = rules_in c.args.self.now.parts.now c.args.self.now.budget in
    c.keep.ensures (stays_out r) c.requires.outs (λ e. out_told r c.args.number c.args.id (c.stays_out-out.ensures e))

pub returns-clause-outs : goal.returns-clause-outs
returns-clause-outs c =
    let r = rules_in c.args.self.now.parts.now c.args.self.now.budget in
    c.keep.ensures (stays_out r) c.requires.outs (λ e. out_told r c.args.number c.args.id (c.stays_out-out.ensures e))
