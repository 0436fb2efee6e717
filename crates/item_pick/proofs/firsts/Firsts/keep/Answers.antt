use Rattle.item_pick.proofs.Common.{◌≡◌, ◌∙◌, ◌&&◌, subst, sym, true, false, rules_by, fails_at, fails_after, first_asked, idles_before, is_asked, rest_asked, Question}
use Rattle.item_pick.proofs.KeptLaws.{idle_by}
use Rattle.item_pick.proofs.firsts.Firsts.keep.Goals as goal
use Rattle.item_pick.proofs.firsts.Firsts.keep.Goals.{then-yes, else-yes}

pub returns-in-Here : goal.returns-in-Here
returns-in-Here c =
    let r = rules_by c.args.asked.now in
    let told = subst (λ (q : Question). c.args.yes ≡ true → first_asked (is_asked q) r c.args.number c.args.by.now.item.0 ≡ true) c.in-Here.is c.requires.told in
    let stands = c.requires.stands in
    record { here = c.keep.ensures (first_asked fails_at r) stands.here told; before = stands.before; behind = stands.behind; idle = stands.idle; reaches = stands.reaches }

pub returns-in-Behind : goal.returns-in-Behind
returns-in-Behind c =
    let r = rules_by c.args.asked.now in
    let told = subst (λ (q : Question). c.args.yes ≡ true → first_asked (is_asked q) r c.args.number c.args.by.now.item.0 ≡ true) c.in-Behind.is c.requires.told in
    let stands = c.requires.stands in
    record { here = stands.here; before = stands.before; behind = c.keep-in-Behind.ensures (first_asked rest_asked r) stands.behind told; idle = stands.idle; reaches = stands.reaches }

pub returns-after-yes : goal.returns-after-yes
returns-after-yes c =
    let r = rules_by c.args.asked.now in
    let told = subst (λ (q : Question). c.args.yes ≡ true → first_asked (is_asked q) r c.args.number c.args.by.now.item.0 ≡ true) c.in-Before.is c.requires.told in
    let stands = c.requires.stands in
    let both : c.if-yes.keep ≡ true → (c.args.yes && c.sits-sits.result) ≡ true =
    λ e. elim c.if-yes.branch [ then-yes w ↦ (λ i. w.if-yes.true i && (sym w.keep-is ∙ e) i) | else-yes w ↦ absurd (let no : false ≡ true = sym w.if-yes.false ∙ (sym w.keep-is ∙ e) in cc) ] in
    record {
      here = stands.here;
      before = c.keep-in-Before.ensures (first_asked fails_after r) stands.before told;
      behind = stands.behind;
      idle = c.keep-in-Before-2.ensures (idles_before r) stands.idle (λ e. idle_by r c.args.by.now.item c.args.number c.args.by.now.pattern.now c.requires.first.first c.args.yes c.sits-sits.result told c.sits-sits.ensures (both e));
      reaches = stands.reaches;
    }
