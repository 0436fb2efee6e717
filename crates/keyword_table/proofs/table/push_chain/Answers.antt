use Rattle.std.proofs.Common.{◌≡◌, [], ◌∷◌, ◌++◌, sym, ◌∙◌, ap, Some, arith}
use Rattle.std.specs.Prelude.{slice_get}
use Rattle.syn_base.specs.declared.places.ItemId.{ItemId}
use Rattle.std.proofs.lemmas.Option.{slice_get-get_or}
use Rattle.keyword_table.proofs.ChainLaws.{chained-earlier, smaller_walk, walked_on}
use Rattle.keyword_table.proofs.table.push_chain.Goals as goal

pub loop-at-smaller : goal.loop-at-smaller
loop-at-smaller c =
    let entries = c.args.entries.now in
    let entry = c.index-entries-k.result in
    let here : slice_get entries c.in-Some.k ≡ Some entry =
    slice_get-get_or entries c.in-Some.k entry (c.loop-at.invariant.within c.in-Some.k c.in-Some.is) ∙ ap Some (sym c.index-entries-k.is) in
    smaller_walk c.loop-at.at entry.earlier c.in-Some.k c.in-Some.is (chained-earlier entries c.in-Some.k entry c.requires.chained here)

pub loop-at-preserved : goal.loop-at-preserved
loop-at-preserved c =
    let entries = c.args.entries.now in
    let entry = c.index-entries-k.result in
    let inside = c.loop-at.invariant.within c.in-Some.k c.in-Some.is in
    let here : slice_get entries c.in-Some.k ≡ Some entry =
    slice_get-get_or entries c.in-Some.k entry inside ∙ ap Some (sym c.index-entries-k.is) in
    let before = chained-earlier entries c.in-Some.k entry c.requires.chained here in
    record {
      walked = walked_on entries c.loop-at.at c.in-Some.k entry c.loop-at.items c.push.new.self _ c.requires.chained c.in-Some.is here (c.in_ok-push.ensures.ok ∙ ap (λ (id : ItemId). c.loop-at.items ++ id ∷ []) entry.starts) c.loop-at.invariant.walked;
      within = λ j e. let below = before j e in omega arith;
    }
