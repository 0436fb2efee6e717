use Rattle.std.proofs.Common.{◌≡◌, sym, subst, ◌-◌, get_or, []}
use Rattle.std.specs.Prelude.{slice_get, Some}
use Rattle.std.proofs.lemmas.Option.{get_or_from_slice_get}
use Rattle.match_rules.specs.Atoms.{characters}
use Rattle.pattern_match.specs.Contexts.{context_in}
use Rattle.pattern_match.specs.Tried.{IsTriedOver}
use Rattle.pattern_match.proofs.atoms.behind_external.Goals as goal

pub returns : goal.returns
returns g c =
    let x = context_in (g.T.Lines.lines c.args.lines.now) c.args.context.now in
    let part : Some c.part-text.result.now ≡ slice_get x.externals (c.args.number - 1) = cc in
    let text : c.part-text.result.now ≡ get_or x.externals (c.args.number - 1) [] = sym (get_or_from_slice_get x.externals (c.args.number - 1) c.part-text.result.now [] (sym part)) in
    subst (λ cs. IsTriedOver x (characters cs) c.args.at c.behind_text.result) text c.behind_text.ensures
