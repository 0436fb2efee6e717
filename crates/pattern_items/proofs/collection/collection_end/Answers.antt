use Rattle.std.proofs.Common.{rules, ◌≡◌, ◌+◌, Some, None, sym, subst}
use Rattle.std.specs.Prelude.{MatchOption}
use Rattle.pattern_items.specs.Collection.{collection_end}
use Rattle.pattern_items.specs.ClosingBracket.{Ends, HasNoEnd}
use Rattle.pattern_items.proofs.ClosingLaws.{end_answers}
use Rattle.pattern_items.proofs.collection.collection_end.Goals as goal

pub returns-in-None-clause-first : goal.returns-in-None-clause-first
returns-in-None-clause-first c =
    let value : None ≡ collection_end c.args.text.now c.args.at = search rules in
    subst (λ o. MatchOption o (HasNoEnd c.args.text.now c.args.at) (λ e. Ends c.args.text.now c.args.at e)) (sym value) (end_answers c.args.text.now c.args.at)

pub returns-in-Some-clause-first : goal.returns-in-Some-clause-first
returns-in-Some-clause-first c =
    let value : Some (c.args.at + c.in-Some.len) ≡ collection_end c.args.text.now c.args.at = search rules in
    subst (λ o. MatchOption o (HasNoEnd c.args.text.now c.args.at) (λ e. Ends c.args.text.now c.args.at e)) (sym value) (end_answers c.args.text.now c.args.at)
