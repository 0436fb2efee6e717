use Rattle.std.proofs.Common.{refl}
use Rattle.std.specs.Prelude.{nat_eq}
use Rattle.match_rules.specs.Ways.{Context as AnyContext}
use Rattle.pattern_match.specs.Glance.{marks_behind}
use Rattle.pattern_match.proofs.VainLaws.{by-place}
use Rattle.pattern_match.specs.declared.vain.Vain.TheVariants.{Refused}
use Rattle.pattern_match.proofs.beyond.vain_beyond.Goals as goal

pub returns-in-Some-clause-told : goal.returns-in-Some-clause-told
returns-in-Some-clause-told g c =
    let text = g.T.Lines.lines c.args.lines.now in
    let refuses = rw c.in-Some.is at c.refused_before.ensures c.args.context.now c.args.rest.now c.requires.kept in
    by-place c.args.context.now (λ (x : AnyContext). marks_behind x c.args.rest.now) c.in-Character.c (nat_eq c.args.at.col 0) (Refused c.in-Some.ticks) refuses text c.args.at c.in-Character.field-1 c.requires.on_text refl
    (rw c.in-Character.is at c.standing_at.ensures)

pub returns-in-Refused-clause-told : goal.returns-in-Refused-clause-told
returns-in-Refused-clause-told g c =
    let text = g.T.Lines.lines c.args.lines.now in
    by-place c.args.context.now (λ (x : AnyContext). marks_behind x c.args.rest.now) c.in-Character.c (nat_eq c.args.at.col 0) (Refused c.in-Refused.ticks) (rw c.in-Refused.is at c.vain_rest-known.ensures) text c.args.at c.in-Character.field-1 c.requires.on_text refl
    (rw c.in-Character.is at c.standing_at.ensures)

pub returns-in-Refused-clause-kept : goal.returns-in-Refused-clause-kept
returns-in-Refused-clause-kept g c =
    c.keep.ensures c.args.context.now c.args.rest.now c.requires.kept (rw c.in-Refused.is at c.vain_rest-known.ensures)

pub returns-in-Then-clause-told : goal.returns-in-Then-clause-told
returns-in-Then-clause-told g c = λ w e. rw c.in-Then.is (c.vain_branch.ensures w e)
