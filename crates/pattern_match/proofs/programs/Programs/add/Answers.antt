use Rattle.std.proofs.Common.{sym, subst}
use Rattle.std.specs.List.{All}
use Rattle.std.proofs.lemmas.List.Elements.{All-push}
use Rattle.pattern_match.specs.Programs.{IsReady}
use Rattle.pattern_match.proofs.programs.Programs.add.Goals as goal

pub invariant_of-self-2 : goal.invariant_of-self-2
invariant_of-self-2 c =
    subst (All IsReady) (sym c.in_ok-push.ensures.items) (All-push IsReady c.self.inside.programs.items c.in_ok-new.field-0 c.self.invariant c.in_ok-new.ensures.ready)
