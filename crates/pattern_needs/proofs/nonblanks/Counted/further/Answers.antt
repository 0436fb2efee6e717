use Rattle.std.proofs.Common.{◌∙◌, refl, sym}
use Rattle.pattern_needs.proofs.LeadLaws.{leads-further, shut-opens}
use Rattle.pattern_needs.proofs.nonblanks.Counted.further.Goals as goal

pub returns-then-is_open : goal.returns-then-is_open
returns-then-is_open c sets ignore node =
    leads-further sets ignore node c.args.self _ (record { none = λ e. (e, (refl, c.all.ensures)); one = λ e. (refl, c.all.ensures); two = λ d e. c.all.ensures d })

pub returns-else-is_open : goal.returns-else-is_open
returns-else-is_open c sets ignore node =
    leads-further sets ignore node c.args.self c.args.self (shut-opens c.args.self (sym c.is_open.ensures ∙ c.if-is_open.false))
