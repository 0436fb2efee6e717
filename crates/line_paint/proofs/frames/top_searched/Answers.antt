use Rattle.line_paint.proofs.Common.{◌≡◌, subst, List, None, Frame, items_of, rest_or}
use Rattle.line_paint.proofs.frames.top_searched.Goals as goal

pub remade-requires-clause-items : goal.remade-requires-clause-items
remade-requires-clause-items g c =
    subst (λ (fs : List Frame). items_of (rest_or fs c.args.rest) ≡ items_of (rest_or fs None))
    c.in-Some.ensures.0 c.requires.items
