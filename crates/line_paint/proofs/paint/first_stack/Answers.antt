use Rattle.line_paint.proofs.Common.{◌∙◌, ap, List, reverse, Frame, items_of}
use Rattle.line_paint.proofs.SearchLaws.{fits_same}
use Rattle.line_paint.proofs.paint.first_stack.Goals as goal

pub returns-in_ok-stack_or-in-Ok-clause-fits : goal.returns-in_ok-stack_or-in-Ok-clause-fits
returns-in_ok-stack_or-in-Ok-clause-fits g c =
    fits_same _ (reverse c.args.stack.now) (reverse c.in_ok-stack_or-in-Ok.field-0)
    (ap (λ (fs : List Frame). items_of fs) c.in_ok-stack_or-in-Ok.ensures
    ∙ c.in-Ok.ensures.comes.1) c.requires.fits
