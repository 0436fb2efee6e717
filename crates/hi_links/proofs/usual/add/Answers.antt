use Rattle.std.proofs.Common.{◌∙◌, sym}
use Rattle.hi_links.proofs.UsualLaws.{made_minor, made_preferred}
use Rattle.hi_links.proofs.usual.add.Goals as goal

pub returns-in_ok-set_style-in-Shown-clause-links : goal.returns-in_ok-set_style-in-Shown-clause-links
returns-in_ok-set_style-in-Shown-clause-links c =
    c.in_ok-set_style-in-Shown.ensures.styled
    ∙ sym (made_preferred c.number.new.self c.args.links.now c.args.row.now _ _ c.in_ok-group.ensures.number c.in-Shown.is)

pub returns-in_ok-link-in-LinkedTo-clause-links : goal.returns-in_ok-link-in-LinkedTo-clause-links
returns-in_ok-link-in-LinkedTo-clause-links c =
    c.in_ok-link-in-LinkedTo.ensures.linked
    ∙ sym (made_minor c.number.new.self c.args.links.now c.args.row.now c.in-LinkedTo.other _ _ c.in_ok-group.ensures.number c.in-LinkedTo.is
    c.in_ok-find-in-LinkedTo.ensures)
