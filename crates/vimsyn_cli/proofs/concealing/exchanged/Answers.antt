use Rattle.std.proofs.Common.{ap, sym, ◌∙◌}
use Rattle.conceal_view.specs.Marking.{marked_items}
use Rattle.syn_reader.specs.declared.syntax.Syntax.{Syntax}
use Rattle.vimsyn_cli.proofs.MarkLaws.{marked_sound}
use Rattle.vimsyn_cli.proofs.concealing.exchanged.Goals as goal

pub invariant_of-result : goal.invariant_of-result
invariant_of-result c =
    let inside : Syntax = record {
      items = c.syntax.inside.items;
      clusters = c.syntax.inside.clusters;
      groups = c.syntax.inside.groups;
      programs = c.syntax.inside.programs;
      keywords = c.syntax.inside.keywords;
      links = c.syntax.inside.links;
      sets = c.syntax.inside.sets;
    } in
    marked_sound inside c.args.marked.items
    (c.requires ∙ ap marked_items (sym (ap (λ (s : Syntax). s.items) c.syntax.view_is))) c.syntax.invariant
