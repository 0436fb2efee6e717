use Rattle.std.proofs.Common.{◌≡◌, ◌∙◌}
use Rattle.syn_reader.specs.declared.syntax.Syntax.{Syntax}
use Rattle.vimsyn_cli.specs.Concealing.{ConcealedText}
use Rattle.vimsyn_cli.proofs.ConcealLaws.{refused_content, refused_is, refused_told}
use Rattle.vimsyn_cli.proofs.concealing.paint_marked.Goals as goal

pub returns-in-Err-clause-planned : goal.returns-in-Err-clause-planned
returns-in-Err-clause-planned g c =
    let left : Syntax = record {
      items = c.syntax.inside.items;
      clusters = c.syntax.inside.clusters;
      groups = c.syntax.inside.groups;
      programs = c.syntax.inside.programs;
      keywords = c.syntax.inside.keywords;
      links = c.syntax.inside.links;
      sets = c.syntax.inside.sets;
    } in
    refused_is c.args.words.now c.args.syntax c.in_ok-syntax.field-0.syntax left c.args.text.lines c.budget.result c.text-in-Err.result.now c.in_ok-syntax.field-0.items c.in-Err.field-0.error c.refusal.result
    c.in_ok-syntax.ensures.syntax (c.syntax.view_is ∙ c.in-Err.ensures.syntax) c.in_ok-syntax.ensures.items c.budget.ensures.is c.text-in-Err.ensures c.in-Err.ensures.refused c.refusal.ensures

pub returns-in-Err-clause-told : goal.returns-in-Err-clause-told
returns-in-Err-clause-told g c =
    let left : Syntax = record {
      items = c.syntax.inside.items;
      clusters = c.syntax.inside.clusters;
      groups = c.syntax.inside.groups;
      programs = c.syntax.inside.programs;
      keywords = c.syntax.inside.keywords;
      links = c.syntax.inside.links;
      sets = c.syntax.inside.sets;
    } in
    refused_told ConcealedText c.args.words.now c.args.syntax c.in_ok-syntax.field-0.syntax left c.text-in-Err.result.now c.in_ok-syntax.field-0.items c.in-Err.field-0.error c.refusal.result
    c.in_ok-syntax.ensures.syntax (c.syntax.view_is ∙ c.in-Err.ensures.syntax) c.in_ok-syntax.ensures.items c.text-in-Err.ensures c.refusal.ensures

pub returns-in-Err-clause-content : goal.returns-in-Err-clause-content
returns-in-Err-clause-content g c =
    refused_content ConcealedText c.text-in-Err.result.now c.syntax.inside.groups c.in_ok-syntax.field-0.items c.in-Err.field-0.error c.refusal.result c.refusal.ensures
