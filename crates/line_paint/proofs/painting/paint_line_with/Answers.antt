use Rattle.line_paint.proofs.Common.{rules, sym, rules_in}
use Rattle.region_ends.proofs.SearchLaws.{line_is}
use Rattle.line_paint.proofs.painting.paint_line_with.Goals as goal

pub returns-in_err-enter_line-clause-memory : goal.returns-in_err-enter_line-clause-memory
returns-in_err-enter_line-clause-memory g c =
    c.in_err-enter_line.ensures.kept (rules_in c.args.parts.now c.args.budget) c.requires.memory

pub painted_by-requires-clause-memory : goal.painted_by-requires-clause-memory
painted_by-requires-clause-memory g c =
    let t = c.new-lines.result in (
      search rules,
      c.in_ok-enter_line.ensures.entered c.args.budget t c.args.line
          (sym (line_is t c.args.line c.line.result.now c.line.ensures)) c.requires.memory,
    )
