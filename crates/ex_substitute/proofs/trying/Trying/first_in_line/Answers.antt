use Rattle.std.proofs.Common.{◌≤◌, ◌∙◌, ◌+◌, ◌-◌, length, arith, refl, sym}
use Rattle.std.proofs.lemmas.Result.{err_from_is_err_and}
use Rattle.match_rules.specs.Ways.{line_at}
use Rattle.ex_substitute.specs.Trials.{counts_of, trial_in}
use Rattle.ex_substitute.specs.Trying.{first_of, places_in}
use Rattle.ex_substitute.proofs.CandidateLaws.{first-candidate, is-column, next-candidate, no-candidate, none-lacking}
use Rattle.ex_substitute.proofs.TryLaws.{found-here, refused-here}
use Rattle.ex_substitute.proofs.trying.Trying.first_in_line.Goals as goal

pub columns-init : goal.columns-init
columns-init g c = record {
  rest = first-candidate (g.T.Lines.lines c.args.lines.now) c.args.self.now (counts_of c.args.wanted) c.args.line c.args.col c.next_column-at.result
      c.line-chars.result.now c.line-chars.ensures c.next_column-at.ensures.from c.next_column-at.ensures.passed;
}

pub returns-then-is_lacking-clause-found : goal.returns-then-is_lacking-clause-found
returns-then-is_lacking-clause-found g c =
    let text = g.T.Lines.lines c.args.lines.now in
    let s = c.args.self.now in
    sym (first-candidate text s (counts_of c.args.wanted) c.args.line c.args.col c.next_column-at.result
    c.line-chars.result.now c.line-chars.ensures c.next_column-at.ensures.from c.next_column-at.ensures.passed)
    ∙ none-lacking text s (counts_of c.args.wanted) c.args.line c.next_column-at.result c.line-chars.result.now c.line-chars.ensures (c.if-is_lacking.ensures refl)

pub returns-in_err-found-clause-found : goal.returns-in_err-found-clause-found
returns-in_err-found-clause-found g c =
    let text = g.T.Lines.lines c.args.lines.now in
    let t = trial_in text c.args.self.now in
    let p = err_from_is_err_and c.from_residual.result c.from_residual.ensures.1 in
    let within : c.columns.at ≤ length c.line-chars.result.now = omega arith in
    rw (p.1, p.2) (refused-here t (counts_of c.args.wanted) c.args.line c.columns.at (length (line_at text c.args.line) + 1)
    (first_of t (counts_of c.args.wanted) (places_in text c.args.line c.args.col)) c.in_err-found.field-0.0
    (is-column text c.args.line c.columns.at c.line-chars.result.now c.line-chars.ensures within) c.columns.invariant.rest c.in_err-found.ensures.found)

pub returns-then-counts-clause-found : goal.returns-then-counts-clause-found
returns-then-counts-clause-found g c =
    let text = g.T.Lines.lines c.args.lines.now in
    let within : c.columns.at ≤ length c.line-chars.result.now = omega arith in
    sym c.columns.invariant.rest
    ∙ found-here (trial_in text c.args.self.now) (counts_of c.args.wanted) c.args.line c.columns.at (length (line_at text c.args.line) + 1) c.in_ok-found.found
    (is-column text c.args.line c.columns.at c.line-chars.result.now c.line-chars.ensures within) c.in_ok-found.ensures.found (sym c.if-counts.ensures)

pub columns-preserved : goal.columns-preserved
columns-preserved g c =
    let text = g.T.Lines.lines c.args.lines.now in
    let within : c.columns.at ≤ length c.line-chars.result.now = omega arith in
    record {
      rest = next-candidate text c.args.self.now (counts_of c.args.wanted) c.args.line c.columns.at c.next_column-next.result c.line-chars.result.now
          c.in_ok-found.found c.line-chars.ensures within c.in_ok-found.ensures.found (sym c.if-counts.ensures)
          c.next_column-next.ensures.from c.next_column-next.ensures.passed ∙ c.columns.invariant.rest;
    }

pub columns-preserved-else-counts : goal.columns-preserved-else-counts
columns-preserved-else-counts g c =
    let text = g.T.Lines.lines c.args.lines.now in
    let within : c.columns.at ≤ length c.line-chars.result.now = omega arith in
    record {
      rest = next-candidate text c.args.self.now (counts_of c.args.wanted) c.args.line c.columns.at c.next_column-next.result c.line-chars.result.now
          c.in_ok-found.found c.line-chars.ensures within c.in_ok-found.ensures.found (sym c.if-counts.ensures)
          c.next_column-next.ensures.from c.next_column-next.ensures.passed ∙ c.columns.invariant.rest;
    }

pub returns-clause-found : goal.returns-clause-found
returns-clause-found g c =
    let text = g.T.Lines.lines c.args.lines.now in
    let past : length c.line-chars.result.now + 1 ≤ c.columns.at = omega arith in
    sym c.columns.invariant.rest
    ∙ no-candidate text c.args.self.now (counts_of c.args.wanted) c.args.line c.columns.at c.line-chars.result.now c.line-chars.ensures past
