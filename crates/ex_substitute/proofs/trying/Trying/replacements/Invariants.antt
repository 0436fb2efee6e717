use Rattle.std.proofs.Common.{◌<◌, length}
use Rattle.std.specs.Prelude.{IfSome}
use Rattle.std.specs.List.{All}
use Rattle.pattern_match.specs.OnText.{IsFoundOn}
use Rattle.ex_substitute.specs.Searching.{replacements}
use Rattle.ex_substitute.specs.Trials.{trial_in}
use Rattle.ex_substitute.proofs.SearchLaws.{Stands, left_of}
use Rattle.ex_substitute.proofs.trying.Trying.replacements.Given as goal

-- those so far, with those from here on, are all
abbrev pub invariant-search : goal.invariant-search
invariant-search g l = let text = g.T.Lines.lines l.lines in let t = trial_in text l.self in record {
  stands : Stands t l.scope (replacements t l.scope l.fn.a) l.found l.end l.at;
  present : IfSome l.at (λ p. p.line < length text);
  on_text : All (IsFoundOn text) l.found;
}

abbrev pub decreases-search : goal.decreases-search
decreases-search g l = left_of (g.T.Lines.lines l.lines) l.end
