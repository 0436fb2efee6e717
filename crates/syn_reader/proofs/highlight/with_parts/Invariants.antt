use Rattle.std.proofs.Common.{◌≡◌, drop}
use Rattle.syn_reader.specs.Highlight.{with_parts}
use Rattle.syn_reader.proofs.highlight.with_parts.Given as goal

-- the parts so far, with those to come, are all
abbrev pub invariant-loop-part : goal.invariant-loop-part
invariant-loop-part l = with_parts l.style (drop l.part-index l.parts) ≡ with_parts l.initial.style l.parts
