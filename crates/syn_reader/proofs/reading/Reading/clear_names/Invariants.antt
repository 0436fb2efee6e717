use Rattle.std.proofs.Common.{◌≡◌, drop}
use Rattle.syn_reader.specs.Clusters.{names_cleared}
use Rattle.syn_reader.proofs.reading.Reading.clear_names.Given as goal

-- what the names so far have cleared, with those to come
abbrev pub invariant-loop-name : goal.invariant-loop-name
invariant-loop-name l = names_cleared l.self (drop l.name-index l.names) ≡ names_cleared l.initial.self l.names
