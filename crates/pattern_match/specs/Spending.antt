-- What an attempt has spent.
use Rattle.std.specs.Prelude.{ℕ, zero, suc, nat_lt, List, [], ◌∷◌, if◌then◌else◌}
use Rattle.syn_base.specs.declared.looked.Looked.{Looked}
use Rattle.match_rules.specs.Marks.{Mark, Tick}
use Rattle.match_rules.specs.Attempt.{answer_from, joined}
use Rattle.pattern_match.specs.declared.spent.Spent.{Spent}

-- behind the ticks up to the first of some ways
abbrev pub spent_on : Spent → List Mark → Spent
spent_on s marks = record {
  cost = (answer_from s.cost s.looked marks).cost;
  budget = s.budget;
  looked = (answer_from s.cost s.looked marks).looked;
}

-- behind so many ticks that looked at the same lines
abbrev pub spent_times : Spent → ℕ → Looked → Spent
spent_times s zero looked = s
spent_times s (suc count) looked = spent_on (spent_times s count looked) (Tick looked ∷ [])

-- where these lines were looked at too
abbrev pub looking_at_too : Looked → Spent → Spent
looking_at_too more s = record s { looked = joined s.looked more }

-- the same, if there was a tick since the cost was `before`
abbrev pub looking_too : ℕ → Looked → Spent → Spent
looking_too before more s = if nat_lt before s.cost then looking_at_too more s else s
