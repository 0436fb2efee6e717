use Rattle.item_pick.proofs.Common.{◌<◌, ℕ, get_or, rules_in}
use Rattle.keyword_table.specs.declared.table.Definition.{Definition}
use Rattle.item_pick.specs.Wordless.{StartsByWord}
use Rattle.item_pick.proofs.asked.Asked.all_start_by_word.Given as goal

-- the definitions before start keywords
abbrev pub invariant-loop-number : goal.invariant-loop-number
invariant-loop-number l =
    let r = rules_in l.self.parts.now l.self.budget in
    (k : ℕ) → k < l.number → (any : Definition) → StartsByWord r (get_or r.keywords k any).item
