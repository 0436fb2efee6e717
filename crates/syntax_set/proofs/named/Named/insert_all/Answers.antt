use Rattle.std.proofs.Common.{◌∙◌, sym, subst, take}
use Rattle.syntax_set.specs.ClusterTable.{ClusterList}
use Rattle.syntax_set.specs.ClusterLists.{BeginsWith}
use Rattle.syntax_set.proofs.EntryLaws.{with_entries-begins}
use Rattle.syntax_set.proofs.named.Named.insert_all.Goals as goal

-- the entries before the refused one stand behind the list
pub returns-in_err-insert-clause-begins : goal.returns-in_err-insert-clause-begins
returns-in_err-insert-clause-begins c =
    let list = c.args.self.now in
    let P : ClusterList → Type 0 = λ l. BeginsWith l list in
    let front = take c.loop-entry.entry-index c.args.entries.now in
    subst P (sym (c.in_err-insert.ensures.err ∙ c.loop-entry.invariant)) (with_entries-begins list front)

-- all entries stand behind it
pub returns-clause-begins : goal.returns-clause-begins
returns-clause-begins c =
    let list = c.args.self.now in
    let P : ClusterList → Type 0 = λ l. BeginsWith l list in
    let front = take c.loop-entry.entry-index c.args.entries.now in
    subst P (sym c.loop-entry.invariant) (with_entries-begins list front)
