use Rattle.std.proofs.Common.{◌≡◌, rules, ap, ◌∙◌}
use Rattle.pattern_match.specs.ReadyParts.{some_fixed_holds}
use Rattle.pattern_match.proofs.TableLaws.{by_table, by_option}
use Rattle.pattern_match.proofs.collection.Collection.some_part_has.Goals as goal

pub returns-then-table_has : goal.returns-then-table_has
returns-then-table_has c =
    let parts = c.args.self.now.parts in
    let code : c.in-Ok.code ≡ c.args.c = search rules in
    let table = c.table_has.ensures c.args.sets.now ∙ ap (λ k. some_fixed_holds parts k c.args.sets.now c.args.ignore) code in
    by_table parts c.args.c c.args.sets.now c.args.ignore c.table_has.result table c.if-table_has.true

pub returns-else-table_has : goal.returns-else-table_has
returns-else-table_has c =
    let parts = c.args.self.now.parts in
    let code : c.in-Ok.code ≡ c.args.c = search rules in
    let table = c.table_has.ensures c.args.sets.now ∙ ap (λ k. some_fixed_holds parts k c.args.sets.now c.args.ignore) code in
    by_option parts c.args.c c.args.sets.now c.args.ignore c.table_has.result c.some_optional_has.result table c.if-table_has.false c.some_optional_has.ensures
