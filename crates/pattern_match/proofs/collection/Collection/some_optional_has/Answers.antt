use Rattle.std.proofs.Common.{◌≡◌, false, sym, ◌∙◌}
use Rattle.std.specs.List.{list_any}
use Rattle.pattern_match.specs.ReadyParts.{is_optional}
use Rattle.pattern_match.proofs.TableLaws.{some_optional_holds-none}
use Rattle.pattern_match.proofs.collection.Collection.some_optional_has.Goals as goal

pub returns-else-self : goal.returns-else-self
returns-else-self c =
    let parts = c.self.inside.ranges.parts in
    let none : list_any is_optional parts ≡ false = sym c.self.invariant.optional ∙ c.if-self.false in
    rw (← c.self.view_is) (c.if-self.false ∙ sym (some_optional_holds-none parts c.args.c c.args.sets.now c.args.ignore none))
