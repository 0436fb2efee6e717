use Rattle.std.proofs.Common.{◌≡◌, ◌≤◌, false, sym, ◌∙◌}
use Rattle.edit_script.specs.Edits.{least_line}
use Rattle.edit_script.specs.Resolving.{is_into_self}
use Rattle.edit_script.proofs.WithinLaws.{lies_within}
use Rattle.edit_script.proofs.resolving.resolve.Goals as goal

pub returns-clause-within : goal.returns-clause-within
returns-clause-within c =
    let verb = c.args.command.now.verb in
    let first = c.in_ok-first.first in
    let last = c.in_ok-last.last in
    let dest = c.in_ok-dest.dest in
    let least : least_line verb ≤ first = rw c.least_line-least.ensures at c.in_ok-first.ensures.from in
    let none : is_into_self verb first last dest ≡ false = sym c.is_into_self.ensures ∙ c.if-is_into_self.false in
    rw c.does_of-resolved.ensures (lies_within verb first last dest c.args.count least c.if-last-first.false c.in_ok-last.ensures.within c.in_ok-dest.ensures.within none)
