use Rattle.std.proofs.Common.{◌≡◌, List, length, refl, subst}
use Rattle.std.specs.Prelude.{Some, slice_get}
use Rattle.std.proofs.lemmas.Option.{IfSome_then, slice_get_read}
use Rattle.slots.specs.declared.table.Table.{Table}
use Rattle.slots.proofs.grid.Grid.get.Goals as goal

pub returns : goal.returns
returns g c =
    let rows = c.deref.result.now in
    let table = c.in_ok-get.field-0.now in
    let lookup = c.in_ok-get.ensures.lookup in
    let read = slice_get_read rows (length rows) c.args.row table refl lookup.3.0 lookup.1 in
    let there = subst (λ (l : List (Table g.row.E.Denot)). slice_get l c.args.row ≡ Some table) c.deref.ensures.value read in
    IfSome_then c.get-2.result c.get-2.ensures.some (λ entry at. (table, (there, at)))
