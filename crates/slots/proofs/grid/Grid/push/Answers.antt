use Rattle.std.proofs.Common.{◌≡◌, ap, inl, inr, length, List, subst, ◌∙◌}
use Rattle.std.specs.Prelude.{Some, slice_get}
use Rattle.slots.specs.declared.grid.Grid.{Grid}
use Rattle.slots.specs.declared.table.Table.{Table}
use Rattle.slots.proofs.EntryLaws.{in_pushed, last_pushed}
use Rattle.slots.proofs.grid.Grid.push.Goals as goal

pub returns-in_err-push-clause-kept : goal.returns-in_err-push-clause-kept
returns-in_err-push-clause-kept g c j k e is =
    inl (is.0, (subst (λ (l : List (Table g.row.E.Denot)). slice_get l j ≡ Some is.0) c.in_err-push.ensures.items is.1.0, is.1.1))

pub returns-clause-here : goal.returns-clause-here
returns-clause-here g c =
    let rows = c.args.self.now.rows.items in
    let there = ap (λ (l : List (Table g.row.E.Denot)). slice_get l (length rows)) c.in_ok-push.ensures.items ∙ last_pushed rows c.put.new.self in
    (c.put.new.self, (there, c.in_ok-put.ensures.here))

pub returns-clause-kept : goal.returns-clause-kept
returns-clause-kept g c j k e is =
    let new : Grid g.row.E.Denot = record { alloc = c.args.self.now.alloc; rows = c.push.new.self } in
    elim (in_pushed c.args.self.now new c.put.new.self c.in_ok-push.ensures.items j k e is) [
      | inl old ↦ inl old
      | inr there ↦ elim (c.in_ok-put.ensures.kept k e there.1) [
        | inl old ↦ absurd (c.new-table.ensures k e old)
        | inr put ↦ inr (there.0, (put.0, put.1))
      ]
    ]
