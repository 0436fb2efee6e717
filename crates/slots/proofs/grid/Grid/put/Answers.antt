use Rattle.std.proofs.Common.{◌≡◌, ◌<◌, ◌∙◌, ℕ, arith, inl, inr, length, refl, subst, sym}
use Rattle.std.specs.Vec.{with_item}
use Rattle.std.proofs.lemmas.Option.{slice_get_read}
use Rattle.std.proofs.lemmas.Result.{on_ok_weaker}
use Rattle.slots.specs.declared.grid.Grid.{Grid}
use Rattle.slots.specs.Entries.{IsIn}
use Rattle.slots.proofs.EntryLaws.{get_set, in_exchanged}
use Rattle.slots.proofs.grid.Grid.put.Goals as goal

pub returns-in_err-fill-clause-kept : goal.returns-in_err-fill-clause-kept
returns-in_err-fill-clause-kept g c j k e is = inl (c.fill.ensures.kept j k e is)

pub returns-then-row-len-clause-here : goal.returns-then-row-len-clause-here
returns-then-row-len-clause-here g c =
    let within : c.args.row < length c.fill.new.self.rows.items = omega (arith, c.if-row-len.true, c.len.ensures) in
    on_ok_weaker c.put.result (λ at. (c.put.new.self, (get_set c.fill.new.self.rows.items c.args.row c.put.new.self within, at))) c.put.ensures.here

pub returns-then-row-len-clause-kept : goal.returns-then-row-len-clause-kept
returns-then-row-len-clause-kept g c j k e is =
    let rows = c.fill.new.self.rows.items in
    let table = c.index_mut.result.now in
    let within : c.args.row < length rows = omega (arith, c.if-row-len.true, c.len.ensures) in
    let there = slice_get_read rows (length rows) c.args.row table refl within c.index_mut.ensures.value in
    let new : Grid g.row.E.Denot = record { alloc = c.fill.new.self.alloc; rows = with_item c.fill.new.self.rows c.args.row c.put.new.self } in
    elim (in_exchanged c.fill.new.self new c.args.row c.put.new.self refl j k e is) [
      | inl old ↦ inl (c.fill.ensures.kept j k e old)
      | inr own ↦ elim (c.put.ensures.kept k e own.1) [
        | inl old ↦ inl (subst (λ (row : ℕ). IsIn c.args.self.now row k e) (sym own.0) (c.fill.ensures.kept c.args.row k e (table, (there, old))))
        | inr put ↦ inr (own.0, (put.0, put.1))
      ]
    ]

pub returns-else-row-len-clause-here : goal.returns-else-row-len-clause-here
returns-else-row-len-clause-here g c =
    let many = c.in_ok-fill.ensures.many in
    let last : length c.fill.new.self.rows.items ≡ c.args.row = omega (arith, many, c.if-row-len.false, c.len.ensures) in
    on_ok_weaker c.push.result (λ is. subst (λ (row : ℕ). IsIn c.push.new.self row c.args.number c.args.entry) last is) c.push.ensures.here

pub returns-else-row-len-clause-kept : goal.returns-else-row-len-clause-kept
returns-else-row-len-clause-kept g c j k e is =
    let many = c.in_ok-fill.ensures.many in
    let last : length c.fill.new.self.rows.items ≡ c.args.row = omega (arith, many, c.if-row-len.false, c.len.ensures) in
    elim (c.push.ensures.kept j k e is) [
      | inl old ↦ inl (c.fill.ensures.kept j k e old)
      | inr put ↦ inr (put.0 ∙ last, (put.1.0, put.1.1))
    ]
