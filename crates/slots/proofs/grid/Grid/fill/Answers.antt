use Rattle.std.proofs.Common.{◌≡◌, ◌∙◌, ap, arith, inl, inr, length, List, [], ◌∷◌, subst}
use Rattle.std.specs.Prelude.{Some, slice_get}
use Rattle.std.proofs.lemmas.List.{length-append}
use Rattle.slots.specs.declared.grid.Grid.{Grid}
use Rattle.slots.specs.declared.table.Table.{Table}
use Rattle.slots.proofs.EntryLaws.{in_pushed}
use Rattle.slots.proofs.grid.Grid.fill.Goals as goal

pub returns-in_err-push-clause-kept : goal.returns-in_err-push-clause-kept
returns-in_err-push-clause-kept g c j k entry is =
    c.loop.invariant.kept j k entry
    (is.0, (subst (λ (l : List (Table g.row.E.Denot)). slice_get l j ≡ Some is.0) c.in_err-push.ensures.items is.1.0, is.1.1))

pub loop-preserved : goal.loop-preserved
loop-preserved g c =
    let old : Grid g.row.E.Denot = record { alloc = c.loop.self.alloc; rows = c.loop.self.rows } in
    let new : Grid g.row.E.Denot = record { alloc = c.loop.self.alloc; rows = c.push.new.self } in
    let many = c.loop.invariant.many in
    let one_more = ap (λ (l : List (Table g.row.E.Denot)). length l) c.in_ok-push.ensures.items ∙ length-append c.loop.self.rows.items (c.new.result ∷ []) in
    record {
      many = omega (arith, many, one_more);
      kept = λ j k entry is. elim (in_pushed old new c.new.result c.in_ok-push.ensures.items j k entry is) [
        | inl before ↦ c.loop.invariant.kept j k entry before
        | inr there ↦ absurd (c.new.ensures k entry there.1)
      ];
    }
