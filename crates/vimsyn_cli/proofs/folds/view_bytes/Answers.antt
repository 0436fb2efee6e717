use Rattle.std.proofs.Common.{◌≡◌, List, ℕ, ap, length, subst, sym, ◌∙◌}
use Rattle.std.specs.Prelude.{All}
use Rattle.syn_folds.specs.declared.rows.Row.{Row}
use Rattle.vimsyn_cli.specs.FoldRows.{RowStands}
use Rattle.vimsyn_cli.proofs.FoldLaws.{rows_stand}
use Rattle.vimsyn_cli.proofs.folds.view_bytes.Goals as goal

pub row_lines-requires-clause-rows : goal.row_lines-requires-clause-rows
row_lines-requires-clause-rows c =
    let count = length c.args.painted.now.text in
    let own : length c.as_slice.result.now ≡ count = ap (λ (l : List ℕ). length l) c.as_slice.ensures ∙ c.in_ok-levels.ensures.count in
    let P : List Row → Type 0 = λ rows. All (RowStands count) rows in
    subst P (sym (c.as_slice-2.ensures ∙ c.in_ok-rows.ensures)) (rows_stand count c.args.close c.as_slice.result.now own)
