-- What the seed 0 gives for two lines: the draws one by one, the text, and the one edit.
use Rattle.std.proofs.Common.{◌≡◌, ℕ, zero, suc, ◌/◌, List, [], ◌∷◌, refl}
use Rattle.std.specs.Prelude.{codes}
use Rattle.edit_script.specs.Edits.{lines_become}
use Rattle.large_session.specs.Draws.{next_number}
use Rattle.large_session.specs.DrawnEdits.{drawn_edit}
use Rattle.large_session.specs.LargeSession.{edit_count, large_text, number_behind}

-- what the next draws answer before they are taken modulo
abbrev drawn : ℕ → ℕ → List ℕ
drawn zero x = []
drawn (suc count) x = next_number x / 4096 ∷ drawn count (next_number x)

ten_draws : drawn 10 0 ≡ 247535 ∷ 292098 ∷ 859343 ∷ 700309 ∷ 402734 ∷ 652012 ∷ 360422 ∷ 671125 ∷ 532443 ∷ 610058 ∷ []
ten_draws = refl

two_lines : large_text 0 2 ≡ codes "*/ \\ if name \"a b\" name" ∷ codes "42 name" ∷ []
two_lines = refl

one_edit : edit_count 2 ≡ 1
one_edit = refl

second_line_deleted : (drawn_edit 2 (number_behind 0 2)).value ≡ lines_become 1 2 []
second_line_deleted = refl

-- the only line becomes an empty one
only_line_deleted : (drawn_edit 1 (number_behind 0 2)).value ≡ lines_become 0 1 ([] ∷ [])
only_line_deleted = refl
