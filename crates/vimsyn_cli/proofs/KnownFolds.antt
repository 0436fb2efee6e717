-- Folds and rows, and how they are printed.
use Rattle.std.proofs.Common.{◌≡◌, List, [], ◌∷◌, refl}
use Rattle.std.specs.Prelude.{codes}
use Rattle.std.specs.Fmt.{digits}
use Rattle.std.proofs.Math.Utf8.{encode}
use Rattle.syn_folds.specs.declared.rows.Row.TheVariants.{Line, Closed}
use Rattle.vimsyn_cli.specs.Folds.{closed_line, fold_line, row_line}

a_fold : fold_line (record { first = 0; last = 3; level = 1 }) ≡ codes "1-4 1\n"
unfolding digits
a_fold = refl

-- at level 1 two dashes
two_lines : closed_line 1 2 (codes "b{") ≡ codes "+-- 2 lines: b{\n"
unfolding digits encode
two_lines = refl

-- spaces and tabs go at the front alone
blanks_in_front : closed_line 0 12 (codes " \t {  b ") ≡ codes "+- 12 lines: {  b \n"
unfolding digits encode
blanks_in_front = refl

a_row : row_line (codes "a{" ∷ codes "b{" ∷ codes "c}" ∷ []) 1 (Closed 1 2) ≡ codes "+-- 2 lines: b{\n"
unfolding digits encode
a_row = refl

a_line : row_line (codes "a{" ∷ codes " b" ∷ []) 1 (Line 1) ≡ codes " b\n"
unfolding encode
a_line = refl
