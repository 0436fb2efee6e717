-- What `check` prints: how many items, keywords and clusters a syntax has.
use Rattle.std.specs.Prelude.{ℕ, List, ◌++◌, codes, decimal}

abbrev pub count_line : List ℕ → ℕ → List ℕ
count_line name number = name ++ decimal number ++ codes "\n"

abbrev pub counts_text : ℕ → ℕ → ℕ → List ℕ
counts_text items keywords clusters =
    count_line (codes "items ") items ++ count_line (codes "keywords ") keywords ++ count_line (codes "clusters ") clusters
