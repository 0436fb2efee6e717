-- One replacement in a list.
use Rattle.std.specs.Prelude.{ℕ, List, ◌++◌, take, drop}

-- elements a to b - 1 become these
abbrev pub replaced : {X : Type 0} → List X → ℕ → ℕ → List X → List X
replaced xs a b new = take a xs ++ new ++ drop b xs
