-- How heads and refusals of commands are printed. A command's number is printed as it is, and the line of
-- the script counts from 1 there.
use Rattle.std.specs.Prelude.{ℕ, ◌+◌, List, ◌++◌, codes, decimal}

-- what begins the head and the refusal of command k
abbrev pub mark_text : ℕ → List ℕ
mark_text k = codes "@" ++ decimal k

-- the head of command k
abbrev pub head_text : ℕ → List ℕ
head_text k = mark_text k ++ codes "\n"

-- the refusal of command k, which stands in the script line of this number
abbrev pub refusal_text : ℕ → ℕ → List ℕ → List ℕ
refusal_text k line cause =
    mark_text k ++ codes " ? " ++ decimal (line + 1) ++ codes " " ++ cause ++ codes "\n"
