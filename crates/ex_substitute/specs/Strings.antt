-- The string of a substitution (Vim's help, sub-replace-special): what stands between its slashes, as a list of pieces.
use Rattle.std.specs.Prelude.{ℕ, ◌+◌, ◌-◌, nat_eq, ◌||◌, Bool, true, false, List, [], ◌∷◌, ◌++◌, Option, Some, None, Result, Ok, Err, if◌then◌else◌}
use Rattle.text_scan.specs.Characters.{is_digit}
use Rattle.ex_substitute.specs.declared.error.ExError.{ExError}
use Rattle.ex_substitute.specs.declared.error.ExError.TheVariants.{BadReplacement}
use Rattle.ex_substitute.specs.declared.string.Case.TheVariants.{Upper, Lower}
use Rattle.ex_substitute.specs.declared.string.Piece.{Piece}
use Rattle.ex_substitute.specs.declared.string.Piece.TheVariants.{Char, Break, Group, Once, Lasting, Plain}
use Rattle.ex_substitute.specs.Answers.{◌>>=◌}

-- a backslash, a slash, an ampersand and a tilde stand for themselves behind a backslash
abbrev pub is_itself : ℕ → Bool
is_itself c = nat_eq c 92 || nat_eq c 47 || nat_eq c 38 || nat_eq c 126

-- `\u`, `\l`, `\U`, `\L`, and `\E` or `\e`
abbrev pub case_piece : ℕ → Option Piece
case_piece c =
    if nat_eq c 117 then Some (Once Upper)
    else if nat_eq c 108 then Some (Once Lower)
    else if nat_eq c 85 then Some (Lasting Upper)
    else if nat_eq c 76 then Some (Lasting Lower)
    else if nat_eq c 69 || nat_eq c 101 then Some Plain
    else None

-- what a character stands for behind a backslash: a digit for a group, `r` for a break, `t` for a tab
abbrev pub pair_piece : ℕ → Option Piece
pair_piece c =
    if is_digit c then Some (Group (c - 48))
    else if nat_eq c 114 then Some Break
    else if nat_eq c 116 then Some (Char 9)
    else if is_itself c then Some (Char c)
    else case_piece c

-- an ampersand stands for the whole match
abbrev pub plain_piece : ℕ → Piece
plain_piece c = if nat_eq c 38 then Group 0 else Char c

-- a pair without a meaning is told by the place of its backslash
abbrev pub pair_at : ℕ → ℕ → Result Piece ExError
pair_at at c = elim (pair_piece c) [ None ↦ Err (BadReplacement at) | Some piece ↦ Ok piece ]

-- a bare tilde has no meaning
abbrev pub bare_at : ℕ → ℕ → Result Piece ExError
bare_at at c = if nat_eq c 126 then Err (BadReplacement at) else Ok (plain_piece c)

-- The pieces of a string, and the flags behind the slash that ends it. A slash behind a backslash doesn't. Where none does,
-- there are no flags. A backslash at the end has no meaning.
abbrev pub string_after : List Piece → Bool → ℕ → List ℕ → Result (List Piece × List ℕ) ExError
string_after pieces false at [] = Ok (pieces, [])
string_after pieces true at [] = Err (BadReplacement (at - 1))
string_after pieces false at (c ∷ cs) =
    if nat_eq c 47 then Ok (pieces, cs)
    else if nat_eq c 92 then string_after pieces true (at + 1) cs
    else (bare_at at c >>= λ piece. string_after (pieces ++ piece ∷ []) false (at + 1) cs)
string_after pieces true at (c ∷ cs) =
    pair_at (at - 1) c >>= λ piece. string_after (pieces ++ piece ∷ []) false (at + 1) cs

abbrev pub string_of : List ℕ → Result (List Piece × List ℕ) ExError
string_of text = string_after [] false 0 text
