-- Class letters (Vim's help, /character-classes).
use Rattle.std.specs.Prelude.{ℕ, ◌==◌, Option, Some, None, Bool, true, false, if◌then◌else◌}
use Rattle.syn_base.specs.declared.class.Class.{Class}
use Rattle.syn_base.specs.declared.class.Class.TheVariants.{White, Digit, Hex, Octal, Word, Head, Alpha, Lower, Upper, Ident, Keyword, File, Print, IdentNoDigit, KeywordNoDigit, FileNoDigit, PrintNoDigit}
use Rattle.pattern_items.specs.declared.atom.Atom.{Atom}
use Rattle.pattern_items.specs.declared.atom.Atom.TheVariants.{Is}
use Rattle.pattern_items.specs.Characters.{char}

-- `s d x o w h a l u`, `i k f p` and `I K F P`
abbrev pub class_of : ℕ → Option Class
class_of c =
    if c == char "s" then Some White
    else if c == char "d" then Some Digit
    else if c == char "x" then Some Hex
    else if c == char "o" then Some Octal
    else if c == char "w" then Some Word
    else if c == char "h" then Some Head
    else if c == char "a" then Some Alpha
    else if c == char "l" then Some Lower
    else if c == char "u" then Some Upper
    else if c == char "i" then Some Ident
    else if c == char "k" then Some Keyword
    else if c == char "f" then Some File
    else if c == char "p" then Some Print
    else if c == char "I" then Some IdentNoDigit
    else if c == char "K" then Some KeywordNoDigit
    else if c == char "F" then Some FileNoDigit
    else if c == char "P" then Some PrintNoDigit
    else None

-- `S D X O W H A L U`
abbrev pub opposite_of : ℕ → Option Class
opposite_of c =
    if c == char "S" then Some White
    else if c == char "D" then Some Digit
    else if c == char "X" then Some Hex
    else if c == char "O" then Some Octal
    else if c == char "W" then Some Word
    else if c == char "H" then Some Head
    else if c == char "A" then Some Alpha
    else if c == char "L" then Some Lower
    else if c == char "U" then Some Upper
    else None

abbrev pub opposite_atom : Bool → Option Class → Option Atom
opposite_atom line_end None = None
opposite_atom line_end (Some class) = Some (Is class true line_end)

abbrev pub class_or : Bool → ℕ → Option Class → Option Atom
class_or line_end c (Some class) = Some (Is class false line_end)
class_or line_end c None = opposite_atom line_end (opposite_of c)

-- the atom of a class letter, which may take a line end too
abbrev pub class_atom : Bool → ℕ → Option Atom
class_atom line_end c = class_or line_end c (class_of c)
