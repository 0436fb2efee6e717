-- The spelling of an item at a level of magic (Vim's help, /magic). In each definition `n`
-- characters have been read,
-- and `first` says that no character of the pattern stands before the item.
use Rattle.std.specs.Prelude.{ℕ, ◌==◌, ◌+◌, ◌-◌, nat_eq, nat_le, ◌&&◌, ◌||◌, List, [], ◌∷◌, length, Option, Some, None, Bool, true, false, if◌then◌else◌}
use Rattle.pattern_items.specs.declared.item.Level.{Level}
use Rattle.pattern_items.specs.declared.item.Level.TheVariants.{VeryNo, No, Usual, Very}
use Rattle.pattern_items.specs.declared.item.Raw.{Raw}
use Rattle.pattern_items.specs.declared.item.Raw.TheVariants as raw
use Rattle.pattern_items.specs.declared.item.Spelled.{Spelled}
use Rattle.pattern_items.specs.declared.atom.Atom.{Atom}
use Rattle.pattern_items.specs.declared.atom.Atom.TheVariants.{Char, Any, LineEnd, LineStart, LineStop, WordStart, WordStop, FileStart, FileStop, MatchStart, MatchStop, LineNumber}
use Rattle.pattern_items.specs.declared.atom.Compare.{Compare}
use Rattle.pattern_items.specs.declared.atom.Compare.TheVariants.{At, Before, After}
use Rattle.pattern_items.specs.declared.cause.PatternCause.{PatternCause}
use Rattle.pattern_items.specs.declared.cause.PatternCause.TheVariants as cause
use Rattle.pattern_items.specs.declared.codes.Code.{Code}
use Rattle.pattern_items.specs.declared.codes.Notation.{Notation}
use Rattle.pattern_items.specs.Codes.{notation_of, code, char_of}
use Rattle.pattern_items.specs.Collection.{collection_len}
use Rattle.pattern_items.specs.Letters.{class_atom}
use Rattle.pattern_items.specs.Multis.{braces, look, count}
use Rattle.pattern_items.specs.Numbers.{front_digits, behind_digits, number_of_digits}
use Rattle.pattern_items.specs.Characters.{char, backspace, tab, carriage_return, escape}

abbrev pub rank : Level → ℕ
rank VeryNo = 0
rank No = 1
rank Usual = 2
rank Very = 3

-- The least rank at which a character is an item when it stands bare: 1 for `^ $`, 2 for `. [ * ~`,
-- 3 for
-- `( ) | & + = ? { @ % < >`, and never for the others. Below it, it is one behind a backslash.
abbrev pub bare_from : ℕ → ℕ
bare_from c =
    if c == char "^" || c == char "$" then 1
    else if c == char "." || c == char "[" || c == char "*" || c == char "~" then 2
    else if c == char "(" || c == char ")" || c == char "|" || c == char "&" || c == char "+"
    || c == char "=" || c == char "?" || c == char "{" || c == char "@" || c == char "%"
    || c == char "<" || c == char ">" then 3
    else 4

abbrev pub is_bare_item : Level → ℕ → Bool
is_bare_item level c = nat_le (bare_from c) (rank level)

abbrev pub spelled : Raw → ℕ → Spelled
spelled r n = record { raw = r; len = n }

abbrev pub atom : Atom → ℕ → Spelled
atom a n = spelled (raw.Atom a) n

abbrev pub wrong : PatternCause → ℕ → Spelled
wrong c n = spelled (raw.Wrong c) n

-- from 1 to 9
abbrev pub is_number : ℕ → Bool
is_number c = nat_le (char "1") c && nat_le c (char "9")

-- Behind a percent sign.

-- the line of a number, which has nine digits at most
abbrev pub line_number : ℕ → Compare → List ℕ → Spelled
line_number n how digits =
    if nat_le (length digits) 9
    then atom (LineNumber how (number_of_digits digits)) (n + length digits + 1)
    else wrong cause.BadCode n

-- digits and what follows them: a column or a screen column is left out
abbrev pub with_unit : ℕ → Compare → List ℕ → List ℕ → Spelled
with_unit n how digits [] = wrong cause.BadCode n
with_unit n how digits (c ∷ cs) =
    if c == char "l" then line_number n how digits
    else if c == char "c" || c == char "v" then spelled raw.LeftOut (n + length digits + 1)
    else wrong cause.BadCode n

-- a line, a column or a screen column by its number
abbrev pub positioned : ℕ → Compare → List ℕ → Spelled
positioned n how text =
    if nat_eq (length (front_digits text)) 0 then wrong cause.BadCode n
    else with_unit n how (front_digits text) (behind_digits text)

-- a mark: left out
abbrev pub mark : ℕ → List ℕ → Spelled
mark n [] = wrong cause.BadCode n
mark n (c ∷ cs) = spelled raw.LeftOut (n + 1)

-- behind `<` or `>`
abbrev pub compared : ℕ → Compare → List ℕ → Spelled
compared n how [] = wrong cause.BadCode n
compared n how (c ∷ cs) = if c == char "'" then mark (n + 1) cs else positioned n how (c ∷ cs)

abbrev pub coded_as : ℕ → ℕ → Option ℕ → Spelled
coded_as n count None = wrong cause.BadCode n
coded_as n count (Some c) = atom (Char c) (n + count)

abbrev pub with_code : ℕ → Code → Spelled
with_code n k =
    if nat_eq k.count 0 then wrong cause.BadCode n
    else coded_as n k.count (char_of k.value)

-- a character by its code
abbrev pub coded : ℕ → Notation → List ℕ → Spelled
coded n notation cs = with_code n (code notation cs)

abbrev pub engine_number : ℕ → List ℕ → Spelled
engine_number n [] = spelled raw.LeftOut n
engine_number n (c ∷ cs) =
    if c == char "0" || c == char "1" || c == char "2" then spelled raw.Engine (n + 2)
    else spelled raw.LeftOut n

abbrev pub engine_at_front : ℕ → List ℕ → Spelled
engine_at_front n [] = spelled raw.LeftOut n
engine_at_front n (c ∷ cs) = if c == char "=" then engine_number n cs else spelled raw.LeftOut n

-- the choice of an engine, at a pattern's front; else the cursor, which is left out
abbrev pub engine : Bool → ℕ → List ℕ → Spelled
engine true n cs = engine_at_front n cs
engine false n cs = spelled raw.LeftOut n

abbrev pub code_or : ℕ → ℕ → List ℕ → Option Notation → Spelled
code_or n c cs (Some notation) = coded (n + 1) notation cs
code_or n c cs None = positioned n At (c ∷ cs)

abbrev pub code_or_position : ℕ → ℕ → List ℕ → Spelled
code_or_position n c cs = code_or n c cs (notation_of c)

abbrev pub percent : Bool → ℕ → List ℕ → Spelled
percent first n [] = wrong cause.BadCode n
percent first n (c ∷ cs) =
    if c == char "(" then spelled raw.Plain (n + 1)
    else if c == char "[" then spelled raw.Optional (n + 1)
    else if c == char "^" then atom FileStart (n + 1)
    else if c == char "$" then atom FileStop (n + 1)
    else if c == char "V" || c == char "C" then spelled raw.LeftOut (n + 1)
    else if c == char "#" then engine first (n + 1) cs
    else if c == char "'" then mark (n + 1) cs
    else if c == char "<" then compared (n + 1) Before cs
    else if c == char ">" then compared (n + 1) After cs
    else code_or_position n c cs

-- Behind `\z`.
abbrev pub external : ℕ → List ℕ → Spelled
external n [] = wrong cause.BadCode n
external n (c ∷ cs) =
    if c == char "(" then spelled raw.External (n + 1)
    else if c == char "s" then atom MatchStart (n + 1)
    else if c == char "e" then atom MatchStop (n + 1)
    else if is_number c then spelled (raw.ExternalReference (c - char "0")) (n + 1)
    else wrong cause.BadCode n

-- Behind an opening bracket, which is a character where none closes it. `before` characters stand
-- before it.
abbrev pub collected_to : Bool → ℕ → Option ℕ → Spelled
collected_to line_end before None = spelled raw.LoneBracket (before + 1)
collected_to line_end before (Some len) =
    spelled (raw.Collection line_end before) (before + 1 + len)

abbrev pub collected : Bool → ℕ → List ℕ → Spelled
collected line_end before cs = collected_to line_end before (collection_len cs)

-- Behind `\_`.
abbrev pub class_after_underscore : Option Atom → Spelled
class_after_underscore None = wrong cause.BadUnderscore 2
class_after_underscore (Some a) = atom a 3

abbrev pub underscore : List ℕ → Spelled
underscore [] = wrong cause.BadUnderscore 2
underscore (c ∷ cs) =
    if c == char "^" then atom LineStart 3
    else if c == char "$" then atom LineStop 3
    else if c == char "." then atom (Any true) 3
    else if c == char "[" then collected true 2 cs
    else class_after_underscore (class_atom true c)

-- the characters that `\e`, `\t`, `\r`, `\b` write
abbrev pub control : ℕ → Option ℕ
control c =
    if c == char "e" then Some escape
    else if c == char "t" then Some tab
    else if c == char "r" then Some carriage_return
    else if c == char "b" then Some backspace
    else None

abbrev pub control_or : ℕ → Option ℕ → Spelled
control_or c None = atom (Char c) 2
control_or c (Some written) = atom (Char written) 2

abbrev pub class_or : ℕ → Option Atom → Spelled
class_or c (Some a) = atom a 2
class_or c None = control_or c (control c)

abbrev pub class_or_character : ℕ → Spelled
class_or_character c = class_or c (class_atom false c)

-- a backslash and a letter, a digit, or a character without a meaning, which stands for itself
abbrev pub letter : ℕ → List ℕ → Spelled
letter c cs =
    if c == char "v" then spelled (raw.Magic Very) 2
    else if c == char "m" then spelled (raw.Magic Usual) 2
    else if c == char "M" then spelled (raw.Magic No) 2
    else if c == char "V" then spelled (raw.Magic VeryNo) 2
    else if c == char "c" then spelled (raw.Case true) 2
    else if c == char "C" then spelled (raw.Case false) 2
    else if c == char "n" then atom LineEnd 2
    else if c == char "Z" then spelled raw.LeftOut 2
    else if c == char "z" then external 2 cs
    else if c == char "_" then underscore cs
    else if is_number c then spelled (raw.Reference (c - char "0")) 2
    else class_or_character c

-- a multi, or what joins, opens or closes
abbrev pub operator : ℕ → ℕ → List ℕ → Option Spelled
operator n c cs =
    if c == char "*" then Some (spelled raw.Star n)
    else if c == char "+" then Some (spelled (raw.Multi (count 1 None false)) n)
    else if c == char "=" || c == char "?"
    then Some (spelled (raw.Multi (count 0 (Some 1) false)) n)
    else if c == char "{" then Some (braces n cs)
    else if c == char "@" then Some (look n cs)
    else if c == char "(" then Some (spelled raw.Group n)
    else if c == char ")" then Some (spelled raw.Close n)
    else if c == char "|" then Some (spelled raw.Bar n)
    else if c == char "&" then Some (spelled raw.Also n)
    else None

-- an atom that may stand bare
abbrev pub plain_atom : Bool → ℕ → ℕ → List ℕ → Option Spelled
plain_atom first n c cs =
    if c == char "." then Some (atom (Any false) n)
    else if c == char "^" then Some (spelled raw.Caret n)
    else if c == char "$" then Some (spelled raw.Dollar n)
    else if c == char "[" then Some (collected false (n - 1) cs)
    else if c == char "<" then Some (atom WordStart n)
    else if c == char ">" then Some (atom WordStop n)
    else if c == char "~" then Some (spelled raw.LeftOut n)
    else if c == char "%" then Some (percent first n cs)
    else None

abbrev pub first_some : Option Spelled → Option Spelled → Option Spelled
first_some (Some s) o = Some s
first_some None o = o

-- an item whose character may stand bare at some level
abbrev pub magic_item : Bool → ℕ → ℕ → List ℕ → Option Spelled
magic_item first n c cs = first_some (plain_atom first n c cs) (operator n c cs)

abbrev pub or_character : ℕ → Option Spelled → Spelled
or_character c None = atom (Char c) 1
or_character c (Some s) = s

abbrev pub bare_spelling : Bool → Level → ℕ → List ℕ → Spelled
bare_spelling first level c cs =
    if c == char "]" then spelled raw.Square 1
    else if is_bare_item level c then or_character c (magic_item first 1 c cs)
    else atom (Char c) 1

abbrev pub or_letter : ℕ → List ℕ → Option Spelled → Spelled
or_letter c cs None = letter c cs
or_letter c cs (Some s) = s

-- behind a backslash; one at the end is a character
abbrev pub escaped_spelling : Bool → Level → List ℕ → Spelled
escaped_spelling first level [] = atom (Char (char "\\")) 1
escaped_spelling first level (c ∷ cs) =
    if is_bare_item level c then atom (Char c) 2
    else or_letter c cs (magic_item first 2 c cs)

-- the item at the front
abbrev pub spelling : Bool → Level → List ℕ → Spelled
spelling first level [] = atom (Char (char "\\")) 1
spelling first level (c ∷ cs) =
    if c == char "\\" then escaped_spelling first level cs
    else bare_spelling first level c cs
