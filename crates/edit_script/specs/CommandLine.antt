-- The line of a command: `H`; `F`; `S`, one space and the name of a syntax file, which goes up to
-- the line's end; a range and `s/`, `g/` or `v/`, which begin a command by pattern, up to the line's
-- end too; or a range, the letter of a verb and for `m` and `t` one address more, with nothing
-- behind. Before `a` and `i` stands one address. The form is asked for first, with addresses of any
-- number of digits.
use Rattle.std.specs.Prelude.{ℕ, ◌==◌, nat_lt, ◌&&◌, ◌||◌, Bool, true, false, List, [], ◌∷◌, length, codes, Option, Some, None, Result, Ok, Err, option_map, if◌then◌else◌}
use Rattle.std.specs.Str.{bytes_eq, chars}
use Rattle.text_buffer.specs.TextOfBytes.{line_of, most_chars}
use Rattle.text_buffer.specs.declared.LineFault.{LineFault}
use Rattle.text_buffer.specs.declared.LineFault.TheVariants.{NotUtf8, TooLong}
use Rattle.edit_script.specs.declared.commands.Last.{Last}
use Rattle.edit_script.specs.declared.commands.Last.TheVariants.{End}
use Rattle.edit_script.specs.declared.commands.Verb.{Verb}
pub use Rattle.edit_script.specs.declared.commands.Verb.TheVariants as does
use Rattle.edit_script.specs.declared.commands.ScriptFault.{ScriptFault}
use Rattle.edit_script.specs.declared.commands.ScriptFault.TheVariants.{BadCommand, BadUtf8, LongLine}
use Rattle.edit_script.specs.declared.addresses.Range.{Range}
use Rattle.edit_script.specs.declared.head.Head.{Head}
use Rattle.edit_script.specs.declared.head.Order.{Order}
use Rattle.edit_script.specs.Addresses.{address_at, range_at}

-- a command beside its text, if each address names a line
abbrev pub order_of : Option Last → Option Last → Option Verb → Option Order
order_of None last verb = None
order_of (Some first) None verb = None
order_of (Some first) (Some last) None = None
order_of (Some first) (Some last) (Some verb) =
    Some (record { first = first; last = last; verb = verb })

-- a verb at the end of the line
abbrev pub ended : Range → Bool → Verb → List ℕ → Option Head
ended range takes_text verb [] = Some (record {
  takes_text = takes_text;
  order = order_of range.first range.last (Some verb);
})
ended range takes_text verb (c ∷ cs) = None

-- a verb that takes one address
abbrev pub ended_single : Range → Verb → List ℕ → Option Head
ended_single range verb rest = if range.single then ended range true verb rest else None

-- an address at the end of the line
abbrev pub last_address : Option (Option Last × List ℕ) → Option (Option Last)
last_address None = None
last_address (Some (line, [])) = Some line
last_address (Some (line, c ∷ cs)) = None

abbrev pub destination : List ℕ → Option (Option Last)
destination text = last_address (address_at text)

-- a verb with its destination
abbrev pub at_destination : Range → (Last → Verb) → Option (Option Last) → Option Head
at_destination range verb None = None
at_destination range verb (Some line) = Some (record {
  takes_text = false;
  order = order_of range.first range.last (option_map verb line);
})

-- the letters, of which 97 is `a`
abbrev pub verb_behind : Range → List ℕ → Option Head
verb_behind range [] = None
verb_behind range (c ∷ cs) =
    if c == 97 then ended_single range does.Append cs
    else if c == 105 then ended_single range does.Insert cs
    else if c == 99 then ended range true does.Change cs
    else if c == 100 then ended range false does.Delete cs
    else if c == 112 then ended range false does.Print cs
    else if c == 109 then at_destination range does.Move (destination cs)
    else if c == 116 then at_destination range does.CopyTo (destination cs)
    else None

-- whether a command by pattern stands there: `s`, `g` or `v`, which are 115, 103 and 118, and `/`, which is 47
abbrev pub is_by_pattern : List ℕ → Bool
is_by_pattern [] = false
is_by_pattern (letter ∷ []) = false
is_by_pattern (letter ∷ c ∷ cs) = (letter == 115 || letter == 103 || letter == 118) && c == 47

-- a command by pattern has all that follows its range, from the letter on
abbrev pub pattern_or_verb : Range → List ℕ → Option Head
pattern_or_verb range text =
    if is_by_pattern text then ended range false (does.Ex text) [] else verb_behind range text

abbrev pub with_range : Option (Range × List ℕ) → Option Head
with_range None = None
with_range (Some found) = pattern_or_verb found.0 found.1

abbrev pub ranged : List ℕ → Option Head
ranged text = with_range (range_at text)

-- the name behind `S` and one space, which are 83 and 32: all that follows, if anything does
abbrev pub syntax_name : List ℕ → Option (List ℕ)
syntax_name [] = None
syntax_name (letter ∷ []) = None
syntax_name (letter ∷ space ∷ []) = None
syntax_name (letter ∷ space ∷ c ∷ name) =
    if letter == 83 && space == 32 then Some (c ∷ name) else None

-- a verb that is the whole line has the last line as its range
abbrev pub alone : Verb → Head
alone verb = record { takes_text = false; order = order_of (Some End) (Some End) (Some verb) }

-- a line that names a syntax file, or else one with a range
abbrev pub syntax_or_range : Option (List ℕ) → List ℕ → Option Head
syntax_or_range (Some name) text = Some (alone (does.Syntax name))
syntax_or_range None text = ranged text

-- what the characters of a line say, if they are the line of a command
abbrev pub head_of : List ℕ → Option Head
head_of text =
    if bytes_eq text (codes "H") then Some (alone does.Page)
    else if bytes_eq text (codes "F") then Some (alone does.Folds)
    else syntax_or_range (syntax_name text) text

abbrev pub head_or_bad : Option Head → Result Head ScriptFault
head_or_bad None = Err BadCommand
head_or_bad (Some head) = Ok head

abbrev pub is_long : List ℕ → Bool
is_long bytes = nat_lt most_chars (length (chars bytes))

-- a fault of a line is one of the script
abbrev pub in_script : Result (List ℕ) LineFault → Result (List ℕ) ScriptFault
in_script (Ok line) = Ok line
in_script (Err NotUtf8) = Err BadUtf8
in_script (Err TooLong) = Err LongLine

-- the characters of a line, or what is wrong with it
abbrev pub line_chars : List ℕ → Result (List ℕ) ScriptFault
line_chars bytes = in_script (line_of bytes)

abbrev pub with_chars : Result (List ℕ) ScriptFault → Result Head ScriptFault
with_chars (Err fault) = Err fault
with_chars (Ok text) = head_or_bad (head_of text)

-- what the bytes of a line say
abbrev pub line_head : List ℕ → Result Head ScriptFault
line_head bytes = with_chars (line_chars bytes)

abbrev pub takes_text : Result Head ScriptFault → Bool
takes_text (Ok head) = head.takes_text
takes_text (Err fault) = false
