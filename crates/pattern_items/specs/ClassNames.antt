-- Class names in collections (Vim's help, /[:alpha:]).
use Rattle.std.specs.Prelude.{ℕ, nat_eq, List, [], ◌∷◌, Option, Bool, true, false, if◌then◌else◌, codes, find}
use Rattle.std.specs.List.{starts_with}
use Rattle.syn_base.specs.declared.class.Class.TheVariants as class
use Rattle.pattern_items.specs.declared.atom.SetPart.{SetPart}
use Rattle.pattern_items.specs.declared.atom.SetPart.TheVariants as part
use Rattle.pattern_items.specs.declared.class_names.ClassName.{ClassName}
use Rattle.pattern_items.specs.declared.class_names.ClassName.TheVariants.{Alnum, Alpha, Blank, Cntrl, Digit, Graph, Lower, Print, Punct, Space, Upper, Xdigit, Return, Tab, Escape, Backspace, Ident, Keyword, Fname}
use Rattle.pattern_items.specs.Characters.{backspace, tab, carriage_return, escape}

-- what stands behind the bracket of a name
abbrev pub word : ClassName → List ℕ
word Alnum = codes ":alnum:]"
word Alpha = codes ":alpha:]"
word Blank = codes ":blank:]"
word Cntrl = codes ":cntrl:]"
word Digit = codes ":digit:]"
word Graph = codes ":graph:]"
word Lower = codes ":lower:]"
word Print = codes ":print:]"
word Punct = codes ":punct:]"
word Space = codes ":space:]"
word Upper = codes ":upper:]"
word Xdigit = codes ":xdigit:]"
word Return = codes ":return:]"
word Tab = codes ":tab:]"
word Escape = codes ":escape:]"
word Backspace = codes ":backspace:]"
word Ident = codes ":ident:]"
word Keyword = codes ":keyword:]"
word Fname = codes ":fname:]"

abbrev pub class_names : List ClassName
class_names =
    Alnum ∷ Alpha ∷ Blank ∷ Cntrl ∷ Digit ∷ Graph ∷ Lower ∷ Print ∷ Punct ∷ Space ∷ Upper
    ∷ Xdigit ∷ Return ∷ Tab ∷ Escape ∷ Backspace ∷ Ident ∷ Keyword ∷ Fname ∷ []

-- the name behind a bracket; another name is characters
abbrev pub name_at : List ℕ → Option ClassName
name_at text = find (λ name. starts_with nat_eq text (word name)) class_names

abbrev pub first_part : ClassName → SetPart
first_part Alnum = part.Of class.Alpha
first_part Alpha = part.Of class.Alpha
first_part Blank = part.Of class.White
first_part Cntrl = part.Cntrl
first_part Digit = part.Of class.Digit
first_part Graph = part.Graph
first_part Lower = part.Of class.Lower
first_part Print = part.Of class.Print
first_part Punct = part.Punct
first_part Space = part.Space
first_part Upper = part.Of class.Upper
first_part Xdigit = part.Of class.Hex
first_part Return = part.Range carriage_return carriage_return
first_part Tab = part.Range tab tab
first_part Escape = part.Range escape escape
first_part Backspace = part.Range backspace backspace
first_part Ident = part.Of class.Ident
first_part Keyword = part.Of class.Keyword
first_part Fname = part.Of class.File

abbrev pub is_alnum : ClassName → Bool
is_alnum Alnum = true
is_alnum _ = false

-- what a name stands for: `alnum` is the letters and the digits
abbrev pub parts_of : ClassName → List SetPart
parts_of name = first_part name ∷ (if is_alnum name then part.Of class.Digit ∷ [] else [])
