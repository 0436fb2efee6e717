-- Collections (Vim's help, /[]): behind the bracket optionally `^`, then optionally `]` as a
-- character, up to the next `]`.
-- A backslash takes the next character with it, and a class name is passed whole.
use Rattle.std.specs.Prelude.{ℕ, ◌==◌, zero, suc, ◌+◌, nat_eq, nat_lt, ◌||◌, List, [], ◌∷◌, ◌++◌, drop, length, Option, Some, None, Bool, true, false, if◌then◌else◌}
use Rattle.pattern_items.specs.declared.atom.SetPart.{SetPart}
use Rattle.pattern_items.specs.declared.atom.SetPart.TheVariants as part
use Rattle.pattern_items.specs.declared.atom.Atom.TheVariants.{Set}
use Rattle.pattern_items.specs.declared.cause.PatternCause.{PatternCause}
use Rattle.pattern_items.specs.declared.cause.PatternCause.TheVariants as cause
use Rattle.pattern_items.specs.declared.class_names.ClassName.{ClassName}
use Rattle.pattern_items.specs.declared.codes.Code.{Code}
use Rattle.pattern_items.specs.declared.codes.Notation.{Notation}
use Rattle.pattern_items.specs.declared.collection.Member.{Member}
use Rattle.pattern_items.specs.declared.collection.Member.TheVariants.{Bare, Escaped, Named, LineEnd, NoCharacter, LeftOut}
use Rattle.pattern_items.specs.declared.collection.Found.{Found}
use Rattle.pattern_items.specs.declared.collection.Piece.{Piece}
use Rattle.pattern_items.specs.declared.collection.Piece.TheVariants.{Range, Other}
use Rattle.pattern_items.specs.declared.item.Sign.{Sign}
use Rattle.pattern_items.specs.declared.item.Sign.TheVariants as sign
use Rattle.pattern_items.specs.ClassNames.{word, name_at, parts_of}
use Rattle.pattern_items.specs.Codes.{notation_of, code, char_of}
use Rattle.pattern_items.specs.Characters.{char, backspace, tab, carriage_return, escape}

-- Where a collection ends.

abbrev pub name_len : Option ClassName → ℕ
name_len None = 0
name_len (Some name) = length (word name)

abbrev pub one_if_any : List ℕ → ℕ
one_if_any [] = 0
one_if_any (c ∷ cs) = 1

-- how many of the characters that follow this one takes along
abbrev pub taken_along : ℕ → List ℕ → ℕ
taken_along c cs =
    if c == char "\\" then one_if_any cs
    else if c == char "[" then name_len (name_at cs)
    else 0

-- How many characters there are up to the closing bracket, with it; `n` have been passed, and the
-- first number says how many are taken along.
abbrev pub closing : ℕ → ℕ → List ℕ → Option ℕ
closing k n [] = None
closing (suc k) n (c ∷ cs) = closing k (n + 1) cs
closing zero n (c ∷ cs) = elim (c == char "]") [
  | true ↦ Some (n + 1)
  | false ↦ closing (taken_along c cs) (n + 1) cs
]

abbrev pub past_bracket : ℕ → List ℕ → Option ℕ
past_bracket n [] = None
past_bracket n (c ∷ cs) = if c == char "]" then closing 0 (n + 1) cs else closing 0 n (c ∷ cs)

-- the same from behind the collection's bracket
abbrev pub collection_len : List ℕ → Option ℕ
collection_len [] = None
collection_len (c ∷ cs) = if c == char "^" then past_bracket 1 cs else past_bracket 0 (c ∷ cs)

abbrev pub end_from : ℕ → Option ℕ → Option ℕ
end_from at None = None
end_from at (Some len) = Some (at + len)

abbrev pub end_at : ℕ → List ℕ → Option ℕ
end_at at [] = None
end_at at (c ∷ cs) = if c == char "[" then end_from at (collection_len cs) else None

-- the place of the bracket that closes the collection whose bracket stands at a place
abbrev pub collection_end : List ℕ → ℕ → Option ℕ
collection_end text at = end_at at (drop at text)

-- What a collection is written with.

abbrev pub found : Member → ℕ → Found
found member more = record { member = member; more = more; plain_next = false }

-- a backslash that is a member takes the next character along, as one that stands for itself
abbrev pub backslash : Found
backslash = record { member = Bare (char "\\"); more = 0; plain_next = true }

abbrev pub coded_as : ℕ → Option ℕ → Found
coded_as more None = found NoCharacter more
coded_as more (Some c) = found (Escaped c) more

-- a code without digits is none
abbrev pub with_code : Code → Found
with_code k = if nat_eq k.count 0 then backslash else coded_as (1 + k.count) (char_of k.value)

abbrev pub coded_in : Option Notation → List ℕ → Found
coded_in None cs = backslash
coded_in (Some notation) cs = with_code (code notation cs)

abbrev pub coded : ℕ → List ℕ → Found
coded c cs = coded_in (notation_of c) cs

-- behind a backslash
abbrev pub escaped : List ℕ → Found
escaped [] = backslash
escaped (c ∷ cs) =
    if c == char "e" then found (Escaped escape) 1
    else if c == char "t" then found (Escaped tab) 1
    else if c == char "r" then found (Escaped carriage_return) 1
    else if c == char "b" then found (Escaped backspace) 1
    else if c == char "n" then found LineEnd 1
    else if c == char "\\" || c == char "]" || c == char "^" || c == char "-"
    then found (Escaped c) 1
    else coded c cs

abbrev pub is_mark : ℕ → Bool
is_mark c = c == char "=" || c == char "."

-- `[=a=]` and `[.a.]`, of which the last bracket is the collection's own
abbrev pub left_out_at : List ℕ → Option Member
left_out_at (mark ∷ inside ∷ end ∷ []) =
    if is_mark mark then (if nat_eq end mark then Some (LeftOut mark inside) else None)
    else None
left_out_at _ = None

abbrev pub left_out_or : Option Member → Found
left_out_or None = found (Bare (char "[")) 0
left_out_or (Some member) = found member 3

abbrev pub named_or : List ℕ → Option ClassName → Found
named_or cs None = left_out_or (left_out_at cs)
named_or cs (Some name) = found (Named name) (length (word name))

-- behind a bracket
abbrev pub bracketed : List ℕ → Found
bracketed cs = named_or cs (name_at cs)

abbrev pub member_at : Bool → ℕ → List ℕ → Found
member_at true c cs = found (Bare c) 0
member_at false c cs =
    if c == char "\\" then escaped cs
    else if c == char "[" then bracketed cs
    else found (Bare c) 0

-- the members from here on, past so many characters; the test says that the next one stands for
-- itself
abbrev pub members_from : ℕ → Bool → List ℕ → List Member
members_from k plain [] = []
members_from (suc k) plain (c ∷ cs) = members_from k plain cs
members_from zero plain (c ∷ cs) =
    (member_at plain c cs).member
    ∷ members_from (member_at plain c cs).more (member_at plain c cs).plain_next cs

abbrev pub members : List ℕ → List Member
members text = members_from 0 false text

-- A hyphen between two characters that are in no range yet makes one.

abbrev pub character_of : Member → Option ℕ
character_of (Bare c) = Some c
character_of (Escaped c) = Some c
character_of _ = None

abbrev pub is_hyphen : Member → Bool
is_hyphen (Bare c) = c == char "-"
is_hyphen _ = false

abbrev pub range_between : Option ℕ → Option ℕ → Option Piece
range_between (Some low) (Some high) = Some (Range low high)
range_between (Some low) None = None
range_between None high = None

abbrev pub range : Member → Member → Option Piece
range low high = range_between (character_of low) (character_of high)

abbrev pub with_rest : List Member → Option Piece → Option (Piece × List Member)
with_rest ms None = None
with_rest ms (Some piece) = Some (piece, ms)

-- the range that a member begins, and what follows it
abbrev pub range_at : Member → List Member → Option (Piece × List Member)
range_at m [] = None
range_at m (h ∷ []) = None
range_at m (h ∷ n ∷ ms) = if is_hyphen h then with_rest ms (range m n) else None

abbrev pub pieces : List Member → List Piece
pieces [] = []
pieces (m ∷ []) = Other m ∷ []
pieces (m ∷ h ∷ []) = Other m ∷ Other h ∷ []
pieces (m ∷ h ∷ n ∷ ms) = elim (range_at m (h ∷ n ∷ ms)) [
  | Some p ↦ p.0 ∷ pieces ms
  | None ↦ Other m ∷ pieces (h ∷ n ∷ ms)
]

-- What a collection stands for.

abbrev pub member_fault : Member → Option PatternCause
member_fault NoCharacter = Some cause.BadCode
member_fault _ = None

abbrev pub fault_of : Piece → Option PatternCause
fault_of (Range low high) = if nat_lt high low then Some cause.BadRange else None
fault_of (Other member) = member_fault member

-- the first fault of spelling
abbrev pub first_fault : List Piece → Option PatternCause
first_fault [] = None
first_fault (p ∷ ps) = elim (fault_of p) [ Some c ↦ Some c | None ↦ first_fault ps ]

abbrev pub member_mark : Member → Option (ℕ × ℕ)
member_mark (LeftOut mark inside) = Some (mark, inside)
member_mark _ = None

abbrev pub marked_of : Piece → Option (ℕ × ℕ)
marked_of (Range low high) = None
marked_of (Other member) = member_mark member

-- the first item that is left out
abbrev pub first_marked : List Piece → Option (ℕ × ℕ)
first_marked [] = None
first_marked (p ∷ ps) = elim (marked_of p) [ Some m ↦ Some m | None ↦ first_marked ps ]

abbrev pub marked_item : ℕ → ℕ → List ℕ
marked_item mark inside = char "[" ∷ mark ∷ inside ∷ mark ∷ char "]" ∷ []

abbrev pub member_ends_line : Member → Bool
member_ends_line LineEnd = true
member_ends_line _ = false

abbrev pub is_line_end : Piece → Bool
is_line_end (Range low high) = false
is_line_end (Other member) = member_ends_line member

abbrev pub has_line_end : List Piece → Bool
has_line_end [] = false
has_line_end (p ∷ ps) = is_line_end p || has_line_end ps

-- a character alone is a range of one
abbrev pub member_parts : Member → List SetPart
member_parts (Bare c) = part.Range c c ∷ []
member_parts (Escaped c) = part.Range c c ∷ []
member_parts (Named name) = parts_of name
member_parts LineEnd = []
member_parts NoCharacter = []
member_parts (LeftOut mark inside) = []

abbrev pub piece_parts : Piece → List SetPart
piece_parts (Range low high) = part.Range low high ∷ []
piece_parts (Other member) = member_parts member

abbrev pub with_piece : List SetPart → Piece → List SetPart
with_piece parts piece = parts ++ piece_parts piece

abbrev pub set_parts : List Piece → List SetPart
set_parts [] = []
set_parts (p ∷ ps) = piece_parts p ++ set_parts ps

abbrev pub is_turned : List ℕ → Bool
is_turned [] = false
is_turned (c ∷ cs) = c == char "^"

-- what is between the brackets, without the caret
abbrev pub body_of : List ℕ → List ℕ
body_of [] = []
body_of (c ∷ cs) = if c == char "^" then cs else c ∷ cs

abbrev pub set_of : Bool → Bool → List Piece → Sign
set_of turned line_end ps = sign.Atom (Set (record {
  not = turned;
  line_end = line_end || has_line_end ps;
  parts = set_parts ps;
}))

abbrev pub marked_or_set : Bool → Bool → ℕ → List Piece → Option (ℕ × ℕ) → Sign
marked_or_set turned line_end before ps (Some m) =
    sign.Wrong before (cause.LeftOut (marked_item m.0 m.1))
marked_or_set turned line_end before ps None = set_of turned line_end ps

abbrev pub fault_or_set : Bool → Bool → ℕ → List Piece → Option PatternCause → Sign
fault_or_set turned line_end before ps (Some c) = sign.Wrong before c
fault_or_set turned line_end before ps None =
    marked_or_set turned line_end before ps (first_marked ps)

abbrev pub sign_of_pieces : Bool → Bool → ℕ → List Piece → Sign
sign_of_pieces turned line_end before ps = fault_or_set turned line_end before ps (first_fault ps)

-- the item of a collection with this between its brackets; a fault stands at the bracket, `before`
-- characters behind the item's first
abbrev pub collection_sign : Bool → ℕ → List ℕ → Sign
collection_sign line_end before inner =
    sign_of_pieces (is_turned inner) line_end before (pieces (members (body_of inner)))
