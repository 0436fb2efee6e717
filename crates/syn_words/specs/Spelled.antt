-- Plain commands as a file spells them: a line each, one blank before each word but the first,
-- patterns between slashes, no offsets, no comment and no continuation. The laws of `syn_words` say
-- that such lines are read as the commands that they spell.
use Rattle.std.specs.Prelude.{◌≡◌, ℕ, suc, ◌≤◌, nat_eq, nat_lt, not, ◌&&◌, ◌||◌, List, [], ◌∷◌, ◌++◌, count_by, Option, Some, None, Bool, true, false, codes, is_none}
use Rattle.std.specs.List.{list_all}
use Rattle.text_scan.specs.Characters.{is_blank}
use Rattle.syntax_set.specs.declared.item.Special.TheVariants as special
use Rattle.word_reader.specs.declared.words.Until.TheVariants as until
use Rattle.word_reader.specs.Words.{begins, is_word, run, stops}
use Rattle.word_values.specs.GroupNames.{is_listed, is_pattern}
use Rattle.syn_words.specs.declared.what.Command.{Command}
use Rattle.syn_words.specs.declared.what.Field.{Field}
use Rattle.syn_words.specs.declared.what.Field.TheVariants as field
use Rattle.syn_words.specs.declared.what.Flag.{Flag}
use Rattle.syn_words.specs.declared.what.Flag.TheVariants as flag
use Rattle.syn_words.specs.declared.what.ItemCommand.{ItemCommand}
use Rattle.syn_words.specs.declared.what.ItemCommand.TheVariants.{Keyword, Match, Region}
use Rattle.syn_words.specs.declared.what.Named.{Named}
use Rattle.syn_words.specs.declared.what.Named.TheVariants as named
use Rattle.syn_words.specs.declared.what.NamedList.{NamedList}
use Rattle.syn_words.specs.declared.what.Piece.{Piece}
use Rattle.syn_words.specs.declared.what.Piece.TheVariants.{Has, Cchar, Names, Matchgroup, Quote, Word}
use Rattle.syn_words.specs.declared.what.Quoted.{Quoted}
use Rattle.syn_words.specs.declared.what.Role.{Role}
use Rattle.syn_words.specs.declared.what.Role.TheVariants as role
use Rattle.syn_words.specs.declared.what.What.{What}
use Rattle.syn_words.specs.declared.what.What.TheVariants as what
use Rattle.syn_words.specs.Options.{option_of}

-- Words.

-- the first character begins a word: it is no blank, no bar and no quote
abbrev pub begins_word : List ℕ → Bool
begins_word [] = false
begins_word (c ∷ cs) = not (is_blank c || nat_eq c 124 || nat_eq c 34)

-- one word: no blank and no bar in it
abbrev pub is_one_word : List ℕ → Bool
is_one_word word = begins_word word && list_all (λ c. not (stops until.Word c)) word

-- a word of a keyword command: not the name of an option, and without a comma at its front, which
-- would go on with a list
abbrev pub is_plain_keyword : List ℕ → Bool
is_plain_keyword word =
    is_one_word word && not (begins 44 word) && is_none (option_of (run until.Key word))

-- Patterns.

abbrev pub plain_quote : List ℕ → Quoted
plain_quote text =
    record { text = text; ms = None; me = None; hs = None; he = None; rs = None; re = None; lc = 0 }

-- no slash, no backslash and no opening bracket
abbrev pub is_plain_character : ℕ → Bool
is_plain_character c = not (nat_eq c 47 || nat_eq c 92 || nat_eq c 91)

pub record IsPlainQuote (q : Quoted) : Type 0 where
  pub without_offsets : q ≡ plain_quote q.text
  pub characters : list_all is_plain_character q.text ≡ true

abbrev pub quoted_text : Quoted → List ℕ
quoted_text q = 47 ∷ q.text ++ 47 ∷ []

-- Lists of groups.

abbrev pub named_text : Named → List ℕ
named_text (named.Group name) = name
named_text (named.Cluster name) = 64 ∷ name
named_text (named.Names pattern) = pattern

abbrev pub IsPlainNamed : Named → Type 0
IsPlainNamed (named.Group name) = (is_listed name ≡ true) × (is_pattern name ≡ false)
IsPlainNamed (named.Cluster name) = is_listed name ≡ true
IsPlainNamed (named.Names pattern) = ⊥

-- further names, with a comma before each
abbrev pub further_text : List Named → List ℕ
further_text [] = []
further_text (name ∷ names) = 44 ∷ named_text name ++ further_text names

abbrev pub names_text : List Named → List ℕ
names_text [] = []
names_text (name ∷ names) = named_text name ++ further_text names

abbrev pub ArePlainNames : List Named → Type 0
ArePlainNames [] = Unit {0}
ArePlainNames (name ∷ names) = IsPlainNamed name × ArePlainNames names

abbrev pub AreSomeNames : List Named → Type 0
AreSomeNames [] = ⊥
AreSomeNames (name ∷ names) = IsPlainNamed name × ArePlainNames names

-- at least one name, and no special word
pub record IsPlainList (list : NamedList) : Type 0 where
  pub no_special : list.special ≡ special.Plain
  pub names : AreSomeNames list.names

-- Pieces of items.

abbrev pub flag_text : Flag → List ℕ
flag_text flag.Contained = codes "contained"
flag_text flag.Oneline = codes "oneline"
flag_text flag.Keepend = codes "keepend"
flag_text flag.Extend = codes "extend"
flag_text flag.Excludenl = codes "excludenl"
flag_text flag.Transparent = codes "transparent"
flag_text flag.Skipwhite = codes "skipwhite"
flag_text flag.Skipnl = codes "skipnl"
flag_text flag.Skipempty = codes "skipempty"
flag_text flag.Display = codes "display"
flag_text flag.Fold = codes "fold"
flag_text flag.Conceal = codes "conceal"
flag_text flag.Concealends = codes "concealends"

abbrev pub field_text : Field → List ℕ
field_text field.Contains = codes "contains="
field_text field.Containedin = codes "containedin="
field_text field.Nextgroup = codes "nextgroup="

-- what stands before a pattern
abbrev pub role_text : Role → List ℕ
role_text role.Match = []
role_text role.Start = codes "start="
role_text role.Skip = codes "skip="
role_text role.End = codes "end="

abbrev pub piece_text : Piece → List ℕ
piece_text (Has f) = flag_text f
piece_text (Cchar c) = codes "cchar=" ++ c ∷ []
piece_text (Names asked list) = field_text asked ++ names_text list.names
piece_text (Matchgroup name) = codes "matchgroup=" ++ name
piece_text (Quote r q) = role_text r ++ quoted_text q
piece_text (Word word) = word

-- each behind a blank
abbrev pub pieces_text : List Piece → List ℕ
pieces_text [] = []
pieces_text (piece ∷ pieces) = 32 ∷ piece_text piece ++ pieces_text pieces

-- which lists, and which patterns, a command may have
abbrev pub may_list : ItemCommand → Field → Bool
may_list Keyword field.Contains = false
may_list kind asked = true

abbrev pub may_quote : ItemCommand → Role → Bool
may_quote Keyword r = false
may_quote Match role.Match = true
may_quote Match r = false
may_quote Region role.Match = false
may_quote Region r = true

abbrev pub IsPlainWord : ItemCommand → List ℕ → Type 0
IsPlainWord Keyword word = is_plain_keyword word ≡ true
IsPlainWord kind word = ⊥

abbrev pub IsPlainMatchgroup : ItemCommand → List ℕ → Type 0
IsPlainMatchgroup Region name = is_listed name ≡ true
IsPlainMatchgroup kind name = ⊥

abbrev pub IsPlainPiece : ItemCommand → Piece → Type 0
IsPlainPiece kind (Has f) = Unit {0}
IsPlainPiece kind (Cchar c) = stops until.Word c ≡ false
IsPlainPiece kind (Names asked list) = (may_list kind asked ≡ true) × IsPlainList list
IsPlainPiece kind (Matchgroup name) = IsPlainMatchgroup kind name
IsPlainPiece kind (Quote r q) = (may_quote kind r ≡ true) × IsPlainQuote q
IsPlainPiece kind (Word word) = IsPlainWord kind word

abbrev pub ArePlainPieces : ItemCommand → List Piece → Type 0
ArePlainPieces kind [] = Unit {0}
ArePlainPieces kind (piece ∷ pieces) = IsPlainPiece kind piece × ArePlainPieces kind pieces

abbrev pub same_role : Role → Role → Bool
same_role role.Match role.Match = true
same_role role.Start role.Start = true
same_role role.Skip role.Skip = true
same_role role.End role.End = true
same_role r s = false

abbrev pub has_role : Role → Piece → Bool
has_role r (Quote s q) = same_role r s
has_role r piece = false

-- how many patterns stand in this role
abbrev pub quote_count : Role → List Piece → ℕ
quote_count r pieces = count_by (has_role r) pieces

-- one pattern of a match; of a region at least one start and one end, and at most one skip
abbrev pub HasItsPatterns : ItemCommand → List Piece → Type 0
HasItsPatterns Keyword pieces = Unit {0}
HasItsPatterns Match pieces = quote_count role.Match pieces ≡ 1
HasItsPatterns Region pieces =
    (1 ≤ quote_count role.Start pieces) × (1 ≤ quote_count role.End pieces)
    × (quote_count role.Skip pieces ≤ 1)

-- Commands.

abbrev pub kind_text : ItemCommand → List ℕ
kind_text Keyword = codes "syn keyword "
kind_text Match = codes "syn match "
kind_text Region = codes "syn region "

abbrev pub cleared_text : List Named → List ℕ
cleared_text [] = []
cleared_text (name ∷ names) = 32 ∷ named_text name ++ cleared_text names

abbrev pub bang_text : Bool → List ℕ
bang_text true = codes "hi!"
bang_text false = codes "hi"

abbrev pub default_text : Bool → List ℕ
default_text true = codes " default link "
default_text false = codes " link "

abbrev pub target_text : Option (List ℕ) → List ℕ
target_text None = codes "NONE"
target_text (Some name) = name

abbrev pub what_text : What → List ℕ
what_text (what.CaseIgnore true) = codes "syn case ignore"
what_text (what.CaseIgnore false) = codes "syn case match"
what_text (what.Iskeyword None) = codes "syn iskeyword clear"
what_text (what.Iskeyword (Some value)) = codes "syn iskeyword " ++ value
what_text (what.Item kind group pieces) = kind_text kind ++ group ++ pieces_text pieces
what_text (what.Sync fromstart) = codes "syn sync fromstart"
what_text what.ClearAll = codes "syn clear"
what_text (what.Clear names) = codes "syn clear" ++ cleared_text names
what_text (what.Link from to unset force) =
    bang_text force ++ default_text unset ++ from ++ 32 ∷ target_text to
what_text other = []

abbrev pub IsPlainTarget : Option (List ℕ) → Type 0
IsPlainTarget None = Unit {0}
IsPlainTarget (Some name) = is_listed name ≡ true

abbrev pub IsPlainCleared : Named → Type 0
IsPlainCleared (named.Group name) = is_listed name ≡ true
IsPlainCleared (named.Cluster name) = is_listed name ≡ true
IsPlainCleared (named.Names pattern) = ⊥

abbrev pub AreCleared : List Named → Type 0
AreCleared [] = Unit {0}
AreCleared (name ∷ names) = IsPlainCleared name × AreCleared names

-- at least one
abbrev pub AreSomeCleared : List Named → Type 0
AreSomeCleared [] = ⊥
AreSomeCleared (name ∷ names) = IsPlainCleared name × AreCleared names

-- the commands that are spelled here
abbrev pub IsPlain : What → Type 0
IsPlain (what.CaseIgnore ignore) = Unit {0}
IsPlain (what.Iskeyword None) = Unit {0}
IsPlain (what.Iskeyword (Some value)) =
    (is_one_word value ≡ true) × (is_word value (codes "clear") ≡ false)
IsPlain (what.Item kind group pieces) =
    (is_listed group ≡ true) × ArePlainPieces kind pieces × HasItsPatterns kind pieces
IsPlain (what.Sync fromstart) = fromstart ≡ true
IsPlain what.ClearAll = Unit {0}
IsPlain (what.Clear names) = AreSomeCleared names
IsPlain (what.Link from to unset force) = (is_listed from ≡ true) × IsPlainTarget to
IsPlain other = ⊥

-- Files.

-- ASCII, and no line break
abbrev pub is_line : List ℕ → Bool
is_line text = list_all (λ c. nat_lt c 128 && not (nat_eq c 10)) text

abbrev pub ArePlain : List What → Type 0
ArePlain [] = Unit {0}
ArePlain (w ∷ ws) = IsPlain w × (is_line (what_text w) ≡ true) × ArePlain ws

-- a line each
abbrev pub file_text : List What → List ℕ
file_text [] = []
file_text (w ∷ ws) = what_text w ++ 10 ∷ file_text ws

-- the commands with the numbers of their lines, the first of which is this one
abbrev pub numbered : ℕ → List What → List Command
numbered number [] = []
numbered number (w ∷ ws) = record { line = number; what = w } ∷ numbered (suc number) ws
