-- The pieces of an item's command, in the order written (Vim's help, :syn-keyword, :syn-match, :syn-region).
use Rattle.std.specs.Prelude.{ℕ, nat_eq, not, ◌&&◌, ◌||◌, List, [], ◌∷◌, ◌++◌, Option, Some, None, Bool, true, false, if◌then◌else◌, Result, Ok, Err}
use Rattle.syn_words.specs.declared.cause.Cause.{Cause}
use Rattle.syn_words.specs.declared.cause.Cause.TheVariants.{UnknownOption, OptionHere, NoPattern, TwoSkips, NoStart, NoEnd}
use Rattle.syn_words.specs.declared.what.ItemCommand.{ItemCommand}
use Rattle.syn_words.specs.declared.what.ItemCommand.TheVariants.{Keyword, Match, Region}
use Rattle.syn_words.specs.declared.what.Role.{Role}
use Rattle.syn_words.specs.declared.what.Role.TheVariants as role
use Rattle.syn_words.specs.declared.what.Field.{Field}
use Rattle.syn_words.specs.declared.what.Field.TheVariants as field
use Rattle.syn_words.specs.declared.what.Flag.{Flag}
use Rattle.syn_words.specs.declared.what.Piece.{Piece}
use Rattle.syn_words.specs.declared.what.Piece.TheVariants.{Has, Cchar, Names, Matchgroup, Quote, Word}
use Rattle.syn_words.specs.declared.options.OptionWord.{OptionWord}
use Rattle.syn_words.specs.declared.options.OptionWord.TheVariants as word
use Rattle.syn_words.specs.declared.pieces.Seen.{Seen}
use Rattle.word_reader.specs.declared.words.Until.TheVariants as until
use Rattle.syn_words.specs.Answers.{Read, ◌>>=◌}
use Rattle.syn_words.specs.Names.{group_name}
use Rattle.syn_words.specs.Lists.{list_value}
use Rattle.word_reader.specs.Delimited.{can_delimit}
use Rattle.syn_words.specs.Quoted.{quoted}
use Rattle.syn_words.specs.Options.{option_of}
use Rattle.text_scan.specs.Characters.{past_blanks}
use Rattle.word_reader.specs.Words.{begins, behind_equals, has_equals, past, run}
use Rattle.syn_words.specs.Arguments.{value_start}
use Rattle.word_values.specs.GroupNames.{is_none}

-- Which patterns an item has so far.

abbrev pub nothing_seen : Seen
nothing_seen = record { pattern = false; start = false; skip = false; end_ = false }

abbrev pub with_role : Seen → Role → Seen
with_role seen role.Match = record { pattern = true; start = seen.start; skip = seen.skip; end_ = seen.end_ }
with_role seen role.Start = record { pattern = seen.pattern; start = true; skip = seen.skip; end_ = seen.end_ }
with_role seen role.Skip = record { pattern = seen.pattern; start = seen.start; skip = true; end_ = seen.end_ }
with_role seen role.End = record { pattern = seen.pattern; start = seen.start; skip = seen.skip; end_ = true }

abbrev pub with_piece : Seen → Piece → Seen
with_piece seen (Quote r q) = with_role seen r
with_piece seen _ = seen

-- the part that an item lacks
abbrev pub missing : ItemCommand → Seen → Option Cause
missing Keyword seen = None
missing Match seen = if seen.pattern then None else Some NoPattern
missing Region seen = if not seen.start then Some NoStart else if not seen.end_ then Some NoEnd else None

-- One piece. It begins at the front of the text.

-- a character and no more
abbrev pub only_character : List ℕ → Result ℕ Cause
only_character [] = Err UnknownOption
only_character (c ∷ []) = Ok c
only_character (c ∷ d ∷ cs) = Err UnknownOption

abbrev pub cchar : List ℕ → Read Piece
cchar text = do
  start ← value_start text
  c ← only_character (run until.Word start)
  Ok (Cchar c, past until.Word start)

-- a special word may stand first where items are asked for
abbrev pub may_be_special : Field → Bool
may_be_special field.Contains = true
may_be_special field.Containedin = true
may_be_special field.Nextgroup = false

abbrev pub names : Field → List ℕ → Read Piece
names asked text = do
  list ← list_value (may_be_special asked) text
  Ok (Names asked list.0, list.1)

-- a group, or `NONE`
abbrev pub group_or_none : List ℕ → Result (List ℕ) Cause
group_or_none word = if is_none word then Ok word else group_name word

abbrev pub matchgroup : List ℕ → Read Piece
matchgroup text = do
  start ← value_start text
  name ← group_or_none (run until.Word start)
  Ok (Matchgroup name, past until.Word start)

abbrev pub quote_as : Role → List ℕ → Read Piece
quote_as r text = do
  q ← quoted text
  Ok (Quote r q.0, q.1)

abbrev pub is_skip : Role → Bool
is_skip role.Skip = true
is_skip _ = false

-- a pattern of a region, behind its equals sign; a second skip pattern comes before its faults
abbrev pub region_quote : Seen → Role → List ℕ → Read Piece
region_quote seen r text = if is_skip r && seen.skip then Err TwoSkips else quote_as r (past_blanks text)

abbrev pub begins_pattern : List ℕ → Bool
begins_pattern [] = false
begins_pattern (c ∷ cs) = can_delimit c

-- a word that is no option of its command: a keyword, or the pattern of a match
abbrev pub plain_piece : ItemCommand → Seen → List ℕ → Read Piece
plain_piece Keyword seen text = Ok (Word (run until.Word text), past until.Word text)
plain_piece Match seen text = if begins_pattern text && not seen.pattern then quote_as role.Match text else Err UnknownOption
plain_piece Region seen text = Err UnknownOption

-- an option without a value, which an equals sign doesn't follow directly
abbrev pub flag_piece : ItemCommand → Seen → Flag → List ℕ → Read Piece
flag_piece kind seen f text = if begins 61 (past until.Key text) then plain_piece kind seen text else Ok (Has f, past until.Key text)

abbrev pub is_contains : Field → Bool
is_contains field.Contains = true
is_contains _ = false

abbrev pub is_keyword : ItemCommand → Bool
is_keyword Keyword = true
is_keyword _ = false

abbrev pub is_region : ItemCommand → Bool
is_region Region = true
is_region _ = false

-- where the value of a key begins; without an equals sign it is unknown
abbrev pub behind_key_at : List ℕ → Result (List ℕ) Cause
behind_key_at rest = if has_equals rest then Ok (behind_equals rest) else Err UnknownOption

abbrev pub behind_key : List ℕ → Result (List ℕ) Cause
behind_key text = behind_key_at (past until.Key text)

abbrev pub names_piece : ItemCommand → Field → List ℕ → Read Piece
names_piece kind asked text = if is_keyword kind && is_contains asked then Err OptionHere else (behind_key text >>= λ value. names asked value)

abbrev pub cchar_piece : List ℕ → Read Piece
cchar_piece text = behind_key text >>= λ value. cchar value

abbrev pub matchgroup_piece : ItemCommand → Seen → List ℕ → Read Piece
matchgroup_piece kind seen text = if not (is_region kind) then plain_piece kind seen text else (behind_key text >>= λ value. matchgroup value)

abbrev pub quote_piece : ItemCommand → Seen → Role → List ℕ → Read Piece
quote_piece kind seen r text = if not (is_region kind) then plain_piece kind seen text else (behind_key text >>= λ value. region_quote seen r value)

-- by the option that its key spells
abbrev pub piece_by : ItemCommand → Seen → Option OptionWord → List ℕ → Read Piece
piece_by kind seen None text = plain_piece kind seen text
piece_by kind seen (Some (word.Has f)) text = flag_piece kind seen f text
piece_by kind seen (Some word.Cchar) text = cchar_piece text
piece_by kind seen (Some (word.Names asked)) text = names_piece kind asked text
piece_by kind seen (Some word.Matchgroup) text = matchgroup_piece kind seen text
piece_by kind seen (Some (word.Quote r)) text = quote_piece kind seen r text

abbrev pub piece_at : ItemCommand → Seen → List ℕ → Read Piece
piece_at kind seen text = piece_by kind seen (option_of (run until.Key text)) text

-- All pieces.

abbrev pub is_match : ItemCommand → Bool
is_match Match = true
is_match _ = false

-- no piece begins here: in a match without its pattern a quote begins that
abbrev pub pieces_end : ItemCommand → Seen → List ℕ → Bool
pieces_end kind seen [] = true
pieces_end kind seen (c ∷ cs) = nat_eq c 124 || (nat_eq c 34 && not (is_match kind && not seen.pattern))

-- a missing part comes behind all words
abbrev pub pieces_whole : Option Cause → List Piece → Result (List Piece) Cause
pieces_whole None so_far = Ok so_far
pieces_whole (Some c) so_far = Err c

abbrev pub pieces_so_far : ItemCommand → Seen → List Piece → List ℕ → Read (List Piece)
pieces_so_far kind seen so_far text = pieces_whole (missing kind seen) so_far >>= λ all. Ok (all, text)

-- The pieces from here on, behind those so far. A piece takes a character at least, so as many turns as characters are enough.
abbrev pub pieces_after : ItemCommand → Seen → List Piece → List ℕ → List ℕ → Read (List Piece)
pieces_after kind seen so_far [] text = pieces_so_far kind seen so_far text
pieces_after kind seen so_far (t ∷ turns) text =
    if pieces_end kind seen (past_blanks text) then pieces_so_far kind seen so_far (past_blanks text)
    else (piece_at kind seen (past_blanks text) >>= λ p. pieces_after kind (with_piece seen p.0) (so_far ++ p.0 ∷ []) turns p.1)

abbrev pub pieces : ItemCommand → List ℕ → Read (List Piece)
pieces kind text = pieces_after kind nothing_seen [] text text
