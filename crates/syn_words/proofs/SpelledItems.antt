-- All pieces of a spelled item, read back.
use Rattle.std.proofs.Common.{◌≡◌, ℕ, ◌+◌, ◌<◌, ◌≤◌, Bool, true, false, List, [], ◌∷◌, ◌++◌, length, refl, ap, sym, ◌∙◌, cond, arith, append_assoc, length-append}
use Rattle.std.specs.Prelude.{Option, Some, None, Result, Ok, is_none, nat_eq, not, ◌&&◌, if◌then◌else◌}
use Rattle.std.proofs.lemmas.List.{append-nil}
use Rattle.std.proofs.lemmas.List.Sums.{sum_by-cons}
use Rattle.syntax_set.specs.declared.item.Special.{Special}
use Rattle.syntax_set.specs.declared.item.Special.TheVariants as special
use Rattle.text_scan.specs.Characters.{is_blank, past_blanks}
use Rattle.word_reader.specs.declared.words.Until.TheVariants as until
use Rattle.word_reader.specs.Words.{begins, behind_first, past, run, stops}
use Rattle.word_values.specs.GroupNames.{is_listed, is_none as is_none_word, is_pattern}
use Rattle.syn_words.specs.declared.cause.Cause.{Cause}
use Rattle.syn_words.specs.declared.options.OptionWord.{OptionWord}
use Rattle.syn_words.specs.declared.what.Field.{Field}
use Rattle.syn_words.specs.declared.what.Field.TheVariants as field
use Rattle.syn_words.specs.declared.what.Flag.{Flag}
use Rattle.syn_words.specs.declared.what.Flag.TheVariants as flag
use Rattle.syn_words.specs.declared.what.ItemCommand.{ItemCommand}
use Rattle.syn_words.specs.declared.what.ItemCommand.TheVariants.{Keyword, Match, Region}
use Rattle.syn_words.specs.declared.what.Named.{Named}
use Rattle.syn_words.specs.declared.what.Named.TheVariants as named
use Rattle.syn_words.specs.declared.what.NamedList.{NamedList}
use Rattle.syn_words.specs.declared.what.Piece.{Piece}
use Rattle.syn_words.specs.declared.what.Piece.TheVariants.{Has, Cchar, Names, Matchgroup, Quote, Word}
use Rattle.syn_words.specs.declared.what.Quoted.{Quoted}
use Rattle.syn_words.specs.declared.what.Role.{Role}
use Rattle.syn_words.specs.declared.what.Role.TheVariants as role
use Rattle.syn_words.specs.declared.pieces.Seen.{Seen}
use Rattle.syn_words.specs.Answers.{Read, ◌>>=◌}
use Rattle.syn_words.specs.Arguments.{value_start}
use Rattle.syn_words.specs.Lists.{list_value, names_after, names_from, no_names, special_here, with_name, with_named, with_word}
use Rattle.syn_words.specs.Names.{cluster_in_list, group_in_list, group_name}
use Rattle.syn_words.specs.Options.{option_of}
use Rattle.syn_words.specs.Pieces.{cchar, group_or_none, may_be_special, matchgroup, missing, names, nothing_seen, only_character, piece_at, piece_by, pieces, pieces_after, pieces_end, pieces_so_far, pieces_whole, quote_as, with_piece}
use Rattle.syn_words.specs.Spelled.{ArePlainNames, ArePlainPieces, AreSomeNames, HasItsPatterns, IsPlainList, IsPlainNamed, IsPlainPiece, begins_word, field_text, flag_text, further_text, has_role, is_one_word, is_plain_keyword, may_list, may_quote, named_text, names_text, piece_text, pieces_text, quote_count, quoted_text, role_text}
use Rattle.syn_words.proofs.WordLaws.{and_left, and_right, ends_run, goes_on, not_true, otherwise, past_word, run_behind, run_word}
use Rattle.syn_words.proofs.SpelledPieces.{flag_read, quote_read}
use Rattle.syn_words.proofs.SpelledWords.{behind, key_ends, listed_group, listed_word, name_begins, name_ends, name_in_list, no_bar, no_quote, not_at, not_none, not_special, one_word_begins, or_left, or_right, value_word, word_begins, word_ends, word_goes_on}

-- Blanks.

by_blank : (b : Bool) (c : ℕ) (cs : List ℕ) → is_blank c ≡ b
    → past_blanks (past_blanks cs) ≡ past_blanks cs
    → past_blanks (cond b (past_blanks cs) (c ∷ cs)) ≡ cond b (past_blanks cs) (c ∷ cs)
by_blank true c cs is twice = twice
by_blank false c cs is twice = rw is refl

blanks_once : (text : List ℕ) → past_blanks (past_blanks text) ≡ past_blanks text
blanks_once [] = refl
blanks_once (c ∷ cs) = by_blank (is_blank c) c cs refl (blanks_once cs)

-- Lists.

abbrev one_more : NamedList → List ℕ → Read Named → Read NamedList
one_more list rest r = r >>= λ found. Ok (with_named list found.0, found.1)

cluster_named : (name : List ℕ) → is_listed name ≡ true
    → cluster_in_list name ≡ Ok (named.Cluster name)
cluster_named name is = rw is refl

group_named : (name : List ℕ) → is_listed name ≡ true → is_pattern name ≡ false
    → group_in_list name ≡ Ok (named.Group name)
group_named name is plain = rw (plain, is) refl

abbrev listed_as : NamedList → List ℕ → Result Named Cause → Read NamedList
listed_as list rest r = r >>= λ found. Ok (with_named list found, rest)

here_plain : (b : Bool) (name : List ℕ) → is_listed name ≡ true
    → special_here b name ≡ special.Plain
here_plain true name is = not_special name is
here_plain false name is = refl

pub name_read : (b : Bool) (list : NamedList) (n : Named) (rest : List ℕ) → IsPlainNamed n
    → ends_run until.ListName rest ≡ true
    → with_name b list (named_text n ++ rest) ≡ Ok (with_named list n, rest)
name_read b list (named.Names pattern) rest plain end = absurd plain
name_read b list (named.Cluster name) rest plain end =
    let word = run_word until.ListName name rest (name_in_list name plain) end in
    let left = past_word until.ListName name rest (name_in_list name plain) end in
    ap (λ (w : List ℕ). listed_as list (past until.ListName (name ++ rest)) (cluster_in_list w)) word
    ∙ ap (λ (r : List ℕ). listed_as list r (cluster_in_list name)) left
    ∙ ap (listed_as list rest) (cluster_named name plain)
name_read b list (named.Group name) rest plain end =
    let word = run_word until.ListName name rest (name_in_list name plain.0) end in
    let left = past_word until.ListName name rest (name_in_list name plain.0) end in
    let no_at = not_at 64 name rest refl plain.0 in
    rw no_at
    (ap (λ (s : Special). with_word s list (name ++ rest)) (ap (special_here b) word ∙ here_plain b name plain.0)
    ∙ ap (λ (w : List ℕ). listed_as list (past until.ListName (name ++ rest)) (group_in_list w)) word
    ∙ ap (λ (r : List ℕ). listed_as list r (group_in_list name)) left
    ∙ ap (listed_as list rest) (group_named name plain.0 plain.1))

abbrev with_all : NamedList → List Named → NamedList
with_all list more = record { special = list.special; names = list.names ++ more }

-- what follows is no comma
abbrev pub IsFresh : Option (List ℕ) → Type 0
IsFresh tail = begins 44 (past_blanks (behind tail)) ≡ false

named_begins : (n : Named) → IsPlainNamed n → begins_word (named_text n) ≡ true
named_begins (named.Names pattern) plain = absurd plain
named_begins (named.Cluster name) plain = refl
named_begins (named.Group name) plain = name_begins name plain.0

abbrev go_on : List ℕ → Read NamedList → Read NamedList
go_on turns r = r >>= λ longer. if begins 44 (past_blanks longer.1) then names_after false longer.0 turns (past_blanks (behind_first (past_blanks longer.1))) else Ok (longer.0, past_blanks longer.1)

abbrev list_answer : List ℕ → NamedList → Read NamedList
list_answer rest list = Ok (list, rest)

names_read : (names : List Named) (n : Named) (b : Bool) (list : NamedList) (turns : List ℕ)
    (tail : Option (List ℕ))
    → IsPlainNamed n → ArePlainNames names → length names < length turns → IsFresh tail
    → names_after b list turns (named_text n ++ (further_text names ++ behind tail)) ≡ Ok (with_all list (n ∷ names), past_blanks (behind tail))
names_read names n b list [] tail plain more enough fresh = absurd (omega (arith, enough))
names_read [] n b list (t ∷ turns) tail plain more enough fresh =
    ap (go_on turns) (name_read b list n (behind tail) plain (name_ends tail)) ∙ rw fresh refl
names_read (m ∷ ms) n b list (t ∷ turns) tail plain more enough fresh =
    let few : length ms < length turns = omega (arith, enough) in
    ap (go_on turns) (name_read b list n (44 ∷ ((named_text m ++ further_text ms) ++ behind tail)) plain refl)
    ∙ ap (λ (text : List ℕ). names_after false (with_named list n) turns (past_blanks text)) (append_assoc (named_text m) (further_text ms) (behind tail))
    ∙ ap (λ (text : List ℕ). names_after false (with_named list n) turns text) (word_begins (named_text m) (further_text ms ++ behind tail) (named_begins m more.0))
    ∙ names_read ms m false (with_named list n) turns tail more.0 more.1 few fresh
    ∙ ap (λ (ns : List Named). list_answer (past_blanks (behind tail)) (record { special = list.special; names = ns })) (append_assoc list.names (n ∷ []) (m ∷ ms))

further_longer : (names : List Named) → length names ≤ length (further_text names)
further_longer [] = omega arith
further_longer (n ∷ ns) =
    let later = further_longer ns in
    let both = length-append (named_text n) (further_text ns) in
    omega (arith, later, both)

pub some_length : (word : List ℕ) → begins_word word ≡ true → 1 ≤ length word
some_length [] is = absurd cc
some_length (c ∷ cs) is = omega arith

enough_turns : (n : Named) (names : List Named) (rest : List ℕ) → IsPlainNamed n
    → length names < length (named_text n ++ (further_text names ++ rest))
enough_turns n names rest plain =
    omega (arith, further_longer names, some_length (named_text n) (named_begins n plain), length-append (named_text n) (further_text names ++ rest), length-append (further_text names) rest)

abbrev from_start : Bool → Result (List ℕ) Cause → Read NamedList
from_start b r = r >>= λ start. names_from b start

list_read : (b : Bool) (names : List Named) (tail : Option (List ℕ)) → AreSomeNames names → IsFresh tail → list_value b (names_text names ++ behind tail) ≡ Ok (record { special = special.Plain; names = names }, past_blanks (behind tail))
list_read b [] tail some fresh = absurd some
list_read b (n ∷ names) tail some fresh =
    let text = named_text n ++ (further_text names ++ behind tail) in
    ap (list_value b) (append_assoc (named_text n) (further_text names) (behind tail))
    ∙ ap (from_start b) (value_word (named_text n) (further_text names ++ behind tail) (named_begins n some.0))
    ∙ names_read names n b no_names text tail some.0 some.1 (enough_turns n names (behind tail) some.0) fresh

-- Pieces.

abbrev as_names : Field → Read NamedList → Read Piece
as_names asked r = r >>= λ list. Ok (Names asked list.0, list.1)

abbrev names_answer : Field → List ℕ → NamedList → Read Piece
names_answer asked rest list = Ok (Names asked list, rest)

names_piece_read : (asked : Field) (list : NamedList) (tail : Option (List ℕ)) → IsPlainList list
    → IsFresh tail
    → names asked (names_text list.names ++ behind tail)
    ≡ Ok (Names asked list, past_blanks (behind tail))
names_piece_read asked list tail plain fresh =
    ap (as_names asked) (list_read (may_be_special asked) list.names tail plain.names fresh)
    ∙ ap (λ (s : Special). names_answer asked (past_blanks (behind tail)) (record { special = s; names = list.names })) (sym plain.no_special)

none_of : (o : Option OptionWord) → is_none o ≡ true → o ≡ None
none_of None is = refl
none_of (Some found) is = absurd cc

abbrev word_answer : List ℕ → List ℕ → Read Piece
word_answer word rest = Ok (Word word, rest)

keyword_read : (seen : Seen) (word : List ℕ) (tail : Option (List ℕ)) → is_one_word word ≡ true
    → option_of (run until.Key word) ≡ None
    → piece_at Keyword seen (word ++ behind tail) ≡ Ok (Word word, behind tail)
keyword_read seen word tail one none =
    ap (λ (o : Option OptionWord). piece_by Keyword seen o (word ++ behind tail)) (ap option_of (run_behind until.Key word (behind tail) (key_ends tail)) ∙ none)
    ∙ ap (λ (w : List ℕ). word_answer w (past until.Word (word ++ behind tail))) (run_word until.Word word (behind tail) (word_goes_on word one) (word_ends tail))
    ∙ ap (λ (rest : List ℕ). word_answer word rest) (past_word until.Word word (behind tail) (word_goes_on word one) (word_ends tail))

abbrev as_matchgroup : Result (List ℕ) Cause → Read Piece
as_matchgroup r = r >>= λ start. group_or_none (run until.Word start) >>= λ name. Ok (Matchgroup name, past until.Word start)

abbrev group_answer : List ℕ → Result (List ℕ) Cause → Read Piece
group_answer rest r = r >>= λ name. Ok (Matchgroup name, rest)

named_group : (name : List ℕ) → is_listed name ≡ true → group_or_none name ≡ Ok name
named_group name is = otherwise (is_none_word name) (Ok name) (group_name name) (not_none name is) ∙ listed_group name is

matchgroup_read : (name : List ℕ) (tail : Option (List ℕ)) → is_listed name ≡ true
    → matchgroup (name ++ behind tail) ≡ Ok (Matchgroup name, behind tail)
matchgroup_read name tail is =
    let one = listed_word name is in
    ap as_matchgroup (value_word name (behind tail) (name_begins name is))
    ∙ ap (λ (w : List ℕ). group_answer (past until.Word (name ++ behind tail)) (group_or_none w)) (run_word until.Word name (behind tail) (word_goes_on name one) (word_ends tail))
    ∙ ap (λ (rest : List ℕ). group_answer rest (group_or_none name)) (past_word until.Word name (behind tail) (word_goes_on name one) (word_ends tail))
    ∙ ap (group_answer (behind tail)) (named_group name is)

abbrev as_cchar : Result (List ℕ) Cause → Read Piece
as_cchar r = r >>= λ start. only_character (run until.Word start) >>= λ c. Ok (Cchar c, past until.Word start)

abbrev character_answer : List ℕ → List ℕ → Read Piece
character_answer rest word = only_character word >>= λ c. Ok (Cchar c, rest)

value_character : (c : ℕ) (rest : List ℕ) → stops until.Word c ≡ false
    → value_start (c ∷ rest) ≡ Ok (c ∷ rest)
value_character c rest is =
    let blank = or_left (is_blank c) (nat_eq c 124) is in
    let bar = or_right (is_blank c) (nat_eq c 124) is in
    rw (blank, bar) refl

cchar_read : (c : ℕ) (tail : Option (List ℕ)) → stops until.Word c ≡ false
    → cchar (c ∷ behind tail) ≡ Ok (Cchar c, behind tail)
cchar_read c tail is =
    let inside : goes_on until.Word (c ∷ []) ≡ true = rw is refl in
    ap as_cchar (value_character c (behind tail) is)
    ∙ ap (λ (w : List ℕ). character_answer (past until.Word (c ∷ behind tail)) w) (run_word until.Word (c ∷ []) (behind tail) inside (word_ends tail))
    ∙ ap (λ (rest : List ℕ). character_answer rest (c ∷ [])) (past_word until.Word (c ∷ []) (behind tail) inside (word_ends tail))

-- the patterns that an item has so far let this piece stand
abbrev Allows : Seen → Piece → Type 0
Allows seen (Quote role.Match q) = seen.pattern ≡ false
Allows seen (Quote role.Skip q) = seen.skip ≡ false
Allows seen piece = Unit {0}

-- a list takes the blanks behind it
abbrev left_by : Piece → List ℕ → List ℕ
left_by (Names asked list) rest = past_blanks rest
left_by piece rest = rest

left_blanks : (piece : Piece) (rest : List ℕ) → past_blanks (left_by piece rest) ≡ past_blanks rest
left_blanks (Has f) rest = refl
left_blanks (Cchar c) rest = refl
left_blanks (Names asked list) rest = blanks_once rest
left_blanks (Matchgroup name) rest = refl
left_blanks (Quote r q) rest = refl
left_blanks (Word word) rest = refl

names_at : (kind : ItemCommand) (seen : Seen) (asked : Field) (text : List ℕ)
    → may_list kind asked ≡ true → piece_at kind seen (field_text asked ++ text) ≡ names asked text
names_at Keyword seen field.Contains text may = absurd cc
names_at Keyword seen field.Containedin text may = refl
names_at Keyword seen field.Nextgroup text may = refl
names_at Match seen field.Contains text may = refl
names_at Match seen field.Containedin text may = refl
names_at Match seen field.Nextgroup text may = refl
names_at Region seen field.Contains text may = refl
names_at Region seen field.Containedin text may = refl
names_at Region seen field.Nextgroup text may = refl

quote_at : (kind : ItemCommand) (seen : Seen) (r : Role) (q : Quoted) (rest : List ℕ)
    → may_quote kind r ≡ true → Allows seen (Quote r q)
    → piece_at kind seen (role_text r ++ (quoted_text q ++ rest))
    ≡ quote_as r (quoted_text q ++ rest)
quote_at Keyword seen r q rest may allowed = absurd cc
quote_at Match seen role.Match q rest may allowed = rw allowed refl
quote_at Match seen role.Start q rest may allowed = absurd cc
quote_at Match seen role.Skip q rest may allowed = absurd cc
quote_at Match seen role.End q rest may allowed = absurd cc
quote_at Region seen role.Match q rest may allowed = absurd cc
quote_at Region seen role.Start q rest may allowed = refl
quote_at Region seen role.Skip q rest may allowed = rw allowed refl
quote_at Region seen role.End q rest may allowed = refl

keyword_plain : (word : List ℕ) → is_plain_keyword word ≡ true
    → (is_one_word word ≡ true) × (not (begins 44 word) ≡ true)
    × (is_none (option_of (run until.Key word)) ≡ true)
keyword_plain word is =
    let front = and_left (is_one_word word && not (begins 44 word)) (is_none (option_of (run until.Key word))) is in
    (and_left (is_one_word word) (not (begins 44 word)) front, and_right (is_one_word word) (not (begins 44 word)) front, and_right (is_one_word word && not (begins 44 word)) (is_none (option_of (run until.Key word))) is)

pub piece_read : (kind : ItemCommand) (seen : Seen) (piece : Piece) (tail : Option (List ℕ))
    → IsPlainPiece kind piece → Allows seen piece → IsFresh tail
    → piece_at kind seen (piece_text piece ++ behind tail) ≡ Ok (piece, left_by piece (behind tail))
piece_read kind seen (Has f) tail plain allowed fresh = flag_read kind seen f tail
piece_read kind seen (Cchar c) tail plain allowed fresh = cchar_read c tail plain
piece_read kind seen (Names asked list) tail plain allowed fresh =
    ap (piece_at kind seen) (append_assoc (field_text asked) (names_text list.names) (behind tail))
    ∙ names_at kind seen asked (names_text list.names ++ behind tail) plain.0
    ∙ names_piece_read asked list tail plain.1 fresh
piece_read Keyword seen (Matchgroup name) tail plain allowed fresh = absurd plain
piece_read Match seen (Matchgroup name) tail plain allowed fresh = absurd plain
piece_read Region seen (Matchgroup name) tail plain allowed fresh = matchgroup_read name tail plain
piece_read kind seen (Quote r q) tail plain allowed fresh =
    ap (piece_at kind seen) (append_assoc (role_text r) (quoted_text q) (behind tail))
    ∙ quote_at kind seen r q (behind tail) plain.0 allowed
    ∙ quote_read r q tail plain.1
piece_read Keyword seen (Word word) tail plain allowed fresh =
    let parts = keyword_plain word plain in
    keyword_read seen word tail parts.0 (none_of (option_of (run until.Key word)) parts.2)
piece_read Match seen (Word word) tail plain allowed fresh = absurd plain
piece_read Region seen (Word word) tail plain allowed fresh = absurd plain

-- Where pieces begin.

abbrev begins_piece : List ℕ → Bool
begins_piece word = begins_word word && not (begins 44 word)

both_hold : (a b : Bool) → a ≡ true → b ≡ true → (a && b) ≡ true
both_hold true true p q = refl
both_hold true false p q = q
both_hold false b p q = absurd cc

flag_begins : (f : Flag) → begins_piece (flag_text f) ≡ true
flag_begins flag.Contained = refl
flag_begins flag.Oneline = refl
flag_begins flag.Keepend = refl
flag_begins flag.Extend = refl
flag_begins flag.Excludenl = refl
flag_begins flag.Transparent = refl
flag_begins flag.Skipwhite = refl
flag_begins flag.Skipnl = refl
flag_begins flag.Skipempty = refl
flag_begins flag.Display = refl
flag_begins flag.Fold = refl
flag_begins flag.Conceal = refl
flag_begins flag.Concealends = refl

keyword_begins : (word : List ℕ) → is_plain_keyword word ≡ true → begins_piece word ≡ true
keyword_begins word is =
    let parts = keyword_plain word is in
    both_hold (begins_word word) (not (begins 44 word)) (one_word_begins word parts.0) parts.1

piece_begins : (kind : ItemCommand) (piece : Piece) → IsPlainPiece kind piece
    → begins_piece (piece_text piece) ≡ true
piece_begins kind (Has f) plain = flag_begins f
piece_begins kind (Cchar c) plain = refl
piece_begins kind (Names field.Contains list) plain = refl
piece_begins kind (Names field.Containedin list) plain = refl
piece_begins kind (Names field.Nextgroup list) plain = refl
piece_begins Keyword (Matchgroup name) plain = refl
piece_begins Match (Matchgroup name) plain = refl
piece_begins Region (Matchgroup name) plain = refl
piece_begins kind (Quote role.Match q) plain = refl
piece_begins kind (Quote role.Start q) plain = refl
piece_begins kind (Quote role.Skip q) plain = refl
piece_begins kind (Quote role.End q) plain = refl
piece_begins Keyword (Word word) plain = keyword_begins word plain
piece_begins Match (Word word) plain = absurd plain
piece_begins Region (Word word) plain = absurd plain

starts_word : (word : List ℕ) → begins_piece word ≡ true → begins_word word ≡ true
starts_word word is = and_left (begins_word word) (not (begins 44 word)) is

no_comma : (word rest : List ℕ) → begins_piece word ≡ true → begins 44 (word ++ rest) ≡ false
no_comma [] rest is = absurd cc
no_comma (c ∷ cs) rest is = not_true (nat_eq c 44) (and_right (begins_word (c ∷ cs)) (not (nat_eq c 44)) is)

-- what follows a piece
abbrev pub tail_of : List Piece → Option (List ℕ)
tail_of [] = None
tail_of (piece ∷ pieces) = Some (piece_text piece ++ pieces_text pieces)

pub tail_is : (ps : List Piece) → pieces_text ps ≡ behind (tail_of ps)
tail_is [] = refl
tail_is (piece ∷ ps) = refl

tail_fresh : (kind : ItemCommand) (ps : List Piece) → ArePlainPieces kind ps → IsFresh (tail_of ps)
tail_fresh kind [] plain = refl
tail_fresh kind (piece ∷ ps) plain =
    let begin = piece_begins kind piece plain.0 in
    ap (begins 44) (word_begins (piece_text piece) (pieces_text ps) (starts_word (piece_text piece) begin))
    ∙ no_comma (piece_text piece) (pieces_text ps) begin

goes_on_at : (kind : ItemCommand) (seen : Seen) (word rest : List ℕ) → begins_word word ≡ true
    → pieces_end kind seen (word ++ rest) ≡ false
goes_on_at kind seen [] rest is = absurd cc
goes_on_at kind seen (c ∷ cs) rest is =
    let bar = no_bar c cs is in
    let quote = no_quote c cs is in
    rw (bar, quote) refl

-- How many patterns are still to come.

abbrev number_of : Bool → ℕ
number_of true = 1
number_of false = 0

abbrev pub Awaits : ItemCommand → Seen → List Piece → Type 0
Awaits Keyword seen ps = Unit {0}
Awaits Match seen ps = number_of seen.pattern + quote_count role.Match ps ≡ 1
Awaits Region seen ps =
    (1 ≤ number_of seen.start + quote_count role.Start ps) × (1 ≤ number_of seen.end_ + quote_count role.End ps)
    × (number_of seen.skip + quote_count role.Skip ps ≤ 1)

count_first : (r : Role) (piece : Piece) (ps : List Piece)
    → quote_count r (piece ∷ ps) ≡ cond (has_role r piece) 1 0 + quote_count r ps
count_first r piece ps = sum_by-cons (λ p. cond (has_role r p) 1 0) piece ps

count_other : (r : Role) (piece : Piece) (ps : List Piece) → has_role r piece ≡ false
    → quote_count r (piece ∷ ps) ≡ quote_count r ps
count_other r piece ps is = count_first r piece ps ∙ rw is (omega arith)

count_this : (r : Role) (piece : Piece) (ps : List Piece) → has_role r piece ≡ true
    → quote_count r (piece ∷ ps) ≡ 1 + quote_count r ps
count_this r piece ps is = count_first r piece ps ∙ rw is refl

no_number : (b : Bool) → number_of b ≡ 0 → b ≡ false
no_number true is = absurd (omega (arith, is))
no_number false is = refl

some_number : (b : Bool) → 1 ≤ number_of b → b ≡ true
some_number true is = refl
some_number false is = absurd (omega (arith, is))

-- a piece that is no pattern
awaits_on : (kind : ItemCommand) (seen : Seen) (piece : Piece) (ps : List Piece)
    → ((r : Role) → has_role r piece ≡ false) → Awaits kind seen (piece ∷ ps) → Awaits kind seen ps
awaits_on Keyword seen piece ps other awaits = tt
awaits_on Match seen piece ps other awaits =
    let same = count_other role.Match piece ps (other role.Match) in
    omega (arith, awaits, same)
awaits_on Region seen piece ps other awaits =
    let starts = count_other role.Start piece ps (other role.Start) in
    let ends = count_other role.End piece ps (other role.End) in
    let skips = count_other role.Skip piece ps (other role.Skip) in
    (omega (arith, awaits.0, starts), omega (arith, awaits.1, ends), omega (arith, awaits.2, skips))

awaits_quote : (kind : ItemCommand) (seen : Seen) (r : Role) (q : Quoted) (ps : List Piece)
    → may_quote kind r ≡ true → Awaits kind seen (Quote r q ∷ ps)
    → Awaits kind (with_piece seen (Quote r q)) ps
awaits_quote Keyword seen r q ps may awaits = tt
awaits_quote Match seen role.Match q ps may awaits =
    let this = count_this role.Match (Quote role.Match q) ps refl in
    omega (arith, awaits, this)
awaits_quote Match seen role.Start q ps may awaits = absurd cc
awaits_quote Match seen role.Skip q ps may awaits = absurd cc
awaits_quote Match seen role.End q ps may awaits = absurd cc
awaits_quote Region seen role.Match q ps may awaits = absurd cc
awaits_quote Region seen role.Start q ps may awaits =
    let ends = count_other role.End (Quote role.Start q) ps refl in
    let skips = count_other role.Skip (Quote role.Start q) ps refl in
    (omega arith, omega (arith, awaits.1, ends), omega (arith, awaits.2, skips))
awaits_quote Region seen role.Skip q ps may awaits =
    let starts = count_other role.Start (Quote role.Skip q) ps refl in
    let ends = count_other role.End (Quote role.Skip q) ps refl in
    let this = count_this role.Skip (Quote role.Skip q) ps refl in
    (omega (arith, awaits.0, starts), omega (arith, awaits.1, ends), omega (arith, awaits.2, this))
awaits_quote Region seen role.End q ps may awaits =
    let starts = count_other role.Start (Quote role.End q) ps refl in
    let skips = count_other role.Skip (Quote role.End q) ps refl in
    (omega (arith, awaits.0, starts), omega arith, omega (arith, awaits.2, skips))

awaits_next : (kind : ItemCommand) (seen : Seen) (piece : Piece) (ps : List Piece)
    → IsPlainPiece kind piece → Awaits kind seen (piece ∷ ps)
    → Awaits kind (with_piece seen piece) ps
awaits_next kind seen (Has f) ps plain awaits = awaits_on kind seen (Has f) ps (λ r. refl) awaits
awaits_next kind seen (Cchar c) ps plain awaits = awaits_on kind seen (Cchar c) ps (λ r. refl) awaits
awaits_next kind seen (Names asked list) ps plain awaits = awaits_on kind seen (Names asked list) ps (λ r. refl) awaits
awaits_next kind seen (Matchgroup name) ps plain awaits = awaits_on kind seen (Matchgroup name) ps (λ r. refl) awaits
awaits_next kind seen (Quote r q) ps plain awaits = awaits_quote kind seen r q ps plain.0 awaits
awaits_next kind seen (Word word) ps plain awaits = awaits_on kind seen (Word word) ps (λ r. refl) awaits

allows_quote : (kind : ItemCommand) (seen : Seen) (r : Role) (q : Quoted) (ps : List Piece)
    → may_quote kind r ≡ true → Awaits kind seen (Quote r q ∷ ps) → Allows seen (Quote r q)
allows_quote Keyword seen r q ps may awaits = absurd cc
allows_quote Match seen role.Match q ps may awaits =
    let this = count_this role.Match (Quote role.Match q) ps refl in
    no_number seen.pattern (omega (arith, awaits, this))
allows_quote Match seen role.Start q ps may awaits = absurd cc
allows_quote Match seen role.Skip q ps may awaits = absurd cc
allows_quote Match seen role.End q ps may awaits = absurd cc
allows_quote Region seen role.Match q ps may awaits = absurd cc
allows_quote Region seen role.Start q ps may awaits = tt
allows_quote Region seen role.Skip q ps may awaits =
    let this = count_this role.Skip (Quote role.Skip q) ps refl in
    no_number seen.skip (omega (arith, awaits.2, this))
allows_quote Region seen role.End q ps may awaits = tt

allows_next : (kind : ItemCommand) (seen : Seen) (piece : Piece) (ps : List Piece)
    → IsPlainPiece kind piece → Awaits kind seen (piece ∷ ps) → Allows seen piece
allows_next kind seen (Has f) ps plain awaits = tt
allows_next kind seen (Cchar c) ps plain awaits = tt
allows_next kind seen (Names asked list) ps plain awaits = tt
allows_next kind seen (Matchgroup name) ps plain awaits = tt
allows_next kind seen (Quote r q) ps plain awaits = allows_quote kind seen r q ps plain.0 awaits
allows_next kind seen (Word word) ps plain awaits = tt

-- nothing is missing behind the last one
nothing_missing : (kind : ItemCommand) (seen : Seen) → Awaits kind seen []
    → missing kind seen ≡ None
nothing_missing Keyword seen awaits = refl
nothing_missing Match seen awaits =
    let there = some_number seen.pattern (omega (arith, awaits)) in
    rw there refl
nothing_missing Region seen awaits =
    let start = some_number seen.start (omega (arith, awaits.0)) in
    let end = some_number seen.end_ (omega (arith, awaits.1)) in
    rw (start, end) refl

-- All pieces.

abbrev rest_of : ItemCommand → Seen → List Piece → List ℕ → Read Piece → Read (List Piece)
rest_of kind seen so_far turns r = r >>= λ p. pieces_after kind (with_piece seen p.0) (so_far ++ p.0 ∷ []) turns p.1

abbrev turn : ItemCommand → Seen → List Piece → List ℕ → List ℕ → Read (List Piece)
turn kind seen so_far turns text = if pieces_end kind seen text then pieces_so_far kind seen so_far text else rest_of kind seen so_far turns (piece_at kind seen text)

abbrev whole : List Piece → Option Cause → Read (List Piece)
whole so_far lack = pieces_whole lack so_far >>= λ all. Ok (all, [])

abbrev answer : List Piece → Read (List Piece)
answer found = Ok (found, [])

turn_at : (kind : ItemCommand) (seen : Seen) (so_far : List Piece) (turns text : List ℕ)
    → pieces_end kind seen text ≡ false
    → turn kind seen so_far turns text ≡ rest_of kind seen so_far turns (piece_at kind seen text)
turn_at kind seen so_far turns text is = rw is refl

pub pieces_read : (kind : ItemCommand) (ps : List Piece) (seen : Seen) (so_far : List Piece)
    (turns text : List ℕ)
    → length ps < length turns → ArePlainPieces kind ps → Awaits kind seen ps
    → past_blanks text ≡ past_blanks (pieces_text ps)
    → pieces_after kind seen so_far turns text ≡ Ok (so_far ++ ps, [])
pieces_read kind ps seen so_far [] text enough plain awaits same = absurd (omega (arith, enough))
pieces_read kind [] seen so_far (t ∷ turns) text enough plain awaits same =
    ap (turn kind seen so_far turns) same
    ∙ ap (whole so_far) (nothing_missing kind seen awaits)
    ∙ ap answer (sym (append-nil so_far))
pieces_read kind (piece ∷ ps) seen so_far (t ∷ turns) text enough plain awaits same =
    let begin = starts_word (piece_text piece) (piece_begins kind piece plain.0) in
    let line = piece_text piece ++ pieces_text ps in
    let few : length ps < length turns = omega (arith, enough) in
    ap (turn kind seen so_far turns) (same ∙ word_begins (piece_text piece) (pieces_text ps) begin)
    ∙ turn_at kind seen so_far turns line (goes_on_at kind seen (piece_text piece) (pieces_text ps) begin)
    ∙ ap (λ (rest : List ℕ). rest_of kind seen so_far turns (piece_at kind seen (piece_text piece ++ rest))) (tail_is ps)
    ∙ ap (rest_of kind seen so_far turns) (piece_read kind seen piece (tail_of ps) plain.0 (allows_next kind seen piece ps plain.0 awaits) (tail_fresh kind ps plain.1))
    ∙ pieces_read kind ps (with_piece seen piece) (so_far ++ piece ∷ []) turns (left_by piece (behind (tail_of ps))) few plain.1
    (awaits_next kind seen piece ps plain.0 awaits)
    (left_blanks piece (behind (tail_of ps)) ∙ ap past_blanks (sym (tail_is ps)))
    ∙ ap answer (append_assoc so_far (piece ∷ []) ps)

pieces_longer : (ps : List Piece) → length ps ≤ length (pieces_text ps)
pieces_longer [] = omega arith
pieces_longer (piece ∷ ps) =
    let later = pieces_longer ps in
    let both = length-append (piece_text piece) (pieces_text ps) in
    omega (arith, later, both)

awaits_first : (kind : ItemCommand) (ps : List Piece) → HasItsPatterns kind ps
    → Awaits kind nothing_seen ps
awaits_first Keyword ps has = tt
awaits_first Match ps has = omega (arith, has)
awaits_first Region ps has = (omega (arith, has.0), omega (arith, has.1), omega (arith, has.2))

pub all_pieces_read : (kind : ItemCommand) (ps : List Piece) → ArePlainPieces kind ps
    → HasItsPatterns kind ps → pieces kind (pieces_text ps) ≡ Ok (ps, [])
all_pieces_read kind [] plain has = ap (whole []) (nothing_missing kind nothing_seen (awaits_first kind [] has))
all_pieces_read kind (piece ∷ ps) plain has =
    let later = pieces_longer ps in
    let both = length-append (piece_text piece) (pieces_text ps) in
    let some = some_length (piece_text piece) (starts_word (piece_text piece) (piece_begins kind piece plain.0)) in
    let enough : length (piece ∷ ps) < length (pieces_text (piece ∷ ps)) = omega (arith, later, both, some) in
    pieces_read kind (piece ∷ ps) nothing_seen [] (pieces_text (piece ∷ ps)) (pieces_text (piece ∷ ps)) enough plain (awaits_first kind (piece ∷ ps) has) refl
