-- The turns of an item's pieces never run out before their text does.
use Rattle.std.proofs.Common.{◌≡◌, ℕ, suc, ◌≤◌, Bool, true, false, List, [], ◌∷◌, ◌++◌, length}
use Rattle.std.proofs.Common.{refl, ap, sym, ◌∙◌, arith, cond}
use Rattle.std.specs.Prelude.{Option, Some, None, Ok, Err, nat_eq, not, ◌&&◌, ◌||◌, if◌then◌else◌}
use Rattle.text_scan.specs.Characters.{is_blank, past_blanks}
use Rattle.word_reader.specs.declared.words.Until.TheVariants as until
use Rattle.word_reader.specs.Words.{begins, behind_equals, has_equals, past, run, stops}
use Rattle.syn_words.specs.declared.cause.Cause.TheVariants.{UnknownOption, OptionHere, TwoSkips}
use Rattle.syn_words.specs.declared.what.ItemCommand.{ItemCommand}
use Rattle.syn_words.specs.declared.what.ItemCommand.TheVariants.{Keyword, Match, Region}
use Rattle.syn_words.specs.declared.what.Role.{Role}
use Rattle.syn_words.specs.declared.what.Role.TheVariants as role
use Rattle.syn_words.specs.declared.what.Field.{Field}
use Rattle.syn_words.specs.declared.what.Flag.{Flag}
use Rattle.syn_words.specs.declared.what.Piece.{Piece}
use Rattle.syn_words.specs.declared.what.Piece.TheVariants.{Has, Cchar, Names, Matchgroup, Quote}
use Rattle.syn_words.specs.declared.options.OptionWord.{OptionWord}
use Rattle.syn_words.specs.declared.options.OptionWord.TheVariants as word
use Rattle.syn_words.specs.declared.pieces.Seen.{Seen}
use Rattle.syn_words.specs.Answers.{Read, ◌>>=◌}
use Rattle.syn_words.specs.Arguments.{value_start}
use Rattle.syn_words.specs.Lists.{list_value}
use Rattle.syn_words.specs.Options.{option_of}
use Rattle.syn_words.specs.Quoted.{quoted}
use Rattle.syn_words.specs.Pieces.{begins_pattern, behind_key, behind_key_at, cchar, flag_piece}
use Rattle.syn_words.specs.Pieces.{group_or_none, is_contains, is_keyword, is_match, is_region}
use Rattle.syn_words.specs.Pieces.{is_skip, matchgroup, may_be_special, missing, names}
use Rattle.syn_words.specs.Pieces.{only_character, piece_at, piece_by, pieces_after, pieces_end}
use Rattle.syn_words.specs.Pieces.{pieces_so_far, pieces_whole, plain_piece, quote_as, region_quote}
use Rattle.syn_words.specs.Pieces.{with_piece}
use Rattle.syn_words.specs.Turns.{MoreTurnsReadTheSamePieces}
use Rattle.syn_words.proofs.LeftLaws.{Leaves, LeavesText, StartsBare, blanks_bare, equals_left}
use Rattle.syn_words.proofs.LeftLaws.{left_behind, left_by, left_from, left_if, past_left, run_left}
use Rattle.syn_words.proofs.LeftLaws.{value_start_left}
use Rattle.syn_words.proofs.ListTurns.{list_left}
use Rattle.syn_words.proofs.QuotedTurns.{quoted_left}
use Rattle.syn_words.proofs.TurnLaws.{same_behind}
use Rattle.syn_words.proofs.WordLaws.{blanks_shorter, same_by}

-- Values.

only_left : (n : ℕ) (text : List ℕ) → length text ≤ n → Leaves n (cchar text)
only_left n text most =
    left_from n n (value_start text)
    (λ start. only_character (run until.Word start) >>= λ c. Ok (Cchar c, past until.Word start))
    (value_start_left n text most)
    (λ start fewer. left_by n (only_character (run until.Word start))
    (λ c. Ok (Cchar c, past until.Word start)) (λ c. past_left n until.Word start fewer))

matchgroup_left : (n : ℕ) (text : List ℕ) → length text ≤ n → Leaves n (matchgroup text)
matchgroup_left n text most =
    left_from n n (value_start text)
    (λ start. group_or_none (run until.Word start) >>= λ name. Ok
    (Matchgroup name, past until.Word start))
    (value_start_left n text most)
    (λ start fewer. left_by n (group_or_none (run until.Word start))
    (λ name. Ok (Matchgroup name, past until.Word start))
    (λ name. past_left n until.Word start fewer))

names_left : (n : ℕ) (asked : Field) (text : List ℕ) → length text ≤ n → Leaves n (names asked text)
names_left n asked text most =
    left_behind n n (list_value (may_be_special asked) text)
    (λ list. Ok (Names asked list.0, list.1))
    (list_left n (may_be_special asked) text most) (λ list fewer. fewer)

quote_left : (n : ℕ) (r : Role) (text : List ℕ) → length text ≤ suc n → Leaves n (quote_as r text)
quote_left n r text most =
    left_behind n n (quoted text) (λ q. Ok (Quote r q.0, q.1)) (quoted_left n text most)
    (λ q fewer. fewer)

region_left : (n : ℕ) (seen : Seen) (r : Role) (text : List ℕ) → length text ≤ n
    → Leaves n (region_quote seen r text)
region_left n seen r text most =
    let blanks = blanks_shorter text in
    left_if n (is_skip r && seen.skip) (Err TwoSkips) (quote_as r (past_blanks text))
    (λ is. tt) (λ is. quote_left n r (past_blanks text) (omega (arith, blanks, most)))

-- behind a key and its equals sign
behind_at_left : (n : ℕ) (rest : List ℕ) → length rest ≤ suc n → LeavesText n (behind_key_at rest)
behind_at_left n rest most = by_test (has_equals rest) refl
  where
    by_test : (b : Bool) → has_equals rest ≡ b
        → LeavesText n (cond b (Ok (behind_equals rest)) (Err UnknownOption))
    by_test true is = equals_left n rest is most
    by_test false is = tt

valued_left : (n : ℕ) (text : List ℕ) (f : List ℕ → Read Piece) → length text ≤ suc n
    → ((value : List ℕ) → length value ≤ n → Leaves n (f value)) → Leaves n (behind_key text >>= f)
valued_left n text f most later =
    left_from n n (behind_key text) f
    (behind_at_left n (past until.Key text) (past_left (suc n) until.Key text most)) later

-- A piece takes a character at least. It begins with neither a blank nor a bar.

plain_left : (n : ℕ) (kind : ItemCommand) (seen : Seen) (c : ℕ) (cs : List ℕ)
    → stops until.Word c ≡ false → length (c ∷ cs) ≤ suc n
    → Leaves n (plain_piece kind seen (c ∷ cs))
plain_left n Keyword seen c cs goes most = run_left n until.Word c cs goes most
plain_left n Match seen c cs goes most =
    left_if n (begins_pattern (c ∷ cs) && not seen.pattern) (quote_as role.Match (c ∷ cs))
    (Err UnknownOption)
    (λ is. quote_left n role.Match (c ∷ cs) most) (λ is. tt)
plain_left n Region seen c cs goes most = tt

key_goes : (a b e : Bool) → (a || b) ≡ false → e ≡ false → (a || b || e) ≡ false
key_goes true b e word none = absurd cc
key_goes false true e word none = absurd cc
key_goes false false e word none = none

stopped : (c : ℕ) (cs : List ℕ) → stops until.Key c ≡ true → past until.Key (c ∷ cs) ≡ c ∷ cs
stopped c cs is = rw is refl

-- a flag's key isn't empty, where no equals sign follows it
flag_goes : (c : ℕ) (cs : List ℕ) (stop : Bool) → stops until.Key c ≡ stop
    → stops until.Word c ≡ false → begins 61 (past until.Key (c ∷ cs)) ≡ false
    → stops until.Key c ≡ false
flag_goes c cs false is goes none = is
flag_goes c cs true is goes none =
    key_goes (is_blank c) (nat_eq c 124) (nat_eq c 61) goes
    (sym (ap (begins 61) (stopped c cs is)) ∙ none)

flag_left : (n : ℕ) (kind : ItemCommand) (seen : Seen) (f : Flag) (c : ℕ) (cs : List ℕ)
    → stops until.Word c ≡ false → length (c ∷ cs) ≤ suc n
    → Leaves n (flag_piece kind seen f (c ∷ cs))
flag_left n kind seen f c cs goes most =
    left_if n (begins 61 (past until.Key (c ∷ cs))) (plain_piece kind seen (c ∷ cs))
    (Ok (Has f, past until.Key (c ∷ cs)))
    (λ is. plain_left n kind seen c cs goes most)
    (λ is. run_left n until.Key c cs (flag_goes c cs (stops until.Key c) refl goes is) most)

unless_region : (n : ℕ) (kind : ItemCommand) (seen : Seen) (c : ℕ) (cs : List ℕ)
    (f : List ℕ → Read Piece)
    → stops until.Word c ≡ false → length (c ∷ cs) ≤ suc n
    → ((value : List ℕ) → length value ≤ n → Leaves n (f value))
    → Leaves n (if not (is_region kind) then plain_piece kind seen (c ∷ cs) else
    (behind_key (c ∷ cs) >>= f))
unless_region n kind seen c cs f goes most later =
    left_if n (not (is_region kind)) (plain_piece kind seen (c ∷ cs)) (behind_key (c ∷ cs) >>= f)
    (λ is. plain_left n kind seen c cs goes most)
    (λ is. valued_left n (c ∷ cs) f most later)

by_left : (n : ℕ) (kind : ItemCommand) (seen : Seen) (o : Option OptionWord) (c : ℕ) (cs : List ℕ)
    → stops until.Word c ≡ false → length (c ∷ cs) ≤ suc n
    → Leaves n (piece_by kind seen o (c ∷ cs))
by_left n kind seen None c cs goes most = plain_left n kind seen c cs goes most
by_left n kind seen (Some (word.Has f)) c cs goes most = flag_left n kind seen f c cs goes most
by_left n kind seen (Some word.Cchar) c cs goes most =
    valued_left n (c ∷ cs) cchar most (only_left n)
by_left n kind seen (Some (word.Names asked)) c cs goes most =
    left_if n (is_keyword kind && is_contains asked) (Err OptionHere)
    (behind_key (c ∷ cs) >>= λ value. names asked value)
    (λ is. tt) (λ is. valued_left n (c ∷ cs) (λ value. names asked value) most (names_left n asked))
by_left n kind seen (Some word.Matchgroup) c cs goes most =
    unless_region n kind seen c cs (λ value. matchgroup value) goes most (matchgroup_left n)
by_left n kind seen (Some (word.Quote r)) c cs goes most =
    unless_region n kind seen c cs (λ value. region_quote seen r value) goes most
    (region_left n seen r)

no_stop : (a b e : Bool) → a ≡ false → (b || e) ≡ false → (a || b) ≡ false
no_stop true b e bare end = absurd cc
no_stop false true e bare end = absurd cc
no_stop false false e bare end = refl

piece_left : (n : ℕ) (kind : ItemCommand) (seen : Seen) (text : List ℕ) → StartsBare text
    → pieces_end kind seen text ≡ false → length text ≤ suc n → Leaves n (piece_at kind seen text)
piece_left n kind seen [] bare end most = absurd cc
piece_left n kind seen (c ∷ cs) bare end most =
    by_left n kind seen (option_of (run until.Key (c ∷ cs))) c cs
    (no_stop (is_blank c) (nat_eq c 124)
    (nat_eq c 34 && not (is_match kind && not seen.pattern)) bare end) most

-- All pieces.

abbrev further : ItemCommand → Seen → List Piece → List ℕ → Piece × List ℕ → Read (List Piece)
further kind seen so_far turns p =
    pieces_after kind (with_piece seen p.0) (so_far ++ p.0 ∷ []) turns p.1

pub pieces_turns : MoreTurnsReadTheSamePieces
pieces_turns kind seen so_far [] [] text enough = refl
pieces_turns kind seen so_far [] (m ∷ more) [] enough = refl
pieces_turns kind seen so_far [] (m ∷ more) (c ∷ cs) enough = absurd (omega (arith, enough))
pieces_turns kind seen so_far (t ∷ turns) more text enough =
    let blanks = blanks_shorter text in
    let most : length (past_blanks text) ≤ suc (length turns) = omega (arith, blanks, enough) in
    same_by (pieces_end kind seen (past_blanks text))
    (pieces_so_far kind seen so_far (past_blanks text))
    (piece_at kind seen (past_blanks text) >>= further kind seen so_far (turns ++ more))
    (pieces_so_far kind seen so_far (past_blanks text))
    (piece_at kind seen (past_blanks text) >>= further kind seen so_far turns)
    (λ is. refl)
    (λ is. same_behind (length turns) (piece_at kind seen (past_blanks text))
    (further kind seen so_far (turns ++ more)) (further kind seen so_far turns)
    (piece_left (length turns) kind seen (past_blanks text) (blanks_bare text) is most)
    (λ p fewer. pieces_turns kind (with_piece seen p.0)
    (so_far ++ p.0 ∷ []) turns more p.1 fewer))

-- What is left behind them.

so_far_left : (n : ℕ) (kind : ItemCommand) (seen : Seen) (so_far : List Piece) (text : List ℕ)
    → length text ≤ n → Leaves n (pieces_so_far kind seen so_far text)
so_far_left n kind seen so_far text most =
    left_by n (pieces_whole (missing kind seen) so_far) (λ all. Ok (all, text)) (λ all. most)

pub pieces_left : (n : ℕ) (kind : ItemCommand) (seen : Seen) (so_far : List Piece)
    (turns text : List ℕ)
    → length text ≤ n → Leaves n (pieces_after kind seen so_far turns text)
pieces_left n kind seen so_far [] text most = so_far_left n kind seen so_far text most
pieces_left n kind seen so_far (t ∷ turns) text most =
    let blanks = blanks_shorter text in
    let fits : length (past_blanks text) ≤ n = omega (arith, blanks, most) in
    left_if n (pieces_end kind seen (past_blanks text))
    (pieces_so_far kind seen so_far (past_blanks text))
    (piece_at kind seen (past_blanks text) >>= further kind seen so_far turns)
    (λ is. so_far_left n kind seen so_far (past_blanks text) fits)
    (λ is. left_behind n n (piece_at kind seen (past_blanks text)) (further kind seen so_far turns)
    (piece_left n kind seen (past_blanks text) (blanks_bare text) is (omega (arith, fits)))
    (λ p fewer. pieces_left n kind (with_piece seen p.0) (so_far ++ p.0 ∷ []) turns p.1 fewer))
