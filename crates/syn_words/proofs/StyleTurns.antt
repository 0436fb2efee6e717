-- The turns of a style never run out before its text does.
use Rattle.std.proofs.Common.{ℕ, suc, ◌≤◌, Bool, true, List, [], ◌∷◌, ◌++◌, length, refl, arith}
use Rattle.std.specs.Prelude.{Option, Some, None, Ok, Err}
use Rattle.std.specs.Option.{option_to_list}
use Rattle.text_scan.specs.Characters.{past_blanks}
use Rattle.word_reader.specs.declared.words.Until.TheVariants as until
use Rattle.word_reader.specs.Words.{behind_equals, has_equals, is_over, past, run}
use Rattle.word_values.specs.declared.style_words.StyleKey.{StyleKey}
use Rattle.word_values.specs.StyleWords.{style_key}
use Rattle.syn_words.specs.declared.cause.Cause.TheVariants.{UnknownOption}
use Rattle.syn_words.specs.declared.what.StylePart.{StylePart}
use Rattle.syn_words.specs.Answers.{◌>>=◌}
use Rattle.syn_words.specs.Arguments.{value_start}
use Rattle.syn_words.specs.Styles.{keyed, keyed_by, parts_after, parts_so_far, parts_whole}
use Rattle.syn_words.specs.Styles.{style_part, style_piece}
use Rattle.syn_words.specs.Turns.{MoreTurnsReadTheSameParts}
use Rattle.syn_words.proofs.LeftLaws.{Leaves, equals_left, left_behind, left_by, left_from, left_if}
use Rattle.syn_words.proofs.LeftLaws.{past_left, value_start_left}
use Rattle.syn_words.proofs.WordLaws.{blanks_shorter, same_by}
use Rattle.syn_words.proofs.TurnLaws.{same_behind}

keyed_left : (n : ℕ) (key : StyleKey) (text : List ℕ) → length text ≤ n → Leaves n (keyed key text)
keyed_left n key text most =
    left_from n n (value_start text)
    (λ start. style_part key (run until.Word start) >>= λ part. Ok (part, past until.Word start))
    (value_start_left n text most)
    (λ start fewer. left_by n (style_part key (run until.Word start))
    (λ part. Ok (part, past until.Word start)) (λ part. past_left n until.Word start fewer))

keyed_by_left : (n : ℕ) (key : Option StyleKey) (rest : List ℕ) → length rest ≤ suc n
    → Leaves n (keyed_by key rest)
keyed_by_left n None rest most = tt
keyed_by_left n (Some key) rest most =
    left_if n (has_equals rest) (keyed key (behind_equals rest)) (Err UnknownOption)
    (λ is. keyed_left n key (behind_equals rest) (equals_left n rest is most)) (λ is. tt)

-- a part takes a character at least
piece_left : (n : ℕ) (text : List ℕ) → length text ≤ suc n → Leaves n (style_piece text)
piece_left n text most =
    keyed_by_left n (style_key (run until.Key text)) (past until.Key text)
    (past_left (suc n) until.Key text most)

pub parts_turns : MoreTurnsReadTheSameParts
parts_turns some so_far [] [] text enough = refl
parts_turns some so_far [] (m ∷ more) [] enough = refl
parts_turns some so_far [] (m ∷ more) (c ∷ cs) enough = absurd (omega (arith, enough))
parts_turns some so_far (t ∷ turns) more text enough =
    let blanks = blanks_shorter text in
    let most : length (past_blanks text) ≤ suc (length turns) = omega (arith, blanks, enough) in
    same_by (is_over (past_blanks text)) (parts_so_far some so_far (past_blanks text))
    (style_piece (past_blanks text) >>= λ p. parts_after true (so_far ++ option_to_list p.0)
    (turns ++ more) p.1)
    (parts_so_far some so_far (past_blanks text))
    (style_piece (past_blanks text) >>= λ p. parts_after true
    (so_far ++ option_to_list p.0) turns p.1)
    (λ is. refl)
    (λ is. same_behind (length turns) (style_piece (past_blanks text))
    (λ p. parts_after true (so_far ++ option_to_list p.0) (turns ++ more) p.1)
    (λ p. parts_after true (so_far ++ option_to_list p.0) turns p.1)
    (piece_left (length turns) (past_blanks text) most)
    (λ p fewer. parts_turns true (so_far ++ option_to_list p.0) turns more p.1 fewer))

-- What is left behind them.

so_far_left : (n : ℕ) (some : Bool) (so_far : List StylePart) (text : List ℕ) → length text ≤ n
    → Leaves n (parts_so_far some so_far text)
so_far_left n some so_far text most =
    left_by n (parts_whole some so_far) (λ all. Ok (all, text)) (λ all. most)

pub parts_left : (n : ℕ) (some : Bool) (so_far : List StylePart) (turns text : List ℕ)
    → length text ≤ n → Leaves n (parts_after some so_far turns text)
parts_left n some so_far [] text most = so_far_left n some so_far text most
parts_left n some so_far (t ∷ turns) text most =
    let blanks = blanks_shorter text in
    let fits : length (past_blanks text) ≤ n = omega (arith, blanks, most) in
    left_if n (is_over (past_blanks text)) (parts_so_far some so_far (past_blanks text))
    (style_piece (past_blanks text)
    >>= λ p. parts_after true (so_far ++ option_to_list p.0) turns p.1)
    (λ is. so_far_left n some so_far (past_blanks text) fits)
    (λ is. left_behind n n (style_piece (past_blanks text))
    (λ p. parts_after true (so_far ++ option_to_list p.0) turns p.1)
    (piece_left n (past_blanks text) (omega (arith, fits)))
    (λ p fewer. parts_left n true (so_far ++ option_to_list p.0) turns p.1 fewer))
