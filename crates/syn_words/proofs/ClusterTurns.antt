-- The turns of a cluster's lists never run out before their text does.
use Rattle.std.proofs.Common.{ℕ, suc, ◌≤◌, false, List, [], ◌∷◌, ◌++◌, length, refl, arith}
use Rattle.std.specs.Prelude.{Option, Some, None, Ok, Err}
use Rattle.syntax_set.specs.declared.clusters.Change.{Change}
use Rattle.text_scan.specs.Characters.{past_blanks}
use Rattle.word_reader.specs.declared.words.Until.TheVariants as until
use Rattle.word_reader.specs.Words.{behind_equals, has_equals, is_over, past, run}
use Rattle.syn_words.specs.declared.cause.Cause.TheVariants.{UnknownOption}
use Rattle.syn_words.specs.declared.what.NamedList.{NamedList}
use Rattle.syn_words.specs.Answers.{Read, ◌>>=◌}
use Rattle.syn_words.specs.Lists.{list_value}
use Rattle.syn_words.specs.Clusters.{change_by, change_of, change_piece, change_with, changes_after}
use Rattle.syn_words.specs.Clusters.{changes_so_far, changes_whole}
use Rattle.syn_words.specs.Turns.{MoreTurnsReadTheSameChanges}
use Rattle.syn_words.proofs.LeftLaws.{Leaves, equals_left, left_behind, left_by, left_if, past_left}
use Rattle.syn_words.proofs.ListTurns.{list_left}
use Rattle.syn_words.proofs.TurnLaws.{same_behind}
use Rattle.syn_words.proofs.WordLaws.{blanks_shorter, same_by}

with_left : (n : ℕ) (how : Change) (text : List ℕ) → length text ≤ n
    → Leaves n (change_with how text)
with_left n how text most =
    left_behind n n (list_value false text) (λ list. Ok ((how, list.0), list.1))
    (list_left n false text most)
    (λ list fewer. fewer)

by_left : (n : ℕ) (how : Option Change) (rest : List ℕ) → length rest ≤ suc n
    → Leaves n (change_by how rest)
by_left n None rest most = tt
by_left n (Some how) rest most =
    left_if n (has_equals rest) (change_with how (behind_equals rest)) (Err UnknownOption)
    (λ is. with_left n how (behind_equals rest) (equals_left n rest is most)) (λ is. tt)

-- a key with its list takes a character at least
change_left : (n : ℕ) (text : List ℕ) → length text ≤ suc n → Leaves n (change_piece text)
change_left n text most =
    by_left n (change_of (run until.Key text)) (past until.Key text)
    (past_left (suc n) until.Key text most)

abbrev further : List (Change × NamedList) → List ℕ → (Change × NamedList) × List ℕ
    → Read (List (Change × NamedList))
further so_far turns p = changes_after (so_far ++ p.0 ∷ []) turns p.1

pub changes_turns : MoreTurnsReadTheSameChanges
changes_turns so_far [] [] text enough = refl
changes_turns so_far [] (m ∷ more) [] enough = refl
changes_turns so_far [] (m ∷ more) (c ∷ cs) enough = absurd (omega (arith, enough))
changes_turns so_far (t ∷ turns) more text enough =
    let blanks = blanks_shorter text in
    let most : length (past_blanks text) ≤ suc (length turns) = omega (arith, blanks, enough) in
    same_by (is_over (past_blanks text))
    (changes_so_far so_far (past_blanks text))
    (change_piece (past_blanks text) >>= further so_far (turns ++ more))
    (changes_so_far so_far (past_blanks text))
    (change_piece (past_blanks text) >>= further so_far turns)
    (λ is. refl)
    (λ is. same_behind (length turns) (change_piece (past_blanks text))
    (further so_far (turns ++ more)) (further so_far turns)
    (change_left (length turns) (past_blanks text) most)
    (λ p fewer. changes_turns (so_far ++ p.0 ∷ []) turns more p.1 fewer))

-- What is left behind them.

so_far_left : (n : ℕ) (so_far : List (Change × NamedList)) (text : List ℕ) → length text ≤ n
    → Leaves n (changes_so_far so_far text)
so_far_left n so_far text most =
    left_by n (changes_whole so_far) (λ all. Ok (all, text)) (λ all. most)

pub changes_left : (n : ℕ) (so_far : List (Change × NamedList)) (turns text : List ℕ)
    → length text ≤ n → Leaves n (changes_after so_far turns text)
changes_left n so_far [] text most = so_far_left n so_far text most
changes_left n so_far (t ∷ turns) text most =
    let blanks = blanks_shorter text in
    let fits : length (past_blanks text) ≤ n = omega (arith, blanks, most) in
    left_if n (is_over (past_blanks text)) (changes_so_far so_far (past_blanks text))
    (change_piece (past_blanks text) >>= further so_far turns)
    (λ is. so_far_left n so_far (past_blanks text) fits)
    (λ is. left_behind n n (change_piece (past_blanks text)) (further so_far turns)
    (change_left n (past_blanks text) (omega (arith, fits)))
    (λ p fewer. changes_left n (so_far ++ p.0 ∷ []) turns p.1 fewer))
