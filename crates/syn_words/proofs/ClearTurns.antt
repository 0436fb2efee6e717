-- The turns of names to be cleared never run out before their text does.
use Rattle.std.proofs.Common.{◌≡◌, ℕ, suc, ◌≤◌, Bool, true, false, List, [], ◌∷◌, ◌++◌, length}
use Rattle.std.proofs.Common.{refl, ap, sym, subst, arith}
use Rattle.std.specs.Prelude.{Result, Ok, Err}
use Rattle.text_scan.specs.Characters.{past_blanks}
use Rattle.word_reader.specs.declared.words.Until.TheVariants as until
use Rattle.word_reader.specs.Words.{begins, behind_first, is_over, past, run, stops}
use Rattle.syn_words.specs.declared.cause.Cause.{Cause}
use Rattle.syn_words.specs.declared.cause.Cause.TheVariants.{BadGroupName}
use Rattle.syn_words.specs.declared.what.Named.{Named}
use Rattle.syn_words.specs.declared.what.Named.TheVariants as named
use Rattle.syn_words.specs.declared.what.What.{What}
use Rattle.syn_words.specs.Answers.{Read, ◌>>=◌}
use Rattle.syn_words.specs.Names.{group_name}
use Rattle.syn_words.specs.Commands.{clear_whole, cleared, cleared_after, cleared_cluster}
use Rattle.syn_words.specs.Commands.{cleared_group}
use Rattle.syn_words.specs.Turns.{MoreTurnsReadTheSameCleared}
use Rattle.syn_words.proofs.LeftLaws.{Leaves, begun_left, left_behind, left_by, left_if, past_left}
use Rattle.syn_words.proofs.LeftLaws.{run_left}
use Rattle.syn_words.proofs.TurnLaws.{same_behind}
use Rattle.syn_words.proofs.WordLaws.{blanks_shorter, same_by}

cluster_left : (n : ℕ) (text : List ℕ) → length text ≤ n → Leaves n (cleared_cluster text)
cluster_left n text most =
    left_by n (group_name (run until.Word text))
    (λ name. Ok (named.Cluster name, past until.Word text))
    (λ name. past_left n until.Word text most)

abbrev group_by : List ℕ → Result (List ℕ) Cause → Read Named
group_by rest r = r >>= λ name. Ok (named.Group name, rest)

-- nothing is no name
no_group : (n : ℕ) (text : List ℕ) → run until.Word text ≡ [] → Leaves n (cleared_group text)
no_group n text none =
    let bad : group_name (run until.Word text) ≡ Err BadGroupName = ap group_name none in
    subst (λ r. Leaves n (group_by (past until.Word text) r)) (sym bad) tt

empty_run : (c : ℕ) (cs : List ℕ) → stops until.Word c ≡ true → run until.Word (c ∷ cs) ≡ []
empty_run c cs is = rw is refl

group_at : (n c : ℕ) (cs : List ℕ) (stop : Bool) → stops until.Word c ≡ stop
    → length (c ∷ cs) ≤ suc n → Leaves n (cleared_group (c ∷ cs))
group_at n c cs true is most = no_group n (c ∷ cs) (empty_run c cs is)
group_at n c cs false is most =
    left_by n (group_name (run until.Word (c ∷ cs)))
    (λ name. Ok (named.Group name, past until.Word (c ∷ cs)))
    (λ name. run_left n until.Word c cs is most)

group_left : (n : ℕ) (text : List ℕ) → length text ≤ suc n → Leaves n (cleared_group text)
group_left n [] most = no_group n [] refl
group_left n (c ∷ cs) most = group_at n c cs (stops until.Word c) refl most

-- a name takes a character at least
cleared_left : (n : ℕ) (text : List ℕ) → length text ≤ suc n → Leaves n (cleared text)
cleared_left n text most =
    left_if n (begins 64 text) (cleared_cluster (behind_first text)) (cleared_group text)
    (λ is. cluster_left n (behind_first text) (begun_left n 64 text is most))
    (λ is. group_left n text most)

abbrev further : List Named → List ℕ → Named × List ℕ → Read What
further so_far turns p = cleared_after (so_far ++ p.0 ∷ []) turns p.1

pub cleared_turns : MoreTurnsReadTheSameCleared
cleared_turns so_far [] [] text enough = refl
cleared_turns so_far [] (m ∷ more) [] enough = refl
cleared_turns so_far [] (m ∷ more) (c ∷ cs) enough = absurd (omega (arith, enough))
cleared_turns so_far (t ∷ turns) more text enough =
    let blanks = blanks_shorter text in
    let most : length (past_blanks text) ≤ suc (length turns) = omega (arith, blanks, enough) in
    same_by (is_over (past_blanks text))
    (Ok (clear_whole so_far, past_blanks text))
    (cleared (past_blanks text) >>= further so_far (turns ++ more))
    (Ok (clear_whole so_far, past_blanks text))
    (cleared (past_blanks text) >>= further so_far turns)
    (λ is. refl)
    (λ is. same_behind (length turns) (cleared (past_blanks text))
    (further so_far (turns ++ more)) (further so_far turns)
    (cleared_left (length turns) (past_blanks text) most)
    (λ p fewer. cleared_turns (so_far ++ p.0 ∷ []) turns more p.1 fewer))

-- What is left behind them.

pub clear_left : (n : ℕ) (so_far : List Named) (turns text : List ℕ) → length text ≤ n
    → Leaves n (cleared_after so_far turns text)
clear_left n so_far [] text most = most
clear_left n so_far (t ∷ turns) text most =
    let blanks = blanks_shorter text in
    let fits : length (past_blanks text) ≤ n = omega (arith, blanks, most) in
    left_if n (is_over (past_blanks text)) (Ok (clear_whole so_far, past_blanks text))
    (cleared (past_blanks text) >>= further so_far turns)
    (λ is. fits)
    (λ is. left_behind n n (cleared (past_blanks text)) (further so_far turns)
    (cleared_left n (past_blanks text) (omega (arith, fits)))
    (λ p fewer. clear_left n (so_far ++ p.0 ∷ []) turns p.1 fewer))
