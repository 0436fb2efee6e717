-- The turns of a list of names never run out before its text does.
use Rattle.std.proofs.Common.{◌≡◌, ℕ, suc, ◌≤◌, Bool, true, false, List, [], ◌∷◌, ◌++◌, length}
use Rattle.std.proofs.Common.{refl, ap, sym, ◌∙◌, subst, arith}
use Rattle.std.specs.Prelude.{Result, Ok, Err, if◌then◌else◌}
use Rattle.syntax_set.specs.declared.item.Special.{Special}
use Rattle.syntax_set.specs.declared.item.Special.TheVariants as special
use Rattle.text_scan.specs.Characters.{past_blanks}
use Rattle.word_reader.specs.declared.words.Until.TheVariants.{ListName}
use Rattle.word_reader.specs.Words.{begins, behind_first, past, run, stops}
use Rattle.syn_words.specs.declared.cause.Cause.{Cause}
use Rattle.syn_words.specs.declared.cause.Cause.TheVariants.{BadList}
use Rattle.syn_words.specs.declared.what.Named.{Named}
use Rattle.syn_words.specs.declared.what.NamedList.{NamedList}
use Rattle.syn_words.specs.Answers.{Read, ◌>>=◌}
use Rattle.syn_words.specs.Arguments.{value_start}
use Rattle.syn_words.specs.Names.{cluster_in_list, group_in_list}
use Rattle.syn_words.specs.Lists.{list_value, names_after, no_names, special_here, with_cluster}
use Rattle.syn_words.specs.Lists.{with_group, with_name, with_named, with_word, with_word_here}
use Rattle.syn_words.specs.Turns.{MoreTurnsReadTheSameList, MoreTurnsReadTheSameNames}
use Rattle.syn_words.proofs.LeftLaws.{Leaves, begun_left, first_left, left_behind, left_by}
use Rattle.syn_words.proofs.LeftLaws.{left_from, left_if, past_left, run_left, value_start_left}
use Rattle.syn_words.proofs.TurnLaws.{same_behind, same_from, value_begins}
use Rattle.syn_words.proofs.WordLaws.{blanks_shorter, same_by}

-- A name takes a character at least.

cluster_left : (n : ℕ) (list : NamedList) (text : List ℕ) → length text ≤ n
    → Leaves n (with_cluster list text)
cluster_left n list text most =
    left_by n (cluster_in_list (run ListName text))
    (λ named. Ok (with_named list named, past ListName text))
    (λ named. past_left n ListName text most)

group_left : (n : ℕ) (list : NamedList) (text : List ℕ) → length (past ListName text) ≤ n
    → Leaves n (with_group list text)
group_left n list text most =
    left_by n (group_in_list (run ListName text))
    (λ named. Ok (with_named list named, past ListName text))
    (λ named. most)

word_left : (n : ℕ) (found : Special) (list : NamedList) (text : List ℕ)
    → length (past ListName text) ≤ n → Leaves n (with_word found list text)
word_left n special.Plain list text most = group_left n list text most
word_left n special.All list text most = most
word_left n special.AllBut list text most = most
word_left n special.Top list text most = most
word_left n special.Contained list text most = most
word_left n special.Nothing list text most = most

no_special : (b : Bool) → special_here b [] ≡ special.Plain
no_special true = refl
no_special false = refl

abbrev with_group_by : NamedList → List ℕ → Result Named Cause → Read NamedList
with_group_by list rest r = r >>= λ named. Ok (with_named list named, rest)

-- nothing is no name
no_name : (n : ℕ) (b : Bool) (list : NamedList) (text : List ℕ) → run ListName text ≡ []
    → Leaves n (with_word_here b list text)
no_name n b list text none =
    let plain : special_here b (run ListName text) ≡ special.Plain = ap (special_here b) none
    ∙ no_special b in
    let bad : group_in_list (run ListName text) ≡ Err BadList = ap group_in_list none in
    subst (λ s. Leaves n (with_word s list text)) (sym plain)
    (subst (λ r. Leaves n (with_group_by list (past ListName text) r)) (sym bad) tt)

empty_run : (c : ℕ) (cs : List ℕ) → stops ListName c ≡ true → run ListName (c ∷ cs) ≡ []
empty_run c cs is = rw is refl

here_by : (n : ℕ) (b : Bool) (list : NamedList) (c : ℕ) (cs : List ℕ) (stop : Bool)
    → stops ListName c ≡ stop → length (c ∷ cs) ≤ suc n → Leaves n (with_word_here b list (c ∷ cs))
here_by n b list c cs true is most = no_name n b list (c ∷ cs) (empty_run c cs is)
here_by n b list c cs false is most =
    word_left n (special_here b (run ListName (c ∷ cs))) list (c ∷ cs)
    (run_left n ListName c cs is most)

here_left : (n : ℕ) (b : Bool) (list : NamedList) (text : List ℕ) → length text ≤ suc n
    → Leaves n (with_word_here b list text)
here_left n b list [] most = no_name n b list [] refl
here_left n b list (c ∷ cs) most = here_by n b list c cs (stops ListName c) refl most

name_left : (n : ℕ) (b : Bool) (list : NamedList) (text : List ℕ) → length text ≤ suc n
    → Leaves n (with_name b list text)
name_left n b list text most =
    left_if n (begins 64 text) (with_cluster list (behind_first text)) (with_word_here b list text)
    (λ is. cluster_left n list (behind_first text) (begun_left n 64 text is most))
    (λ is. here_left n b list text most)

-- All names.

abbrev go_on : List ℕ → NamedList × List ℕ → Read NamedList
go_on turns longer =
    if begins 44 (past_blanks longer.1) then names_after false longer.0 turns
    (past_blanks (behind_first (past_blanks longer.1)))
    else Ok (longer.0, past_blanks longer.1)

behind_comma : (n : ℕ) (text : List ℕ) → begins 44 (past_blanks text) ≡ true → length text ≤ suc n
    → length (past_blanks (behind_first (past_blanks text))) ≤ n
behind_comma n text is most =
    let blanks = blanks_shorter text in
    let left = begun_left n 44 (past_blanks text) is (omega (arith, blanks, most)) in
    let further = blanks_shorter (behind_first (past_blanks text)) in
    omega (arith, left, further)

no_comma : (text : List ℕ) → begins 44 (past_blanks text) ≡ true → length text ≤ 0 → ⊥
no_comma [] is most = absurd cc
no_comma (c ∷ cs) is most = omega (arith, most)

names_same : (b : Bool) (list : NamedList) (t : ℕ) (turns more text : List ℕ)
    → length text ≤ suc (length turns)
    → names_after b list (t ∷ turns ++ more) text ≡ names_after b list (t ∷ turns) text
names_same b list t [] more text enough =
    same_behind 0 (with_name b list text) (go_on more) (go_on []) (name_left 0 b list text enough)
    (λ longer fewer. same_by (begins 44 (past_blanks longer.1))
    (names_after false longer.0 more (past_blanks (behind_first (past_blanks longer.1))))
    (Ok (longer.0, past_blanks longer.1))
    (names_after false longer.0 [] (past_blanks (behind_first (past_blanks longer.1))))
    (Ok (longer.0, past_blanks longer.1))
    (λ is. absurd (no_comma longer.1 is fewer)) (λ is. refl))
names_same b list t (u ∷ turns) more text enough =
    same_behind (suc (length turns)) (with_name b list text) (go_on (u ∷ turns ++ more))
    (go_on (u ∷ turns))
    (name_left (suc (length turns)) b list text enough)
    (λ longer fewer. same_by (begins 44 (past_blanks longer.1))
    (names_after false longer.0 (u ∷ turns ++ more)
    (past_blanks (behind_first (past_blanks longer.1))))
    (Ok (longer.0, past_blanks longer.1))
    (names_after false longer.0 (u ∷ turns) (past_blanks (behind_first (past_blanks longer.1))))
    (Ok (longer.0, past_blanks longer.1))
    (λ is. names_same false longer.0 u turns more
    (past_blanks (behind_first (past_blanks longer.1)))
    (behind_comma (suc (length turns)) longer.1 is (omega (arith, fewer))))
    (λ is. refl))

pub names_turns : MoreTurnsReadTheSameNames
names_turns b list t turns more text enough = names_same b list t turns more text enough

abbrev names_with : Bool → List ℕ → List ℕ → Read NamedList
names_with b more start = names_after b no_names (start ++ more) start

pub list_turns : MoreTurnsReadTheSameList
list_turns b more text =
    same_from (value_start text) (names_with b more) (λ start. names_after b no_names start start)
    (value_begins text)
    (λ c cs. names_same b no_names c cs more (c ∷ cs) (omega arith))

-- What is left behind a list.

names_left : (n : ℕ) (b : Bool) (list : NamedList) (turns text : List ℕ) → length text ≤ n
    → Leaves n (names_after b list turns text)
names_left n b list [] text most = most
names_left n b list (t ∷ turns) text most =
    left_behind n n (with_name b list text) (go_on turns)
    (name_left n b list text (omega (arith, most)))
    (λ longer fewer.
    let blanks = blanks_shorter longer.1 in
    let first = first_left (past_blanks longer.1) in
    let further = blanks_shorter (behind_first (past_blanks longer.1)) in
    left_if n (begins 44 (past_blanks longer.1))
    (names_after false longer.0 turns (past_blanks (behind_first (past_blanks longer.1))))
    (Ok (longer.0, past_blanks longer.1))
    (λ is. names_left n false longer.0 turns (past_blanks (behind_first (past_blanks longer.1)))
    (omega (arith, blanks, first, further, fewer)))
    (λ is. omega (arith, blanks, fewer)))

pub list_left : (n : ℕ) (b : Bool) (text : List ℕ) → length text ≤ n → Leaves n (list_value b text)
list_left n b text most =
    left_from n n (value_start text) (λ start. names_after b no_names start start)
    (value_start_left n text most)
    (λ start fewer. names_left n b no_names start start fewer)
