-- The turns of a line's commands never run out before the line does.
use Rattle.std.proofs.Common.{◌≡◌, ℕ, suc, ◌≤◌, Bool, true, false, List, [], ◌∷◌, ◌++◌, length}
use Rattle.std.proofs.Common.{refl, arith, cond}
use Rattle.std.specs.Prelude.{Result, Ok, Err, nat_eq, ◌||◌, codes}
use Rattle.text_scan.specs.Characters.{is_blank, past_blanks}
use Rattle.word_reader.specs.declared.words.Until.TheVariants as until
use Rattle.word_reader.specs.Words.{stops}
use Rattle.syn_words.specs.declared.cause.Cause.{Cause}
use Rattle.syn_words.specs.declared.first_words.Said.{Said}
use Rattle.syn_words.specs.declared.file.Guard.{Guard}
use Rattle.syn_words.specs.declared.file.Guard.TheVariants.{Outside, AwaitsFinish, AwaitsEndif}
use Rattle.syn_words.specs.declared.file.Progress.{Progress}
use Rattle.syn_words.specs.Answers.{Read}
use Rattle.syn_words.specs.Commands.{awaited, command}
use Rattle.syn_words.specs.FileCommands.{Reading, by_endif, by_finish, by_said, line_after}
use Rattle.syn_words.specs.FileCommands.{line_is_over, read_by, read_one}
use Rattle.syn_words.specs.Turns.{MoreTurnsReadTheSameCommands}
use Rattle.syn_words.proofs.CommandLeft.{awaited_left, command_left}
use Rattle.syn_words.proofs.LeftLaws.{Leaves, LeavesText, StartsBare, blanks_bare}
use Rattle.syn_words.proofs.WordLaws.{blanks_shorter, same_by}

said_left : (n : ℕ) (p : Progress) (number : ℕ) (r : Read Said) → Leaves n r
    → length (by_said p number r).1 ≤ n
said_left n p number (Ok said) most = most
said_left n p number (Err cause) most = omega arith

finish_left : (n : ℕ) (p : Progress) (opened number : ℕ) (r : Result (List ℕ) Cause)
    → LeavesText n r
    → length (by_finish p opened number r).1 ≤ n
finish_left n p opened number (Ok rest) most = most
finish_left n p opened number (Err cause) most = omega arith

endif_left : (n : ℕ) (p : Progress) (opened number : ℕ) (r : Result (List ℕ) Cause) → LeavesText n r
    → length (by_endif p opened number r).1 ≤ n
endif_left n p opened number (Ok rest) most = most
endif_left n p opened number (Err cause) most = omega arith

by_left : (n : ℕ) (guard : Guard) (p : Progress) (number c : ℕ) (cs : List ℕ)
    → stops until.Word c ≡ false → length (c ∷ cs) ≤ suc n
    → length (read_by guard p number (c ∷ cs)).1 ≤ n
by_left n Outside p number c cs goes most =
    said_left n p number (command (c ∷ cs)) (command_left n c cs goes most)
by_left n (AwaitsFinish opened) p number c cs goes most =
    finish_left n p opened number (awaited (codes "finish") (c ∷ cs))
    (awaited_left n (codes "finish") c cs goes most)
by_left n (AwaitsEndif opened) p number c cs goes most =
    endif_left n p opened number (awaited (codes "endif") (c ∷ cs))
    (awaited_left n (codes "endif") c cs goes most)

neither : (a b : Bool) → a ≡ false → b ≡ false → (a || b) ≡ false
neither true b bare free = absurd cc
neither false b bare free = free

reading_if : (n : ℕ) (b : Bool) (x y : Reading) → (b ≡ true → length x.1 ≤ n)
    → (b ≡ false → length y.1 ≤ n) → length (cond b x y).1 ≤ n
reading_if n true x y p q = p refl
reading_if n false x y p q = q refl

-- a bar is a character, and a command takes one at least
one_left : (n : ℕ) (p : Progress) (number : ℕ) (text : List ℕ) → StartsBare text
    → line_is_over text ≡ false → length text ≤ suc n → length (read_one p number text).1 ≤ n
one_left n p number [] bare begun most = absurd cc
one_left n p number (c ∷ cs) bare begun most =
    reading_if n (nat_eq c 124) (p, cs) (read_by p.guard p number (c ∷ cs))
    (λ is. omega (arith, most))
    (λ is. by_left n p.guard p number c cs (neither (is_blank c) (nat_eq c 124) bare is) most)

pub line_turns : MoreTurnsReadTheSameCommands
line_turns p number [] [] text enough = refl
line_turns p number [] (m ∷ more) [] enough = refl
line_turns p number [] (m ∷ more) (c ∷ cs) enough = absurd (omega (arith, enough))
line_turns p number (t ∷ turns) more text enough =
    let blanks = blanks_shorter text in
    let most : length (past_blanks text) ≤ suc (length turns) = omega (arith, blanks, enough) in
    same_by (line_is_over (past_blanks text)) p
    (line_after (read_one p number (past_blanks text)).0 number (turns ++ more)
    (read_one p number (past_blanks text)).1)
    p
    (line_after (read_one p number (past_blanks text)).0 number turns
    (read_one p number (past_blanks text)).1)
    (λ is. refl)
    (λ is. line_turns (read_one p number (past_blanks text)).0 number turns more
    (read_one p number (past_blanks text)).1
    (one_left (length turns) p number (past_blanks text) (blanks_bare text) is most))
