-- What a search in vain tells of what is left.
use Rattle.std.proofs.Common.{◌≡◌, ℕ, List, [], ◌∷◌, drop, sym, Bool, true, false, subst}
use Rattle.std.specs.Prelude.{nat_eq, ◌&&◌, ◌||◌, if◌then◌else◌}
use Rattle.pattern_items.specs.Vain.{IsVain, Known}
use Rattle.pattern_items.proofs.VainLaws.{vain_drop}
use Rattle.text_scan.specs.Characters.{is_blank, past_blanks}
use Rattle.word_reader.specs.declared.words.Until.{Until}
use Rattle.word_reader.specs.Vain.{Keeps}
use Rattle.word_reader.specs.Words.{behind_first, past, past_command, stops}
pub use Rattle.pattern_items.proofs.VainLaws.{known_behind}

pub known_more : (v : Bool) (c : ℕ) (text more : List ℕ) → text ≡ c ∷ more → Known v (drop 1 text) → Known v more
known_more v c text more front k = subst (λ t. Known v (drop 1 t)) front k

pub known_on : (v : Bool) (text rest : List ℕ) → Keeps text rest → Known v text → Known v rest
known_on true text rest keeps k = keeps k
known_on false text rest keeps k = tt

pub known_end : (v : Bool) → Known v []
known_end true = tt
known_end false = tt

keeps_first : (text : List ℕ) → Keeps text (behind_first text)
keeps_first [] v = v
keeps_first (c ∷ cs) v = v.1

-- what follows some characters
pub keeps_dropped : (n : ℕ) (text rest : List ℕ) → rest ≡ drop n text → Keeps text rest
keeps_dropped n text rest is v = subst IsVain (sym is) (vain_drop n text v)

pub known_first : (v : Bool) (text : List ℕ) → Known v text → Known v (behind_first text)
known_first v text k = known_on v text (behind_first text) (keeps_first text) k

keeps_blanks : (text : List ℕ) → Keeps text (past_blanks text)
keeps_blanks [] v = v
keeps_blanks (c ∷ cs) v = by_test (is_blank c) (keeps_blanks cs v.1)
  where
    by_test : (b : Bool) → IsVain (past_blanks cs) → IsVain (if b then past_blanks cs else c ∷ cs)
    by_test true rest = rest
    by_test false rest = v

pub known_blanks : (v : Bool) (text : List ℕ) → Known v text → Known v (past_blanks text)
known_blanks v text k = known_on v text (past_blanks text) (keeps_blanks text) k

keeps_past : (until : Until) (text : List ℕ) → Keeps text (past until text)
keeps_past until [] v = v
keeps_past until (c ∷ cs) v = by_test (stops until c) (keeps_past until cs v.1)
  where
    by_test : (b : Bool) → IsVain (past until cs) → IsVain (if b then c ∷ cs else past until cs)
    by_test true rest = v
    by_test false rest = rest

pub known_past : (v : Bool) (until : Until) (text : List ℕ) → Known v text → Known v (past until text)
known_past v until text k = known_on v text (past until text) (keeps_past until text) k

keeps_command : (may_begin : Bool) (text : List ℕ) → Keeps text (past_command may_begin text)
keeps_command may_begin [] v = v
keeps_command may_begin (c ∷ cs) v = by_test (nat_eq c 124 || (may_begin && nat_eq c 34)) (keeps_command (is_blank c) cs v.1)
  where
    by_test : (b : Bool) → IsVain (past_command (is_blank c) cs) → IsVain (if b then c ∷ cs else past_command (is_blank c) cs)
    by_test true rest = v
    by_test false rest = rest

pub known_command : (v may_begin : Bool) (text : List ℕ) → Known v text → Known v (past_command may_begin text)
known_command v may_begin text k = known_on v text (past_command may_begin text) (keeps_command may_begin text) k
