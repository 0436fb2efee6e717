-- A run is the front of its text, and what follows it the rest.
use Rattle.std.proofs.Common.{◌≡◌, ℕ, true, false, List, [], ◌∷◌, cond, length, take, drop, refl, ap}
use Rattle.word_reader.specs.declared.words.Until.{Until}
use Rattle.word_reader.specs.Words.{past, run, stops}

pub front_is_run : (until : Until) (text : List ℕ) → take (length (run until text)) text ≡ run until text
front_is_run until [] = refl
front_is_run until (c ∷ text) =
    elim (stops until c) as (λ b. take (length (cond b [] (c ∷ run until text))) (c ∷ text) ≡ cond b [] (c ∷ run until text))
    [ true ↦ refl | false ↦ ap (λ cs. c ∷ cs) (front_is_run until text) ]

pub rest_is_past : (until : Until) (text : List ℕ) → drop (length (run until text)) text ≡ past until text
rest_is_past until [] = refl
rest_is_past until (c ∷ text) =
    elim (stops until c) as (λ b. drop (length (cond b [] (c ∷ run until text))) (c ∷ text) ≡ cond b (c ∷ text) (past until text))
    [ true ↦ refl | false ↦ rest_is_past until text ]
