-- What turns change.
use Rattle.std.proofs.Common.{◌≡◌, ℕ, ◌≤◌, Bool, true, false, List, [], ◌∷◌, length, refl, cond}
use Rattle.std.specs.Prelude.{Result, Ok, Err, nat_eq, if◌then◌else◌}
use Rattle.text_scan.specs.Characters.{is_blank, past_blanks}
use Rattle.word_reader.specs.Words.{is_over}
use Rattle.syn_words.specs.declared.cause.Cause.{Cause}
use Rattle.syn_words.specs.declared.cause.Cause.TheVariants.{MissingArgument}
use Rattle.syn_words.specs.Arguments.{value_start, word_start, word_start_at}
use Rattle.syn_words.specs.Answers.{Read, ◌>>=◌}
use Rattle.syn_words.proofs.LeftLaws.{Leaves}

-- two ways to go on that give the same where no more than so much is left
pub same_behind : {A B : Type 0} (n : ℕ) (r : Read A) (f g : A × List ℕ → Read B)
    → Leaves n r → ((p : A × List ℕ) → length p.1 ≤ n → f p ≡ g p) → (r >>= f) ≡ (r >>= g)
same_behind n (Ok p) f g fits same = same p fits
same_behind n (Err c) f g fits same = refl

-- what is found has a character
abbrev pub HasText : Result (List ℕ) Cause → Type 0
HasText (Ok []) = ⊥
HasText (Ok (c ∷ cs)) = Unit {0}
HasText (Err c) = Unit {0}

pub same_from : {B : Type 0} (r : Result (List ℕ) Cause) (f g : List ℕ → Read B)
    → HasText r → ((c : ℕ) (cs : List ℕ) → f (c ∷ cs) ≡ g (c ∷ cs)) → (r >>= f) ≡ (r >>= g)
same_from (Ok []) f g some same = absurd some
same_from (Ok (c ∷ cs)) f g some same = same c cs
same_from (Err c) f g some same = refl

text_by : (b : Bool) (x y : Result (List ℕ) Cause) → HasText x → HasText y → HasText (cond b x y)
text_by true x y p q = p
text_by false x y p q = q

start_begins : (text : List ℕ) → HasText (word_start_at text)
start_begins [] = tt
start_begins (c ∷ cs) = text_by (is_over (c ∷ cs)) (Err MissingArgument) (Ok (c ∷ cs)) tt tt

-- the value behind an equals sign has a character
pub value_begins : (text : List ℕ) → HasText (value_start text)
value_begins [] = tt
value_begins (c ∷ cs) =
    text_by (is_blank c) (word_start cs) (if nat_eq c 124 then Err MissingArgument else Ok (c ∷ cs))
    (start_begins (past_blanks cs))
    (text_by (nat_eq c 124) (Err MissingArgument) (Ok (c ∷ cs)) tt tt)
