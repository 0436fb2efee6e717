-- Runs over files, one after the other.
use Rattle.std.proofs.Common.{◌≡◌, ◌≤◌, ◌<◌, ℕ, suc, List, [], ◌∷◌, ◌++◌, refl, ap, ◌∙◌, arith, Some, None, Ok, Err, false}
use Rattle.std.proofs.lemmas.Bool.Decides.{nat_tests}
use Rattle.std.specs.Prelude.{Option, Result, nat_eq, if◌then◌else◌}
use Rattle.syn_base.specs.Outside.{FileMap}
use Rattle.syn_base.specs.declared.outside.Fetched.TheVariants.{Failed}
use Rattle.syn_reader.specs.declared.includes.Progress.{Progress}
use Rattle.syn_reader.specs.declared.syntax.ReadError.{ReadError}
use Rattle.syn_reader.specs.declared.syntax.ReadError.TheVariants as error
use Rattle.syn_reader.specs.Answers.{◌>>=◌, each}
use Rattle.syn_reader.specs.SyntaxOf.{Answer, Fetching, told_by, failing_at}
use Rattle.syn_reader.specs.Follows.{Agrees, Follows, Reads}

-- the answers of the files agree with themselves
pub told_agrees : (files : FileMap) (last : ℕ) → Agrees files last (told_by files)
told_agrees files last number name within = refl

other_number : (n number : ℕ) → n < number → nat_eq n number ≡ false
other_number n number less = grind (arith, nat_tests)

-- so do those in which a later fetch fails
pub failing_agrees : (files : FileMap) (last number : ℕ) → suc last ≤ number → Agrees files last (failing_at number (told_by files))
failing_agrees files last number later n name within =
    let less : n < number = omega arith in
    ap (λ b. if b then Failed else told_by files n name) (other_number n number less)

agrees_before : (files : FileMap) (first last : ℕ) (fetch : Fetching) → first ≤ last → Agrees files last fetch → Agrees files first fetch
agrees_before files first last fetch less agrees n name within = agrees n name (omega arith)

module _ (files : FileMap) (first : ℕ) (one : Fetching → Answer) (two : Fetching → Progress → Answer) where
  -- a run behind one that went well
  pub then_follows : (mid left : Progress) (x : Unit {0}) (result : Result (Unit {0}) ReadError) → Follows files first one mid (Ok x)
      → Follows files (suc mid.includes) (λ fetch. two fetch mid) left result → Follows files first (λ fetch. one fetch >>= two fetch) left result
  then_follows mid left x (Ok y) h k = (
    (let a = h.0 in let b = k.0 in omega arith),
    λ fetch agrees.
        ap (λ r. r >>= two fetch) (h.1 fetch (agrees_before files mid.includes left.includes fetch (let b = k.0 in omega arith) agrees))
        ∙ k.1 fetch agrees,
  )
  then_follows mid left x (Err (error.Refused file line c)) h k = ap (λ r. r >>= two (told_by files)) (h.1 (told_by files) (told_agrees files mid.includes)) ∙ k
  then_follows mid left x (Err (error.Missing file line name)) h k = ap (λ r. r >>= two (told_by files)) (h.1 (told_by files) (told_agrees files mid.includes)) ∙ k
  then_follows mid left x (Err (error.FileFault file line name)) h k = (
    k.0,
    (let a = h.0 in let b = k.1 in omega arith),
    ap (λ r. r >>= two (failing_at k.0 (told_by files))) (h.1 (failing_at k.0 (told_by files)) (failing_agrees files mid.includes k.0 k.1)) ∙ k.2,
  )
  then_follows mid left x (Err error.Memory) h k = tt

  -- a run that ends with an error ends the whole
  pub ends_follows : (left other : Progress) (e : ReadError) → Follows {A = Unit {0}} files first one left (Err e)
      → Follows {A = Unit {0}} files first (λ fetch. one fetch >>= two fetch) other (Err e)
  ends_follows left other (error.Refused file line c) h = ap (λ r. r >>= two (told_by files)) h
  ends_follows left other (error.Missing file line name) h = ap (λ r. r >>= two (told_by files)) h
  ends_follows left other (error.FileFault file line name) h = (h.0, h.1, ap (λ r. r >>= two (failing_at h.0 (told_by files))) h.2)
  ends_follows left other error.Memory h = tt

-- the same where the files are told

module _ (first : ℕ) (one : Fetching → Answer) (two : Fetching → Progress → Answer) where
  pub then_reads : (told : Option FileMap) (mid left : Progress) (x : Unit {0}) (result : Result (Unit {0}) ReadError) → Reads told first one mid (Ok x)
      → Reads told (suc mid.includes) (λ fetch. two fetch mid) left result → Reads told first (λ fetch. one fetch >>= two fetch) left result
  then_reads None mid left x result h k = tt
  then_reads (Some files) mid left x result h k = then_follows files first one two mid left x result h k

  pub ends_reads : (told : Option FileMap) (left other : Progress) (e : ReadError) → Reads {A = Unit {0}} told first one left (Err e)
      → Reads {A = Unit {0}} told first (λ fetch. one fetch >>= two fetch) other (Err e)
  ends_reads None left other e h = tt
  ends_reads (Some files) left other e h = ends_follows files first one two left other e h

module _ {S X E : Type 0} (step : S → X → Result S E) where
  ends : (r : Result S E) → (r >>= λ t. Ok t) ≡ r
  ends (Ok t) = refl
  ends (Err e) = refl

  further : (ys : List X) (x : X) → ((t : S) → each step t (ys ++ x ∷ []) ≡ (each step t ys >>= λ u. step u x)) → (r : Result S E)
      → (r >>= λ t. each step t (ys ++ x ∷ [])) ≡ ((r >>= λ t. each step t ys) >>= λ u. step u x)
  further ys x h (Ok t) = h t
  further ys x h (Err e) = refl

  -- one step more at the end
  pub each_push : (s : S) (xs : List X) (x : X) → each step s (xs ++ x ∷ []) ≡ (each step s xs >>= λ t. step t x)
  each_push s [] x = ends (step s x)
  each_push s (y ∷ ys) x = further ys x (λ t. each_push t ys x) (step s y)

  -- several steps behind others
  joins : (ys zs : List X) → ((t : S) → each step t (ys ++ zs) ≡ (each step t ys >>= λ u. each step u zs)) → (r : Result S E)
      → (r >>= λ t. each step t (ys ++ zs)) ≡ ((r >>= λ t. each step t ys) >>= λ u. each step u zs)
  joins ys zs h (Ok t) = h t
  joins ys zs h (Err e) = refl

  pub each_append : (s : S) (xs zs : List X) → each step s (xs ++ zs) ≡ (each step s xs >>= λ u. each step u zs)
  each_append s [] zs = refl
  each_append s (y ∷ ys) zs = joins ys zs (λ t. each_append t ys zs) (step s y)
