-- Runs of the commands of a file.
use Rattle.std.proofs.Common.{◌≡◌, ◌≢◌, ◌+◌, ℕ, suc, List, [], ◌∷◌, ◌++◌, refl, ap, sym, subst, ◌∙◌, arith, length, Some, None, Ok, Err}
use Rattle.std.proofs.lemmas.List.{append-nil}
use Rattle.std.specs.Prelude.{Option, Result}
use Rattle.syn_base.specs.Outside.{FileMap}
use Rattle.syn_words.specs.declared.what.What.{What}
use Rattle.syn_words.specs.declared.what.What.TheVariants as what
use Rattle.syn_words.specs.declared.what.Command.{Command}
use Rattle.syn_words.specs.declared.what.WordFault.{WordFault}
use Rattle.syn_reader.specs.declared.includes.Progress.{Progress}
use Rattle.syn_reader.specs.declared.syntax.ReadOptions.{ReadOptions}
use Rattle.syn_reader.specs.declared.syntax.ReadError.{ReadError}
use Rattle.syn_reader.specs.declared.syntax.ReadError.TheVariants as error
use Rattle.syn_reader.specs.Answers.{◌>>=◌, each}
use Rattle.syn_reader.specs.SyntaxOf.{Answer, Fetching, Opening, told_by, failing_at, unless_fault, command_done, effect_done}
use Rattle.syn_reader.specs.Follows.{Does, Follows, Reads, IsFaultOf, HasOtherCauses}
use Rattle.syn_reader.proofs.Runs.{then_reads, ends_reads, each_push, each_append}
use Rattle.syn_reader.proofs.Fetches.{error_reads, does_follows}

-- rules that give the same are followed alike
same_follows : (files : FileMap) (first : ℕ) (rules other : Fetching → Answer) (left : Progress) (result : Result (Unit {0}) ReadError) → ((fetch : Fetching) → rules fetch ≡ other fetch)
    → Follows files first rules left result → Follows files first other left result
same_follows files first rules other left (Ok x) e h = (h.0, λ fetch agrees. sym (e fetch) ∙ h.1 fetch agrees)
same_follows files first rules other left (Err (error.Refused file line c)) e h = sym (e (told_by files)) ∙ h
same_follows files first rules other left (Err (error.Missing file line name)) e h = sym (e (told_by files)) ∙ h
same_follows files first rules other left (Err (error.FileFault file line name)) e h = (h.0, h.1, sym (e (failing_at h.0 (told_by files))) ∙ h.2)
same_follows files first rules other left (Err error.Memory) e h = tt

same_reads : (told : Option FileMap) (first : ℕ) (rules other : Fetching → Answer) (left : Progress) (result : Result (Unit {0}) ReadError) → ((fetch : Fetching) → rules fetch ≡ other fetch)
    → Reads told first rules left result → Reads told first other left result
same_reads None first rules other left result e h = tt
same_reads (Some files) first rules other left result e h = same_follows files first rules other left result e h

-- a run that makes nothing
stays_reads : (told : Option FileMap) (p : Progress) (x : Unit {0}) → Reads told (suc p.includes) (λ fetch. Ok p) p (Ok x)
stays_reads None p x = tt
stays_reads (Some files) p x = (omega arith, λ fetch agrees. refl)

fault_reads : (told : Option FileMap) (file : List ℕ) (fault : Option WordFault) (mid : Progress) (result : Result (Unit {0}) ReadError) → IsFaultOf file fault result → Reads told (suc mid.includes) (λ fetch. unless_fault file fault mid) mid result
fault_reads told file None mid (Ok y) h = stays_reads told mid y
fault_reads told file None mid (Err e) h = absurd h
fault_reads told file (Some fault) mid (Ok y) h = absurd h
fault_reads told file (Some fault) mid (Err e) h = error_reads told (suc mid.includes) mid e (error.Refused file fault.line fault.cause) h.0 h.1

module _ (told : Option FileMap) (first : ℕ) (step : Fetching → Progress → Command → Answer) (from : Progress) where
  -- one command more
  pub more_reads : (mid left : Progress) (ran : List Command) (command : Command) (x : Unit {0}) (result : Result (Unit {0}) ReadError) → Reads told first (λ fetch. each (step fetch) from ran) mid (Ok x)
      → Reads told (suc mid.includes) (λ fetch. step fetch mid command) left result → Reads told first (λ fetch. each (step fetch) from (ran ++ command ∷ [])) left result
  more_reads mid left ran command x result h k =
      same_reads told first (λ fetch. each (step fetch) from ran >>= λ t. step fetch t command) (λ fetch. each (step fetch) from (ran ++ command ∷ [])) left result
      (λ fetch. sym (each_push (step fetch) from ran command))
      (then_reads first (λ fetch. each (step fetch) from ran) (λ fetch t. step fetch t command) told mid left x result h k)

  -- a command that fails
  pub ends_in_reads : (mid left other : Progress) (ran rest all : List Command) (command : Command) (x : Unit {0}) (e : ReadError) (last : Progress → Answer) → ran ++ command ∷ rest ≡ all
      → Reads told first (λ fetch. each (step fetch) from ran) mid (Ok x) → Reads {A = Unit {0}} told (suc mid.includes) (λ fetch. step fetch mid command) left (Err e)
      → Reads {A = Unit {0}} told first (λ fetch. each (step fetch) from all >>= last) other (Err e)
  ends_in_reads mid left other ran rest all command x e last same h k =
      subst (λ l. Reads {A = Unit {0}} told first (λ fetch. each (step fetch) from l >>= last) other (Err e)) same
      (ends_reads first (λ fetch. each (step fetch) from (ran ++ command ∷ rest)) (λ fetch. last) told left other e
      (same_reads told first (λ fetch. each (step fetch) from ran >>= λ u. each (step fetch) u (command ∷ rest)) (λ fetch. each (step fetch) from (ran ++ command ∷ rest)) left (Err e)
      (λ fetch. sym (each_append (step fetch) from ran (command ∷ rest)))
      (then_reads first (λ fetch. each (step fetch) from ran) (λ fetch u. each (step fetch) u (command ∷ rest)) told mid left x (Err e) h
      (ends_reads (suc mid.includes) (λ fetch. step fetch mid command) (λ fetch t. each (step fetch) t rest) told left left e k))))

  -- all commands, and the fault behind them
  pub all_reads : (file : List ℕ) (fault : Option WordFault) (mid : Progress) (ran all : List Command) (x : Unit {0}) (result : Result (Unit {0}) ReadError) → ran ≡ all
      → Reads told first (λ fetch. each (step fetch) from ran) mid (Ok x) → IsFaultOf file fault result
      → Reads told first (λ fetch. each (step fetch) from all >>= unless_fault file fault) mid result
  all_reads file fault mid ran all x result same h k =
      subst (λ l. Reads told first (λ fetch. each (step fetch) from l >>= unless_fault file fault) mid result) same
      (then_reads first (λ fetch. each (step fetch) from ran) (λ fetch. unless_fault file fault) told mid mid x result h (fault_reads told file fault mid result k))

-- no element is left
nothing_left : {X : Type 0} (xs : List X) → length xs ≡ 0 → xs ≡ []
nothing_left [] e = refl
nothing_left (x ∷ xs) e = absurd (omega arith)

pub all_ran : {X : Type 0} (ran rest all : List X) (n : ℕ) → ran ++ rest ≡ all → n ≡ length rest → n ≡ 0 → ran ≡ all
all_ran ran rest all n same count none =
    let e = nothing_left rest (omega arith) in
    sym (append-nil ran) ∙ ap (λ l. ran ++ l) (sym e) ∙ same

pub one_fewer : {X : Type 0} (before after : List X) (x : X) (n m : ℕ) → before ≡ x ∷ after → m + 1 ≡ n → n ≡ length before → m ≡ length after
one_fewer before after x n m same step count = let e : length before ≡ suc (length after) = ap length same in omega arith

-- commands that ask for no file
plain_command : (ask : Opening) (options : ReadOptions) (file : List ℕ) (line : ℕ) (p : Progress) (w : What) → ((name : List ℕ) → w ≢ what.Runtime name) → ((cluster : Option (List ℕ)) (name : List ℕ) → w ≢ what.Include cluster name)
    → command_done ask options file line p w ≡ effect_done options file line p w
plain_command ask options file line p what.Nothing r i = refl
plain_command ask options file line p (what.CaseIgnore ignore) r i = refl
plain_command ask options file line p (what.Iskeyword value) r i = refl
plain_command ask options file line p (what.Item kind group pieces) r i = refl
plain_command ask options file line p (what.Cluster name changes) r i = refl
plain_command ask options file line p (what.Sync fromstart) r i = refl
plain_command ask options file line p what.ClearAll r i = refl
plain_command ask options file line p (what.Clear names) r i = refl
plain_command ask options file line p (what.Link from to unset force) r i = refl
plain_command ask options file line p (what.Style group parts unset) r i = refl
plain_command ask options file line p (what.Runtime name) r i = absurd (r name refl)
plain_command ask options file line p (what.Include cluster name) r i = absurd (i cluster name refl)

effect_follows : (files : FileMap) (p left : Progress) (rules : Answer) (result : Result (Unit {0}) ReadError) → Does result left rules → HasOtherCauses result → left.includes ≡ p.includes
    → Follows files (suc p.includes) (λ _. rules) left result
effect_follows files p left rules (Ok x) h k same = (omega arith, λ fetch agrees. h)
effect_follows files p left rules (Err e) h k same = does_follows files (suc p.includes) rules left left e h k

effect_reads : (told : Option FileMap) (p left : Progress) (rules : Answer) (result : Result (Unit {0}) ReadError) → Does result left rules → HasOtherCauses result → left.includes ≡ p.includes
    → Reads told (suc p.includes) (λ _. rules) left result
effect_reads None p left rules result h k same = tt
effect_reads (Some files) p left rules result h k same = effect_follows files p left rules result h k same

pub plain_reads : (told : Option FileMap) (ask : Fetching → Opening) (options : ReadOptions) (file : List ℕ) (line : ℕ) (w : What) (p left : Progress) (result : Result (Unit {0}) ReadError)
    → ((name : List ℕ) → w ≢ what.Runtime name) → ((cluster : Option (List ℕ)) (name : List ℕ) → w ≢ what.Include cluster name)
    → Does result left (effect_done options file line p w) → HasOtherCauses result → left.includes ≡ p.includes
    → Reads told (suc p.includes) (λ fetch. command_done (ask fetch) options file line p w) left result
plain_reads told ask options file line w p left result r i h k n =
    same_reads told (suc p.includes) (λ _. effect_done options file line p w) (λ fetch. command_done (ask fetch) options file line p w) left result
    (λ fetch. sym (plain_command (ask fetch) options file line p w r i))
    (effect_reads told p left (effect_done options file line p w) result h k n)
