-- Where a collection ends: the walk along its characters finds the first place that may end it.
use Rattle.std.proofs.Common.{◌≡◌, ℕ, zero, suc, ◌+◌, ◌-◌, ◌<◌, ◌≤◌, length, drop, get_or, List, [], ◌∷◌, ◌++◌, Bool, true, false, Some, None, refl, ap, sym, ◌∙◌, subst, arith, ◌⊎◌, inl, inr}
use Rattle.std.specs.Prelude.{Option, nat_eq, ◌&&◌, not, if◌then◌else◌, MatchOption}
use Rattle.std.proofs.lemmas.List.{get_or-drop, drop-drop}
use Rattle.std.proofs.lemmas.Bool.{eqb-true, cases_lt}
use Rattle.pattern_items.specs.declared.class_names.ClassName.{ClassName}
use Rattle.pattern_items.specs.ClassNames.{word, name_at}
use Rattle.pattern_items.specs.Collection.{taken_along, closing, one_if_any, name_len, past_bracket, collection_len, collection_end, end_at, end_from}
use Rattle.pattern_items.specs.ClosingBracket.{stands, is_taken, behind, inside, BeginsName, MayEnd, Ends, HasNoEnd}
use Rattle.pattern_items.proofs.NameLaws.{named_text, word_without, has_bracket, word_ends}

-- Characters at places.

char_at : (text : List ℕ) (p c : ℕ) (cs : List ℕ) → drop p text ≡ c ∷ cs → get_or text p 0 ≡ c
char_at text p c cs e =
    let same : p ≡ p + 0 = omega arith in
    ap (λ n. get_or text n 0) same ∙ sym (get_or-drop p text 0 0) ∙ ap (λ l. get_or l 0 0) e

drop_next : (text : List ℕ) (p c : ℕ) (cs : List ℕ) → drop p text ≡ c ∷ cs → drop (suc p) text ≡ cs
drop_next text p c cs e =
    let one : suc p ≡ p + 1 = omega arith in
    ap (λ n. drop n text) one ∙ sym (drop-drop 1 p text) ∙ ap (λ l. drop 1 l) e

-- past the end
nothing_past : (text : List ℕ) (p place : ℕ) → drop p text ≡ [] → p ≤ place → get_or text place 0 ≡ 93 → ⊥
nothing_past text p place e far h =
    let same : place ≡ p + (place - p) = omega arith in
    let none : get_or text place 0 ≡ 0 = ap (λ n. get_or text n 0) same ∙ sym (get_or-drop p text (place - p) 0) ∙ ap (λ l. get_or l (place - p) 0) e in
    let bad : ◌≡◌ {A = ℕ} 0 93 = sym none ∙ h in
    omega arith

and_false : (b : Bool) → (b && false) ≡ false
and_false true = refl
and_false false = refl

-- one place more
last_of : (a b : ℕ) → a < suc b → (a < b) ⊎ (a ≡ b)
last_of a b h = by_order (cases_lt a b)
  where
    by_order : (a < b) ⊎ (b ≤ a) → (a < b) ⊎ (a ≡ b)
    by_order (inl k) = inl k
    by_order (inr k) = inr (omega arith)

no_bracket : (w : List ℕ) (j : ℕ) → has_bracket w ≡ false → get_or w j 0 ≡ 91 → ⊥
no_bracket [] j e h = let bad : ◌≡◌ {A = ℕ} 0 91 = h in omega arith
no_bracket (c ∷ cs) zero e h = by_test (nat_eq c 91) refl e
  where
    by_test : (b : Bool) → nat_eq c 91 ≡ b → (if b then true else has_bracket cs) ≡ false → ⊥
    by_test true f g = cc
    by_test false f g = let is : nat_eq c 91 ≡ true = ap (λ n. nat_eq n 91) h in cc
no_bracket (c ∷ cs) (suc j) e h = by_test (nat_eq c 91) e (λ g. no_bracket cs j g h)
  where
    by_test : (b : Bool) → (if b then true else has_bracket cs) ≡ false → (has_bracket cs ≡ false → ⊥) → ⊥
    by_test true g rest = cc
    by_test false g rest = rest g

get_or_front : (w r : List ℕ) (j : ℕ) → j < length w → get_or (w ++ r) j 0 ≡ get_or w j 0
get_or_front [] r j h = absurd (omega arith)
get_or_front (c ∷ cs) r zero h = refl
get_or_front (c ∷ cs) r (suc j) h = get_or_front cs r j (omega arith)

-- a character of a name
in_word : (text : List ℕ) (p : ℕ) (name : ClassName) (j : ℕ) → name_at (drop (suc p) text) ≡ Some name → j < length (word name) →
    get_or text (suc p + j) 0 ≡ get_or (word name) j 0
in_word text p name j e h =
    sym (get_or-drop (suc p) text j 0) ∙ ap (λ l. get_or l j 0) (named_text (drop (suc p) text) name e)
    ∙ get_or_front (word name) (drop (length (word name)) (drop (suc p) text)) j h

module _ (text : List ℕ) (at : ℕ) where
  -- nothing before this place may end the collection, and it is neither taken along nor in a name
  record Walk (here : ℕ) : Type 0 where
    reached : inside text at ≤ here
    free : is_taken text here ≡ false
    clear : (start : ℕ) (name : ClassName) → BeginsName text (inside text at) start name → start < here → start + length (word name) < here
    passed : (place : ℕ) → place < here → MayEnd text at place → ⊥

  begins_at : (start p : ℕ) (name : ClassName) → start ≡ p → BeginsName text (inside text at) start name → BeginsName text (inside text at) p name
  begins_at start p name e b = subst (λ s. BeginsName text (inside text at) s name) e b

  end_at_place : (place p : ℕ) → place ≡ p → MayEnd text at place → MayEnd text at p
  end_at_place place p e m = subst (λ s. MayEnd text at s) e m

  -- past a character that stands for itself
  past_plain : (p : ℕ) → Walk p → (get_or text p 0 ≡ 93 → ⊥) → stands text p 92 ≡ false → ((name : ClassName) → BeginsName text (inside text at) p name → ⊥) → Walk (suc p)
  past_plain p w other plain none = record {
    reached = let r = w.reached in omega arith;
    free = ap (λ b. b && not (is_taken text p)) plain;
    clear = λ start name b h. clears start name b (last_of start p h);
    passed = λ place h m. passes place m (last_of place p h);
  }
    where
      clears : (start : ℕ) (name : ClassName) → BeginsName text (inside text at) start name → (start < p) ⊎ (start ≡ p) → start + length (word name) < suc p
      clears start name b (inl h) = let k = w.clear start name b h in omega arith
      clears start name b (inr e) = absurd (none name (begins_at start p name e b))

      passes : (place : ℕ) → MayEnd text at place → (place < p) ⊎ (place ≡ p) → ⊥
      passes place m (inl h) = w.passed place h m
      passes place m (inr e) = let k = end_at_place place p e m in other k.bracket

  -- past a backslash and the character that it takes along
  past_backslash : (p : ℕ) → Walk p → get_or text p 0 ≡ 92 → Walk (suc (suc p))
  past_backslash p w slash = record {
    reached = let r = w.reached in omega arith;
    free = ap (λ b. stands text (suc p) 92 && not b) taken ∙ and_false (stands text (suc p) 92);
    clear = λ start name b h. clears start name b (last_of start (suc p) h);
    passed = λ place h m. passes place m (last_of place (suc p) h);
  }
    where
      here : stands text p 92 ≡ true
      here = ap (λ c. nat_eq c 92) slash

      taken : is_taken text (suc p) ≡ true
      taken = ap (λ b. b && not (is_taken text p)) here ∙ ap (λ b. not b) (w.free)

      clears_here : (start : ℕ) (name : ClassName) → BeginsName text (inside text at) start name → (start < p) ⊎ (start ≡ p) → start + length (word name) < suc (suc p)
      clears_here start name b (inl h) = let k = w.clear start name b h in omega arith
      clears_here start name b (inr e) = let k = begins_at start p name e b in let bad : ◌≡◌ {A = ℕ} 92 91 = sym slash ∙ k.bracket in absurd (omega arith)

      clears : (start : ℕ) (name : ClassName) → BeginsName text (inside text at) start name → (start < suc p) ⊎ (start ≡ suc p) → start + length (word name) < suc (suc p)
      clears start name b (inl h) = clears_here start name b (last_of start p h)
      clears start name b (inr e) = let k = begins_at start (suc p) name e b in let bad : true ≡ false = sym taken ∙ k.free in absurd (cc)

      passes_here : (place : ℕ) → MayEnd text at place → (place < p) ⊎ (place ≡ p) → ⊥
      passes_here place m (inl h) = w.passed place h m
      passes_here place m (inr e) = let k = end_at_place place p e m in let bad : ◌≡◌ {A = ℕ} 92 93 = sym slash ∙ k.bracket in omega arith

      passes : (place : ℕ) → MayEnd text at place → (place < suc p) ⊎ (place ≡ suc p) → ⊥
      passes place m (inl h) = passes_here place m (last_of place p h)
      passes place m (inr e) = let k = end_at_place place (suc p) e m in let bad : true ≡ false = sym taken ∙ k.free in cc

  -- past a class name
  past_name : (p : ℕ) (name : ClassName) → Walk p → get_or text p 0 ≡ 91 → name_at (drop (suc p) text) ≡ Some name → Walk (suc p + length (word name))
  past_name p name w bracket named = record {
    reached = let r = w.reached in omega arith;
    free = ends;
    clear = λ start other b h. clears start other b (cases_lt start p) h;
    passed = λ place h m. passes place m h (cases_lt place p);
  }
    where
      begins : BeginsName text (inside text at) p name
      begins = record { within = w.reached; bracket = bracket; free = w.free; named = named }

      long : 0 < length (word name)
      long = (word_ends name).0

      last : suc p + length (word name) ≡ suc (suc p + (length (word name) - 1))
      last = let h = long in omega arith

      short : length (word name) - 1 < length (word name)
      short = let h = long in omega arith

      closes : get_or text (suc p + (length (word name) - 1)) 0 ≡ 93
      closes = in_word text p name (length (word name) - 1) named short ∙ (word_ends name).1

      ends : is_taken text (suc p + length (word name)) ≡ false
      ends = ap (λ n. is_taken text n) last ∙ ap (λ b. nat_eq b 92 && not (is_taken text (suc p + (length (word name) - 1)))) closes

      same_name : (other : ClassName) → BeginsName text (inside text at) p other → name ≡ other
      same_name other b = let e : Some name ≡ Some other = sym named ∙ b.named in cc

      inner : (start : ℕ) (other : ClassName) → BeginsName text (inside text at) start other → p < start → start < suc p + length (word name) → ⊥
      inner start other b h k =
          let j : start ≡ suc p + (start - suc p) = omega arith in
          let few : start - suc p < length (word name) = omega arith in
          no_bracket (word name) (start - suc p) (word_without name)
          (sym (in_word text p name (start - suc p) named few) ∙ ap (λ n. get_or text n 0) (sym j) ∙ b.bracket)

      from_here : (start : ℕ) (other : ClassName) → BeginsName text (inside text at) start other → start < suc p + length (word name) → (p < start) ⊎ (start ≤ p) → p ≤ start →
          start + length (word other) < suc p + length (word name)
      from_here start other b h (inl k) far = absurd (inner start other b k h)
      from_here start other b h (inr k) far =
          let e : start ≡ p = omega arith in
          let n : name ≡ other = same_name other (begins_at start p other e b) in
          let l : length (word name) ≡ length (word other) = ap (λ x. length (word x)) n in
          omega arith

      clears : (start : ℕ) (other : ClassName) → BeginsName text (inside text at) start other → (start < p) ⊎ (p ≤ start) → start < suc p + length (word name) → start + length (word other) < suc p + length (word name)
      clears start other b (inl h) k = let r = w.clear start other b h in omega arith
      clears start other b (inr h) k = from_here start other b k (cases_lt p start) h

      behind_here : (place : ℕ) → MayEnd text at place → place < suc p + length (word name) → (p < place) ⊎ (place ≤ p) → p ≤ place → ⊥
      behind_here place m h (inl k) far = m.no_name (p, name, begins, k, (let r : place ≤ p + length (word name) = omega arith in r))
      behind_here place m h (inr k) far =
          let e : place ≡ p = omega arith in
          let k = end_at_place place p e m in let bad : ◌≡◌ {A = ℕ} 91 93 = sym bracket ∙ k.bracket in omega arith

      passes : (place : ℕ) → MayEnd text at place → place < suc p + length (word name) → (place < p) ⊎ (p ≤ place) → ⊥
      passes place m h (inl k) = w.passed place k m
      passes place m h (inr k) = behind_here place m h (cases_lt p place) k

  -- what the walk finds from a place on, where `n` characters have been counted
  Answer : ℕ → ℕ → Option ℕ → Type 0
  Answer n p None = (place : ℕ) → MayEnd text at place → ⊥
  Answer n p (Some m) = (e : ℕ) × (m + p ≡ n + e + 1) × MayEnd text at e × ((before : ℕ) → before < e → MayEnd text at before → ⊥)

  shift : (n p : ℕ) (o : Option ℕ) → Answer (n + 1) (suc p) o → Answer n p o
  unfolding Answer
  shift n p None a = a
  shift n p (Some m) a = let e : m + suc p ≡ n + 1 + a.0 + 1 = a.1 in (a.0, (let f : m + p ≡ n + a.0 + 1 = omega arith in f), a.2, a.3)

  -- nothing is left
  at_end : (f p : ℕ) → drop p text ≡ [] → p ≤ f → Walk f → (place : ℕ) → MayEnd text at place → ⊥
  at_end f p e far w place m = by_order (cases_lt place f)
    where
      by_order : (place < f) ⊎ (f ≤ place) → ⊥
      by_order (inl h) = w.passed place h m
      by_order (inr h) = nothing_past text p place e (omega arith) m.bracket

  -- nothing is left behind a backslash
  at_slash : (p : ℕ) → drop (suc p) text ≡ [] → get_or text p 0 ≡ 92 → Walk p → (place : ℕ) → MayEnd text at place → ⊥
  at_slash p e slash w place m = by_order (cases_lt place (suc p))
    where
      by_place : (place < p) ⊎ (place ≡ p) → ⊥
      by_place (inl h) = w.passed place h m
      by_place (inr h) = let k = end_at_place place p h m in let bad : ◌≡◌ {A = ℕ} 92 93 = sym slash ∙ k.bracket in omega arith

      by_order : (place < suc p) ⊎ (suc p ≤ place) → ⊥
      by_order (inl h) = by_place (last_of place p h)
      by_order (inr h) = nothing_past text (suc p) place e h m.bracket

  found : (n p c : ℕ) (cs : List ℕ) → drop p text ≡ c ∷ cs → nat_eq c 93 ≡ true → Walk p → Answer n p (Some (n + 1))
  unfolding Answer
  found n p c cs e t w = (
    p,
    omega arith,
    record {
      behind_front = w.reached;
      bracket = char_at text p c cs e ∙ eqb-true c 93 t;
      free = w.free;
      no_name = λ h. let k = w.clear h.0 h.1 h.2 h.3 in let l = h.4 in omega arith;
    },
    w.passed,
  )

  -- one character that closes nothing, with those that it takes along
  step : (n p c : ℕ) (cs : List ℕ) → drop p text ≡ c ∷ cs → nat_eq c 93 ≡ false → Walk p →
      ((k f : ℕ) → suc p + k ≡ f → Walk f → Answer (n + 1) (suc p) (closing k (n + 1) cs)) →
      (slash bracket : Bool) (o : Option ClassName) → nat_eq c 92 ≡ slash → nat_eq c 91 ≡ bracket → name_at cs ≡ o →
      Answer n p (closing (if slash then one_if_any cs else if bracket then name_len o else 0) (n + 1) cs)
  unfolding Answer
  step n p c [] e other w rec true bracket o s b named = at_slash p (drop_next text p c [] e) (char_at text p c [] e ∙ eqb-true c 92 s) w
  step n p c (d ∷ ds) e other w rec true bracket o s b named =
      shift n p (closing 1 (n + 1) (d ∷ ds)) (rec 1 (suc (suc p)) (omega arith) (past_backslash p w (char_at text p c (d ∷ ds) e ∙ eqb-true c 92 s)))
  step n p c cs e other w rec false true None s b named =
      shift n p (closing 0 (n + 1) cs) (rec 0 (suc p) (omega arith) (past_plain p w not_end plain no_name))
    where
      here : get_or text p 0 ≡ c
      here = char_at text p c cs e

      not_end : get_or text p 0 ≡ 93 → ⊥
      not_end h = let is : nat_eq c 93 ≡ true = ap (λ x. nat_eq x 93) (sym here ∙ h) in cc

      plain : stands text p 92 ≡ false
      plain = ap (λ x. nat_eq x 92) here ∙ s

      no_name : (name : ClassName) → BeginsName text (inside text at) p name → ⊥
      no_name name k = let bad : None ≡ Some name = sym named ∙ ap name_at (sym (drop_next text p c cs e)) ∙ k.named in cc
  step n p c cs e other w rec false true (Some known) s b named =
      shift n p (closing (length (word known)) (n + 1) cs) (rec (length (word known)) (suc p + length (word known)) refl
      (past_name p known w (char_at text p c cs e ∙ eqb-true c 91 b) (ap name_at (drop_next text p c cs e) ∙ named)))
  step n p c cs e other w rec false false o s b named =
      shift n p (closing 0 (n + 1) cs) (rec 0 (suc p) (omega arith) (past_plain p w not_end plain no_name))
    where
      here : get_or text p 0 ≡ c
      here = char_at text p c cs e

      not_end : get_or text p 0 ≡ 93 → ⊥
      not_end h = let is : nat_eq c 93 ≡ true = ap (λ x. nat_eq x 93) (sym here ∙ h) in cc

      plain : stands text p 92 ≡ false
      plain = ap (λ x. nat_eq x 92) here ∙ s

      no_name : (name : ClassName) → BeginsName text (inside text at) p name → ⊥
      no_name this k = let is : nat_eq c 91 ≡ true = ap (λ x. nat_eq x 91) (sym here ∙ k.bracket) in cc

  first_test : (n p c : ℕ) (cs : List ℕ) (b : Bool) → nat_eq c 93 ≡ b → drop p text ≡ c ∷ cs → Walk p →
      (nat_eq c 93 ≡ false → Answer n p (closing (taken_along c cs) (n + 1) cs)) →
      Answer n p (elim b [ true ↦ Some (n + 1) | false ↦ closing (taken_along c cs) (n + 1) cs ])
  first_test n p c cs true t e w rest = found n p c cs e t w
  first_test n p c cs false t e w rest = rest t

  walk : (cs : List ℕ) (k n p f : ℕ) → drop p text ≡ cs → p + k ≡ f → Walk f → Answer n p (closing k n cs)
  unfolding Answer
  walk [] k n p f e far w = at_end f p e (omega arith) w
  walk (c ∷ cs) (suc k) n p f e far w = shift n p (closing k (n + 1) cs) (walk cs k (n + 1) (suc p) f (drop_next text p c cs e) (omega arith) w)
  walk (c ∷ cs) zero n p f e far w =
      let here : Walk p = subst (λ q. Walk q) (let g : f ≡ p = omega arith in g) w in
      first_test n p c cs (nat_eq c 93) refl e here
      (λ other. step n p c cs e other here (λ k g at_g v. walk cs k (n + 1) (suc p) g (drop_next text p c cs e) at_g v) (nat_eq c 92) (nat_eq c 91) (name_at cs) refl refl refl)

  -- the walk begins inside of the collection
  free_behind : (c p : ℕ) → nat_eq c 92 ≡ false → is_taken text p ≡ false → is_taken text (behind text c p) ≡ false
  free_behind c p other free = by_test (stands text p c) refl
    where
      by_test : (b : Bool) → stands text p c ≡ b → is_taken text (if b then suc p else p) ≡ false
      by_test true t = ap (λ x. nat_eq x 92 && not (is_taken text p)) (eqb-true (get_or text p 0) c t) ∙ ap (λ b. b && not (is_taken text p)) other
      by_test false t = free

  begins_walk : get_or text at 0 ≡ 91 → Walk (inside text at)
  begins_walk bracket = record {
    reached = omega arith;
    free = free_behind 93 (behind text 94 (suc at)) refl (free_behind 94 (suc at) refl (ap (λ x. nat_eq x 92 && not (is_taken text at)) bracket));
    clear = λ start name b h. absurd (let k = b.within in omega arith);
    passed = λ place h m. let k = m.behind_front in omega arith;
  }

  -- behind the caret
  from_front : (n p : ℕ) (cs : List ℕ) → drop p text ≡ cs → behind text 93 p ≡ inside text at → Walk (inside text at) → Answer n p (past_bracket n cs)
  unfolding Answer
  from_front n p [] e f w = at_end (inside text at) p e far w
    where
      by_test : (b : Bool) → p ≤ (if b then suc p else p)
      by_test true = omega arith
      by_test false = omega arith

      far : p ≤ inside text at
      far = subst (λ x. p ≤ x) f (by_test (stands text p 93))
  from_front n p (c ∷ cs) e f w = by_test (nat_eq c 93) (ap (λ x. nat_eq x 93) (char_at text p c cs e)) f
    where
      by_test : (b : Bool) → stands text p 93 ≡ b → behind text 93 p ≡ inside text at → Answer n p (if b then closing 0 (n + 1) cs else closing 0 n (c ∷ cs))
      by_test true t g =
          let there : suc p ≡ inside text at = sym (ap (λ b. if b then suc p else p) t) ∙ g in
          shift n p (closing 0 (n + 1) cs) (walk cs 0 (n + 1) (suc p) (inside text at) (drop_next text p c cs e) (omega arith) w)
      by_test false t g =
          let there : p ≡ inside text at = sym (ap (λ b. if b then suc p else p) t) ∙ g in
          walk (c ∷ cs) 0 n p (inside text at) e (omega arith) w

  -- behind the collection's bracket
  from_bracket : (cs : List ℕ) → drop (suc at) text ≡ cs → get_or text at 0 ≡ 91 → Answer 0 (suc at) (collection_len cs)
  unfolding Answer
  from_bracket [] e bracket = at_end (inside text at) (suc at) e far (begins_walk bracket)
    where
      further : (c p q : ℕ) (b : Bool) → q ≤ p → q ≤ (if b then suc p else p)
      further c p q true h = omega arith
      further c p q false h = h

      far : suc at ≤ inside text at
      far = further 93 (behind text 94 (suc at)) (suc at) (stands text (behind text 94 (suc at)) 93) (further 94 (suc at) (suc at) (stands text (suc at) 94) (omega arith))
  from_bracket (c ∷ cs) e bracket = by_test (nat_eq c 94) (ap (λ x. nat_eq x 94) (char_at text (suc at) c cs e))
    where
      by_test : (b : Bool) → stands text (suc at) 94 ≡ b → Answer 0 (suc at) (if b then past_bracket 1 cs else past_bracket 0 (c ∷ cs))
      by_test true t =
          shift 0 (suc at) (past_bracket 1 cs) (from_front 1 (suc (suc at)) cs (drop_next text (suc at) c cs e)
          (ap (λ b. behind text 93 (if b then suc (suc at) else suc at)) (sym t)) (begins_walk bracket))
      by_test false t =
          from_front 0 (suc at) (c ∷ cs) e (ap (λ b. behind text 93 (if b then suc (suc at) else suc at)) (sym t)) (begins_walk bracket)

  to_end : (o : Option ℕ) → get_or text at 0 ≡ 91 → Answer 0 (suc at) o → MatchOption (end_from at o) (HasNoEnd text at) (λ e. Ends text at e)
  unfolding Answer
  to_end None bracket a = λ opens. a
  to_end (Some len) bracket a =
      let there : len + suc at ≡ 0 + a.0 + 1 = a.1 in
      let same : a.0 ≡ at + len = omega arith in
      subst (λ e. Ends text at e) same (record { opens = bracket; may_end = a.2; first = a.3 })

  at_character : (cs : List ℕ) → drop at text ≡ cs → MatchOption (end_at at cs) (HasNoEnd text at) (λ e. Ends text at e)
  at_character [] e = λ opens. absurd (no_char opens)
    where
      no_char : get_or text at 0 ≡ 91 → ⊥
      no_char h =
          let same : at ≡ at + 0 = omega arith in
          let none : get_or text at 0 ≡ 0 = ap (λ n. get_or text n 0) same ∙ sym (get_or-drop at text 0 0) ∙ ap (λ l. get_or l 0 0) e in
          let bad : ◌≡◌ {A = ℕ} 0 91 = sym none ∙ h in
          omega arith
  at_character (c ∷ cs) e = by_test (nat_eq c 91) refl
    where
      by_test : (b : Bool) → nat_eq c 91 ≡ b → MatchOption (if b then end_from at (collection_len cs) else None) (HasNoEnd text at) (λ e. Ends text at e)
      by_test true t = to_end (collection_len cs) (char_at text at c cs e ∙ eqb-true c 91 t) (from_bracket cs (drop_next text at c cs e) (char_at text at c cs e ∙ eqb-true c 91 t))
      by_test false t = λ opens. let is : nat_eq c 91 ≡ true = ap (λ x. nat_eq x 91) (sym (char_at text at c cs e) ∙ opens) in absurd (cc)

-- a collection ends at the first place that may end it
pub end_answers : (text : List ℕ) (at : ℕ) → MatchOption (collection_end text at) (HasNoEnd text at) (λ e. Ends text at e)
end_answers text at = at_character text at (drop at text) refl
