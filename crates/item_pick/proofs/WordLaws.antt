-- The items that words start are there, and some choices have none of them.
use Rattle.item_pick.proofs.Common.{◌≡◌, ap, sym, subst, refl, false, ℕ, ◌<◌, Bool, List, [], ◌∷◌, Some, None, Option, option_map, take, drop, ◌-◌, Result, Ok, Err, reverse, IfOk, All, All-append, All-head, All-tail, ItemId, All-filter, All-map, find, list_any, not, same_item, Rules, keyword_at, keyword_to, Choice, admits, is_free}
use Rattle.std.specs.Prelude.{filter}
use Rattle.std.proofs.lemmas.Bool.{and_right}
use Rattle.std.proofs.lemmas.List.Elements.{All-weaker}
use Rattle.region_ends.proofs.CommonLaws.{all_reverse}
use Rattle.syn_base.specs.declared.want_of_memory.Memory.{Memory}
use Rattle.keyword_table.specs.Candidates.{candidates, folded, has_fold, has_word, last_first}
use Rattle.keyword_table.specs.ItemNumbers.{AreItemsBelow}
use Rattle.keyword_table.specs.Words.{word_end}
use Rattle.keyword_table.specs.declared.table.Definition.{Definition}
use Rattle.item_pick.specs.Wordless.{IsWordless}

module _ (P : ItemId → Type 0) where
  abbrev AreOf : List Definition → Type 0
  AreOf definitions = All (λ (definition : Definition). P definition.item) definitions

  last_first_of : (test : Definition → Bool) (definitions : List Definition) → AreOf definitions → All P (last_first test definitions)
  last_first_of test definitions h =
      let Q : Definition → Type 0 = λ definition. P definition.item in
      All-map P (λ (definition : Definition). definition.item) (reverse (filter test definitions))
      (all_reverse Q (filter test definitions) (All-filter test Q definitions h))

  -- what holds of the items of all definitions holds of those of a word
  candidates_of : (definitions : List Definition) (word : List ℕ) → AreOf definitions → All P (candidates definitions word)
  unfolding candidates
  candidates_of definitions word h =
      All-append P (last_first (has_word word) definitions) (last_first (has_fold (folded word)) definitions)
      (last_first_of (has_word word) definitions h)
      (last_first_of (has_fold (folded word)) definitions h)

pub candidates_there : (n : ℕ) (definitions : List Definition) (word : List ℕ) (result : Result (List ItemId) Memory) → AreItemsBelow n definitions →
    IfOk result (λ items. items ≡ candidates definitions word) → IfOk result (All (λ (i : ItemId). i.0 < n))
candidates_there n definitions word (Ok items) h e = subst (All (λ (i : ItemId). i.0 < n)) (sym e) (candidates_of (λ (i : ItemId). i.0 < n) definitions word h)
candidates_there n definitions word (Err memory) h e = tt

-- ---- choices without such items

found_none : (test : ItemId → Bool) (xs : List ItemId) → All (λ i. test i ≡ false) xs → find test xs ≡ None
found_none test [] none = refl
found_none test (x ∷ xs) none =
    rw (All-head (λ i. test i ≡ false) x xs none) (found_none test xs (All-tail (λ i. test i ≡ false) x xs none))

module _ (r : Rules) (tried : List ItemId) (choice : Choice) (wordless : IsWordless r choice) where
  none_free : All (λ (definition : Definition). is_free r tried choice definition.item ≡ false) r.keywords
  none_free =
      All-weaker (λ (definition : Definition). admits r choice definition.item ≡ false) (λ (definition : Definition). is_free r tried choice definition.item ≡ false)
      (λ definition e. and_right (not (list_any (same_item definition.item) tried)) (admits r choice definition.item) e) r.keywords wordless

  none_to : (line : List ℕ) (c : ℕ) (end : Option ℕ) → keyword_to r (is_free r tried choice) line c end ≡ None
  none_to line c None = refl
  none_to line c (Some end) =
      let word = take (end - c) (drop c line) in
      ap (option_map (λ (i : ItemId). record { item = i; end = end }))
      (found_none (is_free r tried choice) (candidates r.keywords word) (candidates_of (λ i. is_free r tried choice i ≡ false) r.keywords word none_free))

  -- no word starts an item of a wordless choice
  pub wordless_none : (line : List ℕ) (c : ℕ) → keyword_at r (is_free r tried choice) line c ≡ None
  wordless_none line c = none_to line c (word_end line c r.sets.keyword)
