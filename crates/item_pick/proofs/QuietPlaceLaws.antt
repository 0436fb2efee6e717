-- Places at which nothing starts.
use Rattle.item_pick.proofs.Common.{◌≡◌, ◌∙◌, refl, ap, arith, ℕ, Bool, false, List, [], length, Option, Some, None, ◌-◌, true, nat_tests, Place, ItemId, Looked, Text, line_at, begins_word, Sets, IsNumberAt, last_of, key_numbered, zero, suc, slice_get, subst, Frame, Done, looked_first, done, Rules, place_at, is_allowed, keyword_at, or_nothing, picked, goes_on, Choice, IsNextItem, IsQuietAt, admits, here_at, is_free, start_if_free, IsNextAt, Nothing, keyword_to}
use Rattle.std.specs.Prelude.{Result, Ok, Err, IfOk, IsTrue, ◌==◌}
use Rattle.syn_base.specs.declared.want_of_memory.Memory.{Memory}
use Rattle.keyword_table.specs.Words.{has_at, word_end}
use Rattle.std.specs.Option.{option_map_or}
use Rattle.std.proofs.Math.Bool.{and-false}
use Rattle.char_class.specs.CharSet.{set_has}
use Rattle.match_rules.specs.Atoms.{has_keyword}
use Rattle.pattern_screens.specs.Keys.{last_in}
use Rattle.pattern_screens.specs.declared.key.Key.{Key}
use Rattle.pattern_screens.specs.declared.key.Last.TheVariants as last
use Rattle.item_pick.proofs.FoundLaws.{items_skip}
use Rattle.item_pick.proofs.PickLaws.{allowed_as, among, no_word}
use Rattle.item_pick.proofs.QuietLaws.{earlier}
use Rattle.item_pick.proofs.TableLaws.{next_items}

no_end : (line : List ℕ) (c : ℕ) (set : List ℕ) → begins_word set line c ≡ false → word_end line c set ≡ None
unfolding word_end
no_end line c set e = rw e refl

-- without a keyword character there is no keyword
pub no_keyword_character : (r : Rules) (test : ItemId → Bool) (line : List ℕ) (c : ℕ) → has_at r.sets.keyword line c ≡ false → keyword_at r test line c ≡ None
no_keyword_character r test line c e =
    let none : begins_word r.sets.keyword line c ≡ false = rw e refl in
    ap (keyword_to r test line c) (no_end line c r.sets.keyword none)

keyword_last : (sets : Sets) (o : Option ℕ) → last_of (has_keyword sets o) ≡ last.Keyword → option_map_or (set_has sets.keyword) o false ≡ true
keyword_last sets None e = absurd (cc)
keyword_last sets (Some x) e = elim (set_has sets.keyword x) as (λ b. last_of b ≡ last.Keyword → b ≡ true) [ true ↦ λ _. refl | false ↦ λ e. absurd (cc) ] e

-- behind a keyword character no word begins
none_begins : (sets : Sets) (line : List ℕ) (c : ℕ) → last_in sets line c ≡ last.Keyword → begins_word sets.keyword line c ≡ false
none_begins sets line zero e = absurd (cc)
none_begins sets line (suc c) e =
    let back : suc c - 1 ≡ c = omega arith in
    let later : (suc c == 0) ≡ false = grind (arith, nat_tests) in
    rw (ap (has_at sets.keyword line) back ∙ keyword_last sets (slice_get line c) e, later) (and-false (has_at sets.keyword line (suc c)))

-- so there is no keyword
pub no_keyword : (r : Rules) (test : ItemId → Bool) (line : List ℕ) (c number : ℕ) → IsNumberAt r line c number → (key_numbered number).last ≡ last.Keyword → keyword_at r test line c ≡ None
no_keyword r test line c number key after =
    ap (keyword_to r test line c) (no_end line c r.sets.keyword (none_begins r.sets line c (subst (λ (k : Key). k.last ≡ last.Keyword) key.1 after)))

module _ (r : Rules) (t : Text) (p : Place) (floor : ℕ) (k : Looked) (choice : Choice) where
  -- without a keyword, where all items may be passed over
  quiet_by : keyword_at r (is_free r [] choice) (line_at t p.line) p.col ≡ None →
      IsNextItem r t p floor [] choice k (length r.items) 0 → IsQuietAt r t choice floor k p
  quiet_by word next =
      let e = earlier r t p floor [] choice k (length r.items) 0 next in
      ap (looked_first (Some k)) (no_word r t p floor [] choice word)
      ∙ items_skip (start_if_free r t p floor [] choice) k (length r.items) 0 (length r.items) (omega arith) e.idle

  -- so where no item of the choice is left
  pub still_quiet : keyword_at r (is_free r [] choice) (line_at t p.line) p.col ≡ None → IsNextAt r t p floor k [] choice (length r.items) 0 → IsQuietAt r t choice floor k p
  still_quiet word next = quiet_by word (next_items r t p floor [] choice k (length r.items) 0 next)

-- nothing starts where no keyword does and no item of the choice is left
pub row_empty : (r : Rules) (t : Text) (p : Place) (floor : ℕ) (k : Looked) (choice : Choice) → IsNextAt r t p floor k [] choice (length r.items) 0 → (none : Result Bool Memory) →
    IfOk none (λ none. IsTrue none → keyword_at r (is_free r [] choice) (line_at t p.line) p.col ≡ None) → IfOk none (λ none. IsTrue none → IsQuietAt r t choice floor k p)
row_empty r t p floor k choice next (Ok b) word = λ e. still_quiet r t p floor k choice (word e) next
row_empty r t p floor k choice next (Err memory) word = tt

-- so nothing is picked
pub nothing_picked : (r : Rules) (t : Text) (at : Place) (c : ℕ) (stack : List Frame) (choice : Choice) →
    ((i : ItemId) → is_allowed r stack i ≡ admits r choice i) → (floor : ℕ) (k : Looked) → IsQuietAt r t choice floor k (place_at at.line c) → (over : Bool) →
    looked_first (Some k) (picked (here_at r t at) c (record { stack = stack; waiting = None; floor = floor; tried = []; is_over = over })) ≡ Done Nothing (Some k)
nothing_picked r t at c stack choice same floor k quiet over =
    let p = place_at at.line c in
    ap (looked_first (Some k)) (allowed_as r t p floor [] choice stack same)
    ∙ goes_on k k (among r t p floor [] choice) None (λ found. done (or_nothing found)) quiet
