-- Choices of which nothing starts.
use Rattle.item_pick.proofs.Common.{◌≡◌, ◌∙◌, ◌∷◌, refl, ap, subst, arith, nat_tests, inr, ℕ, true, List, [], length, Some, None, Looked, ItemId, Place, Text, line_at, Done, looked_first, Rules, Choice, NoItem, IsNextAt, item_numbered, ListStands, RowStands, start_if_free}
use Rattle.std.specs.Prelude.{◌==◌}
use Rattle.item_pick.specs.Tables.{IsBare}
use Rattle.item_pick.specs.Wordless.{IsWordless}
use Rattle.item_pick.specs.declared.rows.Row.{Row}
use Rattle.item_pick.proofs.FoundLaws.{items_skip}
use Rattle.item_pick.proofs.PickLaws.{among, no_word}
use Rattle.item_pick.proofs.QuietLaws.{earlier}
use Rattle.item_pick.proofs.TableLaws.{next_items, no_key}
use Rattle.item_pick.proofs.WordLaws.{wordless_none}

-- no item of one starts by a pattern
none_bare : (r : Rules) (t : Text) (p : Place) (floor : ℕ) (k : Looked) (tried : List ItemId) (choice : Choice) → ListStands r choice 777 [] → IsNextAt r t p floor k tried choice (length r.items) 0
none_bare r t p floor k tried choice stands = (
  omega arith,
  λ j a b admitted. inr (λ pattern its. absurd (no_key r choice [] (item_numbered j) (stands j b admitted (λ n h. absurd (omega (arith, h)))) pattern its)),
)

-- nor by a word
pub bare_starts : (r : Rules) (t : Text) (p : Place) (floor : ℕ) (k : Looked) (tried : List ItemId) (choice : Choice) → IsBare r choice → looked_first (Some k) (among r t p floor tried choice) ≡ Done None (Some k)
bare_starts r t p floor k tried choice bare =
    let e = earlier r t p floor tried choice k (length r.items) 0 (next_items r t p floor tried choice k (length r.items) 0 (none_bare r t p floor k tried choice bare.1)) in
    ap (looked_first (Some k)) (no_word r t p floor tried choice (wordless_none r tried choice bare.0 (line_at t p.line) p.col))
    ∙ items_skip (start_if_free r t p floor tried choice) k (length r.items) 0 (length r.items) (omega arith) e.idle

pub no_items : (list : List ℕ) → (length list == 0) ≡ true → list ≡ []
no_items [] e = refl
no_items (x ∷ xs) e =
    let none : length (x ∷ xs) ≡ 0 = grind (arith, nat_tests) in
    absurd (omega (arith, none))

-- one whose row of all items is empty
pub bare_by : (r : Rules) (row : Row) (choice : Choice) → RowStands r row → row.choice ≡ choice → row.number ≡ 777 → row.wordless ≡ true → row.items.items ≡ [] → IsBare r choice
bare_by r row choice stands same all wordless none = (
  subst (IsWordless r) same (stands.wordless wordless),
  subst (λ (choice : Choice). ListStands r choice 777 []) same
      (subst (λ (number : ℕ). ListStands r row.choice number []) all
      (subst (λ (list : List ℕ). ListStands r row.choice row.number list) none stands.lists)),
)

-- that of no item
pub nothing_bare : (r : Rules) → IsBare r NoItem
nothing_bare r = (λ k d h. refl, λ j within e. absurd (cc))
