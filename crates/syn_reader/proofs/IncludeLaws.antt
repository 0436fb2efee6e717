-- The open groups of an include, item by item.
use Rattle.std.proofs.Common.{◌≡◌, ◌<◌, ◌+◌, ℕ, zero, suc, List, cond, [], ◌∷◌, ◌++◌, length, drop, get_or, refl, ap, sym, ◌∙◌, arith, append_assoc, add-one, true, false, Some, None}
use Rattle.std.proofs.Math.Seq.{drop-cons}
use Rattle.std.proofs.lemmas.Option.{slice_get_within, get_or_from_slice_get}
use Rattle.std.specs.Prelude.{Bool, Option, not, ◌&&◌, nat_eq, slice_get, map, filter}
use Rattle.std.specs.Option.{option_map}
use Rattle.syntax_set.specs.declared.added_item.AddedItem.{AddedItem}
use Rattle.syntax_set.specs.declared.item.Item.{Item}
use Rattle.syntax_set.specs.declared.item.Entry.{Entry}
use Rattle.syntax_set.specs.declared.item.Entry.TheVariants.{Group}
use Rattle.syn_reader.specs.Includes.{is_open_in, is_open_at, entry_of, open_groups}

-- whether an item that is there is open, by its parts
pub open_at : (number : ℕ) (found : Option AddedItem) (item : Item) (live : Bool) → Some item ≡ option_map (λ added. added.item) found → Some live ≡ option_map (λ added. added.live) found
    → is_open_at number found ≡ (live && not item.contained && nat_eq item.include number)
open_at number None item live e h = cc
open_at number (Some added) item live e h =
    let one : item ≡ added.item = cc in
    let two : live ≡ added.live = cc in
    rw (one, two) refl

split_at : {X : Type 0} (xs : List X) (i : ℕ) (x : X) → slice_get xs i ≡ Some x → drop i xs ≡ x ∷ drop (i + 1) xs
split_at xs i x found =
    let within : i < length xs = slice_get_within xs i x found in
    let same : get_or xs i x ≡ x = get_or_from_slice_get xs i x x found in
    rw add-one (drop-cons xs i x within ∙ ap (λ y. y ∷ drop (suc i) xs) same)

open_first : (number : ℕ) (added : AddedItem) (rest : List AddedItem) → is_open_in number added ≡ true → open_groups number (added ∷ rest) ≡ entry_of added ∷ open_groups number rest
open_first number added rest e = ap (λ b. map entry_of (cond b (added ∷ filter (is_open_in number) rest) (filter (is_open_in number) rest))) e

closed_first : (number : ℕ) (added : AddedItem) (rest : List AddedItem) → is_open_in number added ≡ false → open_groups number (added ∷ rest) ≡ open_groups number rest
closed_first number added rest e = ap (λ b. map entry_of (cond b (added ∷ filter (is_open_in number) rest) (filter (is_open_in number) rest))) e

open_at_place : (number : ℕ) (items : List AddedItem) (place : ℕ) (found : Option AddedItem) (item : Item) (before whole : List Entry) → slice_get items place ≡ found → is_open_at number found ≡ true → Some item ≡ option_map (λ added. added.item) found
    → before ++ open_groups number (drop place items) ≡ whole → (before ++ Group item.group ∷ []) ++ open_groups number (drop (place + 1) items) ≡ whole
open_at_place number items place None item before whole s e i h = cc
open_at_place number items place (Some added) item before whole s e i h =
    let same : item ≡ added.item = cc in
    rw same
    (append_assoc before (Group added.item.group ∷ []) (open_groups number (drop (place + 1) items))
    ∙ ap (λ l. before ++ l) (sym (ap (open_groups number) (split_at items place added s) ∙ open_first number added (drop (place + 1) items) e))
    ∙ h)

-- one more item, which is open
pub open_further : (number : ℕ) (items : List AddedItem) (place : ℕ) (item : Item) (before whole : List Entry) → is_open_at number (slice_get items place) ≡ true → Some item ≡ option_map (λ added. added.item) (slice_get items place)
    → before ++ open_groups number (drop place items) ≡ whole → (before ++ Group item.group ∷ []) ++ open_groups number (drop (place + 1) items) ≡ whole
open_further number items place item before whole e i h = open_at_place number items place (slice_get items place) item before whole refl e i h

is_there : {X : Type 0} (xs : List X) (i : ℕ) → i < length xs → slice_get xs i ≡ None → ⊥
is_there [] i within e = absurd (omega arith)
is_there (x ∷ xs) zero within e = cc
is_there (x ∷ xs) (suc i) within e = is_there xs i (omega arith) e

closed_at_place : (number : ℕ) (items : List AddedItem) (place : ℕ) (added : AddedItem) (before whole : List Entry) → slice_get items place ≡ Some added → is_open_in number added ≡ false
    → before ++ open_groups number (drop place items) ≡ whole → before ++ open_groups number (drop (place + 1) items) ≡ whole
closed_at_place number items place added before whole s e h =
    ap (λ l. before ++ l) (sym (ap (open_groups number) (split_at items place added s) ∙ closed_first number added (drop (place + 1) items) e)) ∙ h

closed_when : (number : ℕ) (items : List AddedItem) (place : ℕ) (found : Option AddedItem) (before whole : List Entry) → slice_get items place ≡ found → place < length items → is_open_at number found ≡ false
    → before ++ open_groups number (drop place items) ≡ whole → before ++ open_groups number (drop (place + 1) items) ≡ whole
closed_when number items place None before whole s within e h = absurd (is_there items place within s)
closed_when number items place (Some added) before whole s within e h = closed_at_place number items place added before whole s e h

-- one more item, which is not
pub closed_further : (number : ℕ) (items : List AddedItem) (place : ℕ) (before whole : List Entry) → place < length items → is_open_at number (slice_get items place) ≡ false
    → before ++ open_groups number (drop place items) ≡ whole → before ++ open_groups number (drop (place + 1) items) ≡ whole
closed_further number items place before whole within e h = closed_when number items place (slice_get items place) before whole refl within e h
