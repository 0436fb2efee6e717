-- What adding an item leaves.
use Rattle.std.proofs.Common.{◌≡◌, ℕ, List, [], ◌∷◌, ◌++◌, length, ap, sym, subst, ◌∙◌, false, arith}
use Rattle.std.proofs.lemmas.Bool.Decides.{nat_tests}
use Rattle.std.specs.Prelude.{Bool, Result, Ok, Err, IsErrOf, nat_eq, if◌then◌else◌}
use Rattle.syn_base.specs.declared.places.ItemId.{ItemId}
use Rattle.keyword_table.specs.declared.table.Definition.{Definition}
use Rattle.syntax_set.specs.declared.item.Item.{Item}
use Rattle.syntax_set.specs.declared.added_item.AddedItem.{AddedItem}
use Rattle.syn_words.specs.declared.cause.Cause.{Cause}
use Rattle.syn_words.specs.declared.cause.Cause.TheVariants.{TooManyItems}
use Rattle.syn_reader.specs.declared.draft.Draft.{Draft}
use Rattle.syn_reader.specs.declared.reading.Reading.{Reading}
use Rattle.syn_words.specs.declared.what.ItemCommand.{ItemCommand}
use Rattle.syn_reader.specs.declared.refusal.Refusal.{Refusal}
use Rattle.syn_reader.specs.declared.refusal.Refusal.TheVariants.{Fault, Memory}
use Rattle.syn_reader.specs.Answers.{◌>>=◌, Leaves}
use Rattle.syn_reader.specs.Items.{item_numbered, live_item, with_added, with_definitions, item_added, with_names, finished}

pub ok_is_no_err : {A E : Type 0} (x : A) (e : E) → IsErrOf (Ok x) e → ⊥
ok_is_no_err x e h = cc

pub not_full : (n most : ℕ) → (n ≡ most → ⊥) → nat_eq n most ≡ false
not_full n most other = grind (arith, nat_tests, other)

-- what follows a part changes what that leaves
leaves_then : {A S T : Type 0} (result : Result A Refusal) (left : S) (rules : Result S Cause) (f : S → T) → Leaves result left rules
    → Leaves result (f left) (rules >>= λ s. Ok (f s))
leaves_then (Ok x) left rules f h = ap (λ r. r >>= λ s. Ok (f s)) h
leaves_then (Err (Fault c)) left rules f h = ap (λ r. r >>= λ s. Ok (f s)) h
leaves_then (Err Memory) left rules f h = tt

-- an item that found room, and its words
pub added : {A : Type 0} (reading : Reading) (item : Item) (words : List (List ℕ)) (id : ItemId) (items : List AddedItem) (keywords : List Definition) (result : Result A Refusal)
    → nat_eq (length reading.items) 32000 ≡ false → id.0 ≡ length reading.items → items ≡ reading.items ++ live_item item ∷ []
    → Leaves result keywords (with_definitions reading.keywords id item.ignore words)
    → Leaves result (record reading { items = items; keywords = keywords }) (item_added reading item words)
added {A} reading item words id items keywords result room number more h =
    let finish : List Definition → Reading = λ ks. with_added reading item ks in
    let all : Bool → ℕ → Result Reading Cause =
    λ full n. if full then Err TooManyItems else (with_definitions reading.keywords (item_numbered n) item.ignore words >>= λ ks. Ok (finish ks)) in
    let rules : all false id.0 ≡ item_added reading item words = ap (all false) number ∙ sym (ap (λ b. all b (length reading.items)) room) in
    let left : finish keywords ≡ record reading { items = items; keywords = keywords } = λ i. record reading { items = sym more i; keywords = keywords } in
    subst (λ (s : Reading). Leaves result s (item_added reading item words)) left
    (subst (λ r. Leaves result (finish keywords) r) rules (leaves_then result keywords _ finish h))

-- a draft is finished by what it was begun with, and its names
pub finished_with_names : (old now : Reading) (kind : ItemCommand) (draft : Draft) → now ≡ with_names old now.names
    → finished now kind (draft, now.names) ≡ finished old kind (draft, now.names)
finished_with_names old now kind draft e = ap (λ r. finished r kind (draft, now.names)) e
