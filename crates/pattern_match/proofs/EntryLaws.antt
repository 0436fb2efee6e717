-- Laws of lists that share their tails, kept as entries of one list.
use Rattle.std.proofs.Common.{◌≡◌, ℕ, suc, ◌+◌, ◌<◌, ◌≤◌, true, false, List, [], ◌∷◌, ◌++◌, length, take, drop, get_or, refl, sym, ap, ◌∙◌, subst, arith, append_assoc}
use Rattle.std.specs.Prelude.{nat_eq, reverse}
use Rattle.std.proofs.lemmas.Bool.Decides.{nat_tests}
use Rattle.std.proofs.lemmas.List.{take-append-drop, reverse-append, length-reverse, length-append, length-take-le, drop_more}
use Rattle.pattern_match.specs.Entries.{entries_from, AreLinked}

not_same : (n m : ℕ) → n < m → nat_eq n m ≡ false
not_same n m h = grind (arith, nat_tests)

same : (n m : ℕ) → n ≡ m → nat_eq n m ≡ true
same n m h = grind (arith, nat_tests)

pub entries_from-newer : {X : Type 0} (behind : X → ℕ) (newer older : List X) (n : ℕ) → n ≤ length older → entries_from behind (newer ++ older) n ≡ entries_from behind older n
entries_from-newer behind [] older n h = refl
entries_from-newer behind (entry ∷ newer) older n h =
    let other : nat_eq n (suc (length (newer ++ older))) ≡ false = not_same n (suc (length (newer ++ older))) (omega (arith, length-append newer older)) in
    rw (other, entries_from) (entries_from-newer behind newer older n h)

pub entries_from-none : {X : Type 0} (behind : X → ℕ) (entries : List X) → entries_from behind entries 0 ≡ []
entries_from-none behind [] = refl
entries_from-none behind (entry ∷ older) =
    let other : nat_eq 0 (suc (length older)) ≡ false = not_same 0 (suc (length older)) (omega arith) in
    rw (other, entries_from) (entries_from-none behind older)

pub entries_from-at : {X : Type 0} (behind : X → ℕ) (entry : X) (older : List X) (n : ℕ) → n ≡ length older + 1 → entries_from behind (entry ∷ older) n ≡ entry ∷ entries_from behind older (behind entry)
entries_from-at behind entry older n h =
    let here : nat_eq n (suc (length older)) ≡ true = same n (suc (length older)) (omega arith) in
    rw (here, entries_from) refl

pub AreLinked-older : {X : Type 0} (behind : X → ℕ) (newer older : List X) → AreLinked behind (newer ++ older) → AreLinked behind older
AreLinked-older behind [] older linked = linked
AreLinked-older behind (entry ∷ newer) older linked = AreLinked-older behind newer older linked.1

-- ---- the same of a list with the newest entry last

pub reverse-push : {X : Type 0} (entries : List X) (entry : X) → reverse (entries ++ entry ∷ []) ≡ entry ∷ reverse entries
reverse-push entries entry = reverse-append entries (entry ∷ [])

pub from-pushed : {X : Type 0} (behind : X → ℕ) (entries : List X) (entry : X) (n : ℕ) → n ≡ length entries + 1
    → entries_from behind (reverse (entries ++ entry ∷ [])) n ≡ entry ∷ entries_from behind (reverse entries) (behind entry)
from-pushed behind entries entry n h =
    rw (reverse-push entries entry) (entries_from-at behind entry (reverse entries) n (omega (arith, length-reverse entries)))

pub from-push : {X : Type 0} (behind : X → ℕ) (entries : List X) (entry : X) (n : ℕ) → n ≤ length entries
    → entries_from behind (reverse (entries ++ entry ∷ [])) n ≡ entries_from behind (reverse entries) n
from-push behind entries entry n h =
    rw (reverse-push entries entry) (entries_from-newer behind (entry ∷ []) (reverse entries) n (omega (arith, length-reverse entries)))

pub linked-push : {X : Type 0} (behind : X → ℕ) (entries : List X) (entry : X) → behind entry ≤ length entries → AreLinked behind (reverse entries) → AreLinked behind (reverse (entries ++ entry ∷ []))
linked-push behind entries entry h linked =
    rw (reverse-push entries entry) ((omega (arith, length-reverse entries), linked))

pub reverse-cut : {X : Type 0} (m : ℕ) (entries : List X) → reverse entries ≡ reverse (drop m entries) ++ reverse (take m entries)
reverse-cut m entries = ap reverse (sym (take-append-drop m entries)) ∙ reverse-append (take m entries) (drop m entries)

pub from-take : {X : Type 0} (behind : X → ℕ) (entries : List X) (m n : ℕ) → m ≤ length entries → n ≤ m
    → entries_from behind (reverse entries) n ≡ entries_from behind (reverse (take m entries)) n
from-take behind entries m n h k =
    rw (reverse-cut m entries) (entries_from-newer behind (reverse (drop m entries)) (reverse (take m entries)) n (omega (arith, length-reverse (take m entries), length-take-le m entries h)))

pub linked-take : {X : Type 0} (behind : X → ℕ) (entries : List X) (m : ℕ) → AreLinked behind (reverse entries) → AreLinked behind (reverse (take m entries))
linked-take behind entries m linked =
    AreLinked-older behind (reverse (drop m entries)) (reverse (take m entries)) (subst (AreLinked behind) (reverse-cut m entries) linked)

pub reverse-at : {X : Type 0} (entries : List X) (k : ℕ) (d : X) → k < length entries → reverse entries ≡ (reverse (drop (k + 1) entries) ++ get_or entries k d ∷ []) ++ reverse (take k entries)
reverse-at entries k d h =
    reverse-cut k entries ∙ ap (λ l. reverse l ++ reverse (take k entries)) (drop_more entries k d h) ∙ ap (λ l. l ++ reverse (take k entries)) (reverse-append (get_or entries k d ∷ []) (drop (k + 1) entries))

-- the entry with a number, and those behind it
pub from-at : {X : Type 0} (behind : X → ℕ) (entries : List X) (k : ℕ) (d : X) → k < length entries → AreLinked behind (reverse entries)
    → (behind (get_or entries k d) ≤ k) × (entries_from behind (reverse entries) (k + 1) ≡ get_or entries k d ∷ entries_from behind (reverse entries) (behind (get_or entries k d)))
from-at {X} behind entries k d h linked =
    let entry = get_or entries k d in
    let newer = reverse (drop (k + 1) entries) in
    let older = reverse (take k entries) in
    let within : k ≤ length entries = omega arith in
    let many : length older ≡ k = length-reverse (take k entries) ∙ length-take-le k entries within in
    let split : reverse entries ≡ newer ++ (entry ∷ older) = reverse-at entries k d h ∙ append_assoc newer (entry ∷ []) older in
    let tail = AreLinked-older behind newer (entry ∷ older) (subst (AreLinked behind) split linked) in
    let low : behind entry ≤ length older = tail.0 in
    let here : entries_from behind (newer ++ (entry ∷ older)) (k + 1) ≡ entry ∷ entries_from behind older (behind entry) =
    entries_from-newer behind newer (entry ∷ older) (k + 1) (omega arith) ∙ entries_from-at behind entry older (k + 1) (omega arith) in
    let rest : entries_from behind (newer ++ (entry ∷ older)) (behind entry) ≡ entries_from behind older (behind entry) =
    entries_from-newer behind newer (entry ∷ older) (behind entry) (omega arith) ∙ entries_from-newer behind (entry ∷ []) older (behind entry) low in
    (omega arith, rw split (here ∙ ap (λ l. entry ∷ l) (sym rest)))
