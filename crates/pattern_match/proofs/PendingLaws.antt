-- Laws of the pending ways: an entry stands for those at its column and at columns behind it.
use Rattle.std.proofs.Common.{◌≡◌, ℕ, zero, suc, ◌+◌, ◌-◌, ◌<◌, ◌≤◌, Bool, true, false, List, [], ◌∷◌, ◌++◌, length, take, drop, get_or, refl, sym, ap, ◌∙◌, arith}
use Rattle.std.specs.Prelude.{nat_lt, reverse, slice_set}
use Rattle.std.proofs.Math.Seq.{drop-nil, drop-append-add, set-append_seam}
use Rattle.std.proofs.Math.ListN.{drop_of_length-le}
use Rattle.std.proofs.lemmas.Bool.Decides.{nat_tests}
use Rattle.std.proofs.lemmas.List.{take-append-drop, length-append, length-take-le, reverse-append, drop-append-le, drop_more}
use Rattle.pattern_match.proofs.EntryLaws.{reverse-push}
use Rattle.pattern_match.specs.Ways.{Thread, further, run_of, thread_of, threads_of, ways_counted, IsCounted, IsNextCounted, ArePending, last_of, shorter, kept_to}
use Rattle.pattern_match.specs.declared.ways.Later.{Later}
use Rattle.pattern_match.specs.declared.ways.Noted.{Noted}
use Rattle.pattern_match.specs.declared.ways.Pending.{Pending}

pub ArePending-more : (l n l2 n2 : ℕ) (ps : List Pending) → l ≤ l2 → n ≤ n2 → ArePending l n ps → ArePending l2 n2 ps
ArePending-more l n l2 n2 [] h k pending = tt
ArePending-more l n l2 n2 (p ∷ ps) h k pending =
    let low = pending.0 in let few = pending.1 in (omega arith, omega arith, pending.2, pending.3, pending.4)

pub next_counted : (l n : ℕ) (ps : List Pending) → ArePending l n ps → IsNextCounted ps
next_counted l n [] pending = tt
next_counted l n (p ∷ ps) pending = pending.3

-- ---- runs

pub further-none : {T : Type 0} (t : Thread T) → further t 0 ≡ t
further-none t =
    let same : t.way.at.col + 0 ≡ t.way.at.col = omega arith in
    ap (λ n. record { todo = t.todo; way = record t.way { at = record t.way.at { col = n } } }) same

length-run : {T : Type 0} (t : Thread T) (count : ℕ) → length (run_of t count) ≡ count
length-run t zero = refl
length-run t (suc count) = ap suc (length-run t count)

drop-run : {T : Type 0} (t : Thread T) (gone kept : ℕ) → drop gone (run_of t (gone + kept)) ≡ run_of t kept
drop-run t zero kept =
    let all : 0 + kept ≡ kept = omega arith in
    rw all refl
drop-run t (suc gone) kept =
    let one : suc gone + kept ≡ suc (gone + kept) = omega arith in
    rw one (drop-run t gone kept)

run-next : {T : Type 0} (t : Thread T) (count : ℕ) → 1 ≤ count → run_of t count ≡ further t (count - 1) ∷ run_of t (count - 1)
run-next t zero h = absurd (omega arith)
run-next t (suc count) h =
    let one : suc count - 1 ≡ count = omega arith in
    ap (λ n. further t n ∷ run_of t n) (sym one)

pub length-threads : {T : Type 0} (later : List (Later T)) (notes : List Noted) (ps : List Pending) → length (threads_of later notes ps) ≡ ways_counted ps
length-threads later notes [] = refl
length-threads later notes (p ∷ ps) =
    length-append (run_of (thread_of later notes p.here) p.count) (threads_of later notes ps)
    ∙ ap (λ n. n + length (threads_of later notes ps)) (length-run (thread_of later notes p.here) p.count)
    ∙ ap (λ n. p.count + n) (length-threads later notes ps)

-- ---- an entry without its next way

left-threads : {T : Type 0} (later : List (Later T)) (notes : List Noted) (next : Pending) (ps : List Pending) (b : Bool) → nat_lt 1 next.count ≡ b
    → threads_of later notes (shorter next ++ ps) ≡ run_of (thread_of later notes next.here) (next.count - 1) ++ threads_of later notes ps
left-threads later notes next ps true e = rw e refl
left-threads later notes next ps false e =
    let none : next.count - 1 ≡ 0 = grind (arith, nat_tests) in
    rw (e, none) refl

pub shorter-threads : {T : Type 0} (later : List (Later T)) (notes : List Noted) (next : Pending) (ps : List Pending) → 1 ≤ next.count
    → threads_of later notes (next ∷ ps) ≡ thread_of later notes (last_of next) ∷ threads_of later notes (shorter next ++ ps)
shorter-threads later notes next ps some =
    ap (λ ts. ts ++ threads_of later notes ps) (run-next (thread_of later notes next.here) next.count some)
    ∙ ap (λ ts. thread_of later notes (last_of next) ∷ ts) (sym (left-threads later notes next ps (nat_lt 1 next.count) refl))

left-pending : (l n : ℕ) (next : Pending) (ps : List Pending) (b : Bool) → nat_lt 1 next.count ≡ b → ArePending l n (next ∷ ps) → ArePending next.later next.notes (shorter next ++ ps)
left-pending l n next ps true e pending =
    let c = pending.3 in
    let more : 1 < next.count = grind (arith, nat_tests) in
    rw e ((omega arith, omega arith, pending.2, record { some = omega arith; columns = omega arith; before = c.before; few = omega arith }, pending.4))
left-pending l n next ps false e pending = rw e pending.4

pub shorter-pending : (l n : ℕ) (next : Pending) (ps : List Pending) → ArePending l n (next ∷ ps) → ArePending next.later next.notes (shorter next ++ ps)
shorter-pending l n next ps pending = left-pending l n next ps (nat_lt 1 next.count) refl pending

left-turned : (next : Pending) (b : Bool) → nat_lt 1 next.count ≡ b → reverse (shorter next) ≡ shorter next
left-turned next true e = rw e refl
left-turned next false e = rw e refl

pub shorter-reverse : (older : List Pending) (next : Pending) → reverse (older ++ shorter next) ≡ shorter next ++ reverse older
shorter-reverse older next =
    reverse-append older (shorter next) ∙ ap (λ ps. ps ++ reverse older) (left-turned next (nat_lt 1 next.count) refl)

-- ---- the last ways alone

kept-pending : (l n count : ℕ) (p : Pending) (ps : List Pending) (b : Bool) → nat_lt p.before count ≡ b → ArePending l n (p ∷ ps) → count ≤ ways_counted (p ∷ ps)
    → (count ≤ ways_counted ps → ArePending p.later p.notes (kept_to count ps)) → ArePending l n (kept_to count (p ∷ ps))
kept-pending l n count p ps true e pending few rest =
    let c = pending.3 in
    let more : p.before < count = grind (arith, nat_tests) in
    let below : p.before ≡ ways_counted ps = c.before in
    rw e ((pending.0, pending.1, pending.2, record { some = omega arith; columns = omega arith; before = c.before; few = omega arith }, pending.4))
kept-pending l n count p ps false e pending few rest =
    let c = pending.3 in
    let below : p.before ≡ ways_counted ps = c.before in
    let low : count ≤ p.before = grind (arith, nat_tests) in
    rw e (ArePending-more p.later p.notes l n (kept_to count ps) pending.0 pending.1 (rest (omega arith)))

pub kept_to-pending : (l n count : ℕ) (ps : List Pending) → ArePending l n ps → count ≤ ways_counted ps → ArePending l n (kept_to count ps)
kept_to-pending l n count [] pending few = tt
kept_to-pending l n count (p ∷ ps) pending few =
    kept-pending l n count p ps (nat_lt p.before count) refl pending few (λ low. kept_to-pending p.later p.notes count ps pending.4 low)

kept-threads : {T : Type 0} (later : List (Later T)) (notes : List Noted) (count : ℕ) (p : Pending) (ps : List Pending) (b : Bool) → nat_lt p.before count ≡ b → IsCounted p ps → count ≤ ways_counted (p ∷ ps)
    → (count ≤ ways_counted ps → threads_of later notes (kept_to count ps) ≡ drop (ways_counted ps - count) (threads_of later notes ps))
    → threads_of later notes (kept_to count (p ∷ ps)) ≡ drop (ways_counted (p ∷ ps) - count) (threads_of later notes (p ∷ ps))
kept-threads later notes count p ps true e c few rest =
    let more : p.before < count = grind (arith, nat_tests) in
    let below : p.before ≡ ways_counted ps = c.before in
    let t = thread_of later notes p.here in
    let gone : ways_counted (p ∷ ps) - count ≡ p.count - (count - p.before) = omega arith in
    let parts : p.count ≡ p.count - (count - p.before) + (count - p.before) = omega arith in
    rw (e, gone) (sym (drop-append-le (p.count - (count - p.before)) (run_of t p.count) (threads_of later notes ps) (omega (arith, length-run t p.count))
    ∙ ap (λ n. drop (p.count - (count - p.before)) (run_of t n) ++ threads_of later notes ps) parts
    ∙ ap (λ ts. ts ++ threads_of later notes ps) (drop-run t (p.count - (count - p.before)) (count - p.before))))
kept-threads later notes count p ps false e c few rest =
    let below : p.before ≡ ways_counted ps = c.before in
    let low : count ≤ p.before = grind (arith, nat_tests) in
    let t = thread_of later notes p.here in
    let gone : ways_counted (p ∷ ps) - count ≡ length (run_of t p.count) + (ways_counted ps - count) = omega (arith, length-run t p.count) in
    rw (e, gone) (rest (omega arith) ∙ sym (drop-append-add (run_of t p.count) (threads_of later notes ps) (ways_counted ps - count)))

pub kept_to-threads : {T : Type 0} (later : List (Later T)) (notes : List Noted) (l n count : ℕ) (ps : List Pending) → ArePending l n ps → count ≤ ways_counted ps
    → threads_of later notes (kept_to count ps) ≡ drop (ways_counted ps - count) (threads_of later notes ps)
kept_to-threads later notes l n count [] pending few = sym (drop-nil (0 - count))
kept_to-threads later notes l n count (p ∷ ps) pending few =
    kept-threads later notes count p ps (nat_lt p.before count) refl pending.3 few (λ low. kept_to-threads later notes p.later p.notes count ps pending.4 low)

-- ---- entries with the newest one last

pub last_read : (xs : List Pending) (n : ℕ) (x : Pending) → length xs ≡ n + 1 → x ≡ get_or xs n x → xs ≡ take n xs ++ x ∷ []
last_read xs n x many read =
    let one : drop n xs ≡ get_or xs n x ∷ drop (n + 1) xs = drop_more xs n x (omega arith) in
    let none : drop (n + 1) xs ≡ [] = drop_of_length-le xs (omega arith) in
    sym (take-append-drop n xs) ∙ ap (λ r. take n xs ++ r) (one ∙ ap (λ r. get_or xs n x ∷ r) none ∙ ap (λ y. y ∷ []) (sym read))

pub last_set : (xs : List Pending) (n : ℕ) (x y : Pending) → length xs ≡ n + 1 → x ≡ get_or xs n x → slice_set xs n y ≡ take n xs ++ y ∷ []
last_set xs n x y many read =
    let at : length (take n xs) ≡ n = length-take-le n xs (omega arith) in
    ap (λ l. slice_set l n y) (last_read xs n x many read)
    ∙ ap (λ k. slice_set (take n xs ++ x ∷ []) k y) (sym at)
    ∙ set-append_seam (take n xs) x [] y

last_turned : (xs : List Pending) (n : ℕ) (x : Pending) → length xs ≡ n + 1 → x ≡ get_or xs n x → reverse xs ≡ x ∷ reverse (take n xs)
last_turned xs n x many read = ap reverse (last_read xs n x many read) ∙ reverse-push (take n xs) x

-- the newest entry has some of the ways that are kept
pub kept_last : (xs : List Pending) (n count : ℕ) (x : Pending) → length xs ≡ n + 1 → x ≡ get_or xs n x → x.before < count
    → reverse (slice_set xs n (record x { count = count - x.before })) ≡ kept_to count (reverse xs)
kept_last xs n count x many read some =
    let y : Pending = record x { count = count - x.before } in
    let within : nat_lt x.before count ≡ true = grind (arith, nat_tests) in
    ap reverse (last_set xs n x y many read) ∙ reverse-push (take n xs) y
    ∙ sym (ap (kept_to count) (last_turned xs n x many read) ∙ rw within refl)

-- or none
pub kept_older : (xs : List Pending) (n count : ℕ) (x : Pending) → length xs ≡ n + 1 → x ≡ get_or xs n x → count ≤ x.before
    → kept_to count (reverse (take n xs)) ≡ kept_to count (reverse xs)
kept_older xs n count x many read none =
    let within : nat_lt x.before count ≡ false = grind (arith, nat_tests) in
    sym (ap (kept_to count) (last_turned xs n x many read) ∙ rw within refl)
