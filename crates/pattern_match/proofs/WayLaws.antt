-- Laws of the present way and the pending ones, kept as entries.
use Rattle.std.proofs.Common.{◌≡◌, ℕ, ◌+◌, ◌-◌, ◌<◌, ◌≤◌, List, [], ◌∷◌, ◌++◌, length, take, drop, get_or, refl, sym, ap, ◌∙◌, subst, arith}
use Rattle.std.specs.Prelude.{reverse, map, max, ◌^◌}
use Rattle.std.proofs.lemmas.List.{length-append, length-take-le, take_all}
use Rattle.std.proofs.lemmas.List.Elements.{All-push, All-take}
use Rattle.syn_base.specs.declared.places.Place.{Place}
use Rattle.match_rules.specs.Ways.{Way}
use Rattle.pattern_match.specs.Entries.{entries_from}
use Rattle.pattern_match.specs.Ways.{Thread, Ways, next_of, before_of, with_note, with_notes, thread_of, ways_of, IsNumbered, IsWithin, ArePending, AreWays, entries_named, IsLast, with_last, run_of, threads_of, ways_counted, IsCounted, last_of, shorter, kept_to}
use Rattle.pattern_match.specs.declared.ways.Later.{Later}
use Rattle.pattern_match.specs.declared.ways.Note.{Note}
use Rattle.pattern_match.specs.declared.ways.Note.TheVariants.{Captured, External, Start, Stop}
use Rattle.pattern_match.specs.declared.ways.Noted.{Noted}
use Rattle.pattern_match.specs.declared.ways.Here.{Here}
use Rattle.pattern_match.specs.declared.ways.Pending.{Pending}
use Rattle.pattern_match.proofs.EntryLaws.{entries_from-none, from-pushed, from-push, linked-push, from-take, linked-take, from-at, reverse-push}
use Rattle.pattern_match.proofs.PendingLaws.{ArePending-more, length-threads, shorter-threads, shorter-pending, shorter-reverse, kept_to-pending, kept_to-threads}
use Rattle.pattern_match.proofs.LastNoteLaws.{NameLast-push, NameLast-take}

-- ---- what stays where entries come or go

-- the entries from one of the first ones on are the same
abbrev SameTo : {X : Type 0} → (X → ℕ) → ℕ → List X → List X → Type 0
SameTo behind most xs ys = (k : ℕ) → k ≤ most → entries_from behind xs k ≡ entries_from behind ys k

abbrev thread : {T : Type 0} → Here → List (Later T) → List Noted → Thread T
thread here later notes = record { todo = map (λ e. e.item) later; way = record (with_notes notes) { at = here.at } }

same_thread : {T : Type 0} (later later2 : List (Later T)) (notes notes2 : List Noted) (l n : ℕ) (here : Here)
    → SameTo next_of l later later2 → SameTo before_of n notes notes2 → IsWithin l n here → thread_of later notes here ≡ thread_of later2 notes2 here
same_thread later later2 notes notes2 l n here items noted within =
    ap (λ es. thread here es (entries_from before_of notes here.noted)) (items here.next within.next) ∙ ap (λ es. thread here (entries_from next_of later2 here.next) es) (noted here.noted within.noted)

same_pending : {T : Type 0} (later later2 : List (Later T)) (notes notes2 : List Noted) (l n : ℕ) (ps : List Pending)
    → SameTo next_of l later later2 → SameTo before_of n notes notes2 → ArePending l n ps → threads_of later notes ps ≡ threads_of later2 notes2 ps
same_pending later later2 notes notes2 l n [] items noted pending = refl
same_pending later later2 notes notes2 l n (p ∷ ps) items noted pending =
    let items2 : SameTo next_of p.later later later2 = λ k h. items k (let low = pending.0 in omega arith) in
    let noted2 : SameTo before_of p.notes notes notes2 = λ k h. noted k (let low = pending.1 in omega arith) in
    let first = same_thread later later2 notes notes2 p.later p.notes p.here items2 noted2 pending.2 in
    let rest = same_pending later later2 notes notes2 p.later p.notes ps items2 noted2 pending.4 in
    ap (λ t. run_of t p.count ++ threads_of later notes ps) first ∙ ap (λ ts. run_of (thread_of later2 notes2 p.here) p.count ++ ts) rest

abbrev ways : {T : Type 0} → Thread T → List (Thread T) → Ways T
ways here pending = record { here = here; pending = pending }

same_ways : {T : Type 0} (later later2 : List (Later T)) (notes notes2 : List Noted) (l n : ℕ) (pending : List Pending) (here : Here)
    → SameTo next_of l (reverse later) (reverse later2) → SameTo before_of n (reverse notes) (reverse notes2) → IsWithin l n here → ArePending l n (reverse pending)
    → ways_of later notes pending here ≡ ways_of later2 notes2 pending here
same_ways later later2 notes notes2 l n pending here items noted within put_aside =
    ap (λ t. ways t (threads_of (reverse later) (reverse notes) (reverse pending))) (same_thread (reverse later) (reverse later2) (reverse notes) (reverse notes2) l n here items noted within)
    ∙ ap (λ ts. ways (thread_of (reverse later2) (reverse notes2) here) ts) (same_pending (reverse later) (reverse later2) (reverse notes) (reverse notes2) l n (reverse pending) items noted put_aside)

-- entries that no way names may go
pub cut : {T : Type 0} (later later2 : List (Later T)) (notes notes2 : List Noted) (l n : ℕ) (pending : List Pending) (here : Here)
    → AreWays later notes pending here → later2 ≡ take l later → notes2 ≡ take n notes → l ≤ length later → n ≤ length notes → IsWithin l n here → ArePending l n (reverse pending)
    → AreWays later2 notes2 pending here × (ways_of later2 notes2 pending here ≡ ways_of later notes pending here)
cut later later2 notes notes2 l n pending here are e f h k within put_aside =
    rw (e, f) ((
      record {
        linked = linked-take next_of later l are.linked;
        chained = linked-take before_of notes n are.chained;
        numbered = All-take (λ e. IsNumbered e.note) n notes are.numbered;
        last = NameLast-take notes n are.last;
        within = rw (length-take-le l later h, length-take-le n notes k) within;
        put_aside = rw (length-take-le l later h, length-take-le n notes k) put_aside;
      },
      sym (same_ways later (take l later) notes (take n notes) l n pending here (λ i g. from-take next_of later l i h g) (λ i g. from-take before_of notes n i k g) within put_aside),
    ))

-- ---- what is to be done

pub nothing_to_do : {T : Type 0} (later : List (Later T)) (notes : List Noted) (pending : List Pending) (here : Here) (w : Ways T) → ways_of later notes pending here ≡ w
    → ways_of later notes pending (record here { next = 0 }) ≡ record w { here = record w.here { todo = [] } }
nothing_to_do {T} later notes pending here w e =
    ap (λ es. ways (record { todo = map (λ e. e.item) es; way = (thread_of (reverse later) (reverse notes) here).way }) (ways_of later notes pending here).pending) (entries_from-none next_of (reverse later))
    ∙ ap (λ (v : Ways T). record v { here = record v.here { todo = [] } }) e

-- one more thing is an entry
pub one_more_to_do : {T : Type 0} (later later2 : List (Later T)) (notes : List Noted) (pending : List Pending) (here : Here) (w : Ways T) (item : T) (number : ℕ)
    → AreWays later notes pending here → ways_of later notes pending here ≡ w
    → later2 ≡ later ++ record { item = item; next = here.next } ∷ [] → number ≡ length later2
    → AreWays later2 notes pending (record here { next = number })
    × (ways_of later2 notes pending (record here { next = number }) ≡ record w { here = record w.here { todo = item ∷ w.here.todo } })
one_more_to_do {T} later later2 notes pending here w item number are e f g =
    let entry : Later T = record { item = item; next = here.next } in
    let more : length (later ++ entry ∷ []) ≡ length later + 1 = length-append later (entry ∷ []) in
    let last : number ≡ length later + 1 = g ∙ ap length f ∙ more in
    let next = are.within.next in
    let todo : map (λ e. e.item) (entries_from next_of (reverse (later ++ entry ∷ [])) number) ≡ item ∷ (ways_of later notes pending here).here.todo =
    ap (map (λ e. e.item)) (from-pushed next_of later entry number last) in
    let others = same_pending (reverse (later ++ entry ∷ [])) (reverse later) (reverse notes) (reverse notes) (length later) (length notes) (reverse pending)
    (λ k h. from-push next_of later entry k h) (λ k h. refl) are.put_aside in
    rw f ((
      record {
        linked = linked-push next_of later entry next are.linked;
        chained = are.chained;
        numbered = are.numbered;
        last = are.last;
        within = record { next = omega arith; noted = are.within.noted };
        put_aside = ArePending-more (length later) (length notes) (length (later ++ entry ∷ [])) (length notes) (reverse pending) (omega arith) (omega arith) are.put_aside;
      },
      ap (λ (t : List T). ways (record { todo = t; way = (ways_of later notes pending here).here.way }) (threads_of (reverse (later ++ entry ∷ [])) (reverse notes) (reverse pending))) todo
          ∙ ap (λ ts. ways (record { todo = item ∷ (ways_of later notes pending here).here.todo; way = (ways_of later notes pending here).here.way }) ts) others
          ∙ ap (λ (v : Ways T). record v { here = record v.here { todo = item ∷ v.here.todo } }) e,
    ))

-- what is to be done first
pub first_entry : {T : Type 0} (later : List (Later T)) (notes : List Noted) (pending : List Pending) (here : Here) (w : Ways T) (entry : Later T)
    → AreWays later notes pending here → ways_of later notes pending here ≡ w → 0 < here.next → entry ≡ get_or later (here.next - 1) entry
    → (entry.next + 1 ≤ here.next) × AreWays later notes pending (record here { next = entry.next })
    × (w.here.todo ≡ entry.item ∷ (ways_of later notes pending (record here { next = entry.next })).here.todo)
    × (w.here.way ≡ (ways_of later notes pending (record here { next = entry.next })).here.way)
    × (w.pending ≡ (ways_of later notes pending (record here { next = entry.next })).pending)
first_entry {T} later notes pending here w entry are e some read =
    let within = are.within.next in
    let at = from-at next_of later (here.next - 1) entry (omega arith) are.linked in
    let low : entry.next ≤ here.next - 1 = rw read at.0 in
    let number : here.next - 1 + 1 ≡ here.next = omega arith in
    let items : entries_from next_of (reverse later) here.next ≡ entry ∷ entries_from next_of (reverse later) entry.next =
    ap (entries_from next_of (reverse later)) (sym number) ∙ at.1 ∙ ap (λ (x : Later T). x ∷ entries_from next_of (reverse later) x.next) (sym read) in (
      omega arith,
      record { linked = are.linked; chained = are.chained; numbered = are.numbered; last = are.last; within = record { next = omega arith; noted = are.within.noted }; put_aside = are.put_aside },
      ap (λ (v : Ways T). v.here.todo) (sym e)
          ∙ ap (λ es. map (λ e. e.item) es) items,
      ap (λ (v : Ways T). v.here.way) (sym e),
      ap (λ (v : Ways T). v.pending) (sym e),
    )

-- the pending ways name no entry above these
named_within : (l n : ℕ) (ps : List Pending) → ArePending l n ps → entries_named ps ≤ l
named_within l n [] pending = omega arith
named_within l n (p ∷ ps) pending = pending.0

ArePending-named : (l n m : ℕ) (ps : List Pending) → entries_named ps ≤ m → ArePending l n ps → ArePending m n ps
ArePending-named l n m [] h pending = tt
ArePending-named l n m (p ∷ ps) h pending = (h, pending.1, pending.2, pending.3, pending.4)

greater : (m n kept count : ℕ) → kept ≡ max m n → m ≤ count → n ≤ count → (m ≤ kept) × (n ≤ kept) × (kept ≤ count)
greater m n kept count e h k = (omega arith, omega arith, omega arith)

-- it may be forgotten then, with those above it that no pending way names
pub first_entry_taken : {T : Type 0} (later later2 : List (Later T)) (notes : List Noted) (pending : List Pending) (here : Here) (w : Ways T) (entry : Later T) (kept : ℕ)
    → AreWays later notes pending here → ways_of later notes pending here ≡ w → 0 < here.next → entry ≡ get_or later (here.next - 1) entry
    → kept ≡ max (here.next - 1) (entries_named (reverse pending)) → later2 ≡ take kept later
    → AreWays later2 notes pending (record here { next = entry.next })
    × (w.here.todo ≡ entry.item ∷ (ways_of later2 notes pending (record here { next = entry.next })).here.todo)
    × (w.here.way ≡ (ways_of later2 notes pending (record here { next = entry.next })).here.way)
    × (w.pending ≡ (ways_of later2 notes pending (record here { next = entry.next })).pending)
first_entry_taken {T} later later2 notes pending here w entry kept are e some read greatest cut_to =
    let taken = first_entry later notes pending here w entry are e some read in
    let low = taken.0 in
    let next = are.within.next in
    let enough = greater (here.next - 1) (entries_named (reverse pending)) kept (length later) greatest (omega arith) (named_within (length later) (length notes) (reverse pending) are.put_aside) in
    let above = enough.0 in
    let all : notes ≡ take (length notes) notes = sym (take_all (length notes) notes (omega arith)) in
    let within : IsWithin kept (length notes) (record here { next = entry.next }) = record { next = omega arith; noted = are.within.noted } in
    let done = cut later later2 notes notes kept (length notes) pending (record here { next = entry.next }) taken.1 cut_to all enough.2 (omega arith) within
    (ArePending-named (length later) (length notes) kept (reverse pending) enough.1 are.put_aside) in (
      done.0,
      taken.2 ∙ ap (λ (v : Ways T). entry.item ∷ v.here.todo) (sym done.1),
      taken.3 ∙ ap (λ (v : Ways T). v.here.way) (sym done.1),
      taken.4 ∙ ap (λ (v : Ways T). v.pending) (sym done.1),
    )

pub nothing_left : {T : Type 0} (later : List (Later T)) (notes : List Noted) (pending : List Pending) (here : Here) (w : Ways T)
    → ways_of later notes pending here ≡ w → here.next ≡ 0 → w.here.todo ≡ []
nothing_left {T} later notes pending here w e zero =
    ap (λ (v : Ways T). v.here.todo) (sym e)
    ∙ ap (λ n. map (λ e. e.item) (entries_from next_of (reverse later) n)) zero
    ∙ ap (λ es. map (λ e. e.item) es) (entries_from-none next_of (reverse later))

-- ---- what a way notes

noted_at : (w : Way) (note : Note) (p : Place) → record (with_note w note) { at = p } ≡ with_note (record w { at = p }) note
noted_at w (Captured number from to) p = refl
noted_at w (External number from to) p = refl
noted_at w (Start q) p = refl
noted_at w (Stop q) p = refl

pub one_more_note : {T : Type 0} (later : List (Later T)) (notes notes2 : List Noted) (pending : List Pending) (here : Here) (w : Ways T) (note : Note) (last own : List ℕ) (number : ℕ)
    → AreWays later notes pending here → ways_of later notes pending here ≡ w → IsNumbered note → IsLast (reverse notes) here.noted last → own ≡ with_last last note (length notes + 1)
    → notes2 ≡ notes ++ record { note = note; before = here.noted; last = own } ∷ [] → number ≡ length notes2
    → AreWays later notes2 pending (record here { noted = number })
    × (ways_of later notes2 pending (record here { noted = number }) ≡ record w { here = record w.here { way = with_note w.here.way note } })
one_more_note {T} later notes notes2 pending here w note last own number are e numbered latest is f g =
    let entry : Noted = record { note = note; before = here.noted; last = own } in
    let more : length (notes ++ entry ∷ []) ≡ length notes + 1 = length-append notes (entry ∷ []) in
    let number_is : number ≡ length notes + 1 = g ∙ ap length f ∙ more in
    let before = are.within.noted in
    let way = ap (λ es. record (with_notes es) { at = here.at }) (from-pushed before_of notes entry number number_is)
    ∙ noted_at (with_notes (entries_from before_of (reverse notes) here.noted)) note here.at in
    let others = same_pending (reverse later) (reverse later) (reverse (notes ++ entry ∷ [])) (reverse notes) (length later) (length notes) (reverse pending)
    (λ k h. refl) (λ k h. from-push before_of notes entry k h) are.put_aside in
    rw f ((
      record {
        linked = are.linked;
        chained = linked-push before_of notes entry before are.chained;
        numbered = All-push (λ e. IsNumbered e.note) notes entry are.numbered numbered;
        last = NameLast-push notes note here.noted last own before numbered latest is are.last;
        within = record { next = are.within.next; noted = omega arith };
        put_aside = ArePending-more (length later) (length notes) (length later) (length (notes ++ entry ∷ [])) (reverse pending) (omega arith) (omega arith) are.put_aside;
      },
      ap (λ (v : Way). ways (record { todo = (ways_of later notes pending here).here.todo; way = v }) (threads_of (reverse later) (reverse (notes ++ entry ∷ [])) (reverse pending))) way
          ∙ ap (λ ts. ways (record { todo = (ways_of later notes pending here).here.todo; way = with_note (ways_of later notes pending here).here.way note }) ts) others
          ∙ ap (λ (v : Ways T). record v { here = record v.here { way = with_note v.here.way note } }) e,
    ))

-- ---- pending ways

-- one more entry is that many ways
pub one_more_pending : {T : Type 0} (later : List (Later T)) (notes : List Noted) (pending pending2 : List Pending) (here : Here) (w : Ways T) (count before : ℕ)
    → AreWays later notes pending here → ways_of later notes pending here ≡ w
    → 1 ≤ count → here.at.col + count ≤ 2 ^ 64 → before ≡ length w.pending → before + count < 2 ^ 64
    → pending2 ≡ pending ++ record { here = here; count = count; before = before; later = length later; notes = length notes } ∷ []
    → AreWays later notes pending2 here
    × (ways_of later notes pending2 here ≡ record w { pending = run_of w.here count ++ w.pending })
one_more_pending {T} later notes pending pending2 here w count before are e some columns many few f =
    let entry : Pending = record { here = here; count = count; before = before; later = length later; notes = length notes } in
    let turned : reverse (pending ++ entry ∷ []) ≡ entry ∷ reverse pending = reverse-push pending entry in
    let below : before ≡ ways_counted (reverse pending) = many ∙ ap (λ (v : Ways T). length v.pending) (sym e) ∙ length-threads (reverse later) (reverse notes) (reverse pending) in
    let aside : ArePending (length later) (length notes) (entry ∷ reverse pending) =
    (omega arith, omega arith, are.within, record { some = some; columns = columns; before = below; few = few }, are.put_aside) in
    rw f ((
      record {
        linked = are.linked;
        chained = are.chained;
        numbered = are.numbered;
        last = are.last;
        within = are.within;
        put_aside = subst (ArePending (length later) (length notes)) (sym turned) aside;
      },
      ap (λ ps. ways (thread_of (reverse later) (reverse notes) here) (threads_of (reverse later) (reverse notes) ps)) turned
          ∙ ap (λ (v : Ways T). record v { pending = run_of v.here count ++ v.pending }) e,
    ))

-- the entry of the next way
pub next_entry : {T : Type 0} (later : List (Later T)) (notes : List Noted) (pending older : List Pending) (next : Pending) (here : Here)
    → AreWays later notes pending here → pending ≡ older ++ next ∷ [] → IsCounted next (reverse older)
next_entry later notes pending older next here are f =
    (subst (ArePending (length later) (length notes)) (ap reverse f ∙ reverse-push older next) are.put_aside).3

-- the next pending way in place of the present one
pub taken_up : {T : Type 0} (later later2 : List (Later T)) (notes notes2 : List Noted) (pending pending2 older : List Pending) (next : Pending) (here up : Here) (w : Ways T)
    → AreWays later notes pending here → ways_of later notes pending here ≡ w
    → pending ≡ older ++ next ∷ [] → pending2 ≡ older ++ shorter next → later2 ≡ take next.later later → notes2 ≡ take next.notes notes
    → up ≡ last_of next
    → AreWays later2 notes2 pending2 up
    × (w.pending ≡ (ways_of later2 notes2 pending2 up).here ∷ (ways_of later2 notes2 pending2 up).pending)
taken_up {T} later later2 notes notes2 pending pending2 older next here up w are e f f2 g h up_is =
    let turned : reverse pending ≡ next ∷ reverse older = ap reverse f ∙ reverse-push older next in
    let aside = subst (ArePending (length later) (length notes)) turned are.put_aside in
    let left : reverse pending2 ≡ shorter next ++ reverse older = ap reverse f2 ∙ shorter-reverse older next in
    let low = subst (ArePending next.later next.notes) (sym left) (shorter-pending (length later) (length notes) next (reverse older) aside) in
    let rest = ArePending-more next.later next.notes (length later) (length notes) (reverse pending2) aside.0 aside.1 low in
    let named = aside.2 in
    let few = aside.0 in
    let few2 = aside.1 in
    let taken : AreWays later notes pending2 (last_of next) = record {
      linked = are.linked;
      chained = are.chained;
      numbered = are.numbered;
      last = are.last;
      within = record { next = let low = named.next in omega arith; noted = let low = named.noted in omega arith };
      put_aside = rest;
    } in
    let done = cut later later2 notes notes2 next.later next.notes pending2 (last_of next) taken g h few few2 (record { next = named.next; noted = named.noted }) low in
    rw up_is ((
      done.0,
      ap (λ (v : Ways T). v.pending) (sym e)
          ∙ ap (threads_of (reverse later) (reverse notes)) turned
          ∙ shorter-threads (reverse later) (reverse notes) next (reverse older) aside.3.some
          ∙ ap (λ ps. thread_of (reverse later) (reverse notes) (last_of next) ∷ threads_of (reverse later) (reverse notes) ps) (sym left)
          ∙ ap (λ (v : Ways T). v.here ∷ v.pending) (sym done.1),
    ))

-- what is to be done on the next pending way, with the notes of the present one
pub gone_on : {T : Type 0} (later later2 : List (Later T)) (notes : List Noted) (pending pending2 older : List Pending) (next : Pending) (here up : Here) (w : Ways T) (at : Place)
    → AreWays later notes pending here → ways_of later notes pending here ≡ w
    → pending ≡ older ++ next ∷ [] → pending2 ≡ older ++ shorter next → later2 ≡ take next.later later
    → up ≡ last_of next
    → AreWays later2 notes pending2 (record up { at = at; noted = here.noted })
    × (w.pending ≡ thread_of (reverse later) (reverse notes) up ∷ (ways_of later2 notes pending2 (record up { at = at; noted = here.noted })).pending)
    × ((ways_of later2 notes pending2 (record up { at = at; noted = here.noted })).here ≡ record { todo = (thread_of (reverse later) (reverse notes) up).todo; way = record w.here.way { at = at } })
gone_on {T} later later2 notes pending pending2 older next here up w at are e f f2 g up_is =
    let there : Here = record next.here { at = at; noted = here.noted } in
    let turned : reverse pending ≡ next ∷ reverse older = ap reverse f ∙ reverse-push older next in
    let aside = subst (ArePending (length later) (length notes)) turned are.put_aside in
    let left : reverse pending2 ≡ shorter next ++ reverse older = ap reverse f2 ∙ shorter-reverse older next in
    let low = subst (ArePending next.later next.notes) (sym left) (shorter-pending (length later) (length notes) next (reverse older) aside) in
    let rest = ArePending-more next.later next.notes (length later) (length notes) (reverse pending2) aside.0 aside.1 low in
    let rest2 = ArePending-more next.later next.notes next.later (length notes) (reverse pending2) (omega arith) aside.1 low in
    let named = aside.2 in
    let few = aside.0 in
    let taken : AreWays later notes pending2 there = record {
      linked = are.linked;
      chained = are.chained;
      numbered = are.numbered;
      last = are.last;
      within = record { next = let low = named.next in omega arith; noted = are.within.noted };
      put_aside = rest;
    } in
    let all : notes ≡ take (length notes) notes = sym (take_all (length notes) notes (omega arith)) in
    let done = cut later later2 notes notes next.later (length notes) pending2 there taken g all few (omega arith) (record { next = named.next; noted = are.within.noted }) rest2 in
    rw up_is ((
      done.0,
      ap (λ (v : Ways T). v.pending) (sym e)
          ∙ ap (threads_of (reverse later) (reverse notes)) turned
          ∙ shorter-threads (reverse later) (reverse notes) next (reverse older) aside.3.some
          ∙ ap (λ ps. thread_of (reverse later) (reverse notes) (last_of next) ∷ threads_of (reverse later) (reverse notes) ps) (sym left)
          ∙ ap (λ (v : Ways T). thread_of (reverse later) (reverse notes) (last_of next) ∷ v.pending) (sym done.1),
      ap (λ (v : Ways T). v.here) done.1 ∙ ap (λ (v : Ways T). record { todo = (thread_of (reverse later) (reverse notes) (last_of next)).todo; way = record v.here.way { at = at } }) e,
    ))

-- the pending ways but for those put aside last
pub forgotten : {T : Type 0} (later : List (Later T)) (notes : List Noted) (pending pending2 : List Pending) (here : Here) (w : Ways T) (count : ℕ)
    → AreWays later notes pending here → ways_of later notes pending here ≡ w → count ≤ length w.pending → reverse pending2 ≡ kept_to count (reverse pending)
    → AreWays later notes pending2 here
    × (ways_of later notes pending2 here ≡ record w { pending = drop (length w.pending - count) w.pending })
forgotten {T} later notes pending pending2 here w count are e few f =
    let many : length w.pending ≡ ways_counted (reverse pending) = ap (λ (v : Ways T). length v.pending) (sym e) ∙ length-threads (reverse later) (reverse notes) (reverse pending) in
    let few2 : count ≤ ways_counted (reverse pending) = omega arith in (
      record {
        linked = are.linked;
        chained = are.chained;
        numbered = are.numbered;
        last = are.last;
        within = are.within;
        put_aside = subst (ArePending (length later) (length notes)) (sym f) (kept_to-pending (length later) (length notes) count (reverse pending) are.put_aside few2);
      },
      ap (λ ps. ways (thread_of (reverse later) (reverse notes) here) (threads_of (reverse later) (reverse notes) ps)) f
          ∙ ap (λ ts. ways (thread_of (reverse later) (reverse notes) here) ts) (kept_to-threads (reverse later) (reverse notes) (length later) (length notes) count (reverse pending) are.put_aside few2)
          ∙ ap (λ n. ways (thread_of (reverse later) (reverse notes) here) (drop (n - count) (threads_of (reverse later) (reverse notes) (reverse pending)))) (sym many)
          ∙ ap (λ (v : Ways T). ways v.here (drop (length w.pending - count) v.pending)) e,
    )
