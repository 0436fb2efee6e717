-- The ways of an attempt: the present one with what is still to be done on it, and the pending ones,
-- the next first.
use Rattle.std.specs.Prelude.{◌≡◌, ℕ, zero, suc, ◌+◌, ◌<◌, ◌≤◌, ◌^◌, Bool, true, false, List, [], ◌∷◌, ◌++◌, length, map, reverse, All, None, Some, ◌-◌, nat_eq, nat_lt, set, get_or, if◌then◌else◌}
use Rattle.std.specs.Option.{option_or}
use Rattle.syn_base.specs.declared.places.Place.{Place}
use Rattle.match_rules.specs.Ways.{Way, Capture, way_from, place, with_capture, capture_of}
use Rattle.pattern_match.specs.Entries.{entries_from, AreLinked}
use Rattle.pattern_match.specs.declared.ways.Later.{Later}
use Rattle.pattern_match.specs.declared.ways.Note.{Note}
use Rattle.pattern_match.specs.declared.ways.Note.TheVariants.{Captured, External, Start, Stop}
use Rattle.pattern_match.specs.declared.ways.Noted.{Noted}
use Rattle.pattern_match.specs.declared.ways.Here.{Here}
use Rattle.pattern_match.specs.declared.ways.Pending.{Pending}
use Rattle.pattern_match.specs.declared.ways.FoundWay.{FoundWay}

pub record Thread (T : Type 0) : Type 0 where
  pub todo : List T
  pub way : Way

pub record Ways (T : Type 0) : Type 0 where
  pub here : Thread T
  pub pending : List (Thread T)

-- ---- ways that differ in their columns alone

abbrev pub columns_on : Place → ℕ → Place
columns_on p count = place p.line (p.col + count)

-- the way some columns further on in its line
abbrev pub further : {T : Type 0} → Thread T → ℕ → Thread T
further t count = record { todo = t.todo; way = record t.way { at = columns_on t.way.at count } }

-- the way at its column and at those behind it, so many, the last column first
abbrev pub run_of : {T : Type 0} → Thread T → ℕ → List (Thread T)
run_of t zero = []
run_of t (suc count) = further t count ∷ run_of t count

-- the way has moved on some columns, and one is pending at each of them
abbrev pub run_aside : {T : Type 0} → Ways T → ℕ → Ways T
run_aside ways count = record {
  here = further ways.here count;
  pending = run_of ways.here count ++ ways.pending;
}

-- ---- how the entries stand for them

abbrev pub next_of : {T : Type 0} → Later T → ℕ
next_of entry = entry.next

abbrev pub before_of : Noted → ℕ
before_of entry = entry.before

-- what is to be done, from an entry on
abbrev pub items_from : {T : Type 0} → List (Later T) → ℕ → List T
items_from later number = map (λ e. e.item) (entries_from next_of later number)

abbrev pub with_note : Way → Note → Way
with_note w (Captured number from to) = record w {
  captures = with_capture w.captures number from
      to;
}
with_note w (External number from to) = record w {
  externals = with_capture w.externals number from
      to;
}
with_note w (Start p) = record w { start = Some p }
with_note w (Stop p) = record w { stop = Some p }

-- the way with these notes, the last one first
abbrev pub with_all : List Note → Way → Way
with_all [] w = w
with_all (note ∷ earlier) w = with_note (with_all earlier w) note

-- the same, at the place to which it has come
abbrev pub way_noted : Way → List Note → Place → Way
way_noted w notes p = record (with_all notes w) { at = p }

-- the way that notes make, the last one first, but for its place
abbrev pub with_notes : List Noted → Way
with_notes [] = way_from (place 0 0)
with_notes (entry ∷ older) = with_note (with_notes older) entry.note

abbrev pub thread_of : {T : Type 0} → List (Later T) → List Noted → Here → Thread T
thread_of later notes here = record {
  todo = items_from later here.next;
  way = record (with_notes (entries_from before_of notes here.noted)) { at = here.at };
}

-- the ways that entries stand for, the newest entry first
abbrev pub threads_of : {T : Type 0} → List (Later T) → List Noted → List Pending → List (Thread T)
threads_of later notes [] = []
threads_of later notes (p ∷ older) =
    run_of (thread_of later notes p.here) p.count ++ threads_of later notes older

abbrev pub ways_of : {T : Type 0} → List (Later T) → List Noted → List Pending → Here → Ways T
ways_of later notes pending here = record {
  here = thread_of (reverse later) (reverse notes) here;
  pending = threads_of (reverse later) (reverse notes) (reverse pending);
}

-- ---- what the entries keep

-- the number of a group is 1 to 9
abbrev pub IsNumbered : Note → Type 0
IsNumbered (Captured number from to) = (1 ≤ number) × (number ≤ 9)
IsNumbered (External number from to) = (1 ≤ number) × (number ≤ 9)
IsNumbered (Start p) = Unit {0}
IsNumbered (Stop p) = Unit {0}

-- a way names entries among the first ones alone
pub record IsWithin (later notes : ℕ) (here : Here) : Type 0 where
  pub next : here.next ≤ later
  pub noted : here.noted ≤ notes

-- how many ways entries stand for
abbrev pub ways_counted : List Pending → ℕ
ways_counted [] = 0
ways_counted (p ∷ older) = p.count + ways_counted older

-- an entry stands for some ways at columns that there may be, and knows how many are below it
pub record IsCounted (p : Pending) (older : List Pending) : Type 0 where
  pub some : 1 ≤ p.count
  pub columns : p.here.at.col + p.count ≤ 2 ^ 64
  pub before : p.before ≡ ways_counted older
  pub few : p.before + p.count < 2 ^ 64

abbrev pub IsNextCounted : List Pending → Type 0
IsNextCounted [] = Unit {0}
IsNextCounted (p ∷ older) = IsCounted p older

-- each pending way names entries that were there when it was put aside, the next one first
abbrev pub ArePending : ℕ → ℕ → List Pending → Type 0
ArePending later notes [] = Unit {0}
ArePending later notes (p ∷ older) =
    (p.later ≤ later) × (p.notes ≤ notes) × IsWithin p.later p.notes p.here ×
    IsCounted p older × ArePending p.later p.notes older

-- the next way of an entry, which is that at the last column
abbrev pub last_of : Pending → Here
last_of p = record p.here { at = columns_on p.here.at (p.count - 1) }

-- what an entry is without its next way
abbrev pub shorter : Pending → List Pending
shorter p = if nat_lt 1 p.count then record p { count = p.count - 1 } ∷ [] else []

-- the entries of the last ways alone, so many, of entries with the newest first
abbrev pub kept_to : ℕ → List Pending → List Pending
kept_to count [] = []
kept_to count (p ∷ older) =
    if nat_lt p.before count then record p { count = count - p.before } ∷ older
    else kept_to count older

-- where a note says that a counted group matched
abbrev pub capture_in : Note → ℕ → Capture
capture_in (Captured closed from to) number = if nat_eq closed number then Some (from, to) else None
capture_in (External closed from to) number = None
capture_in (Start p) number = None
capture_in (Stop p) number = None

-- the same of the first of some entries
abbrev pub capture_first : List Noted → ℕ → Capture
capture_first [] group = None
capture_first (entry ∷ older) group = capture_in entry.note group

-- of the entries from the one with a number on, these are the last ones of the counted groups
pub record IsLast (notes : List Noted) (number : ℕ) (last : List ℕ) : Type 0 where
  pub nine : length last ≡ 9
  pub within : (group : ℕ) → 1 ≤ group → group ≤ 9 → get_or last (group - 1) 0 ≤ number
  pub same : (group : ℕ) → 1 ≤ group → group ≤ 9 →
      capture_of (with_notes (entries_from before_of notes number)).captures group ≡ capture_first
      (entries_from before_of notes (get_or last (group - 1) 0)) group

-- each entry names the last ones from itself on
abbrev pub NameLast : List Noted → Type 0
NameLast [] = Unit {0}
NameLast (entry ∷ older) = IsLast (entry ∷ older) (suc (length older)) entry.last × NameLast older

-- the last ones with a note on top, which has a number
abbrev pub with_last : List ℕ → Note → ℕ → List ℕ
with_last last (Captured group from to) number = set last (group - 1) number
with_last last (External group from to) number = last
with_last last (Start p) number = last
with_last last (Stop p) number = last

pub record AreWays {T : Type 0} (later : List (Later T)) (notes : List Noted)
    (pending : List Pending) (here : Here) : Type 0 where
  pub linked : AreLinked next_of (reverse later)
  pub chained : AreLinked before_of (reverse notes)
  pub numbered : All (λ e. IsNumbered e.note) notes
  pub last : NameLast (reverse notes)
  pub within : IsWithin (length later) (length notes) here
  pub put_aside : ArePending (length later) (length notes) (reverse pending)

-- how many entries of what is to be done the pending ways name at most
abbrev pub entries_named : List Pending → ℕ
entries_named [] = 0
entries_named (p ∷ older) = p.later

-- ---- what calls answer

-- the place of the one way, or of the other
abbrev pub place_of : Bool → Place → Place → Place
place_of true here there = here
place_of false here there = there

abbrev pub found_way : FoundWay → Way
found_way w = record {
  at = w.at;
  captures = w.captures;
  externals = w.externals;
  start = w.start;
  stop = w.stop;
}

-- a note that came before all those of a way
abbrev pub with_earlier_capture : List Capture → ℕ → Place → Place → List Capture
with_earlier_capture captures number from to =
    set captures (number - 1) (option_or (get_or captures (number - 1) None) (Some (from, to)))

abbrev pub with_earlier : Way → Note → Way
with_earlier w (Captured number from to) =
    record w { captures = with_earlier_capture w.captures number from to }
with_earlier w (External number from to) =
    record w { externals = with_earlier_capture w.externals number from to }
with_earlier w (Start p) = record w { start = option_or w.start (Some p) }
with_earlier w (Stop p) = record w { stop = option_or w.stop (Some p) }
