-- Laws of the last note of each counted group, which the entries name.
use Rattle.std.proofs.Common.{◌≡◌, ◌≢◌, ℕ, suc, ◌+◌, ◌-◌, ◌<◌, ◌≤◌, Bool, true, false, cond, List, [], ◌∷◌, ◌++◌, length, take, drop, get_or, refl, sym, ap, ◌∙◌, subst, arith, append_assoc}
use Rattle.std.specs.Prelude.{reverse, replicate, set, nat_eq, Some, None}
use Rattle.std.specs.Option.{option_or}
use Rattle.std.proofs.lemmas.Bool.Decides.{nat_tests}
use Rattle.std.proofs.lemmas.List.{length-set, get_or-set_same, get_or-set_other, get_or-replicate, length-reverse, length-take-le}
use Rattle.syn_base.specs.declared.places.Place.{Place}
use Rattle.match_rules.specs.Ways.{capture_of}
use Rattle.pattern_match.specs.Entries.{entries_from, AreLinked}
use Rattle.pattern_match.specs.Ways.{before_of, with_notes, with_last, capture_in, capture_first, IsNumbered, IsLast, NameLast}
use Rattle.pattern_match.specs.declared.ways.Note.{Note}
use Rattle.pattern_match.specs.declared.ways.Note.TheVariants.{Captured, External, Start, Stop}
use Rattle.pattern_match.specs.declared.ways.Noted.{Noted}
use Rattle.pattern_match.proofs.EntryLaws.{entries_from-none, entries_from-newer, entries_from-at, from-at, reverse-push, reverse-cut, reverse-at}
use Rattle.pattern_match.proofs.NoteLaws.{capture_of-note, capture_of-none, nine-notes}

-- the entry of a number on top of older ones is the first from there on
first-top : (entry : Noted) (older : List Noted) (number group : ℕ) → number ≡ length older + 1
    → capture_first (entries_from before_of (entry ∷ older) number) group ≡ capture_in entry.note group
first-top entry older number group e =
    ap (λ es. capture_first es group) (entries_from-at before_of entry older number e)

first-older : (entry : Noted) (older : List Noted) (number group : ℕ) → number ≤ length older
    → capture_first (entries_from before_of older number) group ≡ capture_first (entries_from before_of (entry ∷ older) number) group
first-older entry older number group h =
    ap (λ es. capture_first es group) (sym (entries_from-newer before_of (entry ∷ []) older number h))

captured : (from to : Place) (before closed : ℕ) (older : List Noted) (own last : List ℕ) (group : ℕ) (b : Bool) → nat_eq closed group ≡ b
    → 1 ≤ closed → 1 ≤ group → group ≤ 9 → length last ≡ 9 → get_or last (group - 1) 0 ≤ length older
    → option_or (cond b (Some (from, to)) None) (capture_first (entries_from before_of older (get_or last (group - 1) 0)) group)
    ≡ capture_first (entries_from before_of (record { note = Captured closed from to; before = before; last = own } ∷ older) (get_or (set last (closed - 1) (length older + 1)) (group - 1) 0)) group
captured from to before closed older own last group true same low h k nine within =
    let e : closed ≡ group = grind (arith, nat_tests) in
    let entry : Noted = record { note = Captured closed from to; before = before; last = own } in
    let own_one : get_or (set last (closed - 1) (length older + 1)) (group - 1) 0 ≡ length older + 1 =
    ap (λ n. get_or (set last (n - 1) (length older + 1)) (group - 1) 0) e ∙ get_or-set_same last (group - 1) (length older + 1) 0 (omega arith) in
    let noted : capture_in (Captured closed from to) group ≡ Some (from, to) = ap (λ (b : Bool). cond b (Some (from, to)) None) same in
    sym (first-top entry older (get_or (set last (closed - 1) (length older + 1)) (group - 1) 0) group own_one ∙ noted)
captured from to before closed older own last group false other low h k nine within =
    let e : closed ≢ group = grind (arith, nat_tests) in
    let entry : Noted = record { note = Captured closed from to; before = before; last = own } in
    let kept : get_or (set last (closed - 1) (length older + 1)) (group - 1) 0 ≡ get_or last (group - 1) 0 =
    get_or-set_other last (closed - 1) (group - 1) (length older + 1) 0 (omega arith) in
    first-older entry older (get_or last (group - 1) 0) group within
    ∙ ap (λ n. capture_first (entries_from before_of (entry ∷ older) n) group) (sym kept)

-- a group's last entry is the new one where that notes the group, or else the one before
named : (note : Note) (before : ℕ) (older : List Noted) (own last : List ℕ) (group : ℕ)
    → IsNumbered note → 1 ≤ group → group ≤ 9 → length last ≡ 9 → get_or last (group - 1) 0 ≤ length older
    → option_or (capture_in note group) (capture_first (entries_from before_of older (get_or last (group - 1) 0)) group)
    ≡ capture_first (entries_from before_of (record { note = note; before = before; last = own } ∷ older) (get_or (with_last last note (length older + 1)) (group - 1) 0)) group
named (Captured closed from to) before older own last group numbered h k nine low =
    captured from to before closed older own last group (nat_eq closed group) refl numbered.0 h k nine low
named (External closed from to) before older own last group numbered h k nine low =
    first-older (record { note = External closed from to; before = before; last = own }) older (get_or last (group - 1) 0) group low
named (Start p) before older own last group numbered h k nine low =
    first-older (record { note = Start p; before = before; last = own }) older (get_or last (group - 1) 0) group low
named (Stop p) before older own last group numbered h k nine low =
    first-older (record { note = Stop p; before = before; last = own }) older (get_or last (group - 1) 0) group low

still-nine : (last : List ℕ) (note : Note) (number : ℕ) → length last ≡ 9 → length (with_last last note number) ≡ 9
still-nine last (Captured closed from to) number nine = length-set last (closed - 1) number ∙ nine
still-nine last (External closed from to) number nine = nine
still-nine last (Start p) number nine = nine
still-nine last (Stop p) number nine = nine

set_within : (last : List ℕ) (i j number : ℕ) (b : Bool) → nat_eq i j ≡ b → i < length last → get_or last j 0 ≤ number → get_or (set last i number) j 0 ≤ number
set_within last i j number true same h low =
    let e : i ≡ j = grind (arith, nat_tests) in
    rw e (rw (get_or-set_same last j number 0 (omega arith)) (omega arith))
set_within last i j number false other h low =
    let e : j ≢ i = grind (arith, nat_tests) in
    rw (get_or-set_other last i j number 0 e) low

still-within : (last : List ℕ) (note : Note) (number group : ℕ) → IsNumbered note → length last ≡ 9 → get_or last (group - 1) 0 ≤ number → get_or (with_last last note number) (group - 1) 0 ≤ number
still-within last (Captured closed from to) number group numbered nine low =
    let few = numbered.1 in let some = numbered.0 in
    set_within last (closed - 1) (group - 1) number (nat_eq (closed - 1) (group - 1)) refl (omega arith) low
still-within last (External closed from to) number group numbered nine low = low
still-within last (Start p) number group numbered nine low = low
still-within last (Stop p) number group numbered nine low = low

-- ---- a note on top

is_last-top : (older : List Noted) (note : Note) (before : ℕ) (own last : List ℕ) → before ≤ length older → IsNumbered note → IsLast older before last
    → IsLast (record { note = note; before = before; last = own } ∷ older) (suc (length older)) (with_last last note (length older + 1))
is_last-top older note before own last low numbered latest =
    let entry : Noted = record { note = note; before = before; last = own } in
    record {
      nine = still-nine last note (length older + 1) latest.nine;
      within = λ group h k.
          (let w = latest.within group h k in
          let t : get_or (with_last last note (length older + 1)) (group - 1) 0 ≤ length older + 1 = still-within last note (length older + 1) group numbered latest.nine (omega arith) in
          omega arith);
      same = λ group h k.
          (let w = latest.within group h k in
          ap (λ es. capture_of (with_notes es).captures group) (entries_from-at before_of entry older (suc (length older)) (omega arith))
          ∙ capture_of-note (with_notes (entries_from before_of older before)) note group numbered h k (nine-notes (entries_from before_of older before))
          ∙ ap (λ x. option_or (capture_in note group) x) (latest.same group h k)
          ∙ named note before older own last group numbered h k latest.nine (omega arith));
    }

pub NameLast-push : (notes : List Noted) (note : Note) (before : ℕ) (last own : List ℕ) → before ≤ length notes → IsNumbered note → IsLast (reverse notes) before last → own ≡ with_last last note (length notes + 1)
    → NameLast (reverse notes) → NameLast (reverse (notes ++ record { note = note; before = before; last = own } ∷ []))
NameLast-push notes note before last own low numbered latest is all =
    let many : length (reverse notes) ≡ length notes = length-reverse notes in
    let entry : Noted = record { note = note; before = before; last = own } in
    let top = is_last-top (reverse notes) note before own last (omega arith) numbered latest in
    let named : with_last last note (length (reverse notes) + 1) ≡ own = ap (λ n. with_last last note (n + 1)) many ∙ sym is in
    rw (reverse-push notes entry) ((subst (IsLast (entry ∷ reverse notes) (suc (length (reverse notes)))) named top, all))

-- ---- newer entries may go

NameLast-older : (newer older : List Noted) → NameLast (newer ++ older) → NameLast older
NameLast-older [] older all = all
NameLast-older (entry ∷ newer) older all = NameLast-older newer older all.1

pub NameLast-take : (notes : List Noted) (m : ℕ) → NameLast (reverse notes) → NameLast (reverse (take m notes))
NameLast-take notes m all =
    NameLast-older (reverse (drop m notes)) (reverse (take m notes)) (subst NameLast (reverse-cut m notes) all)

-- ---- what an entry names

is_last-newer : (newer older : List Noted) (number : ℕ) (last : List ℕ) → number ≤ length older → IsLast older number last → IsLast (newer ++ older) number last
is_last-newer newer older number last h latest = record {
  nine = latest.nine;
  within = latest.within;
  same = λ group k l.
      (let w = latest.within group k l in
      ap (λ es. capture_of (with_notes es).captures group) (entries_from-newer before_of newer older number h)
      ∙ latest.same group k l
      ∙ ap (λ es. capture_first es group) (sym (entries_from-newer before_of newer older (get_or last (group - 1) 0) (omega arith))));
}

pub is_last-at : (notes : List Noted) (number : ℕ) (d : Noted) → NameLast (reverse notes) → 0 < number → number ≤ length notes
    → IsLast (reverse notes) number (get_or notes (number - 1) d).last
is_last-at notes number d all some within =
    let entry : Noted = get_or notes (number - 1) d in
    let newer = reverse (drop (number - 1 + 1) notes) in
    let older = reverse (take (number - 1) notes) in
    let many : length older ≡ number - 1 = length-reverse (take (number - 1) notes) ∙ length-take-le (number - 1) notes (omega arith) in
    let split : reverse notes ≡ newer ++ (entry ∷ older) = reverse-at notes (number - 1) d (omega arith) ∙ append_assoc newer (entry ∷ []) older in
    let named = NameLast-older newer (entry ∷ older) (subst NameLast split all) in
    let same : suc (length older) ≡ number = omega arith in
    let latest : IsLast (newer ++ (entry ∷ older)) (suc (length older)) entry.last = is_last-newer newer (entry ∷ older) (suc (length older)) entry.last (omega arith) named.0 in
    rw split (subst (λ n. IsLast (newer ++ (entry ∷ older)) n entry.last) same latest)

nothing : (group : ℕ) → 1 ≤ group → group ≤ 9 → ◌≡◌ {A = ℕ} (get_or (replicate 9 0) (group - 1) 0) 0
nothing group h k = get_or-replicate 9 (group - 1) 0 0 (omega arith)

pub is_last-none : (notes : List Noted) (number : ℕ) → number ≡ 0 → IsLast notes number (replicate 9 0)
is_last-none notes number nought =
    record {
      nine = refl;
      within = λ group h k. rw (nothing group h k) (omega arith);
      same = λ group h k.
          ap (λ n. capture_of (with_notes (entries_from before_of notes n)).captures group) nought
          ∙ ap (λ es. capture_of (with_notes es).captures group) (entries_from-none before_of notes)
          ∙ capture_of-none group h k
          ∙ sym (ap (λ n. capture_first (entries_from before_of notes n) group) (nothing group h k) ∙ ap (λ es. capture_first es group) (entries_from-none before_of notes));
    }

-- ---- the last note of a group

-- a group with no last entry has no capture
pub last-none : (notes : List Noted) (number : ℕ) (last : List ℕ) (group : ℕ) → IsLast notes number last → 1 ≤ group → group ≤ 9 → get_or last (group - 1) 0 ≡ 0
    → capture_of (with_notes (entries_from before_of notes number)).captures group ≡ None
last-none notes number last group latest h k nought =
    latest.same group h k
    ∙ ap (λ n. capture_first (entries_from before_of notes n) group) nought
    ∙ ap (λ es. capture_first es group) (entries_from-none before_of notes)

-- it is what the last entry says
pub last-some : (notes : List Noted) (number : ℕ) (last : List ℕ) (group at : ℕ) (entry : Noted) → AreLinked before_of (reverse notes) → IsLast (reverse notes) number last → number ≤ length notes
    → 1 ≤ group → group ≤ 9 → at ≡ get_or last (group - 1) 0 → 0 < at → entry ≡ get_or notes (at - 1) entry
    → capture_of (with_notes (entries_from before_of (reverse notes) number)).captures group ≡ capture_in entry.note group
last-some notes number last group at entry linked latest within h k is some read =
    let w = latest.within group h k in
    let there = from-at before_of notes (at - 1) entry (omega arith) linked in
    let same : at - 1 + 1 ≡ at = omega arith in
    latest.same group h k
    ∙ ap (λ n. capture_first (entries_from before_of (reverse notes) n) group) (sym is ∙ sym same)
    ∙ ap (λ es. capture_first es group) there.1
    ∙ ap (λ (e : Noted). capture_in e.note group) (sym read)
