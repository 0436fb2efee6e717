-- Laws of what a way noted, read from the last note on.
use Rattle.std.proofs.Common.{◌≡◌, ◌≢◌, ℕ, zero, suc, ◌+◌, ◌-◌, ◌<◌, ◌≤◌, Bool, true, false, cond, List, [], ◌∷◌, length, get_or, refl, sym, ap, ◌∙◌, arith}
use Rattle.std.specs.Prelude.{reverse, replicate, set, nat_eq, All, Option, Some, None}
use Rattle.std.specs.Option.{option_or}
use Rattle.std.proofs.lemmas.Bool.{eqb-true}
use Rattle.std.proofs.lemmas.Bool.Decides.{nat_tests}
use Rattle.std.proofs.lemmas.List.{length-set, get_or-set_same, get_or-set_other, get_or-replicate}
use Rattle.syn_base.specs.declared.places.Place.{Place}
use Rattle.match_rules.specs.Ways.{Way, Capture, capture_of, place, way_from}
use Rattle.pattern_match.specs.Entries.{entries_from, AreLinked}
use Rattle.pattern_match.specs.Ways.{before_of, with_note, with_notes, with_earlier, capture_in, IsNumbered}
use Rattle.pattern_match.specs.declared.ways.Note.{Note}
use Rattle.pattern_match.specs.declared.ways.Note.TheVariants.{Captured, External, Start, Stop}
use Rattle.pattern_match.specs.declared.ways.Noted.{Noted}
use Rattle.pattern_match.proofs.EntryLaws.{entries_from-none, from-at}

-- what the notes from one on make
abbrev pub noted_from : List Noted → ℕ → Way
noted_from notes number = with_notes (entries_from before_of (reverse notes) number)

pub record HasNine (w : Way) : Type 0 where
  pub captures : length w.captures ≡ 9
  pub externals : length w.externals ≡ 9

pub nine-note : (w : Way) (note : Note) → HasNine w → HasNine (with_note w note)
nine-note w (Captured number from to) nine = record { captures = length-set w.captures (number - 1) (Some (from, to)) ∙ nine.captures; externals = nine.externals }
nine-note w (External number from to) nine = record { captures = nine.captures; externals = length-set w.externals (number - 1) (Some (from, to)) ∙ nine.externals }
nine-note w (Start p) nine = record { captures = nine.captures; externals = nine.externals }
nine-note w (Stop p) nine = record { captures = nine.captures; externals = nine.externals }

pub nine-notes : (notes : List Noted) → HasNine (with_notes notes)
nine-notes [] = record { captures = refl; externals = refl }
nine-notes (entry ∷ older) = nine-note (with_notes older) entry.note (nine-notes older)

pub noted_from-none : (notes : List Noted) → noted_from notes 0 ≡ way_from (place 0 0)
noted_from-none notes = ap with_notes (entries_from-none before_of (reverse notes))

-- a way that names no note noted nothing
pub nothing_noted : (notes : List Noted) (number : ℕ) (at : Place) → nat_eq number 0 ≡ true → record (noted_from notes number) { at = at } ≡ way_from at
nothing_noted notes number at h = rw (eqb-true number 0 h) (ap (λ (w : Way). record w { at = at }) (noted_from-none notes))

-- the note with a number, on top of those before it
pub noted_from-at : (notes : List Noted) (number : ℕ) (entry : Noted) → AreLinked before_of (reverse notes) → All (λ e. IsNumbered e.note) notes
    → 0 < number → number ≤ length notes → entry ≡ get_or notes (number - 1) entry
    → (entry.before < number) × IsNumbered entry.note × (noted_from notes number ≡ with_note (noted_from notes entry.before) entry.note)
noted_from-at notes number entry linked numbered some within read =
    let at = from-at before_of notes (number - 1) entry (omega arith) linked in
    let low : entry.before ≤ number - 1 = rw read at.0 in
    let same : number - 1 + 1 ≡ number = omega arith in (
      omega arith,
      rw read (numbered (number - 1) entry (omega arith)),
      ap (λ n. noted_from notes n) (sym same) ∙ ap with_notes at.1 ∙ ap (λ (e : Noted). with_note (noted_from notes e.before) e.note) (sym read),
    )

-- ---- one group

captured : (closed number : ℕ) (captures : List Capture) (x : Capture) (b : Bool) → nat_eq closed number ≡ b
    → 1 ≤ closed → 1 ≤ number → number ≤ 9 → length captures ≡ 9
    → get_or (set captures (closed - 1) x) (number - 1) None ≡ cond b x (get_or captures (number - 1) None)
captured closed number captures x true same h k l nine =
    let e : closed ≡ number = grind (arith, nat_tests) in
    ap (λ n. get_or (set captures (n - 1) x) (number - 1) None) e ∙ get_or-set_same captures (number - 1) x None (omega arith)
captured closed number captures x false other h k l nine =
    let e : closed ≢ number = grind (arith, nat_tests) in
    get_or-set_other captures (closed - 1) (number - 1) x None (omega arith)

over : (b : Bool) (x y : Place) (c : Capture) → cond b (Some (x, y)) c ≡ option_or (cond b (Some (x, y)) None) c
over true x y c = refl
over false x y c = refl

pub capture_of-note : (w : Way) (note : Note) (number : ℕ) → IsNumbered note → 1 ≤ number → number ≤ 9 → HasNine w
    → capture_of (with_note w note).captures number ≡ option_or (capture_in note number) (capture_of w.captures number)
capture_of-note w (Captured closed from to) number numbered h k nine =
    captured closed number w.captures (Some (from, to)) (nat_eq closed number) refl numbered.0 h k nine.captures ∙ over (nat_eq closed number) from to (capture_of w.captures number)
capture_of-note w (External closed from to) number numbered h k nine = refl
capture_of-note w (Start p) number numbered h k nine = refl
capture_of-note w (Stop p) number numbered h k nine = refl

pub capture_of-none : (number : ℕ) → 1 ≤ number → number ≤ 9 → capture_of (way_from (place 0 0)).captures number ≡ None
capture_of-none number h k = get_or-replicate 9 (number - 1) None None (omega arith)

-- the group is read from the note with a number, or from those before it
pub capture_of-at : (notes : List Noted) (number group : ℕ) (entry : Noted) → AreLinked before_of (reverse notes) → All (λ e. IsNumbered e.note) notes
    → 0 < number → number ≤ length notes → entry ≡ get_or notes (number - 1) entry → 1 ≤ group → group ≤ 9
    → capture_of (noted_from notes number).captures group ≡ option_or (capture_in entry.note group) (capture_of (noted_from notes entry.before).captures group)
capture_of-at notes number group entry linked numbered some within read h k =
    let there = noted_from-at notes number entry linked numbered some within read in
    ap (λ (w : Way). capture_of w.captures group) there.2
    ∙ capture_of-note (noted_from notes entry.before) entry.note group there.1 h k (nine-notes (entries_from before_of (reverse notes) entry.before))

pub capture_of-end : (notes : List Noted) (number group : ℕ) → number ≤ 0 → 1 ≤ group → group ≤ 9 → capture_of (noted_from notes number).captures group ≡ None
capture_of-end notes number group none h k =
    let zero : number ≡ 0 = omega arith in
    ap (λ n. capture_of (noted_from notes n).captures group) zero ∙ ap (λ (w : Way). capture_of w.captures group) (noted_from-none notes) ∙ capture_of-none group h k

-- ---- all groups

-- the places of each group by the one list, and by the other where it has none
abbrev either_of : List Capture → List Capture → List Capture
either_of [] others = []
either_of (x ∷ xs) [] = x ∷ xs
either_of (x ∷ xs) (y ∷ ys) = option_or x y ∷ either_of xs ys

-- what a way noted, on top of what was noted before
abbrev pub on_top_of : Way → Way → Way
on_top_of w earlier = record {
  at = w.at;
  captures = either_of w.captures earlier.captures;
  externals = either_of w.externals earlier.externals;
  start = option_or w.start earlier.start;
  stop = option_or w.stop earlier.stop;
}

either-set : (xs ys : List Capture) (i : ℕ) (from to : Place) → length xs ≡ length ys
    → either_of (set xs i (option_or (get_or xs i None) (Some (from, to)))) ys ≡ either_of xs (set ys i (Some (from, to)))
either-set [] ys i from to same = refl
either-set (x ∷ xs) [] i from to same = absurd (omega arith)
either-set (None ∷ xs) (y ∷ ys) zero from to same = refl
either-set (Some x ∷ xs) (y ∷ ys) zero from to same = refl
either-set (x ∷ xs) (y ∷ ys) (suc i) from to same = ap (λ zs. option_or x y ∷ zs) (either-set xs ys i from to (omega arith))

either-nothing : (xs : List Capture) → either_of xs (replicate (length xs) None) ≡ xs
either-nothing [] = refl
either-nothing (None ∷ xs) = ap (λ zs. None ∷ zs) (either-nothing xs)
either-nothing (Some x ∷ xs) = ap (λ zs. Some x ∷ zs) (either-nothing xs)

nothing-either : (ys : List Capture) → either_of (replicate (length ys) None) ys ≡ ys
nothing-either [] = refl
nothing-either (y ∷ ys) = ap (λ zs. y ∷ zs) (nothing-either ys)

start-either : (x : Option Place) (p : Place) (y : Option Place) → option_or (option_or x (Some p)) y ≡ option_or x (Some p)
start-either None p y = refl
start-either (Some x) p y = refl

either-none : (x : Option Place) → option_or x None ≡ x
either-none None = refl
either-none (Some x) = refl

-- a note joins those of the way
pub on_top-note : (w earlier : Way) (note : Note) → HasNine w → HasNine earlier → on_top_of (with_earlier w note) earlier ≡ on_top_of w (with_note earlier note)
on_top-note w earlier (Captured number from to) nine nine2 =
    ap (λ cs. record (on_top_of w earlier) { captures = cs }) (either-set w.captures earlier.captures (number - 1) from to (nine.captures ∙ sym nine2.captures))
on_top-note w earlier (External number from to) nine nine2 =
    ap (λ cs. record (on_top_of w earlier) { externals = cs }) (either-set w.externals earlier.externals (number - 1) from to (nine.externals ∙ sym nine2.externals))
on_top-note w earlier (Start p) nine nine2 = ap (λ s. record (on_top_of w earlier) { start = s }) (start-either w.start p earlier.start)
on_top-note w earlier (Stop p) nine nine2 = ap (λ s. record (on_top_of w earlier) { stop = s }) (start-either w.stop p earlier.stop)

pub on_top-nothing : (w : Way) → HasNine w → on_top_of w (way_from (place 0 0)) ≡ w
on_top-nothing w nine =
    let captures : either_of w.captures (replicate 9 None) ≡ w.captures = ap (λ n. either_of w.captures (replicate n None)) (sym nine.captures) ∙ either-nothing w.captures in
    let externals : either_of w.externals (replicate 9 None) ≡ w.externals = ap (λ n. either_of w.externals (replicate n None)) (sym nine.externals) ∙ either-nothing w.externals in
    ap (λ cs. record (on_top_of w (way_from (place 0 0))) { captures = cs }) captures
    ∙ ap (λ cs. record w { externals = cs; start = option_or w.start None; stop = option_or w.stop None }) externals
    ∙ ap (λ s. record w { start = s; stop = option_or w.stop None }) (either-none w.start)
    ∙ ap (λ s. record w { stop = s }) (either-none w.stop)

pub nothing-on_top : (p : Place) (earlier : Way) → HasNine earlier → on_top_of (way_from p) earlier ≡ record earlier { at = p }
nothing-on_top p earlier nine =
    let captures : either_of (replicate 9 None) earlier.captures ≡ earlier.captures = ap (λ n. either_of (replicate n None) earlier.captures) (sym nine.captures) ∙ nothing-either earlier.captures in
    let externals : either_of (replicate 9 None) earlier.externals ≡ earlier.externals = ap (λ n. either_of (replicate n None) earlier.externals) (sym nine.externals) ∙ nothing-either earlier.externals in
    ap (λ cs. record (on_top_of (way_from p) earlier) { captures = cs }) captures ∙ ap (λ cs. record earlier { at = p; externals = cs }) externals

pub nine-earlier : (w : Way) (note : Note) → HasNine w → HasNine (with_earlier w note)
nine-earlier w (Captured number from to) nine = record { captures = length-set w.captures (number - 1) (option_or (get_or w.captures (number - 1) None) (Some (from, to))) ∙ nine.captures; externals = nine.externals }
nine-earlier w (External number from to) nine = record { captures = nine.captures; externals = length-set w.externals (number - 1) (option_or (get_or w.externals (number - 1) None) (Some (from, to))) ∙ nine.externals }
nine-earlier w (Start p) nine = record { captures = nine.captures; externals = nine.externals }
nine-earlier w (Stop p) nine = record { captures = nine.captures; externals = nine.externals }

pub on_top-end : (w : Way) (notes : List Noted) (number : ℕ) → number ≤ 0 → HasNine w → on_top_of w (noted_from notes number) ≡ w
on_top-end w notes number none nine =
    let zero : number ≡ 0 = omega arith in
    ap (λ n. on_top_of w (noted_from notes n)) zero ∙ ap (on_top_of w) (noted_from-none notes) ∙ on_top-nothing w nine
