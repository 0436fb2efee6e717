-- Laws of the notes that a short look has taken.
use Rattle.std.proofs.Common.{◌≡◌, ◌≤◌, ◌<◌, ◌+◌, ℕ, zero, suc, List, [], ◌∷◌, ◌++◌, arith, refl, sym, ap, ◌∙◌}
use Rattle.syn_base.specs.declared.places.Place.{Place}
use Rattle.pattern_items.specs.declared.atom.Atom.TheVariants.{MatchStart, MatchStop}
use Rattle.std.specs.Prelude.{Some, drop, get_or, length, take}
use Rattle.match_rules.specs.Atoms.{own_line}
use Rattle.match_rules.specs.Marks.{Tick, Reach}
use Rattle.match_rules.specs.Ways.{Way, way_from}
use Rattle.pattern_match.specs.Glance.{IsNoteOf}
use Rattle.pattern_match.specs.Ways.{way_noted, with_all, with_earlier, with_note}
use Rattle.pattern_match.specs.declared.ways.Note.{Note}
use Rattle.pattern_match.specs.declared.ways.Note.TheVariants.{Captured, External, Start, Stop}
use Rattle.pattern_match.proofs.NoteLaws.{HasNine, nine-note, on_top-note, on_top_of}

-- a note moves nothing
pub note-at : (w : Way) (note : Note) → (with_note w note).at ≡ w.at
note-at w (Captured number from to) = refl
note-at w (External number from to) = refl
note-at w (Start p) = refl
note-at w (Stop p) = refl

pub notes-at : (notes : List Note) (w : Way) → (with_all notes w).at ≡ w.at
notes-at [] w = refl
notes-at (note ∷ earlier) w = note-at (with_all earlier w) note ∙ notes-at earlier w

note-moved : (w : Way) (p : Place) (note : Note) → with_note (record w { at = p }) note ≡ record (with_note w note) { at = p }
note-moved w p (Captured number from to) = refl
note-moved w p (External number from to) = refl
note-moved w p (Start q) = refl
note-moved w p (Stop q) = refl

notes-moved : (notes : List Note) (w : Way) (p : Place) → with_all notes (record w { at = p }) ≡ record (with_all notes w) { at = p }
notes-moved [] w p = refl
notes-moved (note ∷ earlier) w p =
    ap (λ v. with_note v note) (notes-moved earlier w p) ∙ note-moved (with_all earlier w) p note

-- notes are the same wherever the way stood before
pub noted-moved : (w : Way) (p : Place) (notes : List Note) (q : Place) → way_noted (record w { at = p }) notes q ≡ way_noted w notes q
noted-moved w p notes q = ap (λ (v : Way). record v { at = q }) (notes-moved notes w p)

notes-more : (notes more : List Note) (w : Way) → with_all (notes ++ more) w ≡ with_all notes (with_all more w)
notes-more [] more w = refl
notes-more (note ∷ earlier) more w = ap (λ v. with_note v note) (notes-more earlier more w)

-- notes on top of others
pub noted-more : (w : Way) (notes more : List Note) (q : Place) → way_noted w (notes ++ more) q ≡ way_noted (with_all more w) notes q
noted-more w notes more q = ap (λ (v : Way). record v { at = q }) (notes-more notes more w)

-- where a way with notes stands at its own place again
pub noted-back : (w : Way) (notes : List Note) → record (with_all notes w) { at = w.at } ≡ with_all notes w
noted-back w notes = ap (λ p. record (with_all notes w) { at = p }) (sym (notes-at notes w))

pub nine-all : (notes : List Note) (p : Place) → HasNine (with_all notes (way_from p))
nine-all [] p = record { captures = refl; externals = refl }
nine-all (note ∷ earlier) p = nine-note (with_all earlier (way_from p)) note (nine-all earlier p)

-- ---- notes taken before others

pub take-whole : (notes more : List Note) → take (length notes) (notes ++ more) ≡ notes
take-whole [] more = refl
take-whole (note ∷ notes) more = ap (λ r. note ∷ r) (take-whole notes more)

pub drop-whole : (notes more : List Note) → drop (length notes) (notes ++ more) ≡ more
drop-whole [] more = refl
drop-whole (note ∷ notes) more = drop-whole notes more

pub nothing-there : (notes : List Note) → length notes ≡ 0 → notes ≡ []
nothing-there [] e = refl
nothing-there (note ∷ notes) e = absurd (omega arith)

pub nothing-more : (notes more all : List Note) → all ≡ notes ++ more → length all ≡ length notes → more ≡ []
nothing-more [] more all is e = nothing-there more (ap length (sym is) ∙ e)
nothing-more (note ∷ notes) more all is e = nothing-more notes more (notes ++ more) refl (omega (arith, ap length is))

pub no-fewer : (notes more all : List Note) → all ≡ notes ++ more → length notes ≤ length all
no-fewer [] more all is = omega arith
no-fewer (note ∷ notes) more all is =
    let fewer = no-fewer notes more (notes ++ more) refl in
    omega (arith, ap length is)

-- ---- notes one by one

pub drop-all : (notes : List Note) (n : ℕ) → length notes ≤ n → drop n notes ≡ []
drop-all [] zero h = refl
drop-all [] (suc n) h = refl
drop-all (note ∷ notes) zero h = absurd (omega arith)
drop-all (note ∷ notes) (suc n) h = drop-all notes n (omega arith)

drop-at : (notes : List Note) (n : ℕ) (d : Note) → n < length notes → drop n notes ≡ get_or notes n d ∷ drop (n + 1) notes
drop-at [] n d h = absurd (omega arith)
drop-at (first ∷ notes) zero d h = refl
drop-at (first ∷ notes) (suc n) d h =
    let same : suc (n + 1) ≡ suc n + 1 = omega arith in
    drop-at notes n d (omega arith) ∙ ap (λ k. get_or notes n d ∷ drop k (first ∷ notes)) same

-- a way takes the next note, where nothing later was noted
pub one-more : (way next : Way) (notes : List Note) (i : ℕ) (d : Note) (p at : Place) → next ≡ with_earlier way (get_or notes i d) → i < length notes → HasNine way
    → on_top_of way (with_all (drop i notes) (way_from p)) ≡ way_noted (way_from p) notes at → on_top_of next (with_all (drop (i + 1) notes) (way_from p)) ≡ way_noted (way_from p) notes at
one-more way next notes i d p at is within nine h =
    let earlier = with_all (drop (i + 1) notes) (way_from p) in
    ap (λ w. on_top_of w earlier) is
    ∙ on_top-note way earlier (get_or notes i d) nine (nine-all (drop (i + 1) notes) p)
    ∙ ap (λ r. on_top_of way (with_all r (way_from p))) (sym (drop-at notes i d within))
    ∙ h

-- ---- atoms that note their place

pub start-note : (p : Place) → IsNoteOf MatchStart p (Start p)
start-note p x w e = ap (λ q. Tick (own_line w) ∷ Reach (record w { start = Some q }) ∷ []) e

pub stop-note : (p : Place) → IsNoteOf MatchStop p (Stop p)
stop-note p x w e = ap (λ q. Tick (own_line w) ∷ Reach (record w { stop = Some q }) ∷ []) e
