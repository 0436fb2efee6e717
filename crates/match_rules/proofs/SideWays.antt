-- The same way in both texts, moved: with its captures, whose texts are equal.
use Rattle.std.proofs.Common.{◌≡◌, ℕ, zero, suc, ◌-◌, Bool, true, false, List, [], ◌∷◌, get_or, set, map, take, drop, replicate, refl, sym, ap, ◌∙◌, arith}
use Rattle.std.specs.Prelude.{Option, Some, None, pos, nat_eq, if◌then◌else◌}
use Rattle.std.proofs.lemmas.Bool.{eqb-true}
use Rattle.syn_base.specs.declared.places.Place.{Place}
use Rattle.match_rules.specs.Ways.{Capture, Way, line_at, capture_of, with_capture}
use Rattle.match_rules.specs.Atoms.{text_between, captured_text, group_text}
use Rattle.match_rules.specs.Attempt.{external_of}
use Rattle.match_rules.proofs.Walks.{walk-text, characters-same, text_in_line-between}
use Rattle.match_rules.proofs.Sides.{Two, other, AgreesOn, Moved}
use Rattle.match_rules.proofs.Steps.{Reached, same_eq}

-- both not there, or between the same places, with the same text
abbrev pub CaptureMoved : Two → Capture → Capture → Type 0
CaptureMoved two None None = Unit {0}
CaptureMoved two (Some a) (Some b) = Moved two a.0 b.0 × Moved two a.1 b.1 × (text_between two.text b.0 b.1 ≡ text_between two.x.text a.0 a.1)
CaptureMoved two None (Some b) = ⊥
CaptureMoved two (Some a) None = ⊥

abbrev pub CapturesMoved : Two → List Capture → List Capture → Type 0
CapturesMoved two [] [] = Unit {0}
CapturesMoved two (a ∷ cs) (b ∷ ds) = CaptureMoved two a b × CapturesMoved two cs ds
CapturesMoved two [] (b ∷ ds) = ⊥
CapturesMoved two (a ∷ cs) [] = ⊥

pub captures-none : (two : Two) (n : ℕ) → CapturesMoved two (replicate n None) (replicate n None)
captures-none two zero = tt
captures-none two (suc n) = (tt, captures-none two n)

pub captures-get : (two : Two) (cs ds : List Capture) (i : ℕ) → CapturesMoved two cs ds → CaptureMoved two (get_or cs i None) (get_or ds i None)
captures-get two [] [] i h = tt
captures-get two (a ∷ cs) (b ∷ ds) zero h = h.0
captures-get two (a ∷ cs) (b ∷ ds) (suc i) h = captures-get two cs ds i h.1
captures-get two [] (b ∷ ds) i h = absurd h
captures-get two (a ∷ cs) [] i h = absurd h

pub captures-set : (two : Two) (cs ds : List Capture) (i : ℕ) (c d : Capture) → CaptureMoved two c d → CapturesMoved two cs ds → CapturesMoved two (set cs i c) (set ds i d)
captures-set two [] [] i c d m h = tt
captures-set two (a ∷ cs) (b ∷ ds) zero c d m h = (m, h.1)
captures-set two (a ∷ cs) (b ∷ ds) (suc i) c d m h = (h.0, captures-set two cs ds i c d m h.1)
captures-set two [] (b ∷ ds) i c d m h = absurd h
captures-set two (a ∷ cs) [] i c d m h = absurd h

captured-same : (two : Two) (c d : Capture) → CaptureMoved two c d → captured_text two.text d ≡ captured_text two.x.text c
captured-same two None None m = refl
captured-same two (Some a) (Some b) m = m.2
captured-same two None (Some b) m = absurd m
captured-same two (Some a) None m = absurd m

text_in_line-by : (two : Two) (a b : Place × Place) → CaptureMoved two (Some a) (Some b) → (t : Bool) → nat_eq a.0.line a.1.line ≡ t →
    (if t then take (b.1.col - b.0.col) (drop b.0.col (line_at two.text b.0.line)) else []) ≡ (if t then take (a.1.col - a.0.col) (drop a.0.col (line_at two.x.text a.0.line)) else [])
text_in_line-by two a b m true e =
    let k : a.0.line ≡ a.1.line = eqb-true a.0.line a.1.line e in
    let j : b.0.line ≡ b.1.line = omega (arith, m.0.line, m.1.line) in
    characters-same _ _ (sym (text_in_line-between two.text b.0 b.1 j) ∙ (m.2 ∙ text_in_line-between two.x.text a.0 a.1 k))
text_in_line-by two a b m false e = refl

lines-same : (two : Two) (a b : Place × Place) → CaptureMoved two (Some a) (Some b) → nat_eq b.0.line b.1.line ≡ nat_eq a.0.line a.1.line
lines-same two a b m = same_eq b.0.line b.1.line a.0.line a.1.line (λ h. omega (arith, m.0.line, m.1.line)) (λ h. omega (arith, m.0.line, m.1.line))

external-same : (two : Two) (c d : Capture) → CaptureMoved two c d → external_of two.text d ≡ external_of two.x.text c
external-same two None None m = refl
external-same two (Some a) (Some b) m =
    ap (λ t. if t then take (b.1.col - b.0.col) (drop b.0.col (line_at two.text b.0.line)) else []) (lines-same two a b m)
    ∙ text_in_line-by two a b m (nat_eq a.0.line a.1.line) refl
external-same two None (Some b) m = absurd m
external-same two (Some a) None m = absurd m

pub externals-same : (two : Two) (cs ds : List Capture) → CapturesMoved two cs ds → map (external_of two.text) ds ≡ map (external_of two.x.text) cs
externals-same two [] [] m = refl
externals-same two (a ∷ cs) (b ∷ ds) m =
    ap (λ t. t ∷ map (external_of two.text) ds) (external-same two a b m.0)
    ∙ ap (λ ts. external_of two.x.text a ∷ ts) (externals-same two cs ds m.1)
externals-same two [] (b ∷ ds) m = absurd m
externals-same two (a ∷ cs) [] m = absurd m

-- ---- where the match begins and ends

-- the texts agree on the line in which it begins
abbrev pub StartMoved : Two → Option Place → Option Place → Type 0
StartMoved two None None = Unit {0}
StartMoved two (Some p) (Some q) = Moved two p q × AgreesOn two (pos p.line)
StartMoved two None (Some q) = ⊥
StartMoved two (Some p) None = ⊥

abbrev pub StopMoved : Two → Option Place → Option Place → Type 0
StopMoved two None None = Unit {0}
StopMoved two (Some p) (Some q) = Moved two p q
StopMoved two None (Some q) = ⊥
StopMoved two (Some p) None = ⊥

-- ---- ways

-- all that a way notes
pub record NotesMoved (two : Two) (w v : Way) : Type 0 where
  pub captures : CapturesMoved two w.captures v.captures
  pub externals : CapturesMoved two w.externals v.externals
  pub start : StartMoved two w.start v.start
  pub stop : StopMoved two w.stop v.stop

pub record WayMoved (two : Two) (w v : Way) : Type 0 where
  pub at : Moved two w.at v.at
  pub notes : NotesMoved two w v

-- and reached from two places by the same text
pub record ReachedWay (two : Two) (p q : Place) (w v : Way) : Type 0 where
  pub way : WayMoved two w v
  pub by : Reached two p q w.at v.at

pub group_text-same : (two : Two) (w v : Way) (number : ℕ) → WayMoved two w v → group_text (other two) v number ≡ group_text two.x w number
group_text-same two w v number m =
    captured-same two (capture_of w.captures number) (capture_of v.captures number) (captures-get two w.captures v.captures (number - 1) m.notes.captures)

-- a walk from place to place gives the capture of a group
capture-moved : (two : Two) (p q p' q' : Place) → Moved two p q → Moved two p' q' → Reached two p q p' q' → CaptureMoved two (Some (p, p')) (Some (q, q'))
capture-moved two p q p' q' m n r =
    (m, n, walk-text two.text q q' r.pieces r.walk_other ∙ sym (walk-text two.x.text p p' r.pieces r.walk))

pub with_capture-moved : (two : Two) (cs ds : List Capture) (number : ℕ) (p q p' q' : Place) → CapturesMoved two cs ds → Moved two p q → Moved two p' q' → Reached two p q p' q' → CapturesMoved two (with_capture cs number p p') (with_capture ds number q q')
with_capture-moved two cs ds number p q p' q' h m n r =
    captures-set two cs ds (number - 1) (Some (p, p')) (Some (q, q')) (capture-moved two p q p' q' m n r) h
