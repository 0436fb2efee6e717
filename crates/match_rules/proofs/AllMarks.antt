-- What holds of the lines of each tick and of each way, through the making of marks.
use Rattle.std.proofs.Common.{ℕ, zero, suc, Bool, true, false, List, [], ◌∷◌, ◌++◌}
use Rattle.std.specs.Prelude.{Option}
use Rattle.syn_base.specs.declared.looked.Looked.{Looked}
use Rattle.syn_base.specs.declared.places.Place.{Place}
use Rattle.syn_base.specs.Looked.{hull_of}
use Rattle.match_rules.specs.Ways.{Text, Way, is_after, is_same_place}
use Rattle.match_rules.specs.Marks.{Mark, Tick, Reach, followed, ticks_first, first_way, reach_if}
use Rattle.match_rules.specs.Counts.{places_behind, free_turns, turns, in_order, one_less, less_by, is_spent}
use Rattle.match_rules.specs.Looks.{look, ending_at, looking_at, from_each}
use Rattle.match_rules.proofs.Starts.{Each}

module _ (Q : Looked → Type 0) where
  abbrev pub AllMarks : (Way → Type 0) → List Mark → Type 0
  AllMarks P [] = Unit {0}
  AllMarks P (Tick l ∷ marks) = Q l × AllMarks P marks
  AllMarks P (Reach w ∷ marks) = P w × AllMarks P marks

  pub AllMarks-append : (P : Way → Type 0) (a b : List Mark) → AllMarks P a → AllMarks P b →
      AllMarks P (a ++ b)
  AllMarks-append P [] b h k = k
  AllMarks-append P (Tick l ∷ a) b h k = (h.0, AllMarks-append P a b h.1 k)
  AllMarks-append P (Reach w ∷ a) b h k = (h.0, AllMarks-append P a b h.1 k)

  pub AllMarks-followed : (P S : Way → Type 0) (a : List Mark) (f : Way → List Mark) →
      AllMarks P a →
      ((w : Way) → P w → AllMarks S (f w)) → AllMarks S (followed a f)
  AllMarks-followed P S [] f h k = tt
  AllMarks-followed P S (Tick l ∷ a) f h k = (h.0, AllMarks-followed P S a f h.1 k)
  AllMarks-followed P S (Reach w ∷ a) f h k =
      AllMarks-append S (f w) (followed a f) (k w h.0) (AllMarks-followed P S a f h.1 k)

  pub AllMarks-map : (P S : Way → Type 0) (a : List Mark) → ((w : Way) → P w → S w) → AllMarks P a →
      AllMarks S a
  AllMarks-map P S [] f h = tt
  AllMarks-map P S (Tick l ∷ a) f h = (h.0, AllMarks-map P S a f h.1)
  AllMarks-map P S (Reach w ∷ a) f h = (f w h.0, AllMarks-map P S a f h.1)

  in_order-all : (P : Way → Type 0) (lazy : Bool) (a b : List Mark) → AllMarks P a → AllMarks P b →
      AllMarks P (in_order lazy a b)
  in_order-all P true a b h k = AllMarks-append P b a k h
  in_order-all P false a b h k = AllMarks-append P a b h k

  if-all : (P : Way → Type 0) (b : Bool) (x y : List Mark) → AllMarks P x → AllMarks P y →
      AllMarks P (elim b as (λ _. List Mark) [ true ↦ x | false ↦ y ])
  if-all P true x y h k = h
  if-all P false x y h k = k

  module _ (P : Way → Type 0) (text : Text) (part : Way → List Mark) (lazy : Bool)
      (keeps : (w : Way) → P w → AllMarks P (part w)) where
    free_turns-all : (left : ℕ) (most : Option ℕ) (w : Way) → P w →
        AllMarks P (free_turns part lazy left most w)
    free_turns-all zero most w h = (h, tt)
    free_turns-all (suc left) most w h =
        if-all P (is_spent most) _ _ (h, tt)
        (in_order-all P lazy _ _
        (AllMarks-followed P P (part w) _ (keeps w h)
        (λ v k. if-all P (is_after v.at w.at) _ _ (free_turns-all left (one_less most) v k) tt))
        (h, tt))

    pub turns-all : (least : ℕ) (most : Option ℕ) (w : Way) → P w →
        AllMarks P (turns text part lazy least most w)
    turns-all zero most w h = free_turns-all (suc (places_behind text w.at)) most w h
    turns-all (suc least) most w h =
        if-all P (is_spent most) _ _ (h, tt)
        (AllMarks-followed P P (part w) _ (keeps w h)
        (λ v k. if-all P (is_after v.at w.at) _ _ (turns-all least (one_less most) v k)
        (free_turns-all (suc (places_behind text v.at)) (less_by most (suc least)) v k)))

  -- a look goes on at its place, with what the first way noted
  pub look-all : (P S : Way → Type 0) (negative : Bool) (w : Way) → S w →
      ((v : Way) → P v → S (record v { at = w.at })) → (marks : List Mark) → AllMarks P marks →
      AllMarks S (look negative w marks)
  look-all P S true w h f [] k = (h, tt)
  look-all P S false w h f [] k = tt
  look-all P S true w h f (Reach v ∷ marks) k = tt
  look-all P S false w h f (Reach v ∷ marks) k = (f v k.0, tt)
  look-all P S negative w h f (Tick l ∷ marks) k = (k.0, look-all P S negative w h f marks k.1)

  pub whole-all : (P : Way → Type 0) (marks : List Mark) → AllMarks P marks →
      AllMarks P (ticks_first marks ++ reach_if (first_way marks))
  whole-all P [] k = tt
  whole-all P (Reach w ∷ marks) k = (k.0, tt)
  whole-all P (Tick l ∷ marks) k = (k.0, whole-all P marks k.1)

  -- ---- looks behind

  pub ending_at-all : (P : Way → Type 0) (p : Place) (marks : List Mark) → AllMarks P marks →
      AllMarks P (ending_at p marks)
  ending_at-all P p [] k = tt
  ending_at-all P p (Tick l ∷ marks) k = (k.0, ending_at-all P p marks k.1)
  ending_at-all P p (Reach w ∷ marks) k =
      let rest = ending_at-all P p marks k.1 in
      if-all P (is_same_place w.at p) (Reach w ∷ ending_at p marks) (ending_at p marks) (k.0, rest)
      rest

  pub from_each-all : (E : Place → Type 0) (P : Way → Type 0) (f : Way → List Mark) (w : Way) →
      ((p : Place) → E p → AllMarks P (f (record w { at = p }))) → (ps : List Place) → Each E ps →
      AllMarks P (from_each f w ps)
  from_each-all E P f w same [] h = tt
  from_each-all E P f w same (p ∷ ps) h =
      AllMarks-append P (f (record w { at = p })) (from_each f w ps) (same p h.0)
      (from_each-all E P f w same ps h.1)

  pub looking_at-all : (P : Way → Type 0) (m : Looked) → ((l : Looked) → Q l → Q (hull_of l m)) →
      (marks : List Mark) → AllMarks P marks → AllMarks P (looking_at m marks)
  looking_at-all P m joins [] k = tt
  looking_at-all P m joins (Tick l ∷ marks) k = (joins l k.0, looking_at-all P m joins marks k.1)
  looking_at-all P m joins (Reach w ∷ marks) k = (k.0, looking_at-all P m joins marks k.1)
