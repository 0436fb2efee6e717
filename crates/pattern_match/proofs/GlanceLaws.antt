-- Short looks: what was seen of a node and of what follows it.
use Rattle.std.proofs.Common.{◌≡◌, ◌≢◌, ℕ, ◌+◌, ◌-◌, ◌<◌, arith, true, false, List, [], ◌∷◌, ◌++◌, refl, sym, ap, ◌∙◌, subst, append-nil, append_assoc}
use Rattle.std.specs.Prelude.{Bool, Option, Some, None, drop, length, take}
use Rattle.syn_base.specs.declared.looked.Looked.{Looked}
use Rattle.syn_base.specs.declared.places.Place.{Place}
use Rattle.pattern_items.specs.declared.atom.Atom.{Atom}
use Rattle.pattern_items.specs.declared.atom.Atom.TheVariants.{Char, Any, Is, Set, LineEnd, LineStart, LineStop, WordStart, WordStop, FileStart, FileStop, MatchStart, MatchStop, LineNumber, Ref, ExternalRef}
use Rattle.vim_pattern.specs.Shape.{Shape, empty, one, seq, or, group, external, ahead}
use Rattle.match_rules.specs.Ways.{Context, Way, IsPlaceOf, is_after, is_same_place}
use Rattle.match_rules.specs.Atoms.{fits, lines_looked, way_behind}
use Rattle.match_rules.specs.Attempt.{answer_from}
use Rattle.match_rules.specs.Counts.{one_less, less_by, is_spent, in_order}
use Rattle.match_rules.specs.Looks.{ending_at, look_end}
use Rattle.match_rules.specs.Marks.{Mark, Tick, Reach, followed, ticks_first, first_way}
use Rattle.match_rules.specs.Visits.{visits, noted, noted_external}
use Rattle.match_rules.proofs.Kept.{visits-kept}
use Rattle.match_rules.proofs.MarkLaws.{followed-append, followed-assoc}
use Rattle.match_rules.proofs.TurnLaws.{turns-spent, turns-free, turns-forced, after_turn-took, after_turn-empty, after_turn-dropped}
use Rattle.pattern_match.specs.declared.sight.Saw.{Saw}
use Rattle.pattern_match.specs.declared.sight.Saw.TheVariants.{Reached, InVain, TooFar}
use Rattle.pattern_match.specs.declared.sight.Sight.{Sight}
use Rattle.pattern_match.specs.declared.spent.Spent.{Spent}
use Rattle.pattern_match.specs.declared.task.Turns.{Turns}
use Rattle.pattern_match.specs.Steps.{shape_of}
use Rattle.pattern_match.specs.Glance.{IsFirst, IsSeen, IsAtomSeen, notes_place, AreTurnsLeft, turns_of, turns_behind, turn_of}
use Rattle.pattern_match.specs.Ways.{way_noted, with_all, with_note}
use Rattle.pattern_match.specs.declared.ways.Note.{Note}
use Rattle.pattern_match.specs.declared.ways.Note.TheVariants.{Captured, External}
use Rattle.pattern_match.proofs.TakenNotes.{drop-whole, noted-moved, noted-more, take-whole}
use Rattle.pattern_match.proofs.LookingBehind.{none_first, some_first}
use Rattle.pattern_match.proofs.Looping.{through, way_is}

-- ---- one look behind the other

-- what was seen behind what an earlier look has spent
pub seen_behind : (w : Way) (m k : List Mark) (old mid from new : Sight) (saw : Saw) → from.spent ≡ mid.spent → from.notes.items ≡ old.notes.items
    → answer_from old.spent.cost old.spent.looked m ≡ answer_from mid.spent.cost mid.spent.looked k → IsSeen w k from new saw → IsSeen w m old new saw
seen_behind w m k old mid from new Reached e n is h =
    (h.0, (h.1.0 ∙ ap (λ r. r ++ h.0) n, is ∙ ap (λ s. answer_from s.cost s.looked k) (sym e) ∙ h.1.1))
seen_behind w m k old mid from new InVain e n is h = (h.0 ∙ n, is ∙ ap (λ s. answer_from s.cost s.looked k) (sym e) ∙ h.1)
seen_behind w m k old mid from new TooFar e n is h = tt

-- what was seen of a way is seen of one that stands elsewhere
pub seen_moved : (w : Way) (p : Place) (m : List Mark) (old new : Sight) (saw : Saw) → IsSeen (record w { at = p }) m old new saw → IsSeen w m old new saw
seen_moved w p m old new Reached h =
    (h.0, (h.1.0, h.1.1 ∙ ap (λ v. record { way = Some v; cost = new.spent.cost; looked = new.spent.looked }) (noted-moved w p h.0 new.at)))
seen_moved w p m old new InVain h = h
seen_moved w p m old new TooFar h = tt

-- what was seen to have no first way, or not seen, tells the same of any way
pub seen_unless_reached : (v w : Way) (m : List Mark) (old new : Sight) (saw : Saw) → saw ≢ Reached → IsSeen v m old new saw → IsSeen w m old new saw
seen_unless_reached v w m old new Reached n h = absurd (n refl)
seen_unless_reached v w m old new InVain n h = h
seen_unless_reached v w m old new TooFar n h = tt

-- notes of the way that come before those of what was seen
pub seen_noted : (w : Way) (more : List Note) (m : List Mark) (old mid new : Sight) → IsSeen (with_all more w) m old mid Reached → new.at ≡ mid.at → new.spent ≡ mid.spent → new.notes.items ≡ mid.notes.items ++ more → IsSeen w m old new Reached
seen_noted w more m old mid new h at spent joins = (
  h.0 ++ more,
  (
    joins ∙ ap (λ r. r ++ more) h.1.0 ∙ append_assoc old.notes.items h.0 more,
    h.1.1 ∙ (λ i. record { way = Some (way_noted (with_all more w) h.0 (sym at i)); cost = (sym spent i).cost; looked = (sym spent i).looked })
        ∙ ap (λ v. record { way = Some v; cost = new.spent.cost; looked = new.spent.looked }) (sym (noted-more w h.0 more new.at)),
  ),
)

-- notes that were there before those of what was seen are put behind them
pub seen_later : (w : Way) (inner : List Note) (m : List Mark) (base old mid new : Sight) → base.notes.items ≡ [] → base.spent ≡ old.spent → old.notes.items ≡ inner → IsSeen (with_all inner w) m old mid Reached
    → new.at ≡ mid.at → new.spent ≡ mid.spent → new.notes.items ≡ drop (length inner) mid.notes.items ++ take (length inner) mid.notes.items → IsSeen w m base new Reached
seen_later w inner m base old mid new none same is h at spent rotated =
    let joined : mid.notes.items ≡ inner ++ h.0 = h.1.0 ∙ ap (λ r. r ++ h.0) is in (
      h.0 ++ inner,
      (
        rotated ∙ ap (λ r. drop (length inner) r ++ take (length inner) r) joined ∙ (λ i. drop-whole inner h.0 i ++ take-whole inner h.0 i) ∙ ap (λ r. r ++ (h.0 ++ inner)) (sym none),
        ap (λ s. answer_from s.cost s.looked m) same
            ∙ h.1.1 ∙ (λ i. record { way = Some (way_noted (with_all inner w) h.0 (sym at i)); cost = (sym spent i).cost; looked = (sym spent i).looked })
            ∙ ap (λ v. record { way = Some v; cost = new.spent.cost; looked = new.spent.looked }) (sym (noted-more w h.0 inner new.at)),
      ),
    )

-- a look that had taken no note
pub seen_first : (w : Way) (m : List Mark) (old new : Sight) (saw : Saw) (spent : Spent) → old.notes.items ≡ [] → old.spent ≡ spent → IsSeen w m old new saw → IsFirst w m spent new saw
seen_first w m old new Reached spent none same h =
    let notes : h.0 ≡ new.notes.items = sym (h.1.0 ∙ ap (λ r. r ++ h.0) none) in
    ap (λ s. answer_from s.cost s.looked m) (sym same) ∙ h.1.1
    ∙ ap (λ r. record { way = Some (way_noted w r new.at); cost = new.spent.cost; looked = new.spent.looked }) notes
seen_first w m old new InVain spent none same h = ap (λ s. answer_from s.cost s.looked m) (sym same) ∙ h.1
seen_first w m old new TooFar spent none same h = tt

-- no way is seen of the first marks, and so the others tell
pub vain_then : (w : Way) (a b : List Mark) (old mid from new : Sight) (saw : Saw) → from.spent ≡ mid.spent → from.notes.items ≡ mid.notes.items → IsSeen w a old mid InVain → IsSeen w b from new saw → IsSeen w (a ++ b) old new saw
vain_then w a b old mid from new saw e n h k =
    seen_behind w (a ++ b) b old mid from new saw e (n ∙ h.0)
    (none_first old.spent.cost old.spent.looked a b (ap (λ r. r.way) h.1) ∙ ap (λ r. answer_from r.cost r.looked b) h.1) k

-- a way is seen of the first marks, or nothing
pub first_stops : (w : Way) (a b : List Mark) (old new : Sight) (saw : Saw) → saw ≢ InVain → IsSeen w a old new saw → IsSeen w (a ++ b) old new saw
first_stops w a b old new Reached n h =
    (h.0, (h.1.0, some_first old.spent.cost old.spent.looked a b (way_noted w h.0 new.at) (ap (λ r. r.way) h.1.1) ∙ h.1.1))
first_stops w a b old new InVain n h = absurd (n refl)
first_stops w a b old new TooFar n h = tt

-- what was seen of marks that are the same
pub seen_as : (w : Way) (m k : List Mark) (old new : Sight) (saw : Saw) → m ≡ k → IsSeen w k old new saw → IsSeen w m old new saw
seen_as w m k old new saw e h = subst (λ r. IsSeen w r old new saw) (sym e) h

-- ---- an atom

-- an atom that notes nothing moves the way alone
pub moves_behind : (w : Way) (p : Place) (a : Atom) → notes_place a ≡ false → way_behind w p a ≡ record w { at = p }
moves_behind w p (Char c) e = refl
moves_behind w p (Any takes_end) e = refl
moves_behind w p (Is class negative takes_end) e = refl
moves_behind w p (Set ranges) e = refl
moves_behind w p LineEnd e = refl
moves_behind w p LineStart e = refl
moves_behind w p LineStop e = refl
moves_behind w p WordStart e = refl
moves_behind w p WordStop e = refl
moves_behind w p FileStart e = refl
moves_behind w p FileStop e = refl
moves_behind w p MatchStart e = absurd (cc)
moves_behind w p MatchStop e = absurd (cc)
moves_behind w p (LineNumber how number) e = refl
moves_behind w p (Ref number) e = refl
moves_behind w p (ExternalRef number) e = refl

-- an atom that takes a character notes nothing
pub takes_plain : (x : Context) (w : Way) (a : Atom) (p : Place) → fits x w a ≡ Some p → p.col ≡ w.at.col + 1 → notes_place a ≡ false
takes_plain x w (Char c) p e k = refl
takes_plain x w (Any takes_end) p e k = refl
takes_plain x w (Is class negative takes_end) p e k = refl
takes_plain x w (Set ranges) p e k = refl
takes_plain x w LineEnd p e k = refl
takes_plain x w LineStart p e k = refl
takes_plain x w LineStop p e k = refl
takes_plain x w WordStart p e k = refl
takes_plain x w WordStop p e k = refl
takes_plain x w FileStart p e k = refl
takes_plain x w FileStop p e k = refl
takes_plain x w MatchStart p e k =
    let same : w.at.col ≡ p.col = ap (λ (o : Option Place). elim o [ None ↦ w.at.col | Some q ↦ q.col ]) e in
    absurd (omega arith)
takes_plain x w MatchStop p e k =
    let same : w.at.col ≡ p.col = ap (λ (o : Option Place). elim o [ None ↦ w.at.col | Some q ↦ q.col ]) e in
    absurd (omega arith)
takes_plain x w (LineNumber how number) p e k = refl
takes_plain x w (Ref number) p e k = refl
takes_plain x w (ExternalRef number) p e k = refl

pub at_behind : (x : Context) (w : Way) (a : Atom) (p : Place) → fits x w a ≡ Some p → (way_behind w p a).at ≡ p
at_behind x w (Char c) p e = refl
at_behind x w (Any takes_end) p e = refl
at_behind x w (Is class negative takes_end) p e = refl
at_behind x w (Set ranges) p e = refl
at_behind x w LineEnd p e = refl
at_behind x w LineStart p e = refl
at_behind x w LineStop p e = refl
at_behind x w WordStart p e = refl
at_behind x w WordStop p e = refl
at_behind x w FileStart p e = refl
at_behind x w FileStop p e = refl
at_behind x w MatchStart p e = cc
at_behind x w MatchStop p e = cc
at_behind x w (LineNumber how number) p e = refl
at_behind x w (Ref number) p e = refl
at_behind x w (ExternalRef number) p e = refl

module _ (x : Context) (a : Atom) (w : Way) (f : Way → List Mark) (old mid : Sight) where
  abbrev looked : Looked
  looked = lines_looked x w a

  -- where it leads to a place, what follows there tells
  pub atom_then : (new : Sight) (saw : Saw) → IsAtomSeen x a w old mid Reached → ((v : Way) → v.at ≡ mid.at → IsSeen v (f v) mid new saw) → IsSeen w (followed (visits x (one a) w) f) old new saw
  atom_then new saw h next =
      let v : Way = record w { at = mid.at } in
      let behind : way_behind w mid.at a ≡ v = moves_behind w mid.at a h.plain in
      let k : followed (visits x (one a) w) f ≡ Tick looked ∷ f v = rw h.place_is (ap (λ r. Tick looked ∷ r) (append-nil (f (way_behind w mid.at a)) ∙ ap f behind)) in
      seen_behind w (followed (visits x (one a) w) f) (f v) old mid mid new saw refl h.notes
      (ap (answer_from old.spent.cost old.spent.looked) k ∙ ap (λ s. answer_from s.cost s.looked (f v)) (sym h.spent))
      (seen_moved w mid.at (f v) mid new saw (next v refl))

  -- where it doesn't fit, nothing follows
  pub atom_vain : IsAtomSeen x a w old mid InVain → IsSeen w (followed (visits x (one a) w) f) old mid InVain
  atom_vain h = (h.notes, rw (h.place_is, h.spent) refl)

  pub atom_stops : (saw : Saw) → saw ≢ Reached → IsAtomSeen x a w old mid saw → IsSeen w (followed (visits x (one a) w) f) old mid saw
  atom_stops Reached n h = absurd (n refl)
  atom_stops InVain n h = atom_vain h
  atom_stops TooFar n h = tt

-- ---- what follows

pub followed-one : (w : Way) (f : Way → List Mark) → followed (Reach w ∷ []) f ≡ f w
followed-one w f = append-nil (f w)

-- a group that ends at the place of the way takes a note there
pub close_is : (number : ℕ) (from p : Place) (w : Way) (f : Way → List Mark) → w.at ≡ p → followed (noted number from w) f ≡ f (with_note w (Captured number from p))
close_is number from p w f e =
    append-nil (f (with_note w (Captured number from w.at))) ∙ ap (λ q. f (with_note w (Captured number from q))) e

pub close_external_is : (number : ℕ) (from p : Place) (w : Way) (f : Way → List Mark) → w.at ≡ p → followed (noted_external number from w) f ≡ f (with_note w (External number from p))
close_external_is number from p w f e =
    append-nil (f (with_note w (External number from w.at))) ∙ ap (λ q. f (with_note w (External number from q))) e

pub either_is : (x : Context) (a b : Shape) (w : Way) (f : Way → List Mark) → followed (visits x (or a b) w) f ≡ followed (visits x a w) f ++ followed (visits x b w) f
either_is x a b w f = followed-append (visits x a w) (visits x b w) f

pub optional_is : (x : Context) (a : Shape) (w : Way) (f : Way → List Mark) → followed (visits x (or a empty) w) f ≡ followed (visits x a w) f ++ f w
optional_is x a w f =
    followed-append (visits x a w) (Reach w ∷ []) f ∙ ap (λ r. followed (visits x a w) f ++ r) (append-nil (f w))

pub both_is : (x : Context) (a b : Shape) (w : Way) (f : Way → List Mark) → followed (visits x (seq a b) w) f ≡ followed (visits x a w) (λ v. followed (visits x b v) f)
both_is x a b w f = followed-assoc (visits x a w) (visits x b) f

pub group_is : (x : Context) (a : Shape) (number : ℕ) (w : Way) (f : Way → List Mark) → followed (visits x (group a number) w) f ≡ followed (visits x a w) (λ v. followed (noted number w.at v) f)
group_is x a number w f = followed-assoc (visits x a w) (noted number w.at) f

pub external_is : (x : Context) (a : Shape) (number : ℕ) (w : Way) (f : Way → List Mark) → followed (visits x (external a number) w) f ≡ followed (visits x a w) (λ v. followed (noted_external number w.at v) f)
external_is x a number w f = followed-assoc (visits x a w) (noted_external number w.at) f

-- ---- counts

module _ (x : Context) (t : Turns) (w : Way) (f : Way → List Mark) where
  pub spent_is : IsPlaceOf x.text w.at → is_spent t.most ≡ true → followed (turns_of x t w) f ≡ f w
  spent_is on_text e =
      ap (λ m. followed m f) (turns-spent x.text (visits x (shape_of t.part.now)) t.lazy (visits-kept x (shape_of t.part.now)) t.least t.most w on_text e)
      ∙ append-nil (f w)

  pub forced_is : is_spent t.most ≡ false → 0 < t.least → followed (turns_of x t w) f ≡ followed (turn_of x t w) f
  forced_is e l =
      ap (λ m. followed m f) (turns-forced x.text (visits x (shape_of t.part.now)) t.lazy t.least t.most w e l)

  free_is : IsPlaceOf x.text w.at → is_spent t.most ≡ false → t.least ≡ 0 → turns_of x t w ≡ in_order t.lazy (turn_of x t w) (Reach w ∷ [])
  free_is on_text e l = rw l (turns-free x.text (visits x (shape_of t.part.now)) t.lazy (visits-kept x (shape_of t.part.now)) t.most w on_text e)

  pub lazy_is : IsPlaceOf x.text w.at → is_spent t.most ≡ false → t.least ≡ 0 → t.lazy ≡ true → followed (turns_of x t w) f ≡ f w ++ followed (turn_of x t w) f
  lazy_is on_text e l lazy =
      ap (λ m. followed m f) (free_is on_text e l ∙ ap (λ b. in_order b (turn_of x t w) (Reach w ∷ [])) lazy)

  pub greedy_is : IsPlaceOf x.text w.at → is_spent t.most ≡ false → t.least ≡ 0 → t.lazy ≡ false → followed (turns_of x t w) f ≡ followed (turn_of x t w) f ++ f w
  greedy_is on_text e l lazy =
      ap (λ m. followed m f) (free_is on_text e l ∙ ap (λ b. in_order b (turn_of x t w) (Reach w ∷ [])) lazy)
      ∙ followed-append (turn_of x t w) (Reach w ∷ []) f ∙ ap (λ r. followed (turn_of x t w) f ++ r) (append-nil (f w))

  pub turn_is : followed (turn_of x t w) f ≡ followed (visits x (shape_of t.part.now) w) (λ v. followed (turns_behind x t w.at v) f)
  turn_is = followed-assoc (visits x (shape_of t.part.now) w) (turns_behind x t w.at) f

module _ (t : Turns) (from at : Place) where
  pub left_took : (least : ℕ) (most : Option ℕ) → is_after at from ≡ true → least ≡ t.least - 1 → most ≡ one_less t.most → AreTurnsLeft t from at (Some (record { part = t.part; least = least; most = most; lazy = t.lazy }))
  left_took least most after l m = (
    refl,
    λ x w e. after_turn-took x.text (visits x (shape_of t.part.now)) t.lazy t.least t.most from w (ap (λ p. is_after p from) e ∙ after)
        ∙ rw (← l, ← m) refl,
  )

  pub left_empty : (most : Option ℕ) → is_after at from ≡ false → t.least ≢ 0 → most ≡ less_by t.most t.least → AreTurnsLeft t from at (Some (record { part = t.part; least = 0; most = most; lazy = t.lazy }))
  left_empty most after l m = (
    refl,
    λ x w e. after_turn-empty x.text (visits x (shape_of t.part.now)) t.lazy t.least t.most from w (ap (λ p. is_after p from) e ∙ after) l
        ∙ rw (← m) refl,
  )

  pub left_none : is_after at from ≡ false → t.least ≡ 0 → AreTurnsLeft t from at None
  left_none after l = λ x w e.
      rw l (after_turn-dropped x.text (visits x (shape_of t.part.now)) t.lazy t.most from w (ap (λ p. is_after p from) e ∙ after))

-- ---- looks ahead

followed-ticks : (m k : List Mark) (f : Way → List Mark) → followed (ticks_first m ++ k) f ≡ ticks_first m ++ followed k f
followed-ticks [] k f = refl
followed-ticks (Tick l ∷ m) k f = ap (λ r. Tick l ∷ r) (followed-ticks m k f)
followed-ticks (Reach w ∷ m) k f = refl

-- what follows the end of a look tells, where its part was seen
module _ (x : Context) (part : Shape) (negative : Bool) (w : Way) (f : Way → List Mark) (old mid : Sight) where
  abbrev marks : List Mark
  marks = visits x part w

  pub ahead_is : (o : Option Way) → answer_from old.spent.cost old.spent.looked marks ≡ record { way = o; cost = mid.spent.cost; looked = mid.spent.looked } →
      answer_from old.spent.cost old.spent.looked (followed (visits x (ahead part negative) w) f) ≡ answer_from mid.spent.cost mid.spent.looked (followed (look_end negative w o) f)
  ahead_is o h =
      ap (answer_from old.spent.cost old.spent.looked) (followed-ticks marks (look_end negative w (first_way marks)) f)
      ∙ through old.spent.cost old.spent.looked marks (followed (look_end negative w (first_way marks)) f)
      ∙ ap (λ r. answer_from r.cost r.looked (followed (look_end negative w (first_way marks)) f)) h
      ∙ ap (λ q. answer_from mid.spent.cost mid.spent.looked (followed (look_end negative w q) f)) (sym (way_is old.spent.cost old.spent.looked marks) ∙ ap (λ r. r.way) h)

-- ---- where ways are wanted

pub followed-wanted : (p : Place) (m : List Mark) → followed m (λ v. ending_at p (Reach v ∷ [])) ≡ ending_at p m
followed-wanted p [] = refl
followed-wanted p (Tick l ∷ m) = ap (λ r. Tick l ∷ r) (followed-wanted p m)
followed-wanted p (Reach w ∷ m) =
    elim (is_same_place w.at p) as (λ t. (elim t as (λ _. List Mark) [ true ↦ Reach w ∷ [] | false ↦ [] ]) ++ followed m (λ v. ending_at p (Reach v ∷ [])) ≡ elim t as (λ _. List Mark) [ true ↦ Reach w ∷ ending_at p m | false ↦ ending_at p m ]) [
      | true ↦ ap (λ r. Reach w ∷ r) (followed-wanted p m)
      | false ↦ followed-wanted p m
    ]
