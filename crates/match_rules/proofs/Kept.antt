-- From ways on the text come ways on the text.
use Rattle.std.proofs.Common.{◌≡◌, ℕ, zero, suc, Bool, true, false, List, [], ◌∷◌, refl, arith}
use Rattle.std.specs.Prelude.{Option, Some, None, ◌&&◌, if◌then◌else◌}
use Rattle.std.proofs.lemmas.Option.{slice_get_within}
use Rattle.std.proofs.lemmas.Bool.Decides.{nat_tests}
use Rattle.syn_base.specs.declared.places.Place.{Place}
use Rattle.pattern_items.specs.declared.atom.Atom.{Atom}
use Rattle.pattern_items.specs.declared.atom.Atom.TheVariants.{Char, Any, Is, Set, LineEnd, LineStart, LineStop, WordStart, WordStop, FileStart, FileStop, MatchStart, MatchStop, LineNumber, Ref, ExternalRef}
use Rattle.vim_pattern.specs.Shape.{Shape, empty, one, seq, or, and, group, external, repeat, ahead, before, whole}
use Rattle.match_rules.specs.Ways.{Text, Context, Way, IsPlaceOf, line_at, is_after, behind_character, behind_line_end}
use Rattle.match_rules.specs.Atoms.{character_at, is_line_end, only_if, behind_if, behind_one, behind_one_or_end, Piece, character, line_end, behind_piece, behind_pieces, group_text, external_text, fits}
use Rattle.match_rules.specs.Marks.{Mark, Tick, Reach, ticks_first, first_way, reach_if}
use Rattle.match_rules.specs.Counts.{places_behind, free_turns, turns, in_order, one_less, less_by, is_spent}
use Rattle.match_rules.specs.Looks.{look, look_end, tried_behind}
use Rattle.match_rules.specs.Visits.{visits, tried, behind_fit, noted, noted_external}
use Rattle.match_rules.proofs.MarkLaws.{AllWays, AllWays-followed, AllWays-append}
use Rattle.match_rules.proofs.TurnLaws.{IsWayOf, KeepsWays}

abbrev pub IsPlaceOrNone : Text → Option Place → Type 0
IsPlaceOrNone text None = Unit {0}
IsPlaceOrNone text (Some p) = IsPlaceOf text p

only_if-kept : (text : Text) (b : Bool) (p : Place) → (b ≡ true → IsPlaceOf text p) → IsPlaceOrNone text (only_if b p)
only_if-kept text true p h = h refl
only_if-kept text false p h = tt

-- a character is there, so the place behind it is on the text
pub behind_character-kept : (text : Text) (p : Place) (c : ℕ) → IsPlaceOf text p → character_at text p ≡ Some c → IsPlaceOf text (behind_character p)
behind_character-kept text p c h e = record { line = h.line; col = omega (arith, slice_get_within (line_at text p.line) p.col c e) }

pub behind_line_end-kept : (text : Text) (p : Place) → is_line_end text p ≡ true → IsPlaceOf text (behind_line_end p)
behind_line_end-kept text p e = record { line = grind (arith, nat_tests); col = omega arith }

pub behind_one-kept : (text : Text) (test : ℕ → Bool) (p : Place) → IsPlaceOf text p → IsPlaceOrNone text (behind_one text test p)
behind_one-kept text test p h =
    elim (character_at text p) as (λ o. character_at text p ≡ o → IsPlaceOrNone text (behind_if test o p)) [
      | None ↦ λ _. tt
      | Some c ↦ λ e. only_if-kept text (test c) (behind_character p) (λ _. behind_character-kept text p c h e)
    ] refl

second_of : (a b : Bool) → (a && b) ≡ true → b ≡ true
second_of true b h = h
second_of false b h = absurd (cc)

pub behind_one_or_end-kept : (text : Text) (takes_end : Bool) (test : ℕ → Bool) (p : Place) → IsPlaceOf text p → IsPlaceOrNone text (behind_one_or_end text takes_end test p)
behind_one_or_end-kept text takes_end test p h =
    elim (takes_end && is_line_end text p) as (λ b. (takes_end && is_line_end text p) ≡ b → IsPlaceOrNone text (if b then Some (behind_line_end p) else behind_one text test p)) [
      | true ↦ λ e. behind_line_end-kept text p (second_of takes_end (is_line_end text p) e)
      | false ↦ λ _. behind_one-kept text test p h
    ] refl

pub behind_piece-kept : (x : Context) (piece : Piece) (p : Place) → IsPlaceOf x.text p → IsPlaceOrNone x.text (behind_piece x piece p)
behind_piece-kept x (character c) p h = behind_one-kept x.text _ p h
behind_piece-kept x line_end p h = only_if-kept x.text (is_line_end x.text p) (behind_line_end p) (behind_line_end-kept x.text p)

pub behind_pieces-kept : (x : Context) (pieces : List Piece) (p : Place) → IsPlaceOf x.text p → IsPlaceOrNone x.text (behind_pieces x pieces p)
behind_pieces-kept x [] p h = h
behind_pieces-kept x (piece ∷ pieces) p h =
    elim (behind_piece x piece p) as (λ o. IsPlaceOrNone x.text o → IsPlaceOrNone x.text (elim o as (λ _. Option Place) [ None ↦ None | Some q ↦ behind_pieces x pieces q ])) [
      | None ↦ λ _. tt
      | Some q ↦ λ k. behind_pieces-kept x pieces q k
    ] (behind_piece-kept x piece p h)

-- an atom leads to a place of the text
pub fits-kept : (x : Context) (w : Way) (a : Atom) → IsWayOf x.text w → IsPlaceOrNone x.text (fits x w a)
fits-kept x w (Char c) h = behind_one-kept x.text _ w.at h
fits-kept x w (Any takes_end) h = behind_one_or_end-kept x.text takes_end (λ _. true) w.at h
fits-kept x w (Is class negative takes_end) h = behind_one_or_end-kept x.text takes_end _ w.at h
fits-kept x w (Set ranges) h = behind_one_or_end-kept x.text ranges.line_end _ w.at h
fits-kept x w LineEnd h = only_if-kept x.text _ _ (behind_line_end-kept x.text w.at)
fits-kept x w LineStart h = only_if-kept x.text _ _ (λ _. h)
fits-kept x w LineStop h = only_if-kept x.text _ _ (λ _. h)
fits-kept x w WordStart h = only_if-kept x.text _ _ (λ _. h)
fits-kept x w WordStop h = only_if-kept x.text _ _ (λ _. h)
fits-kept x w FileStart h = only_if-kept x.text _ _ (λ _. h)
fits-kept x w FileStop h = only_if-kept x.text _ _ (λ _. h)
fits-kept x w MatchStart h = h
fits-kept x w MatchStop h = h
fits-kept x w (LineNumber how number) h = only_if-kept x.text _ _ (λ _. h)
fits-kept x w (Ref number) h = behind_pieces-kept x (group_text x w number) w.at h
fits-kept x w (ExternalRef number) h = behind_pieces-kept x (external_text x number) w.at h

behind_fit-kept : (text : Text) (w : Way) (a : Atom) (o : Option Place) → IsWayOf text w → IsPlaceOrNone text o → AllWays (IsWayOf text) (behind_fit w a o)
behind_fit-kept text w a None h k = tt
behind_fit-kept text w MatchStart (Some p) h k = (h, tt)
behind_fit-kept text w MatchStop (Some p) h k = (h, tt)
behind_fit-kept text w _ (Some p) h k = (k, tt)

pub tried-kept : (x : Context) (w : Way) (a : Atom) → IsWayOf x.text w → AllWays (IsWayOf x.text) (tried x w a)
tried-kept x w a h = behind_fit-kept x.text w a (fits x w a) h (fits-kept x w a h)

in_order-kept : (P : Way → Type 0) (lazy : Bool) (a b : List Mark) → AllWays P a → AllWays P b → AllWays P (in_order lazy a b)
in_order-kept P true a b h k = AllWays-append P b a k h
in_order-kept P false a b h k = AllWays-append P a b h k

if-kept : (P : Way → Type 0) (b : Bool) (x y : List Mark) → AllWays P x → AllWays P y → AllWays P (elim b as (λ _. List Mark) [ true ↦ x | false ↦ y ])
if-kept P true x y h k = h
if-kept P false x y h k = k

module _ (text : Text) (part : Way → List Mark) (lazy : Bool) (keeps : KeepsWays text part) where
  free_turns-kept : (left : ℕ) (most : Option ℕ) → KeepsWays text (free_turns part lazy left most)
  free_turns-kept zero most w h = (h, tt)
  free_turns-kept (suc left) most w h =
      if-kept (IsWayOf text) (is_spent most) _ _ (h, tt)
      (in_order-kept (IsWayOf text) lazy _ _
      (AllWays-followed (IsWayOf text) (IsWayOf text) (part w) _ (keeps w h)
      (λ v k. if-kept (IsWayOf text) (is_after v.at w.at) _ _ (free_turns-kept left (one_less most) v k) tt))
      (h, tt))

  pub turns-kept : (least : ℕ) (most : Option ℕ) → KeepsWays text (turns text part lazy least most)
  turns-kept zero most w h = free_turns-kept (suc (places_behind text w.at)) most w h
  turns-kept (suc least) most w h =
      if-kept (IsWayOf text) (is_spent most) _ _ (h, tt)
      (AllWays-followed (IsWayOf text) (IsWayOf text) (part w) _ (keeps w h)
      (λ v k. if-kept (IsWayOf text) (is_after v.at w.at) _ _ (turns-kept least (one_less most) v k)
      (free_turns-kept (suc (places_behind text v.at)) (less_by most (suc least)) v k)))

pub ticks_first-kept : (P : Way → Type 0) (marks : List Mark) → AllWays P (ticks_first marks)
ticks_first-kept P [] = tt
ticks_first-kept P (Tick l ∷ marks) = ticks_first-kept P marks
ticks_first-kept P (Reach w ∷ marks) = tt

pub first_way-kept : (P : Way → Type 0) (marks : List Mark) → AllWays P marks → AllWays P (reach_if (first_way marks))
first_way-kept P [] h = tt
first_way-kept P (Tick l ∷ marks) h = first_way-kept P marks h
first_way-kept P (Reach w ∷ marks) h = (h.0, tt)

look_end-kept : (text : Text) (negative : Bool) (w : Way) (o : Option Way) → IsWayOf text w → AllWays (IsWayOf text) (look_end negative w o)
look_end-kept text true w None h = (h, tt)
look_end-kept text true w (Some v) h = tt
look_end-kept text false w None h = tt
look_end-kept text false w (Some v) h = (h, tt)

-- a look goes on where it stood
pub look-kept : (text : Text) (negative : Bool) (w : Way) (marks : List Mark) → IsWayOf text w → AllWays (IsWayOf text) (look negative w marks)
look-kept text negative w marks h = AllWays-append (IsWayOf text) (ticks_first marks) _ (ticks_first-kept (IsWayOf text) marks) (look_end-kept text negative w (first_way marks) h)

-- from a way on the text a pattern reaches ways on the text alone
pub visits-kept : (x : Context) (node : Shape) → KeepsWays x.text (visits x node)
visits-kept x empty w h = (h, tt)
visits-kept x (one a) w h = tried-kept x w a h
visits-kept x (seq a b) w h = AllWays-followed (IsWayOf x.text) (IsWayOf x.text) (visits x a w) (visits x b) (visits-kept x a w h) (visits-kept x b)
visits-kept x (or a b) w h = AllWays-append (IsWayOf x.text) (visits x a w) (visits x b w) (visits-kept x a w h) (visits-kept x b w h)
visits-kept x (and a b) w h = AllWays-followed (IsWayOf x.text) (IsWayOf x.text) (look false w (visits x a w)) (visits x b) (look-kept x.text false w (visits x a w) h) (visits-kept x b)
visits-kept x (group part number) w h = AllWays-followed (IsWayOf x.text) (IsWayOf x.text) (visits x part w) (noted number w.at) (visits-kept x part w h) (λ v k. (k, tt))
visits-kept x (external part number) w h = AllWays-followed (IsWayOf x.text) (IsWayOf x.text) (visits x part w) (noted_external number w.at) (visits-kept x part w h) (λ v k. (k, tt))
visits-kept x (repeat part least most lazy) w h = turns-kept x.text (visits x part) lazy (visits-kept x part) least most w h
visits-kept x (ahead part negative) w h = look-kept x.text negative w (visits x part w) h
visits-kept x (before part negative limit) w h = look-kept x.text negative w (tried_behind x.text (visits x part) limit w) h
visits-kept x (whole part) w h = AllWays-append (IsWayOf x.text) (ticks_first (visits x part w)) (reach_if (first_way (visits x part w))) (ticks_first-kept (IsWayOf x.text) (visits x part w)) (first_way-kept (IsWayOf x.text) (visits x part w) (visits-kept x part w h))
