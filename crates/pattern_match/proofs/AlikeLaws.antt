-- Up to the first tick, what a way still tries and reaches depends on its place alone: atoms alone move
-- a way, or read what it noted.
use Rattle.std.proofs.Common.{◌≡◌, ℕ, zero, suc, Bool, true, false, List, [], ◌∷◌, ◌++◌, refl, sym, ap, ◌∙◌, subst}
use Rattle.std.specs.Prelude.{Option, Some, None, pos, ◌-ℤ◌}
use Rattle.syn_base.specs.declared.looked.Looked.{Looked}
use Rattle.syn_base.specs.declared.places.Place.{Place}
use Rattle.syn_base.specs.Looked.{hull_of, one_line}
use Rattle.pattern_items.specs.declared.item.Behind.{Behind}
use Rattle.vim_pattern.specs.Shape.{Shape, empty, one, seq, or, and, group, external, repeat, ahead, before, whole}
use Rattle.match_rules.specs.Ways.{Text, Context, Way, is_after, is_same_place, with_capture}
use Rattle.match_rules.specs.Marks.{Mark, Tick, Reach, followed}
use Rattle.match_rules.specs.Counts.{places_behind, free_turns, turns, after_turn, in_order, one_less, less_by, is_spent}
use Rattle.match_rules.specs.Looks.{starts_behind, from_each, looking_at, tried_behind}
use Rattle.match_rules.specs.Visits.{visits, noted, noted_external}
use Rattle.match_rules.proofs.SameMarks.{Same, Same-one, Same-append, Same-followed, Same-if, Same-look, Same-whole, Same-ending_at, ending_at-append}
use Rattle.pattern_match.specs.declared.look.Ending.{Ending}
use Rattle.pattern_match.specs.declared.look.Ending.TheVariants as ending
use Rattle.pattern_match.specs.declared.task.Task.{Task}
use Rattle.pattern_match.specs.declared.task.Task.TheVariants.{Visit, Count, Turn, AfterTurn, Look, Close, CloseExternal, Again}
use Rattle.pattern_match.specs.Steps.{shape_of}
use Rattle.pattern_match.specs.Machine.{part_marks, up_to_first, task_marks, marks_with}
use Rattle.pattern_match.specs.Search.{wanted_marks}

-- ---- marks that are alike up to the first tick

abbrev nothing : Looked → Type 0
nothing l = ⊥

abbrev any : Looked → Looked → Type 0
any l k = Unit {0}

abbrev pub IsAlike : Way → Way → Type 0
IsAlike w v = w.at ≡ v.at

abbrev pub AreAlike : List Mark → List Mark → Type 0
AreAlike = Same nothing any IsAlike

one-alike : (w v : Way) → IsAlike w v → AreAlike (Reach w ∷ []) (Reach v ∷ [])
one-alike w v e = Same-one nothing any IsAlike w v e

followed-alike : (a c : List Mark) (f g : Way → List Mark) → AreAlike a c →
    ((w v : Way) → IsAlike w v → AreAlike (f w) (g v)) → AreAlike (followed a f) (followed c g)
followed-alike a c f g h k = Same-followed nothing any IsAlike IsAlike a c f g h k

if-alike : (b d : Bool) (m n m' n' : List Mark) → d ≡ b → AreAlike m m' → AreAlike n n' →
    AreAlike (elim b as (λ _. List Mark) [ true ↦ m | false ↦ n ])
    (elim d as (λ _. List Mark) [ true ↦ m' | false ↦ n' ])
if-alike b d m n m' n' e h k =
    Same-if nothing any IsAlike b d m n m' n' e (λ _. h) (λ _. k)

in_order-alike : (lazy : Bool) (a b c d : List Mark) → AreAlike a c → AreAlike b d →
    AreAlike (in_order lazy a b) (in_order lazy c d)
in_order-alike true a b c d h k = Same-append nothing any IsAlike b a d c k h
in_order-alike false a b c d h k = Same-append nothing any IsAlike a b c d h k

after-same : (p q p' q' : Place) → p ≡ p' → q ≡ q' → is_after p' q' ≡ is_after p q
after-same p q p' q' e f = ap (λ o. is_after o q') (sym e) ∙ ap (is_after p) (sym f)

-- ---- counts

module _ (text : Text) (part : Way → List Mark) (lazy : Bool)
    (same : (w v : Way) → IsAlike w v → AreAlike (part w) (part v)) where
  free-alike : (left : ℕ) (most : Option ℕ) (w v : Way) → IsAlike w v →
      AreAlike (free_turns part lazy left most w) (free_turns part lazy left most v)
  free-alike zero most w v e = one-alike w v e
  free-alike (suc left) most w v e =
      if-alike (is_spent most) (is_spent most) _ _ _ _ refl (one-alike w v e)
      (in_order-alike lazy _ _ _ _
      (followed-alike (part w) (part v) _ _ (same w v e)
      (λ w' v' e'. if-alike (is_after w'.at w.at) (is_after v'.at v.at) _ _ _ _
      (after-same w'.at w.at v'.at v.at e' e) (free-alike left (one_less most) w' v' e') refl))
      (one-alike w v e))

  unforced-alike : (most : Option ℕ) (w v : Way) → IsAlike w v →
      AreAlike (turns text part lazy zero most w) (turns text part lazy zero most v)
  unforced-alike most w v e =
      subst (λ p. AreAlike (turns text part lazy zero most w)
      (free_turns part lazy (suc (places_behind text p)) most v)) e
      (free-alike (suc (places_behind text w.at)) most w v e)

  pub turns-alike : (least : ℕ) (most : Option ℕ) (w v : Way) → IsAlike w v →
      AreAlike (turns text part lazy least most w) (turns text part lazy least most v)
  turns-alike zero most w v e = unforced-alike most w v e
  turns-alike (suc least) most w v e =
      if-alike (is_spent most) (is_spent most) _ _ _ _ refl (one-alike w v e)
      (followed-alike (part w) (part v) _ _ (same w v e)
      (λ w' v' e'. if-alike (is_after w'.at w.at) (is_after v'.at v.at) _ _ _ _
      (after-same w'.at w.at v'.at v.at e' e) (turns-alike least (one_less most) w' v' e')
      (unforced-alike (less_by most (suc least)) w' v' e')))

  pub after_turn-alike : (least : ℕ) (most : Option ℕ) (p q : Place) (w v : Way) → p ≡ q →
      IsAlike w v →
      AreAlike (after_turn text part lazy least most p w) (after_turn text part lazy least most q v)
  after_turn-alike zero most p q w v f e =
      if-alike (is_after w.at p) (is_after v.at q) _ _ _ _ (after-same w.at p v.at q e f)
      (turns-alike zero (one_less most) w v e) refl
  after_turn-alike (suc least) most p q w v f e =
      if-alike (is_after w.at p) (is_after v.at q) _ _ _ _ (after-same w.at p v.at q e f)
      (turns-alike least (one_less most) w v e)
      (turns-alike zero (less_by most (suc least)) w v e)

-- ---- looks

look-alike : (negative : Bool) (w v : Way) (ms ns : List Mark) → IsAlike w v → AreAlike ms ns →
    AreAlike (up_to_first (ending.Look negative) w ms) (up_to_first (ending.Look negative) v ns)
look-alike negative w v ms ns e h =
    Same-look nothing any IsAlike IsAlike negative w v e (λ a b _. e) ms ns h

looking-alike : (more : Looked) (ms ns : List Mark) → AreAlike ms ns →
    AreAlike (looking_at more ms) (looking_at more ns)
looking-alike more [] ns h = rw h refl
looking-alike more (Tick l ∷ ms) ns h =
    (hull_of h.0 more, looking_at more h.1, ap (looking_at more) h.2, tt, λ k. absurd k)
looking-alike more (Reach w ∷ ms) ns h =
    (h.0, looking_at more h.1, ap (looking_at more) h.2, h.3, looking-alike more ms h.1 h.4)

module _ (text : Text) (part : Way → List Mark)
    (same : (w v : Way) → IsAlike w v → AreAlike (part w) (part v)) where
  from_each-alike : (w v : Way) (places : List Place) →
      AreAlike (from_each part w places) (from_each part v places)
  from_each-alike w v [] = refl
  from_each-alike w v (p ∷ places) =
      Same-append nothing any IsAlike (part (record w { at = p })) (from_each part w places)
      (part (record v { at = p })) (from_each part v places)
      (same (record w { at = p }) (record v { at = p }) refl) (from_each-alike w v places)

  ended-alike : (limit : Behind) (p : Place) (w v : Way) →
      AreAlike (tried_behind text part limit (record w { at = p }))
      (tried_behind text part limit (record v { at = p }))
  ended-alike limit p w v =
      let line : Looked = one_line (pos p.line -ℤ pos 1) in
      let places = starts_behind text limit p in
      looking-alike line _ _
      (Same-ending_at nothing any IsAlike p p (from_each part w places) (from_each part v places)
      (λ a b e. ap (λ o. is_same_place o p) (sym e)) (from_each-alike w v places))

  pub behind-alike : (limit : Behind) (w v : Way) → IsAlike w v →
      AreAlike (tried_behind text part limit w) (tried_behind text part limit v)
  behind-alike limit w v e =
      subst (λ p. AreAlike (tried_behind text part limit w)
      (tried_behind text part limit (record v { at = p }))) e (ended-alike limit w.at w v)

-- ---- nodes

pub visits-alike : (x : Context) (s : Shape) (w v : Way) → IsAlike w v →
    AreAlike (visits x s w) (visits x s v)
visits-alike x empty w v e = one-alike w v e
visits-alike x (one a) w v e = (_, _, refl, tt, λ h. absurd h)
visits-alike x (seq a b) w v e =
    followed-alike (visits x a w) (visits x a v) (visits x b) (visits x b) (visits-alike x a w v e)
    (λ w' v' e'. visits-alike x b w' v' e')
visits-alike x (or a b) w v e =
    Same-append nothing any IsAlike (visits x a w) (visits x b w) (visits x a v) (visits x b v)
    (visits-alike x a w v e) (visits-alike x b w v e)
visits-alike x (and a b) w v e =
    followed-alike _ _ (visits x b) (visits x b)
    (look-alike false w v (visits x a w) (visits x a v) e (visits-alike x a w v e))
    (λ w' v' e'. visits-alike x b w' v' e')
visits-alike x (group part number) w v e =
    followed-alike (visits x part w) (visits x part v) (noted number w.at) (noted number v.at)
    (visits-alike x part w v e)
    (λ w' v' e'. one-alike
    (record w' { captures = with_capture w'.captures number w.at w'.at })
    (record v' { captures = with_capture v'.captures number v.at v'.at }) e')
visits-alike x (external part number) w v e =
    followed-alike (visits x part w) (visits x part v) (noted_external number w.at)
    (noted_external number v.at) (visits-alike x part w v e)
    (λ w' v' e'. one-alike
    (record w' { externals = with_capture w'.externals number w.at w'.at })
    (record v' { externals = with_capture v'.externals number v.at v'.at }) e')
visits-alike x (repeat part least most lazy) w v e =
    turns-alike x.text (visits x part) lazy (λ w' v' e'. visits-alike x part w' v' e') least most w
    v e
visits-alike x (ahead part negative) w v e =
    look-alike negative w v (visits x part w) (visits x part v) e (visits-alike x part w v e)
visits-alike x (before part negative limit) w v e =
    look-alike negative w v _ _ e
    (behind-alike x.text (visits x part) (λ w' v' e'. visits-alike x part w' v' e') limit w v e)
visits-alike x (whole part) w v e =
    Same-whole nothing any IsAlike (visits x part w) (visits x part v) (visits-alike x part w v e)

-- ---- what is still to be done

part-alike : (x : Context) (s : Shape) (behind : Option Behind) (w v : Way) → IsAlike w v →
    AreAlike (part_marks x s behind w) (part_marks x s behind v)
part-alike x s None w v e = visits-alike x s w v e
part-alike x s (Some limit) w v e =
    behind-alike x.text (visits x s) (λ w' v' e'. visits-alike x s w' v' e') limit w v e

end-alike : (e : Ending) (w v : Way) (ms ns : List Mark) → IsAlike w v → AreAlike ms ns →
    AreAlike (up_to_first e w ms) (up_to_first e v ns)
end-alike (ending.Look negative) w v ms ns e h = look-alike negative w v ms ns e h
end-alike ending.Whole w v ms ns e h = Same-whole nothing any IsAlike ms ns h

task-alike : (x : Context) (item : Task) (w v : Way) → IsAlike w v →
    AreAlike (task_marks x item w) (task_marks x item v)
task-alike x (Visit s) w v e = visits-alike x (shape_of s.now) w v e
task-alike x (Count t) w v e =
    turns-alike x.text (visits x (shape_of t.part.now)) t.lazy
    (λ w' v' e'. visits-alike x (shape_of t.part.now) w' v' e') t.least t.most w v e
task-alike x (Turn t) w v e =
    followed-alike _ _ _ _ (visits-alike x (shape_of t.part.now) w v e)
    (λ w' v' e'. after_turn-alike x.text (visits x (shape_of t.part.now)) t.lazy
    (λ a b f. visits-alike x (shape_of t.part.now) a b f) t.least t.most w.at v.at w' v' e e')
task-alike x (AfterTurn t from) w v e =
    after_turn-alike x.text (visits x (shape_of t.part.now)) t.lazy
    (λ a b f. visits-alike x (shape_of t.part.now) a b f) t.least t.most from from w v refl e
task-alike x (Look l) w v e =
    end-alike l.ending w v _ _ e (part-alike x (shape_of l.part.now) l.behind w v e)
task-alike x (Close number from) w v e =
    one-alike (record w { captures = with_capture w.captures number from w.at })
    (record v { captures = with_capture v.captures number from v.at }) e
task-alike x (CloseExternal number from) w v e =
    one-alike (record w { externals = with_capture w.externals number from w.at })
    (record v { externals = with_capture v.externals number from v.at }) e
task-alike x (Again s cost) w v e = visits-alike x (shape_of s.now) w v e

pub marks-alike : (x : Context) (items : List Task) (w v : Way) → IsAlike w v →
    AreAlike (marks_with x items w) (marks_with x items v)
marks-alike x [] w v e = one-alike w v e
marks-alike x (item ∷ items) w v e =
    followed-alike (task_marks x item w) (task_marks x item v) (marks_with x items)
    (marks_with x items) (task-alike x item w v e) (λ w' v' e'. marks-alike x items w' v' e')

-- ---- a search

pub wanted-append : (wanted : Option Place) (a b : List Mark) →
    wanted_marks wanted (a ++ b) ≡ wanted_marks wanted a ++ wanted_marks wanted b
wanted-append None a b = refl
wanted-append (Some p) a b = ending_at-append p a b

wanted-alike : (wanted : Option Place) (ms ns : List Mark) → AreAlike ms ns →
    AreAlike (wanted_marks wanted ms) (wanted_marks wanted ns)
wanted-alike None ms ns h = h
wanted-alike (Some p) ms ns h =
    Same-ending_at nothing any IsAlike p p ms ns (λ a b e. ap (λ o. is_same_place o p) (sym e)) h

-- where nothing comes of a way, nothing comes of another at the same place
pub nothing-again : (x : Context) (wanted : Option Place) (items : List Task) (w v : Way) →
    w.at ≡ v.at → wanted_marks wanted (marks_with x items w) ≡ [] →
    wanted_marks wanted (marks_with x items v) ≡ []
nothing-again x wanted items w v e none =
    subst (λ ms. AreAlike ms (wanted_marks wanted (marks_with x items v))) none
    (wanted-alike wanted (marks_with x items w) (marks_with x items v) (marks-alike x items w v e))
