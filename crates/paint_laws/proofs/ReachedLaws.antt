-- Kept ends, and the searches at the start of a line, reach the frames down to the first with `extend`.
use Rattle.std.proofs.Common.{◌≡◌, ℕ, Bool, true, false, List, [], ◌∷◌, ◌++◌, map, refl, sym, ap, ◌∙◌}
use Rattle.std.specs.Prelude.{Option, None, ◌||◌}
use Rattle.std.specs.List.{list_any}
use Rattle.syntax_set.specs.declared.added_item.AddedItem.{AddedItem}
use Rattle.paint_rules.specs.declared.Spot.{Spot}
use Rattle.paint_rules.specs.Frames.{Frame}
use Rattle.paint_rules.specs.KeptEnd.{earlier_end, has_extend, has_keepend, limit_of, limit_on}
use Rattle.paint_rules.specs.Painted.{Painted, done, ◌>>=◌}
use Rattle.paint_rules.specs.Rules.{Here, Cause}
use Rattle.paint_rules.specs.Close.{at_line_start, below_at_line_start, searched_anew, Anew}
use Rattle.paint_rules.specs.Close.{untouched, anew_over_keepend, exposed_anew, frames_after}
use Rattle.paint_rules.proofs.PaintedLaws.{first_none, bind_assoc}
use Rattle.paint_laws.specs.Reached.{reached, unreached, earliest, KeptEndsAreEarliest, on_each}
use Rattle.paint_laws.specs.Reached.{kept_at_line_start, LinesStartAtReached, anew_from_keepend}
use Rattle.paint_laws.specs.Reached.{PopsSearchReached}

module _ (items : List AddedItem) where
  limit_by : (b : Bool) (below : List Frame) →
      limit_on items below ≡ earliest (map (limit_of items) (reached items below)) →
      elim b as (λ _. Option Spot) [ true ↦ None | false ↦ limit_on items below ]
      ≡ earliest (map (limit_of items)
      (elim b as (λ _. List Frame) [ true ↦ [] | false ↦ reached items below ]))
  limit_by true below e = refl
  limit_by false below e = e

  limits_earliest : (fs : List Frame) →
      limit_on items fs ≡ earliest (map (limit_of items) (reached items fs))
  limits_earliest [] = refl
  limits_earliest (f ∷ below) =
      ap (earlier_end (limit_of items f))
      (limit_by (has_extend items f) below (limits_earliest below))

pub kept_ends_are_earliest : KeptEndsAreEarliest
kept_ends_are_earliest items top below =
    ap (earlier_end top.known_end)
    (limit_by items (has_extend items top) below (limits_earliest items below))

module _ (h : Here) where
  abbrev items : List AddedItem
  items = h.rules.items

  abbrev Searched : Type 0
  Searched = Painted Cause (List Frame)

  abbrev kept : Frame → Painted Cause Frame
  kept = kept_at_line_start h

  -- a step on one frame more, over what becomes of those below it
  abbrev over : Painted Cause Frame → List Frame → Searched
  over step rest = step >>= (λ g. done (g ∷ rest))

  -- frames that are handed on, and then one more
  after_done : (step : Painted Cause Frame) (m : Searched) (low : List Frame) →
      m >>= (λ rest. done (rest ++ low)) >>= over step ≡ m >>= (λ rest. over step (rest ++ low))
  after_done step m low =
      bind_assoc m (λ rest. done (rest ++ low)) (over step)
      ∙ (λ j. m >>= (λ rest. first_none (over step (rest ++ low)) j))

  -- one more, and then those that stay
  before_done : (step : Painted Cause Frame) (m : Searched) (low : List Frame) →
      m >>= over step >>= (λ rest. done (rest ++ low)) ≡ m >>= (λ rest. over step (rest ++ low))
  before_done step m low =
      bind_assoc m (over step) (λ rest. done (rest ++ low))
      ∙ (λ j. m >>= (λ rest. bind_assoc step (λ g. done (g ∷ rest)) (λ rest. done (rest ++ low)) j))

  -- with the frames below, as they are reached or not
  step_by : (b : Bool) (step : Painted Cause Frame) (below : List Frame) →
      below_at_line_start h below
      ≡ on_each kept (reached items below) >>= (λ rest. done (rest ++ unreached items below)) →
      elim b as (λ _. Searched) [ true ↦ done below | false ↦ below_at_line_start h below ]
      >>= over step
      ≡ on_each kept (elim b as (λ _. List Frame) [ true ↦ [] | false ↦ reached items below ])
      >>= (λ rest. over step (rest ++ elim b as (λ _. List Frame)
      [ true ↦ below | false ↦ unreached items below ]))
  step_by true step below e = refl
  step_by false step below e =
      ap (λ m. m >>= over step) e
      ∙ after_done step (on_each kept (reached items below)) (unreached items below)

  below_reached : (fs : List Frame) →
      below_at_line_start h fs
      ≡ on_each kept (reached items fs) >>= (λ rest. done (rest ++ unreached items fs))
  below_reached [] = refl
  below_reached (f ∷ below) =
      step_by (has_extend items f) (kept f) below (below_reached below)
      ∙ sym (before_done (kept f) (on_each kept (elim (has_extend items f) as (λ _. List Frame)
      [ true ↦ [] | false ↦ reached items below ])) (unreached items (f ∷ below)))

pub lines_start_at_reached : LinesStartAtReached
lines_start_at_reached h top below =
    step_by h (has_extend h.rules.items top) (at_line_start h top) below (below_reached h below)

or_turned : (a b : Bool) → a || b ≡ b || a
or_turned true true = refl
or_turned true false = refl
or_turned false true = refl
or_turned false false = refl

neither : (a b : Bool) → a || b ≡ false → (a ≡ false) × (b ≡ false)
neither true b e = absurd (cc)
neither false b e = (refl, e)

module _ (h : Here) (c : ℕ) where
  abbrev rules_items : List AddedItem
  rules_items = h.rules.items

  abbrev keeps : List Frame → Bool
  keeps fs = list_any (has_keepend rules_items) fs

  abbrev one_anew : Frame → Bool → Painted Cause Frame
  one_anew f over = elim over as (λ _. Painted Cause Frame)
      [ true ↦ searched_anew h c f | false ↦ done f ]

  abbrev told_anew : List Frame → Bool → List Frame → Painted Cause Anew
  told_anew low over rest = done (record { frames = rest ++ low; over = over })

  abbrev anew_step : Frame → Anew → Painted Cause Anew
  anew_step f rest = one_anew f (rest.over || has_keepend rules_items f) >>= (λ g.
      done (record { frames = g ∷ rest.frames; over = rest.over || has_keepend rules_items f }))

  -- a frame over those below it, that are so and have searched so
  one_over : (f : Frame) (up low : List Frame) →
      anew_from_keepend h c up >>= told_anew low (keeps up) >>= anew_step f
      ≡ anew_from_keepend h c (f ∷ up) >>= told_anew low (keeps (f ∷ up))
  one_over f up low =
      let m = anew_from_keepend h c up in
      let over = keeps up || has_keepend rules_items f in
      bind_assoc m (told_anew low (keeps up)) (anew_step f)
      ∙ ((λ j. m >>= (λ rest.
      first_none (anew_step f (record { frames = rest ++ low; over = keeps up })) j))
      ∙ ((λ j. m >>= (λ rest. one_anew f over >>= (λ g.
      told_anew low (or_turned (keeps up) (has_keepend rules_items f) j) (g ∷ rest))))
      ∙ ((λ j. m >>= (λ rest. sym (bind_assoc (one_anew f over) (λ g. done (g ∷ rest))
      (told_anew low (keeps (f ∷ up)))) j))
      ∙ sym (bind_assoc m (λ rest. one_anew f over >>= (λ g. done (g ∷ rest)))
      (told_anew low (keeps (f ∷ up)))))))

  over_by : (b : Bool) (f : Frame) (below : List Frame) →
      anew_over_keepend h c below
      ≡ anew_from_keepend h c (reached rules_items below)
      >>= told_anew (unreached rules_items below) (keeps (reached rules_items below)) →
      elim b as (λ _. Painted Cause Anew)
      [ true ↦ done (untouched below) | false ↦ anew_over_keepend h c below ] >>= anew_step f
      ≡ anew_from_keepend h c (elim b as (λ _. List Frame)
      [ true ↦ [] | false ↦ reached rules_items below ])
      >>= told_anew (elim b as (λ _. List Frame)
      [ true ↦ below | false ↦ unreached rules_items below ])
      (keeps (elim b as (λ _. List Frame) [ true ↦ [] | false ↦ reached rules_items below ]))
      >>= anew_step f
  over_by true f below e = refl
  over_by false f below e = ap (λ m. m >>= anew_step f) e

  over_reached : (fs : List Frame) →
      anew_over_keepend h c fs
      ≡ anew_from_keepend h c (reached rules_items fs)
      >>= told_anew (unreached rules_items fs) (keeps (reached rules_items fs))
  over_reached [] = refl
  over_reached (f ∷ below) =
      over_by (has_extend rules_items f) f below (over_reached below)
      ∙ one_over f (elim (has_extend rules_items f) as (λ _. List Frame)
      [ true ↦ [] | false ↦ reached rules_items below ]) (unreached rules_items (f ∷ below))

  -- where none has `keepend` none searches
  quiet_by : (f : Frame) (over : Bool) (rest : List Frame) → over ≡ false →
      one_anew f over >>= (λ g. done {E = Cause} (g ∷ rest)) ≡ done (f ∷ rest)
  quiet_by f true rest e = absurd (cc)
  quiet_by f false rest e = refl

  quiet : (fs : List Frame) → keeps fs ≡ false → anew_from_keepend h c fs ≡ done fs
  quiet [] e = refl
  quiet (f ∷ below) e =
      let both = neither (has_keepend rules_items f) (keeps below) e in
      let over : keeps below || has_keepend rules_items f ≡ false =
      or_turned (keeps below) (has_keepend rules_items f) ∙ e in
      ap (λ m. m >>= (λ rest. one_anew f (keeps below || has_keepend rules_items f)
      >>= (λ g. done (g ∷ rest)))) (quiet below both.1)
      ∙ (first_none (one_anew f (keeps below || has_keepend rules_items f)
      >>= (λ g. done (g ∷ below)))
      ∙ quiet_by f (keeps below || has_keepend rules_items f) below over)

  whole_by : (b : Bool) (f : Frame) (below : List Frame) →
      reached rules_items below ++ unreached rules_items below ≡ below →
      (elim b as (λ _. List Frame) [ true ↦ [] | false ↦ reached rules_items below ])
      ++ (elim b as (λ _. List Frame) [ true ↦ below | false ↦ unreached rules_items below ])
      ≡ below
  whole_by true f below e = refl
  whole_by false f below e = e

  whole : (fs : List Frame) → reached rules_items fs ++ unreached rules_items fs ≡ fs
  whole [] = refl
  whole (f ∷ below) =
      ap (λ fs. f ∷ fs) (whole_by (has_extend rules_items f) f below (whole below))

  searched_stays : (fs : List Frame) → exposed_anew h c true fs ≡ done fs
  searched_stays [] = refl
  searched_stays (f ∷ below) = refl

  exposed_by : (b : Bool) (below : List Frame) → keeps (reached rules_items below) ≡ b →
      anew_from_keepend h c (reached rules_items below)
      >>= (λ rest. exposed_anew h c b (rest ++ unreached rules_items below))
      ≡ elim b as (λ _. Painted Cause (List Frame)) [
        | true ↦ anew_from_keepend h c (reached rules_items below)
            >>= (λ rest. done (rest ++ unreached rules_items below))
        | false ↦ exposed_anew h c false below
      ]
  exposed_by true below e = λ j. anew_from_keepend h c (reached rules_items below)
      >>= (λ rest. searched_stays (rest ++ unreached rules_items below) j)
  exposed_by false below e =
      ap (λ m. m >>= (λ rest. exposed_anew h c false (rest ++ unreached rules_items below)))
      (quiet (reached rules_items below) e)
      ∙ (first_none (exposed_anew h c false
      (reached rules_items below ++ unreached rules_items below))
      ∙ ap (exposed_anew h c false) (whole below))

  after_by : (b : Bool) (below : List Frame) → b ≡ true →
      elim b as (λ _. Painted Cause Anew)
      [ true ↦ anew_over_keepend h c below | false ↦ done (untouched below) ]
      ≡ anew_over_keepend h c below
  after_by true below e = refl
  after_by false below e = absurd (cc)

  after_reached : (popped : Frame) (below : List Frame) → has_extend rules_items popped ≡ true →
      frames_after h c popped below
      ≡ elim (keeps (reached rules_items below)) as (λ _. Painted Cause (List Frame)) [
        | true ↦ anew_from_keepend h c (reached rules_items below)
            >>= (λ rest. done (rest ++ unreached rules_items below))
        | false ↦ exposed_anew h c false below
      ]
  after_reached popped below e =
      let m = anew_from_keepend h c (reached rules_items below) in
      let low = unreached rules_items below in
      let over = keeps (reached rules_items below) in
      ap (λ (p : Painted Cause Anew). p >>= (λ anew. exposed_anew h c anew.over anew.frames))
      (after_by (has_extend rules_items popped) below e ∙ over_reached below)
      ∙ (bind_assoc m (told_anew low over) (λ anew. exposed_anew h c anew.over anew.frames)
      ∙ ((λ j. m >>= (λ rest. first_none (exposed_anew h c over (rest ++ low)) j))
      ∙ exposed_by over below refl))

pub pops_search_reached : PopsSearchReached
pops_search_reached h c popped below e = after_reached h c popped below e
