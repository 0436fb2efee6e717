-- Short looks at counts of an atom: turns that are made at once, and turns one behind the other.
use Rattle.std.proofs.Common.{◌≡◌, ◌≢◌, ℕ, zero, suc, ◌+◌, ◌<◌, ◌≤◌, true, false, List, [], ◌∷◌, ◌++◌, refl, sym, ap, ◌∙◌, subst, append-nil, append_assoc, arith}
use Rattle.syn_base.specs.declared.places.Place.{Place}
use Rattle.pattern_items.specs.declared.atom.Atom.{Atom}
use Rattle.vim_pattern.specs.Shape.{one}
use Rattle.match_rules.specs.Ways.{Context, Text, Way, IsPlaceOf, is_after, way_from}
use Rattle.match_rules.specs.Atoms.{lines_looked, own_line, way_behind}
use Rattle.match_rules.specs.Attempt.{answer_from}
use Rattle.match_rules.specs.Counts.{one_less, less_by, is_spent}
use Rattle.match_rules.specs.Marks.{Mark, Tick, Reach, followed}
use Rattle.match_rules.specs.Visits.{visits}
use Rattle.pattern_match.specs.declared.sight.Saw.{Saw}
use Rattle.pattern_match.specs.declared.sight.Saw.TheVariants.{Reached, InVain}
use Rattle.pattern_match.specs.declared.sight.Sight.{Sight}
use Rattle.pattern_match.specs.declared.spent.Spent.{Spent}
use Rattle.pattern_match.specs.declared.task.Turns.{Turns}
use Rattle.pattern_match.specs.Glance.{AreTaken, GoesOn, IsAtomSeen, IsSeen, stops_of, turns_of, turns_behind, turn_of}
use Rattle.pattern_match.specs.Runs.{AreAllowed, IsRun}
use Rattle.pattern_match.specs.Spending.{spent_times}
use Rattle.pattern_match.specs.Steps.{shape_of}
use Rattle.pattern_match.specs.Ways.{columns_on}
use Rattle.pattern_match.proofs.GlanceLaws.{atom_stops, atom_then, first_stops, greedy_is, lazy_is, left_none, left_took, moves_behind, seen_behind, seen_moved, spent_is, turn_is}
use Rattle.pattern_match.proofs.LookingBehind.{none_first}
use Rattle.pattern_match.proofs.RunLaws.{is_after-next, less-next, less-none, less-unspent, plain-looks, plain-moves, run-fits}

-- where marks have no way, what follows them goes on from there
pub none_then : (w : Way) (a b : List Mark) (old new : Sight) → IsSeen w a old new InVain → answer_from old.spent.cost old.spent.looked (a ++ b) ≡ answer_from new.spent.cost new.spent.looked b
none_then w a b old new h =
    none_first old.spent.cost old.spent.looked a b (ap (λ r. r.way) h.1) ∙ ap (λ r. answer_from r.cost r.looked b) h.1

-- one look behind another goes on
pub went_on : (text : Text) (old mid new : Sight) → GoesOn text old mid → GoesOn text mid new → GoesOn text old new
went_on text old mid new h k =
    let left = h.left in
    let more = k.left in
    record { stands = k.stands; left = omega arith; budget = k.budget ∙ h.budget }

-- and it does where it stands at another place
pub went_to : (text : Text) (old new : Sight) (p : Place) → GoesOn text old new → IsPlaceOf text p → GoesOn text old (record new { at = p })
went_to text old new p h on_text =
    record { stands = record { on_text = on_text; within = h.stands.within }; left = h.left; budget = h.budget }

pub went_back : (text : Text) (old mid new : Sight) → GoesOn text old mid → GoesOn text mid new → GoesOn text old (record new { at = mid.at })
went_back text old mid new h k = went_to text old new mid.at (went_on text old mid new h k) h.stands.on_text

-- ---- turns that are made at once

-- the turns of a count behind so many
abbrev pub turns_less : Turns → ℕ → Turns
turns_less t n = record t { most = less_by t.most n }

-- a way some columns further on
abbrev pub way_on : Way → ℕ → Way
way_on w n = record w { at = columns_on w.at n }

on-none : (w : Way) → way_on w 0 ≡ w
on-none w =
    let col : w.at.col + 0 ≡ w.at.col = omega arith in
    ap (λ c. record w { at = record w.at { col = c } }) col

module _ (x : Context) (t : Turns) (w : Way) (f : Way → List Mark) (free : t.least ≡ 0) (greedy : t.lazy ≡ false) (on_text : IsPlaceOf x.text w.at) where
  module _ (a : Atom) (k : shape_of t.part.now ≡ one a) (count : ℕ) (run : IsRun x a w.at count) (allowed : AreAllowed t.most count) where
    -- behind a turn of the run the count goes on with one less
    turn_of_run : (n : ℕ) → n < count → followed (turns_of x (turns_less t n) (way_on w n)) f ≡ Tick (own_line w) ∷ (followed (turns_of x (turns_less t (suc n)) (way_on w (suc n))) f ++ f (way_on w n))
    turn_of_run n h =
        let v : Way = way_on w n in
        let u : Turns = turns_less t n in
        let some : 0 < count = omega arith in
        let plain = run.plain some in
        let within = run.within in
        let here : IsPlaceOf x.text v.at = record { line = on_text.line; col = omega arith } in
        let next : Way = way_on w (suc n) in
        let behind : way_behind v (columns_on w.at (suc n)) a ≡ next = plain-moves v (columns_on w.at (suc n)) a plain in
        let visited : visits x (one a) v ≡ Tick (own_line w) ∷ Reach next ∷ [] = rw (run-fits x a w.at count n run h w, plain-looks x v a plain, behind) refl in
        let left = (left_took u v.at next.at t.least (less_by t.most (suc n)) (is_after-next w.at n) (rw free refl) (sym (less-next t.most n))).1 x next refl in
        greedy_is x u v f here (less-unspent t.most count n allowed h) free greedy
        ∙ ap (λ m. m ++ f v)
        (turn_is x u v f
        ∙ ap (λ s. followed (visits x s v) (λ z. followed (turns_behind x u v.at z) f)) k
        ∙ ap (λ m. followed m (λ z. followed (turns_behind x u v.at z) f)) visited
        ∙ ap (λ m. Tick (own_line w) ∷ m) (append-nil (followed (turns_behind x u v.at next) f) ∙ ap (λ m. followed m f) left))

    -- so many turns are so many ticks, and then the turns that are left, and the stops before
    pub run_is : (old : Sight) (n : ℕ) → n ≤ count → answer_from old.spent.cost old.spent.looked (followed (turns_of x t w) f)
        ≡ answer_from (spent_times old.spent n (own_line w)).cost (spent_times old.spent n (own_line w)).looked (followed (turns_of x (turns_less t n) (way_on w n)) f ++ stops_of f w n)
    run_is old zero h =
        let here : followed (turns_of x (turns_less t 0) (way_on w 0)) f ≡ followed (turns_of x t w) f =
        ap (λ v. followed (turns_of x (turns_less t 0) v) f) (on-none w) ∙ ap (λ m. followed (turns_of x (record t { most = m }) w) f) (less-none t.most) in
        ap (answer_from old.spent.cost old.spent.looked) (sym (append-nil (followed (turns_of x (turns_less t 0) (way_on w 0)) f) ∙ here))
    run_is old (suc n) h =
        let s : Spent = spent_times old.spent n (own_line w) in
        run_is old n (omega arith)
        ∙ ap (λ m. answer_from s.cost s.looked (m ++ stops_of f w n)) (turn_of_run n (omega arith))
        ∙ ap (answer_from (spent_times old.spent (suc n) (own_line w)).cost (spent_times old.spent (suc n) (own_line w)).looked)
        (append_assoc (followed (turns_of x (turns_less t (suc n)) (way_on w (suc n))) f) (f (way_on w n)) (stops_of f w n))

  -- the same of turns that a look makes at once, if any
  pub taken_is : (count : ℕ) → AreTaken x t w.at count → (old : Sight) → answer_from old.spent.cost old.spent.looked (followed (turns_of x t w) f)
      ≡ answer_from (spent_times old.spent count (own_line w)).cost (spent_times old.spent count (own_line w)).looked (followed (turns_of x (turns_less t count) (way_on w count)) f ++ stops_of f w count)
  taken_is zero h old =
      let here : followed (turns_of x (turns_less t 0) (way_on w 0)) f ≡ followed (turns_of x t w) f =
      ap (λ v. followed (turns_of x (turns_less t 0) v) f) (on-none w) ∙ ap (λ m. followed (turns_of x (record t { most = m }) w) f) (less-none t.most) in
      ap (answer_from old.spent.cost old.spent.looked) (sym (append-nil (followed (turns_of x (turns_less t 0) (way_on w 0)) f) ∙ here))
  taken_is (suc n) h old =
      let some : 0 < suc n = omega arith in
      let r = h.run some in
      run_is r.0 r.1.0 (suc n) r.1.1 h.allowed old (suc n) (omega arith)

  -- what was seen behind these turns was seen of all
  pub greedy_seen : (count : ℕ) → AreTaken x t w.at count → (old mid new : Sight) (saw : Saw) → mid.spent ≡ spent_times old.spent count (own_line w) → mid.notes.items ≡ old.notes.items
      → IsSeen w (followed (turns_of x (turns_less t count) (way_on w count)) f ++ stops_of f w count) mid new saw → IsSeen w (followed (turns_of x t w) f) old new saw
  greedy_seen count taken old mid new saw spent notes h =
      let all : List Mark = followed (turns_of x (turns_less t count) (way_on w count)) f ++ stops_of f w count in
      seen_behind w (followed (turns_of x t w) f) all old mid mid new saw refl notes (taken_is count taken old ∙ ap (λ s. answer_from s.cost s.looked all) (sym spent)) h

-- ---- turns of a lazy count, one behind the other

-- what turns come to from a place on is what others come to from another, with no note between
abbrev pub ComesTo : Context → (Way → List Mark) → Turns → Turns → Sight → Sight → Type 0
ComesTo x f t u old now = (now.notes.items ≡ old.notes.items) × ((w : Way) → w.at ≡ old.at →
    answer_from old.spent.cost old.spent.looked (followed (turns_of x t w) f) ≡ answer_from now.spent.cost now.spent.looked (followed (turns_of x u (record w { at = now.at })) f))

-- so it was seen of the first ones what was seen of the others
abbrev pub IsSeenOf : Context → (Way → List Mark) → Turns → Sight → Sight → Saw → Type 0
IsSeenOf x f t old new saw = (w : Way) → w.at ≡ old.at → IsSeen w (followed (turns_of x t w) f) old new saw

pub comes_first : (x : Context) (f : Way → List Mark) (t : Turns) (s : Sight) → ComesTo x f t t s s
comes_first x f t s = (refl, λ w e. ap (λ p. answer_from s.spent.cost s.spent.looked (followed (turns_of x t (record w { at = p })) f)) e)

module _ (x : Context) (f : Way → List Mark) (t u : Turns) (old cur : Sight) (c : ComesTo x f t u old cur) (on_text : IsPlaceOf x.text cur.at) (free : u.least ≡ 0) (lazy : u.lazy ≡ true) where
  -- what was seen of the turns that are left was seen of all
  seen_of_left : (from new : Sight) (saw : Saw) → from.notes.items ≡ cur.notes.items → ((v : Way) → v.at ≡ cur.at → (m : List Mark) × ((answer_from cur.spent.cost cur.spent.looked (followed (turns_of x u v) f) ≡ answer_from from.spent.cost from.spent.looked m) × IsSeen v m from new saw)) → IsSeenOf x f t old new saw
  seen_of_left from new saw notes h = λ w e.
      let k = h (record w { at = cur.at }) refl in
      seen_behind w (followed (turns_of x t w) f) k.0 old from from new saw refl (notes ∙ c.0) (c.1 w e ∙ k.1.0) (seen_moved w cur.at k.0 from new saw k.1.1)

  -- a stop that has a way, or nothing is known of
  pub lazy_stops : (new : Sight) (saw : Saw) → saw ≢ InVain → ((v : Way) → v.at ≡ cur.at → IsSeen v (f v) cur new saw) → IsSeenOf x f t old new saw
  lazy_stops new saw n h = seen_of_left cur new saw refl (λ v e.
      let here : IsPlaceOf x.text v.at = subst (IsPlaceOf x.text) (sym e) on_text in (
        followed (turns_of x u v) f,
        (
          refl,
          elim (is_spent u.most) as (λ b. is_spent u.most ≡ b → IsSeen v (followed (turns_of x u v) f) cur new saw) [
            | true ↦ λ b. subst (λ m. IsSeen v m cur new saw) (sym (spent_is x u v f here b)) (h v e)
            | false ↦ λ b. subst (λ m. IsSeen v m cur new saw) (sym (lazy_is x u v f here b free lazy)) (first_stops v (f v) (followed (turn_of x u v) f) cur new saw n (h v e))
          ] refl,
        ),
      ))

  module _ (new : Sight) (vain : (v : Way) → v.at ≡ cur.at → IsSeen v (f v) cur new InVain) where
    -- no stop has a way, and no turn is allowed
    pub lazy_ends : is_spent u.most ≡ true → IsSeenOf x f t old new InVain
    lazy_ends b = seen_of_left cur new InVain refl (λ v e.
        let here : IsPlaceOf x.text v.at = subst (IsPlaceOf x.text) (sym e) on_text in
        (f v, (ap (answer_from cur.spent.cost cur.spent.looked) (spent_is x u v f here b), vain v e)))

    module _ (a : Atom) (k : shape_of u.part.now ≡ one a) (b : is_spent u.most ≡ false) (from : Sight) (same : from.spent ≡ new.spent) (noted : from.notes.items ≡ new.notes.items) (place : from.at ≡ cur.at) where
      kept : from.notes.items ≡ cur.notes.items
      kept = noted ∙ (vain (way_from cur.at) refl).0

      -- what follows a turn
      abbrev behind : Way → Way → List Mark
      behind v z = followed (turns_behind x u v.at z) f

      turn_left : (v : Way) → v.at ≡ cur.at → answer_from cur.spent.cost cur.spent.looked (followed (turns_of x u v) f) ≡ answer_from from.spent.cost from.spent.looked (followed (visits x (one a) v) (behind v))
      turn_left v e =
          let here : IsPlaceOf x.text v.at = subst (IsPlaceOf x.text) (sym e) on_text in
          ap (answer_from cur.spent.cost cur.spent.looked) (lazy_is x u v f here b free lazy)
          ∙ none_then v (f v) (followed (turn_of x u v) f) cur new (vain v e)
          ∙ ap (λ s. answer_from s.cost s.looked (followed (turn_of x u v) f)) (sym same)
          ∙ ap (answer_from from.spent.cost from.spent.looked) (turn_is x u v f ∙ ap (λ s. followed (visits x s v) (behind v)) k)

      -- the atom of the next turn doesn't fit
      pub lazy_misses : (mid : Sight) (saw : Saw) → saw ≢ Reached → ((v : Way) → v.at ≡ from.at → IsAtomSeen x a v from mid saw) → IsSeenOf x f t old mid saw
      lazy_misses mid saw n h = seen_of_left from mid saw kept (λ v e.
          (followed (visits x (one a) v) (behind v), (turn_left v e, atom_stops x a v (behind v) from mid saw n (h v (e ∙ sym place)))))

      module _ (mid : Sight) (h : (v : Way) → v.at ≡ from.at → IsAtomSeen x a v from mid Reached) where
        -- it takes nothing
        pub lazy_stays : is_after mid.at from.at ≡ false → IsSeenOf x f t old mid InVain
        lazy_stays after = seen_of_left from mid InVain kept (λ v e. (
          followed (visits x (one a) v) (behind v),
          (
            turn_left v e,
            atom_then x a v (behind v) from mid mid InVain (h v (e ∙ sym place)) (λ z ez.
                let p : is_after mid.at v.at ≡ false = ap (is_after mid.at) (e ∙ sym place) ∙ after in
                (refl, ap (λ m. answer_from mid.spent.cost mid.spent.looked (followed m f)) (left_none u v.at mid.at p free x z ez))),
          ),
        ))

        -- it goes on
        pub lazy_goes : is_after mid.at from.at ≡ true → ComesTo x f t (record u { most = one_less u.most }) old mid
        lazy_goes after = (
          (h (way_from from.at) refl).notes ∙ kept ∙ c.0,
          λ w e.
              let v : Way = record w { at = cur.at } in
              let tried = h v (sym place) in
              let next : Way = record w { at = mid.at } in
              let p : is_after mid.at v.at ≡ true = ap (is_after mid.at) (sym place) ∙ after in
              let left = (left_took u v.at mid.at u.least (one_less u.most) p (rw free refl) refl).1 x next refl in
              let followed_is : followed (visits x (one a) v) (behind v) ≡ Tick (lines_looked x v a) ∷ behind v next = rw tried.place_is
              (ap (λ m. Tick (lines_looked x v a) ∷ m) (append-nil (behind v (way_behind v mid.at a)) ∙ ap (behind v) (moves_behind v mid.at a tried.plain))) in
              c.1 w e ∙ turn_left v refl ∙ ap (answer_from from.spent.cost from.spent.looked) followed_is
              ∙ ap (λ s. answer_from s.cost s.looked (behind v next)) (sym tried.spent)
              ∙ ap (λ m. answer_from mid.spent.cost mid.spent.looked (followed m f)) left,
        )
