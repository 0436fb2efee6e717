-- A pattern makes the same marks in two texts, moved, as long as they agree on the lines looked at.
use Rattle.std.proofs.Common.{◌≡◌, ℕ, zero, suc, ◌<◌, ◌≤◌, false, List, [], ◌∷◌, ◌++◌, length, take, refl, sym, arith, subst}
use Rattle.std.specs.Prelude.{pos, ◌-ℤ◌}
use Rattle.syn_base.specs.declared.looked.Looked.{Looked}
use Rattle.syn_base.specs.declared.places.Place.{Place}
use Rattle.syn_base.specs.Looked.{hull_of, moved_by, one_line}
use Rattle.pattern_items.specs.declared.item.Behind.{Behind}
use Rattle.pattern_items.specs.declared.item.Behind.TheVariants.{Any, Most}
use Rattle.vim_pattern.specs.Shape.{Shape, empty, one, seq, or, and, group, external, repeat, ahead, before, whole}
use Rattle.match_rules.specs.Ways.{Way, line_at, place}
use Rattle.match_rules.specs.Marks.{Mark}
use Rattle.match_rules.specs.Looks.{columns_back, line_before, ending_at, from_each, tried_behind}
use Rattle.match_rules.specs.Visits.{visits, noted, noted_external}
use Rattle.match_rules.proofs.Kept.{visits-kept}
use Rattle.match_rules.proofs.SameMarks.{Beside, Same-one, Same-append, Same-followed, Same-map, Same-look, Same-whole, Same-turns, Same-ending_at, Same-from_each, Same-behind}
use Rattle.match_rules.proofs.Starts.{columns_before, other_starts, others-elsewhere, tried_behind-split}
use Rattle.match_rules.proofs.Outset.{outset, nowhere_else}
use Rattle.match_rules.proofs.Sides.{Two, other, shift, AgreesOn, AgreesOver, Moved, SameBefore, same_before}
use Rattle.match_rules.proofs.Steps.{no_step, further, after-moved, same_place-moved}
use Rattle.match_rules.proofs.SideWays.{NotesMoved, WayMoved, ReachedWay, with_capture-moved}
use Rattle.match_rules.proofs.AtomsMoved.{LooksMoved, Local, agrees_before, before_line-moved, atom-moved}
use Rattle.match_rules.proofs.Hulls.{hull-both, hull-parts}

-- ---- the starts of a look behind

Beside-append : (R : Place → Place → Type 0) (ps qs rs ss : List Place) → Beside R ps qs →
    Beside R rs ss → Beside R (ps ++ rs) (qs ++ ss)
Beside-append R [] [] rs ss h k = k
Beside-append R (p ∷ ps) (q ∷ qs) rs ss h k = (h.0, Beside-append R ps qs rs ss h.1 k)
Beside-append R [] (q ∷ qs) rs ss h k = absurd h
Beside-append R (p ∷ ps) [] rs ss h k = absurd h

Beside-take : (R : Place → Place → Type 0) (n : ℕ) (ps qs : List Place) → Beside R ps qs →
    Beside R (take n ps) (take n qs)
Beside-take R zero ps qs h = tt
Beside-take R (suc n) [] [] h = tt
Beside-take R (suc n) (p ∷ ps) (q ∷ qs) h = (h.0, Beside-take R n ps qs h.1)
Beside-take R (suc n) [] (q ∷ qs) h = absurd h
Beside-take R (suc n) (p ∷ ps) [] h = absurd h

columns_back-moved : (two : Two) (k j col : ℕ) →
    ((c : ℕ) → c ≤ col → Moved two (place k c) (place j c)) →
    Beside (Moved two) (columns_back k col) (columns_back j col)
columns_back-moved two k j zero h = (h 0 (omega arith), tt)
columns_back-moved two k j (suc col) h =
    (h (suc col) (omega arith), columns_back-moved two k j col (λ c l. h c (omega arith)))

columns_before-moved : (two : Two) (k j col : ℕ) →
    ((c : ℕ) → c < col → Moved two (place k c) (place j c)) →
    Beside (Moved two) (columns_before k col) (columns_before j col)
columns_before-moved two k j zero h = tt
columns_before-moved two k j (suc col) h = columns_back-moved two k j col (λ c l. h c (omega arith))

line_before-moved : (two : Two) (k j : ℕ) → k ≤ length two.x.text → j ≤ length two.text →
    SameBefore two k j → Beside (Moved two) (line_before two.x.text k) (line_before two.text j)
line_before-moved two zero zero a b h = tt
line_before-moved two (suc k) (suc j) a b h =
    rw (h.1.chars) (columns_back-moved two k j (length (line_at two.x.text k)) (λ c l. record {
      line = h.0;
      col = refl;
      on = record { line = omega arith; col = l };
      there = record { line = omega arith; col = subst (λ cs. c ≤ length cs) (sym h.1.chars) l };
    }))
line_before-moved two zero (suc j) a b h = absurd h
line_before-moved two (suc k) zero a b h = absurd h

this_line-moved : (two : Two) (p q : Place) → Moved two p q →
    Beside (Moved two) (columns_before p.line p.col) (columns_before q.line q.col)
this_line-moved two p q m =
    rw m.col (columns_before-moved two p.line q.line p.col (λ c l. record {
      line = m.line;
      col = refl;
      on = record { line = m.on.line; col = omega (arith, m.on.col) };
      there = record { line = m.there.line; col = omega (arith, m.there.col, m.col) };
    }))

both-moved : (two : Two) (p q : Place) → Moved two p q → AgreesOn two (pos p.line -ℤ pos 1) →
    Beside (Moved two) (columns_before p.line p.col ++ line_before two.x.text p.line)
    (columns_before q.line q.col ++ line_before two.text q.line)
both-moved two p q m ok =
    Beside-append (Moved two) (columns_before p.line p.col) (columns_before q.line q.col)
    (line_before two.x.text p.line) (line_before two.text q.line) (this_line-moved two p q m)
    (line_before-moved two p.line q.line m.on.line m.there.line
    (same_before two p.line q.line m.line ok))

other_starts-moved : (two : Two) (limit : Behind) (p q : Place) → Moved two p q →
    AgreesOn two (pos p.line -ℤ pos 1) →
    Beside (Moved two) (other_starts two.x.text limit p) (other_starts two.text limit q)
other_starts-moved two Any p q m ok = both-moved two p q m ok
other_starts-moved two (Most limit) p q m ok =
    Beside-take (Moved two) limit _ _ (both-moved two p q m ok)

-- ---- ways

-- what is noted doesn't depend on the place
notes-at : (two : Two) (w v : Way) (p q : Place) → NotesMoved two w v →
    NotesMoved two (record w { at = p }) (record v { at = q })
notes-at two w v p q h = record {
  captures = h.captures;
  externals = h.externals;
  start = h.start;
  stop = h.stop;
}

-- back at the places of two other ways
back-moved : (two : Two) (p q : Place) (w v a b : Way) → ReachedWay two p q w v →
    NotesMoved two a b → ReachedWay two p q (record a { at = w.at }) (record b { at = v.at })
back-moved two p q w v a b m h = record {
  way = record {
    at = m.way.at;
    notes = notes-at two a b w.at v.at h;
  };
  by = m.by;
}

-- from the place itself
from_here : (two : Two) (w v : Way) → WayMoved two w v → ReachedWay two w.at v.at w v
from_here two w v m = record { way = m; by = no_step two w.at v.at }

noted-moved : (two : Two) (number : ℕ) (p q : Place) (w v w' v' : Way) → ReachedWay two p q w v →
    ReachedWay two w.at v.at w' v' → Local two (ReachedWay two p q) (noted number w.at w')
    (noted number v.at v')
noted-moved two number p q w v w' v' m n =
    Same-one (AgreesOver two) (LooksMoved two) (ReachedWay two p q) _ _ (record {
      way = record {
        at = n.way.at;
        notes = record {
          captures = with_capture-moved two w'.captures v'.captures number w.at v.at w'.at v'.at
              n.way.notes.captures m.way.at n.way.at n.by;
          externals = n.way.notes.externals;
          start = n.way.notes.start;
          stop = n.way.notes.stop;
        };
      };
      by = further two p q w.at v.at w'.at v'.at m.by n.by;
    })

noted_external-moved : (two : Two) (number : ℕ) (p q : Place) (w v w' v' : Way) →
    ReachedWay two p q w v → ReachedWay two w.at v.at w' v' →
    Local two (ReachedWay two p q) (noted_external number w.at w') (noted_external number v.at v')
noted_external-moved two number p q w v w' v' m n =
    Same-one (AgreesOver two) (LooksMoved two) (ReachedWay two p q) _ _ (record {
      way = record {
        at = n.way.at;
        notes = record {
          captures = n.way.notes.captures;
          externals = with_capture-moved two w'.externals v'.externals number w.at v.at w'.at v'.at
              n.way.notes.externals m.way.at n.way.at n.by;
          start = n.way.notes.start;
          stop = n.way.notes.stop;
        };
      };
      by = further two p q w.at v.at w'.at v'.at m.by n.by;
    })

-- ---- looks behind

hull-looked : (two : Two) (m n : Looked) → n ≡ moved_by m (shift two) → (l k : Looked) →
    LooksMoved two l k → LooksMoved two (hull_of l m) (hull_of k n)
hull-looked two m n e l k h ok =
    hull-both l m k n (shift two) (h (hull-parts two l m ok).0) e

abbrev PartMoved : Two → Shape → Type 0
PartMoved two part = (p q : Place) (w v : Way) → ReachedWay two p q w v →
    Local two (ReachedWay two p q) (visits two.x part w) (visits (other two) part v)

-- from a moved start, without the text on the way
from_start : (two : Two) (part : Shape) → PartMoved two part → (w v : Way) → WayMoved two w v →
    Local two (WayMoved two) (visits two.x part w) (visits (other two) part v)
from_start two part same w v m =
    Same-map (AgreesOver two) (LooksMoved two) (ReachedWay two w.at v.at) (WayMoved two)
    (visits two.x part w) (visits (other two) part v) (λ a b h. h.way)
    (same w.at v.at w v (from_here two w v m))

ending-moved : (two : Two) (w v : Way) (ms ns : List Mark) → WayMoved two w v →
    Local two (WayMoved two) ms ns → Local two (WayMoved two) (ending_at w.at ms)
    (ending_at v.at ns)
ending-moved two w v ms ns m h =
    Same-ending_at (AgreesOver two) (LooksMoved two) (WayMoved two) w.at v.at ms ns
    (λ w' v' h'. same_place-moved two w.at v.at w'.at v'.at m.at h'.at) h

others-moved : (two : Two) (part : Shape) (limit : Behind) → PartMoved two part → (w v : Way) →
    WayMoved two w v → AgreesOn two (pos w.at.line -ℤ pos 1) →
    Local two (WayMoved two) (from_each (visits two.x part) w (other_starts two.x.text limit w.at))
    (from_each (visits (other two) part) v (other_starts two.text limit v.at))
others-moved two part limit same w v m ok =
    Same-from_each (AgreesOver two) (LooksMoved two) (Moved two) (WayMoved two) (visits two.x part)
    (visits (other two) part) w v
    (λ s t h. from_start two part same (record w { at = s }) (record v { at = t })
    (record { at = h; notes = notes-at two w v s t m.notes }))
    (other_starts two.x.text limit w.at) (other_starts two.text limit v.at)
    (other_starts-moved two limit w.at v.at m.at ok)

tried_behind-moved : (two : Two) (part : Shape) (limit : Behind) → PartMoved two part →
    (w v : Way) → WayMoved two w v → Local two (WayMoved two)
    (tried_behind two.x.text (visits two.x part) limit w)
    (tried_behind two.text (visits (other two) part) limit v)
tried_behind-moved two part limit same w v m =
    rw (
      tried_behind-split two.x.text (visits two.x part) limit w,
      tried_behind-split two.text (visits (other two) part) limit v,
    )
    (Same-behind (AgreesOver two) (LooksMoved two) (one_line (pos w.at.line -ℤ pos 1))
    (one_line (pos v.at.line -ℤ pos 1))
    (hull-looked two (one_line (pos w.at.line -ℤ pos 1)) (one_line (pos v.at.line -ℤ pos 1))
    (before_line-moved two w.at.line v.at.line m.at.line))
    (λ l ok. (hull-parts two l (one_line (pos w.at.line -ℤ pos 1)) ok).0)
    (WayMoved two) (AgreesOn two (pos w.at.line -ℤ pos 1)) (agrees_before two w.at)
    (ending_at w.at (visits two.x part w))
    (ending_at w.at (from_each (visits two.x part) w (other_starts two.x.text limit w.at)))
    (ending_at v.at (visits (other two) part v))
    (ending_at v.at (from_each (visits (other two) part) v (other_starts two.text limit v.at)))
    (ending-moved two w v (visits two.x part w) (visits (other two) part v) m
    (from_start two part same w v m))
    (λ ok. ending-moved two w v _ _ m (others-moved two part limit same w v m ok))
    (λ none. (
      nowhere_else two.x.text two.x.text w.at w.at (visits two.x part w) (visits two.x part) w none
          (λ r on. outset part two.x two.x w.at r w (record w { at = r })
          (record { here = refl; there = refl; of = m.at.on; of_other = on }))
          (other_starts two.x.text limit w.at) (others-elsewhere two.x.text limit w.at m.at.on),
      nowhere_else two.x.text two.text w.at v.at (visits two.x part w) (visits (other two) part) v
          none (λ r on. outset part two.x (other two) w.at r w (record v { at = r })
          (record { here = refl; there = refl; of = m.at.on; of_other = on }))
          (other_starts two.text limit v.at) (others-elsewhere two.text limit v.at m.at.there),
    )))

-- ---- every node

pub visits-moved : (two : Two) (n : Shape) (p q : Place) (w v : Way) → ReachedWay two p q w v →
    Local two (ReachedWay two p q) (visits two.x n w) (visits (other two) n v)
visits-moved two empty p q w v m = Same-one (AgreesOver two) (LooksMoved two) (ReachedWay two p q) w
    v m
visits-moved two (one a) p q w v m = atom-moved two p q w v a m
visits-moved two (seq a b) p q w v m =
    Same-followed (AgreesOver two) (LooksMoved two) (ReachedWay two p q) (ReachedWay two p q)
    (visits two.x a w) (visits (other two) a v) (visits two.x b) (visits (other two) b)
    (visits-moved two a p q w v m) (λ w' v' m'. visits-moved two b p q w' v' m')
visits-moved two (or a b) p q w v m =
    Same-append (AgreesOver two) (LooksMoved two) (ReachedWay two p q) (visits two.x a w)
    (visits two.x b w) (visits (other two) a v) (visits (other two) b v)
    (visits-moved two a p q w v m) (visits-moved two b p q w v m)
visits-moved two (and a b) p q w v m =
    Same-followed (AgreesOver two) (LooksMoved two) (ReachedWay two p q) (ReachedWay two p q) _ _
    (visits two.x b) (visits (other two) b)
    (Same-look (AgreesOver two) (LooksMoved two) (ReachedWay two p q) (ReachedWay two p q) false w v
    m (λ c d h. back-moved two p q w v c d m h.way.notes) (visits two.x a w)
    (visits (other two) a v) (visits-moved two a p q w v m))
    (λ w' v' m'. visits-moved two b p q w' v' m')
visits-moved two (group part number) p q w v m =
    Same-followed (AgreesOver two) (LooksMoved two) (ReachedWay two w.at v.at) (ReachedWay two p q)
    (visits two.x part w) (visits (other two) part v) (noted number w.at) (noted number v.at)
    (visits-moved two part w.at v.at w v (from_here two w v m.way))
    (λ w' v' m'. noted-moved two number p q w v w' v' m m')
visits-moved two (external part number) p q w v m =
    Same-followed (AgreesOver two) (LooksMoved two) (ReachedWay two w.at v.at) (ReachedWay two p q)
    (visits two.x part w) (visits (other two) part v) (noted_external number w.at)
    (noted_external number v.at) (visits-moved two part w.at v.at w v (from_here two w v m.way))
    (λ w' v' m'. noted_external-moved two number p q w v w' v' m m')
visits-moved two (repeat part least most lazy) p q w v m =
    Same-turns (AgreesOver two) (LooksMoved two) (ReachedWay two p q) two.x.text two.text
    (visits two.x part) (visits (other two) part) lazy (visits-kept two.x part)
    (visits-kept (other two) part)
    (λ w' v' h. (h.way.at.on, h.way.at.there))
    (λ w' v' w'' v'' h k. after-moved two w'.at v'.at w''.at v''.at h.way.at k.way.at)
    (λ w' v' h. visits-moved two part p q w' v' h) least most w v m
visits-moved two (ahead part negative) p q w v m =
    Same-look (AgreesOver two) (LooksMoved two) (ReachedWay two p q) (ReachedWay two p q) negative w
    v m (λ c d h. back-moved two p q w v c d m h.way.notes) (visits two.x part w)
    (visits (other two) part v) (visits-moved two part p q w v m)
visits-moved two (before part negative limit) p q w v m =
    Same-look (AgreesOver two) (LooksMoved two) (WayMoved two) (ReachedWay two p q) negative w v m
    (λ c d h. back-moved two p q w v c d m h.notes)
    (tried_behind two.x.text (visits two.x part) limit w)
    (tried_behind two.text (visits (other two) part) limit v)
    (tried_behind-moved two part limit (visits-moved two part) w v m.way)
visits-moved two (whole part) p q w v m =
    Same-whole (AgreesOver two) (LooksMoved two) (ReachedWay two p q) (visits two.x part w)
    (visits (other two) part v) (visits-moved two part p q w v m)
