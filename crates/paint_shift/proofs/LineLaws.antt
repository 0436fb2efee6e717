-- A line painted elsewhere is painted alike.
use Rattle.std.proofs.Common.{inl, inr, ◌<◌, ℕ, zero, suc, arith, List, [], ◌∷◌, length, sym, subst}
use Rattle.std.specs.Prelude.{None}
use Rattle.std.specs.Option.{option_map}
use Rattle.match_rules.specs.Ways.{line_at}
use Rattle.paint_rules.specs.declared.Spot.TheVariants.{At}
use Rattle.paint_rules.specs.Painted.{Painted, done, ◌>>=◌}
use Rattle.paint_rules.specs.Rules.{Here, Cause}
use Rattle.paint_rules.specs.States.{State, stale, Standing}
use Rattle.paint_rules.specs.Pick.{Picked, Start, SkipOn, Nothing, started}
use Rattle.paint_rules.specs.Line.{turns, column, Refusal, state_of, joined, shown, painted_from}
use Rattle.paint_rules.specs.Line.{at_line_begin, painted_after_look, painted_line}
use Rattle.paint_shift.proofs.Shift.{Two, IsMovedLine, SameLine, IsPresent, IsMovedPick, start}
use Rattle.paint_shift.proofs.Shift.{skip, nothing, AttemptsAreLocal}
use Rattle.paint_shift.proofs.AlikeLaws.{bind_alike, bind_same, refused_alike, looks_alike, Same}
use Rattle.paint_shift.proofs.AlikeLaws.{done_same}
use Rattle.paint_shift.proofs.CloseLaws.{one, other, line_start_same, closed_same}
use Rattle.paint_shift.proofs.PickLaws.{picked_alike, started_same}

module _ (two : Two) (local : AttemptsAreLocal two) (k j : ℕ) (h : IsPresent two k j) where
  abbrev here : Here
  here = one two local k j h

  abbrev there : Here
  there = other two local k j h

  turns_same : (starts c : ℕ) (s : Standing) →
      Same two (turns starts here c s) (turns starts there c s)
  turns_same zero c s = done_same two s
  turns_same (suc starts) c s =
      bind_same two (closed_same two local k j h c s)
      (λ s. bind_alike two (picked_alike two local k j h c s)
      (λ a b m. by_pick s m (λ s. turns_same starts c s)))
    where
      by_pick : (s : Standing) {a b : Picked} → IsMovedPick two a b →
          ((s : Standing) → Same two (turns starts here c s) (turns starts there c s)) →
          Same two (elim a as (λ _. Painted Cause Standing) [
            | Start x ↦ started here c s x >>=
                (λ s. turns starts here c s)
            | SkipOn ↦ done s
            | Nothing ↦ done
                (record s { waiting = None })
          ])
          (elim b as (λ _. Painted Cause Standing) [
            | Start x ↦ started there c s x >>=
                (λ s. turns starts there c s)
            | SkipOn ↦ done s
            | Nothing ↦ done
                (record s { waiting = None })
          ])
      by_pick s (start m) next = bind_same two (started_same two local k j h c s m) next
      by_pick s skip next = done_same two s
      by_pick s nothing next = done_same two (record s { waiting = None })

  column_same : (c : ℕ) (s : Standing) → Same two (column here c s) (column there c s)
  column_same c s =
      turns_same (suc (length two.rules.items)) c
      (record s { tried = []; waiting = option_map stale s.waiting })

  painted_from_same : (c : ℕ) (line : List ℕ) (s : Standing) →
      Same two (painted_from here c line s) (painted_from there c line s)
  painted_from_same c [] s =
      bind_same two
      (refused_alike two (λ cause. record { col = c; cause = cause }) (column_same c s))
      (λ s. done_same two (record { spans = []; after = state_of s }))
  painted_from_same c (x ∷ line) s =
      bind_same two
      (refused_alike two (λ cause. record { col = c; cause = cause }) (column_same c s))
      (λ s. bind_same two (painted_from_same (suc c) line s)
      (λ rest. done_same two
      (record rest { spans = joined c (shown two.rules (At 0 c) s.stack) rest.spans })))

  whole_same : (before : State) →
      Same two (painted_after_look here before) (painted_after_look there before)
  whole_same before =
      bind_same two
      (refused_alike two (λ cause. record { col = 0; cause = cause })
      (line_start_same two local k j h before.stack))
      (λ stack. subst
      (λ (line : List ℕ). Same two
      (painted_from here 0 (line_at two.one k) (at_line_begin before stack))
      (painted_from there 0 line (at_line_begin before stack))) (sym h.same.chars)
      (painted_from_same 0 (line_at two.one k) (at_line_begin before stack)))

present : (two : Two) (k j : ℕ) → k < length two.one → SameLine two k j → IsPresent two k j
present two k j on s =
    record {
      same = s;
      on = on;
      there =
          elim s.here [ inl r ↦ r.1 | inr r ↦ absurd (omega (arith, r.0)) ];
    }

-- where two texts agree, under a shift, on the lines that a line's painting looks at, and the
-- states before are equal, that line is painted alike: the same spans and the same state after, or
-- the same refusal at the same column, and the same looked lines, moved
pub painted_line_same : (two : Two) → AttemptsAreLocal two → (k j : ℕ) → k < length two.one →
    IsMovedLine two k j → (before : State) →
    Same two (painted_line (record { rules = two.rules; text = two.one; line = k }) before)
    (painted_line (record { rules = two.rules; text = two.other; line = j }) before)
painted_line_same two local k j on m before =
    bind_alike two
    {f = λ _. painted_after_look
    (record { rules = two.rules; text = two.one; line = k }) before}
    {g = λ _. painted_after_look
    (record { rules = two.rules; text = two.other; line = j }) before}
    (looks_alike two {E = Refusal} k j m)
    (λ _ _ s. whole_same two local k j (present two k j on s) before)
