-- The spans of a painted line are in order, apart from each other and within the line.
use Rattle.line_paint.proofs.Common.{◌≡◌, ◌+◌, ◌<◌, ℕ, suc, Bool, true, false, List, [], ◌∷◌, length, arith, Option, Some, None, nat_eq, ◌&&◌, pos, Looked, GroupId, Span, one_line, IsFromColumn, At, Painted, Done, Refused, looked_first, done, ◌>>=◌, Here, this_line, line_start, PaintedLine, at_col, at_line_begin, column, shown, joined, state_of, painted_from, painted_after_look, same_group, painted_line}
use Rattle.paint_rules.specs.States.{State, Standing}

-- a fact of the value, if there is one
abbrev pub OfValue : {E A : Type 0} → (A → Type 0) → Painted E A → Type 0
OfValue P (Done a k) = P a
OfValue P (Refused c k) = Unit {0}

of_first : {E A : Type 0} (P : A → Type 0) (j : Option Looked) (p : Painted E A) → OfValue P p →
    OfValue P (looked_first j p)
of_first P j (Done a k) h = h
of_first P j (Refused c k) h = tt

of_bind : {E A B : Type 0} (Q : A → Type 0) (P : B → Type 0) (m : Painted E A)
    (f : A → Painted E B) →
    OfValue Q m → ((a : A) → Q a → OfValue P (f a)) → OfValue P (m >>= f)
of_bind Q P (Done a k) f q h = of_first P k (f a) (h a q)
of_bind Q P (Refused c k) f q h = tt

of_each : {E A B : Type 0} (P : B → Type 0) (m : Painted E A) (f : A → Painted E B) →
    ((a : A) → OfValue P (f a)) → OfValue P (m >>= f)
of_each P (Done a k) f h = of_first P k (f a) (h a)
of_each P (Refused c k) f h = tt

from_before : (c end : ℕ) (spans : List Span) → IsFromColumn (suc c) end spans →
    IsFromColumn c end spans
from_before c end [] h = omega (arith, h)
from_before c end (s ∷ spans) h = (omega (arith, h.0), h.1, h.2, h.3)

-- one more character in front
joined_fits : (c end : ℕ) (g : Option GroupId) (spans : List Span) → c < end →
    IsFromColumn (suc c) end spans →
    IsFromColumn c end (joined c g spans)
joined_fits c end None spans w h = from_before c end spans h
joined_fits c end (Some g) [] w h = (omega arith, omega arith, w, omega (arith, w))
joined_fits c end (Some g) (s ∷ spans) w h = either (nat_eq s.first (suc c) && same_group s.group g)
  where
    either : (b : Bool) → IsFromColumn c end
        (elim b as (λ _. List Span) [
          | true ↦ record s { first = c } ∷ spans
          | false ↦ record { first = c; last = c; group = g } ∷ s ∷ spans
        ])
    either true = (omega arith, omega (arith, h.0, h.1), h.2, h.3)
    either false = (omega arith, omega arith, w, (omega (arith, h.0), h.1, h.2, h.3))

from_fits : (h : Here) (c end : ℕ) (line : List ℕ) (s : Standing) → c + length line ≡ end →
    OfValue (λ (r : PaintedLine). IsFromColumn c end r.spans) (painted_from h c line s)
from_fits h c end [] s e =
    of_each (λ (r : PaintedLine). IsFromColumn c end r.spans) (at_col c (column h c s))
    (λ s. done (record { spans = []; after = state_of s })) (λ t. omega (arith, e))
from_fits h c end (x ∷ line) s e =
    let P = λ (r : PaintedLine). IsFromColumn c end r.spans in
    let Q = λ (r : PaintedLine). IsFromColumn (suc c) end r.spans in
    let next : suc c + length line ≡ end = omega (arith, e) in
    let within : c < end = omega (arith, e) in
    of_each P (at_col c (column h c s)) (λ t. painted_from h (suc c) line t
    >>= (λ rest. done
    (record rest { spans = joined c (shown h.rules (At 0 c) t.stack) rest.spans }))) (λ t.
    of_bind Q P (painted_from h (suc c) line t)
    (λ rest. done
    (record rest { spans = joined c (shown h.rules (At 0 c) t.stack) rest.spans }))
    (from_fits h (suc c) end line t next)
    (λ r q. joined_fits c end (shown h.rules (At 0 c) t.stack) r.spans within q))

pub line_fits : (h : Here) (before : State) →
    OfValue (λ (r : PaintedLine). IsFromColumn 0 (length (this_line h)) r.spans)
    (painted_line h before)
line_fits h before =
    let P = λ (r : PaintedLine). IsFromColumn 0 (length (this_line h)) r.spans in
    of_first P (Some (one_line (pos h.line))) (painted_after_look h before)
    (of_each P (at_col 0 (line_start h before.stack))
    (λ stack. painted_from h 0 (this_line h) (at_line_begin before stack))
    (λ stack. from_fits h 0 (length (this_line h)) (this_line h) (at_line_begin before stack)
    (omega arith)))
