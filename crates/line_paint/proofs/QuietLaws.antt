-- Quiet columns change nothing but the characters shown.
use Rattle.line_paint.proofs.Common.{◌≡◌, ◌+◌, ◌-◌, ◌<◌, ◌≤◌, arith, drop, drop-cons, get_or, GroupId, joined_run, ℕ, zero, suc, List, [], ◌∷◌, length, refl, sym, ap, ◌∙◌, Option, Some, None, Looked, Span, At, Painted, Done, looked_first, done, ◌>>=◌, Here, Cause, closed, closed_in, column, turns, shown, joined, Spans, painted_rest, IsQuiet, chained, Last, next_start, turn, goes_on}
use Rattle.std.specs.Option.{option_map}
use Rattle.paint_rules.specs.States.{Standing, stale}
use Rattle.line_paint.proofs.TurnLaws.{next_nothing, one_turn, go_on}
use Rattle.line_paint.proofs.LineLaws.{at_leads, char_step_by, rest_by}

module _ (h : Here) (j : Looked) (c : ℕ) (s : Standing) (q : IsQuiet h j c s) where
  none_closes : (n : ℕ) → closed_in n h c s ≡ done s
  none_closes zero = refl
  none_closes (suc n) =
      ap (λ (m : Painted Cause (Option Standing)). m
      >>= (λ next. elim next as (λ _. Painted Cause Standing) [
        | None ↦ done s
        | Some more ↦ closed_in n h c more
      ])) q.stays

  none_waits_on : record s { waiting = None } ≡ s
  none_waits_on = λ i. record s { waiting = sym q.none_waits i }

  last_turn : looked_first (Some j) (turn h c s) ≡ Done (Last s) (Some j)
  last_turn =
      goes_on j j (closed h c s) s (next_start h c)
      (ap (looked_first (Some j)) (none_closes (length s.stack + length s.stack)))
      ∙ (next_nothing h c j j s q.nothing
      ∙ ap (λ (t : Standing). Done (Last t) (Some j)) none_waits_on)

  begun : record s { tried = []; waiting = option_map stale s.waiting } ≡ s
  begun = (λ i. record s {
    tried = sym q.none_tried i;
    waiting =
        option_map stale (q.none_waits i);
  }) ∙ (λ i. record s { waiting = sym q.none_waits i })

  -- such a column leaves all as it is
  pub quiet_column : looked_first (Some j) (column h c s) ≡ Done s (Some j)
  quiet_column =
      let n = length h.rules.items in
      ap (λ (t : Standing). looked_first (Some j) (turns (suc n) h c t)) begun
      ∙ (ap (looked_first (Some j)) (one_turn h c n s)
      ∙ goes_on j j (turn h c s) (Last s) (go_on h c n) last_turn)

  -- so what is left of the line is what is left past it, where its character is shown
  pub quiet_char : (f g : List Span → List Span) (x : ℕ) (line : List ℕ) →
      ((rest : List Span) → g rest ≡ f (joined c (shown h.rules (At 0 c) s.stack) rest)) →
      looked_first (Some j) (rest_by h c (x ∷ line) s f)
      ≡ looked_first (Some j) (rest_by h (suc c) line s g)
  quiet_char f g x line shows =
      char_step_by h c j j s s x line f g (at_leads c j j (column h c s) s quiet_column) shows

module _ (h : Here) (j : Looked) (s : Standing) (g : Option GroupId) (line : List ℕ) where
  -- the same of so many columns whose characters show the same
  quiet_run : (n c : ℕ) (f : List Span → List Span) → n + c ≤ length line →
      ((d : ℕ) → c ≤ d → d < n + c → IsQuiet h j d s) →
      ((d : ℕ) → c ≤ d → d < n + c → shown h.rules (At 0 d) s.stack ≡ g) →
      looked_first (Some j) (rest_by h c (drop c line) s f)
      ≡ looked_first (Some j) (rest_by h (n + c) (drop (n + c) line) s
      (λ rest. f (joined_run n c g rest)))
  quiet_run zero c f within quiet shows =
      let same : c ≡ 0 + c = omega arith in
      ap (λ (m : ℕ). looked_first (Some j) (rest_by h m (drop m line) s f)) same
  quiet_run (suc n) c f within quiet shows =
      let more = λ (rest : List Span). f (joined c g rest) in
      ap (λ (l : List ℕ). looked_first (Some j) (rest_by h c l s f))
      (drop-cons line c 0 (omega (arith, within)))
      ∙ (quiet_char h j c s (quiet c (omega arith) (omega arith)) f more (get_or line c 0)
      (drop (suc c) line)
      (λ rest. ap (λ (k : Option GroupId). f (joined c k rest))
      (sym (shows c (omega arith) (omega arith))))
      ∙ (quiet_run n (suc c) more (omega (arith, within))
      (λ d from under. quiet d (omega (arith, from)) (omega (arith, under)))
      (λ d from under. shows d (omega (arith, from)) (omega (arith, under)))
      ∙ ap (λ (m : ℕ). looked_first (Some j) (rest_by h m (drop m line) s
      (λ rest. more (joined_run n (suc c) g rest)))) (omega arith)))

  -- so what is left from the first of such columns on is what is left past the last one
  pub quiet_stretch : (first end : ℕ) (spans more : Spans) → first ≤ end → end ≤ length line →
      ((d : ℕ) → first ≤ d → d < end → IsQuiet h j d s) →
      ((d : ℕ) → first ≤ d → d < end → shown h.rules (At 0 d) s.stack ≡ g) →
      ((rest : List Span) → chained more rest ≡ chained spans
      (joined_run (end - first) first g rest)) →
      looked_first (Some j) (painted_rest h first (drop first line) s spans)
      ≡ looked_first (Some j) (painted_rest h end (drop end line) s more)
  quiet_stretch first end spans more order within quiet shows run =
      let n = end - first in
      let whole : n + first ≡ end = omega (arith, order) in
      quiet_run n first (chained spans) (omega (arith, whole, within))
      (λ d from under. quiet d from (omega (arith, whole, under)))
      (λ d from under. shows d from (omega (arith, whole, under)))
      ∙ (ap (λ (m : ℕ). looked_first (Some j) (rest_by h m (drop m line) s
      (λ rest. chained spans (joined_run n first g rest)))) whole
      ∙ (λ i. looked_first (Some j) (rest_by h end (drop end line) s (λ rest. sym (run rest) i))))
