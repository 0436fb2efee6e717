-- The columns of a line: what is left of it, where some spans stand to the left.
use Rattle.line_paint.proofs.Common.{◌≡◌, ℕ, zero, suc, ◌≤◌, List, [], ◌∷◌, length, drop, refl, sym, ap, ◌∙◌, arith, Some, None, Looked, Span, At, Painted, Done, Refused, looked_first, done, ◌>>=◌, Here, Cause, Refusal, PaintedLine, at_col, column, shown, joined, painted_from, state_of, Stop, Spans, refusal_of, Stops, painted_rest, chained, goes_on, bind_assoc, refusal_bind, looked_both, at_of, FailsAs}
use Rattle.paint_rules.specs.States.{Standing}
use Rattle.line_paint.specs.declared.answers.Stop.TheVariants as stop
use Rattle.line_paint.specs.declared.paint.PaintError.{PaintError}
use Rattle.line_paint.specs.declared.paint.PaintError.TheVariants as error
use Rattle.line_paint.proofs.ComesLaws.{refused_same}

pub bind_done : {E A : Type 0} (p : Painted E A) → p >>= (λ a. done a) ≡ p
bind_done (Done a None) = refl
bind_done (Done a (Some k)) = refl
bind_done (Refused c k) = refl

pub at_leads : {A : Type 0} (c : ℕ) (j k : Looked) (m : Painted Cause A) (a : A) →
    looked_first (Some j) m ≡ Done a (Some k) → looked_first (Some j) (at_col c m) ≡ Done a (Some k)
at_leads c j k (Done b l) a e =
    let x : b ≡ a = cc in
    let y : looked_both (Some j) l ≡ Some k = cc in
    λ i. Done (x i) (y i)
at_leads c j k (Refused d l) a e = absurd (cc)

at_refused : {A : Type 0} (c : ℕ) (cause : Cause) (m : Painted Cause A) →
    refusal_of m ≡ Some cause → refusal_of (at_col c m) ≡ Some (record { col = c; cause = cause })
at_refused c cause (Done a l) e = absurd (cc)
at_refused c cause (Refused d l) e =
    let same : d ≡ cause = cc in
    λ i. Some (record { col = c; cause = same i })

pub at_fails : {A : Type 0} (e : Stop) (c : ℕ) (m : Painted Cause A) → Stops e m →
    FailsAs (at_of e c) (at_col c m)
at_fails (stop.TooCostly i) c m s = at_refused c _ m s
at_fails stop.TooDeep c m s = at_refused c _ m s
at_fails stop.Memory c m s = tt

-- what is left of a line, where what stands to the left is put in front of its spans
abbrev pub rest_by : Here → ℕ → List ℕ → Standing → (List Span → List Span) →
    Painted Refusal PaintedLine
rest_by h c line s f = painted_from h c line s >>= (λ r. done (record r { spans = f r.spans }))

-- a column, and the character that stands there
pub char_step_by : (h : Here) (c : ℕ) (j k : Looked) (s t : Standing) (x : ℕ) (line : List ℕ)
    (f g : List Span → List Span) → looked_first (Some j) (at_col c (column h c s)) ≡ Done t (Some k) →
    ((rest : List Span) → g rest ≡ f (joined c (shown h.rules (At 0 c) t.stack) rest)) →
    looked_first (Some j) (rest_by h c (x ∷ line) s f)
    ≡ looked_first (Some k) (rest_by h (suc c) line t g)
char_step_by h c j k s t x line f g e show =
    let head = at_col c (column h c s) in
    let tail = painted_from h (suc c) line t in
    let shows = λ (s : Standing) (r : PaintedLine). done {E = Refusal}
    (record r { spans = joined c (shown h.rules (At 0 c) s.stack) r.spans }) in
    let here = λ (s : Standing). painted_from h (suc c) line s >>= shows s in
    let whole = λ (r : PaintedLine). done {E = Refusal} (record r { spans = f r.spans }) in
    ap (looked_first (Some j)) (bind_assoc head here whole)
    ∙ (goes_on j k head t (λ s. here s >>= whole) e
    ∙ ap (looked_first (Some k)) (bind_assoc tail (shows t) whole
    ∙ ap (λ (next : PaintedLine → Painted Refusal PaintedLine). tail >>= next)
    (λ i r. done (record r { spans = sym (show r.spans) i }))))

module _ (h : Here) (c : ℕ) (j k : Looked) (s t : Standing) (spans : Spans) where
  abbrev here : List ℕ → Standing → Painted Refusal PaintedLine
  here line s = painted_from h (suc c) line s
      >>= (λ rest. done
      (record rest { spans = joined c (shown h.rules (At 0 c) s.stack) rest.spans }))

  abbrev whole_of : PaintedLine → Painted Refusal PaintedLine
  whole_of r = done (record r { spans = chained spans r.spans })

  pub char_step : (x : ℕ) (line : List ℕ) (more : Spans) →
      looked_first (Some j) (at_col c (column h c s)) ≡ Done t (Some k) →
      ((rest : List Span) → chained more rest ≡ chained spans
      (joined c (shown h.rules (At 0 c) t.stack) rest)) →
      looked_first (Some j) (painted_rest h c (x ∷ line) s spans) ≡ looked_first (Some k)
      (painted_rest h (suc c) line t more)
  char_step x line more e show =
      char_step_by h c j k s t x line (chained spans) (chained more) e show

  pub end_step : looked_first (Some j) (at_col c (column h c s)) ≡ Done t (Some k) →
      looked_first (Some j) (painted_rest h c [] s spans) ≡ Done
      (record { spans = chained spans []; after = state_of t }) (Some k)
  end_step e =
      let head = at_col c (column h c s) in
      let ends = λ (s : Standing). done {E = Refusal} (record { spans = []; after = state_of s }) in
      ap (looked_first (Some j)) (bind_assoc head ends whole_of)
      ∙ goes_on j k head t (λ s. ends s >>= whole_of) e

  refused_here : (line : List ℕ) (why : Refusal) →
      refusal_of (at_col c (column h c s)) ≡ Some why →
      refusal_of (painted_rest h c line s spans) ≡ Some why
  refused_here [] why e =
      refusal_bind why (painted_from h c [] s) whole_of
      (refusal_bind why (at_col c (column h c s)) _ e)
  refused_here (x ∷ line) why e =
      refusal_bind why (painted_from h c (x ∷ line) s) whole_of
      (refusal_bind why (at_col c (column h c s)) _ e)

  pub fails_step : (line : List ℕ) (p : Painted Refusal PaintedLine) (e : PaintError) →
      looked_first (Some j) p ≡ looked_first (Some k) (painted_rest h c line s spans) →
      FailsAs e (at_col c (column h c s)) → FailsAs e p
  fails_step line p (error.TooCostly d i) whole x =
      refused_same _ j k p (painted_rest h c line s spans) whole (refused_here line _ x)
  fails_step line p (error.TooDeep d) whole x =
      refused_same _ j k p (painted_rest h c line s spans) whole (refused_here line _ x)
  fails_step line p error.Memory whole x = tt

pub drop_all : (line : List ℕ) (c : ℕ) → length line ≤ c → drop c line ≡ []
drop_all [] zero h = refl
drop_all [] (suc c) h = refl
drop_all (x ∷ line) zero h = absurd (omega (arith, h))
drop_all (x ∷ line) (suc c) h = drop_all line c (omega (arith, h))

-- what was tried at a column doesn't count at the next
pub untried : (h : Here) (c : ℕ) (line : List ℕ) (s : Standing) (spans : Spans) →
    painted_rest h c line s spans ≡ painted_rest h c line (record s { tried = [] }) spans
untried h c [] s spans = refl
untried h c (x ∷ line) s spans = refl
