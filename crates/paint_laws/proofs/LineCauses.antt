-- A refused line, and a refused text, have the causes that are told; without a cause a text is
-- accepted.
use Rattle.std.proofs.Common.{◌≡◌, ◌<◌, ◌≤◌, ◌+◌, ℕ, zero, suc, arith, List, [], ◌∷◌, length, refl}
use Rattle.std.proofs.Common.{sym, subst}
use Rattle.syn_base.specs.Looked.{one_line}
use Rattle.std.specs.Prelude.{◌⊎◌, pos, Option, Some, None, Contains}
use Rattle.std.specs.List.{AllByRecursion}
use Rattle.match_rules.specs.Ways.{Text}
use Rattle.syn_base.specs.declared.places.Place.{Place}
use Rattle.syntax_set.specs.declared.item.Pattern.{Pattern}
use Rattle.paint_rules.specs.declared.RegionEnd.{RegionEnd}
use Rattle.paint_rules.specs.declared.Spot.TheVariants.{At}
use Rattle.paint_rules.specs.Frames.{Frame}
use Rattle.paint_rules.specs.Painted.{Painted, done, ◌>>=◌}
use Rattle.paint_rules.specs.Rules.{Rules, Here, Cause, TooCostly, TooDeep, item_of, this_line}
use Rattle.paint_rules.specs.Rules.{no_externals}
use Rattle.paint_rules.specs.States.{State, Standing}
use Rattle.paint_rules.specs.Close.{closed, end_area_of, line_start, with_end}
use Rattle.paint_rules.specs.Pick.{Picked, Start, SkipOn, Nothing, picked, started}
use Rattle.paint_rules.specs.Line.{Note, Painting, Whole, Fails, Refusal, turns}
use Rattle.paint_rules.specs.Line.{at_col, column, state_of, joined, shown, painted_from, at_line_begin}
use Rattle.paint_rules.specs.Line.{painted_after_look, painted_line, painting}
use Rattle.paint_laws.specs.Outcomes.{Gives}
use Rattle.paint_laws.specs.Starts.{come_to}
use Rattle.paint_laws.specs.Shown.{StandsAt, at_first as stands_first, at_next as stands_next}
use Rattle.paint_laws.specs.LineByLine.{line_of, state_before}
use Rattle.paint_laws.specs.Accepted.{cost_of, Comes, at_first, at_next, after_start, IsClear}
use Rattle.paint_laws.specs.Accepted.{IsOfEnd, frames_of, LooksForEnd, MayTry, open_before, open_there, to_start}
use Rattle.paint_laws.specs.Accepted.{to_end, IsCauseAt, RefusedLinesHaveCauses}
use Rattle.paint_laws.specs.Accepted.{RefusedTextsHaveCauses, ComesToLine, IsWithinLimits}
use Rattle.paint_laws.specs.Accepted.{IsAcceptedPainting, TextsWithinLimitsAreAccepted}
use Rattle.paint_laws.specs.Accepted.{CostsTooMuch}
use Rattle.paint_laws.proofs.CauseLaws.{ComesTo, Any, cause_holds, then_comes, done_comes}
use Rattle.paint_laws.proofs.CauseLaws.{any_comes, looks_comes, renamed_comes}
use Rattle.paint_laws.proofs.OutcomeLaws.{gives_as}
use Rattle.paint_laws.proofs.CloseCauses.{closed_comes, start_comes}
use Rattle.paint_laws.proofs.MemberLaws.{each_weaker, members}
use Rattle.paint_laws.proofs.PickCauses.{picked_comes, started_comes}
use Rattle.paint_laws.proofs.TextLaws.{fails_at}

-- a frame of a region that stands in some frame of these, with another end perhaps
record IsOpenIn (stack : List Frame) (f : Frame) : Type 0 where
  frame : Frame
  among : Contains stack frame
  item : frame.item ≡ f.item
  search : frame.search ≡ f.search
  externals : frame.externals ≡ f.externals

all_open : (stack : List Frame) → AllByRecursion (IsOpenIn stack) stack
all_open stack =
    each_weaker (Contains stack) (IsOpenIn stack)
    (λ f among. record { frame = f; among = among; item = refl; search = refl; externals = refl })
    stack (members stack)

module _ (h : Here) where
  still_open : (stack : List Frame) (f : Frame) (o : Option RegionEnd) → IsOpenIn stack f →
      IsOpenIn stack (with_end h f o)
  still_open stack f None was = record {
    frame = was.frame;
    among = was.among;
    item = was.item;
    search = was.search;
    externals = was.externals;
  }
  still_open stack f (Some e) was = record {
    frame = was.frame;
    among = was.among;
    item = was.item;
    search = was.search;
    externals = was.externals;
  }

  area_open : (stack : List Frame) (c : ℕ) (f : Frame) → IsOpenIn stack f →
      IsOpenIn stack (end_area_of (At 0 c) f)
  area_open stack c f was = record {
    frame = was.frame;
    among = was.among;
    item = was.item;
    search = was.search;
    externals = was.externals;
  }

  -- the search of a frame, as that of the frame that it was
  as_it_was : (c : ℕ) (f g : Frame) (pattern : Pattern) (place : Place) → g.item ≡ f.item →
      g.search ≡ f.search → LooksForEnd h c f pattern place → LooksForEnd h c g pattern place
  as_it_was c f g pattern place item search looks = record {
    first = looks.first;
    from =
        subst (λ s. (c ≤ looks.first) ⊎ (s ≡ At 0 looks.first)) (sym search) looks.from;
    of_end =
        subst (λ i. IsOfEnd (item_of h.rules.items i).kind pattern) (sym item) looks.of_end;
    at = looks.at;
  }

  module _ (before : State) where
    abbrev IsCause : ℕ → Cause → Type 0
    IsCause c cause = IsCauseAt h before c cause

    -- an attempt for the frame that it was costs as much
    costs_as_it_was : (c : ℕ) (stack : List Frame) (f : Frame) (pattern : Pattern)
        (place : Place) (was : IsOpenIn stack f) →
        MayTry h before c was.frame.item pattern was.frame.externals place →
        h.rules.budget < cost_of h.rules h.text f.item pattern f.externals place →
        IsCause c (TooCostly f.item)
    costs_as_it_was c stack f pattern place was tried over =
        subst (λ i. CostsTooMuch h before c i) was.item
        (record {
          pattern = pattern;
          externals = was.frame.externals;
          place = place;
          tried = tried;
          costs = subst (λ i. h.rules.budget
              < cost_of h.rules h.text i pattern was.frame.externals place) (sym was.item)
              (subst (λ e. h.rules.budget < cost_of h.rules h.text f.item pattern e place)
              (sym was.externals) over);
        })

    closing_comes : (c : ℕ) (s : Standing) → Comes h before c s →
        ComesTo (IsCause c) Any (closed h c s)
    closing_comes c s comes =
        any_comes (IsCause c)
        (closed_comes h c (IsCause c) (IsOpenIn s.stack) (still_open s.stack) (area_open s.stack c)
        (λ f pattern place was looks over. costs_as_it_was c s.stack f pattern place was
        (open_there comes was.among
        (as_it_was c f was.frame pattern place was.item was.search looks)) over)
        s (all_open s.stack))

    clear_comes : (c : ℕ) (s : Standing) → IsClear h before c s →
        ComesTo (IsCause c) Any (picked h c s)
    clear_comes c s clear =
        picked_comes h c (IsCause c) s
        (λ i pattern place looks over. record {
          pattern = pattern;
          externals = no_externals;
          place = place;
          tried = to_start clear looks;
          costs = over;
        })
        (λ i m pattern place starts end at over. record {
          pattern = pattern;
          externals = m.externals;
          place = place;
          tried = to_end clear starts end at;
          costs = over;
        })

    turns_comes : (c n : ℕ) (s : Standing) → Comes h before c s →
        ComesTo (IsCause c) Any (turns n h c s)
    turns_comes c zero s comes = done_comes (IsCause c) Any s tt
    turns_comes c (suc n) s comes =
        then_comes (IsCause c) Any Any (closing_comes c s comes)
        (λ cleared closes _. then_comes (IsCause c) Any Any
        (clear_comes c cleared (record { standing = s; comes = comes; closes = closes }))
        (λ pick picks _. by_pick (turns_comes c n) cleared closes pick picks))
      where
        by_pick : ((more : Standing) → Comes h before c more →
            ComesTo (IsCause c) Any (turns n h c more)) → (cleared : Standing) →
            Gives (closed h c s) cleared → (pick : Picked) → Gives (picked h c cleared) pick →
            ComesTo (IsCause c) Any (elim pick as (λ _. Painted Cause Standing) [
              | Start starting ↦ started h c cleared starting >>= (λ s. turns n h c s)
              | SkipOn ↦ done cleared
              | Nothing ↦ done (record cleared { waiting = None })
            ])
        by_pick go cleared closes (Start starting) picks =
            then_comes (IsCause c) Any Any
            (started_comes (IsCause c) h c cleared starting
            (λ many. record {
              frames = length cleared.stack + frames_of starting;
              would = record {
                standing = cleared;
                clear = record { standing = s; comes = comes; closes = closes };
                starting = starting;
                starts = picks;
                count = refl;
              };
              many = many;
            }))
            (λ more begins _. go more (after_start comes closes picks begins))
        by_pick go cleared closes SkipOn picks = done_comes (IsCause c) Any cleared tt
        by_pick go cleared closes Nothing picks =
            done_comes (IsCause c) Any (record cleared { waiting = None }) tt

    abbrev IsOfLine : Refusal → Type 0
    IsOfLine refusal = IsCauseAt h before refusal.col refusal.cause

    column_comes : (c : ℕ) (s : Standing) → Comes h before c (come_to s) →
        ComesTo IsOfLine Any (at_col c (column h c s))
    column_comes c s comes =
        renamed_comes IsOfLine (λ cause. record { col = c; cause = cause })
        (turns_comes c (suc (length h.rules.items)) (come_to s) comes)

    given : (c : ℕ) (s t : Standing) → Gives (at_col c (column h c s)) t → Gives (column h c s) t
    given c s t g = gives_as (λ cause. record { col = c; cause = cause }) (column h c s) t g

    line_comes : (c : ℕ) (line : List ℕ) (s : Standing) →
        c + length line ≡ length (this_line h) → Comes h before c (come_to s) →
        ((t : Standing) → Gives (column h c s) t → StandsAt h before c t) →
        ComesTo IsOfLine Any (painted_from h c line s)
    line_comes c [] s fits comes stands =
        then_comes IsOfLine Any Any (column_comes c s comes)
        (λ t _ _. done_comes IsOfLine Any (record { spans = []; after = state_of t }) tt)
    line_comes c (x ∷ line) s fits comes stands =
        let within : c < length (this_line h) = omega (arith, fits) in
        then_comes IsOfLine Any Any (column_comes c s comes)
        (λ t g _. let now = stands t (given c s t g) in
        then_comes IsOfLine Any Any
        (line_comes (suc c) line t (omega (arith, fits)) (at_next now within)
        (λ u k. stands_next now within k))
        (λ rest _ _. done_comes IsOfLine Any
        (record rest { spans = joined c (shown h.rules (At 0 c) t.stack) rest.spans }) tt))

    begin_comes : ComesTo (IsCause 0) Any (line_start h before.stack)
    begin_comes =
        any_comes (IsCause 0)
        (start_comes h (IsCause 0) (IsOpenIn before.stack) (still_open before.stack)
        (area_open before.stack 0)
        (λ f pattern place was looks over. costs_as_it_was 0 before.stack f pattern place was
        (open_before was.among
        (as_it_was 0 f was.frame pattern place was.item was.search looks)) over)
        before.stack (all_open before.stack))

    after_comes : ComesTo IsOfLine Any (painted_after_look h before)
    after_comes =
        then_comes IsOfLine Any Any
        (renamed_comes IsOfLine (λ cause. record { col = 0; cause = cause }) begin_comes)
        (λ stack g _. let starts = gives_as (λ cause. record { col = 0; cause = cause })
        (line_start h before.stack) stack g in
        line_comes 0 (this_line h) (at_line_begin before stack) (omega arith) (at_first starts)
        (λ t k. stands_first starts k))

    painted_comes : ComesTo IsOfLine Any (painted_line h before)
    painted_comes = then_comes IsOfLine Any Any (looks_comes IsOfLine (one_line (pos h.line))) (λ _ _ _. after_comes)

pub refused_lines_have_causes : RefusedLinesHaveCauses
refused_lines_have_causes h before refusal refused =
    cause_holds (IsOfLine h before) Any (painted_line h before) refusal (painted_comes h before)
    refused

pub refused_texts_have_causes : RefusedTextsHaveCauses
refused_texts_have_causes r t l refusal e =
    let fails = fails_at r t l refusal e in
    record {
      notes = fails.notes;
      count = fails.count;
      each = fails.each;
      cause = refused_lines_have_causes (line_of r t l) (state_before fails.notes l) refusal
          fails.refused;
    }

-- within limits no cause is there
no_cause : (r : Rules) (t : Text) → IsWithinLimits r t → (l : ℕ) (notes : List Note) →
    ComesToLine r t l notes → (c : ℕ) (cause : Cause) →
    IsCauseAt (line_of r t l) (state_before notes l) c cause → ⊥
no_cause r t limits l notes comes c (TooCostly i) costly =
    let most : cost_of r t i costly.pattern costly.externals costly.place ≤ r.budget =
    limits.costs l notes c i costly.pattern costly.externals costly.place comes costly.tried in
    omega (arith, most, costly.costs)
no_cause r t limits l notes comes c TooDeep deep =
    let most : deep.frames ≤ 1000 = limits.rooms l notes c deep.frames comes deep.would in
    omega (arith, most, deep.many)

pub texts_within_limits_are_accepted : TextsWithinLimitsAreAccepted
texts_within_limits_are_accepted r t limits = by_painting (painting r t) refl
  where
    by_painting : (p : Painting) → painting r t ≡ p → IsAcceptedPainting r t
    by_painting (Whole notes) e = record { notes = notes; whole = e }
    by_painting (Fails l refusal) e =
        let fails = fails_at r t l refusal e in
        let caused = refused_lines_have_causes (line_of r t l) (state_before fails.notes l) refusal
        fails.refused in
        absurd (no_cause r t limits l fails.notes
        (record { within = fails.within; count = fails.count; each = fails.each })
        refusal.col refusal.cause caused)
