-- What an edit does, line by line: the notes that it leaves, the lines that it tells, how many it may
-- paint, and how it ends.
use Rattle.std.specs.Prelude.{◌≡◌, ◌+◌, ◌-◌, ◌≤◌, ◌<◌, ℕ, zero, suc, List, [], ◌∷◌, ◌++◌, map}
use Rattle.std.specs.Prelude.{Option, Some, None, Result, Ok, Err, Bool, true, ◌&&◌, if◌then◌else◌, take, drop}
use Rattle.std.specs.Prelude.{length, pos, slice_get}
use Rattle.syn_base.specs.Looked.{moved_by}
use Rattle.syn_base.specs.declared.looked.Looked.{Looked}
use Rattle.syn_base.specs.declared.places.Span.{Span}
use Rattle.match_rules.specs.Ways.{Text}
use Rattle.paint_rules.specs.Line.{Refusal}
use Rattle.paint_rules.specs.Rules.{Rules}
use Rattle.paint_rules.specs.States.{State, empty_state, next_line}
use Rattle.paint_reuse.specs.declared.change.Change.{Change}
use Rattle.paint_reuse.specs.Change.{old_line}
use Rattle.paint_reuse.specs.Kept.{KeptNote, RefusedLine, line_note, notes_from, walked}
use Rattle.paint_reuse.specs.Report.{differs}
use Rattle.paint_reuse.specs.Reuse.{is_clear, is_reusable, keeps_number, one_unless}

-- the spans of the lines
abbrev pub kept_spans : List KeptNote → List (List Span)
kept_spans notes = map (λ note. note.spans) notes

-- the state before line j, where the first of these notes is of a line before which the state is s
abbrev pub before_at : State → List KeptNote → ℕ → State
before_at s notes zero = s
before_at s [] (suc j) = s
before_at s (x ∷ notes) (suc j) = before_at (next_line x.after) notes j

-- this state, or where none is given that of the old painting
abbrev pub state_by : Option State → State → State
state_by None old = old
state_by (Some s) old = s

abbrev pub reusable : List KeptNote → Change → ℕ → State → Bool
reusable old e k s = is_reusable (notes_from 0 old) e k s

-- notes a to b - 1 became these
abbrev pub put_in : List KeptNote → ℕ → ℕ → List KeptNote → List KeptNote
put_in notes a b fresh = take a notes ++ fresh ++ drop b notes

-- line k of the changed text is new, or has other spans than its old line
abbrev pub is_told : List KeptNote → Change → ℕ → List Span → Bool
is_told old e k spans = differs (kept_spans old) (old_line e k) spans

pub record Work : Type 0 where
  pub notes : List KeptNote
  pub report : List ℕ
  pub count : ℕ
  pub end : Result State RefusedLine

-- a line's number, where it is told
abbrev pub told : Bool → ℕ → List ℕ
told b k = if b then k ∷ [] else []

abbrev pub refused_line : ℕ → Refusal → RefusedLine
refused_line k refusal = record { line = k; refusal = refusal }

abbrev pub then_work : List KeptNote → Change → ℕ → Bool → Result KeptNote Refusal → (State → Work) → Work
then_work old e k stays (Ok note) rest =
    let after = rest (next_line note.after) in
    record {
      notes = note ∷ after.notes;
      report = told (is_told old e k note.spans) k ++ after.report;
      count = one_unless stays + after.count;
      end = after.end;
    }
then_work old e k stays (Err x) rest =
    record { notes = []; report = []; count = one_unless stays; end = Err (refused_line k x) }

-- over n lines of a changed text from line k on
abbrev pub work : Rules → Text → List KeptNote → Change → ℕ → ℕ → State → Work
work r t old e k zero s = record { notes = []; report = []; count = 0; end = Ok s }
work r t old e k (suc n) s =
    then_work old e k (reusable old e k s) (line_note r t k s) (work r t old e (suc k) n)

-- from notes made, lines told and lines painted before to those now, the work that is left went from
-- whole to rest
pub record Along (whole rest : Work) (made0 made : List KeptNote) (told0 told : List ℕ)
    (painted0 painted : ℕ) : Type 0 where
  pub notes : made0 ++ whole.notes ≡ made ++ rest.notes
  pub report : told0 ++ whole.report ≡ told ++ rest.report
  pub count : painted + rest.count ≤ painted0 + whole.count
  pub end : whole.end ≡ rest.end

-- old line j was gone over, as line k of the changed text
pub record Went (r : Rules) (t : Text) (old : List KeptNote) (e : Change) (j k : ℕ) (s : State)
    (P P' : List KeptNote) (told0 told1 : List ℕ) (g : Option State) : Type 0 where
  pub note : KeptNote
  pub painted : line_note r t k s ≡ Ok note
  pub made : take (suc j) P' ≡ take j P ++ note ∷ []
  pub rest : drop (suc j) P' ≡ drop (suc j) old
  pub tells : told1 ≡ told0 ++ told (is_told old e k note.spans) k
  pub after : state_by g (before_at empty_state old (suc j)) ≡ next_line note.after

-- the old lines from one to another were gone over: this is what was made of the work
pub record Over (w : Work) (old : List KeptNote) (from to : ℕ) (P P' : List KeptNote)
    (told0 told : List ℕ) (g : Option State) : Type 0 where
  pub made : take from P ++ w.notes ≡ take to P'
  pub rest : drop to P' ≡ drop to old
  pub tells : told0 ++ w.report ≡ told
  pub end : w.end ≡ Ok (state_by g (before_at empty_state old to))

-- these are old lines one after the other
abbrev pub OldLines : Change → ℕ → ℕ → ℕ → Type 0
OldLines e first from to = (j : ℕ) → from ≤ j → j < to → old_line e (first + (j - from)) ≡ Some j

-- a new line was painted
pub record NewWent (r : Rules) (t : Text) (k : ℕ) (s : State) (made0 made1 : List KeptNote)
    (told0 told1 : List ℕ) (s' : State) : Type 0 where
  pub note : KeptNote
  pub painted : line_note r t k s ≡ Ok note
  pub made : made1 ≡ made0 ++ note ∷ []
  pub tells : told1 ≡ told0 ++ k ∷ []
  pub after : s' ≡ next_line note.after

-- the new lines were painted: this is what was made of the work
pub record NewOver (w : Work) (fresh : List KeptNote) (told0 told : List ℕ) (s : State) : Type 0 where
  pub made : w.notes ≡ fresh
  pub tells : told0 ++ w.report ≡ told
  pub end : w.end ≡ Ok s

-- the work of two stretches
pub record Splits (whole first rest : Work) : Type 0 where
  pub notes : whole.notes ≡ first.notes ++ rest.notes
  pub report : whole.report ≡ first.report ++ rest.report
  pub count : whole.count ≡ first.count + rest.count
  pub end : whole.end ≡ rest.end

-- old line j, which is line k of the changed text, looked at nothing that the change made another: at
-- no replaced line, nor at a line's number if it moved
abbrev pub is_untouched : Change → ℕ → ℕ → Looked → Bool
is_untouched e j k looked =
    is_clear e (Some (moved_by looked (pos j))) && keeps_number j k (Some looked)

-- so did the old lines from one to another
abbrev pub AreUntouched : Change → List KeptNote → ℕ → ℕ → Type 0
AreUntouched e notes from to =
    (j k : ℕ) (note : KeptNote) → from ≤ j → j < to → old_line e k ≡ Some j →
    slice_get notes j ≡ Some note → is_untouched e j k note.looked ≡ true

-- only in the state of the old painting are lines passed over
abbrev pub Passes : Option State → Change → List KeptNote → ℕ → ℕ → Type 0
Passes None e notes from to = AreUntouched e notes from to
Passes (Some s) e notes from to = to ≡ from

-- some lines of a text were painted, up to line l: their notes, and the state before that line
pub record WalksOn (r : Rules) (t : Text) (l : ℕ) (made : List KeptNote) (s : State) : Type 0 where
  pub notes : (walked r t 0 (length t) empty_state).notes ≡ made ++ (walked r t l (length t - l) s).notes
  pub end : (walked r t 0 (length t) empty_state).end ≡ (walked r t l (length t - l) s).end
