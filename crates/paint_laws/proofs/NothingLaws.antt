-- Where no item is live, nothing starts, and nothing is painted.
use Rattle.std.proofs.Common.{◌≡◌, ℕ, suc, Bool, false, List, [], ◌∷◌, length, refl, ap, ◌∙◌}
use Rattle.std.specs.Prelude.{Option, Some, None, not, ◌&&◌, ◌-◌, take, drop, cond, pos}
use Rattle.std.specs.Option.{option_map}
use Rattle.std.specs.List.{find, filter}
use Rattle.syn_base.specs.Looked.{one_line}
use Rattle.syn_base.specs.declared.places.ItemId.{ItemId}
use Rattle.match_rules.specs.Ways.{Text}
use Rattle.keyword_table.specs.Candidates.{candidates}
use Rattle.keyword_table.specs.Words.{word_end}
use Rattle.paint_rules.specs.declared.Spot.TheVariants.{At}
use Rattle.paint_rules.specs.Painted.{Painted, Done, Refused, looked_first, done, ◌>>=◌}
use Rattle.paint_rules.specs.Painted.{first_found}
use Rattle.paint_rules.specs.Rules.{Rules, Here, Cause, this_line, item_of}
use Rattle.paint_rules.specs.States.{empty_state, next_line, Standing}
use Rattle.paint_rules.specs.Pick.{Starting, AWord, WordFound, keyword_to, start_by, items_below}
use Rattle.paint_rules.specs.Pick.{is_tried, start_among, is_allowed, Picked, Start, SkipOn}
use Rattle.paint_rules.specs.Pick.{Nothing, or_nothing, picked, started}
use Rattle.paint_rules.specs.Line.{Painting, Whole, Fails, PaintedLine, Refusal, with_note, turns}
use Rattle.paint_rules.specs.Line.{column, shown, joined, at_col, at_line_begin, painted_from}
use Rattle.paint_rules.specs.Line.{painted_line, painting_from}
use Rattle.paint_laws.specs.LineByLine.{line_of}
use Rattle.paint_laws.specs.NothingStarts.{HasNoLiveItem, blank_note, blank_notes, NothingIsPainted}
use Rattle.paint_laws.proofs.AllowedLaws.{none_allowed}

found_none : {A : Type 0} (test : A → Bool) → ((x : A) → test x ≡ false) → (xs : List A) →
    find test xs ≡ None
found_none test fails [] = refl
found_none test fails (x ∷ xs) =
    ap (λ b. cond b (Some x) (find test xs)) (fails x) ∙ found_none test fails xs

kept_none : {A : Type 0} (test : A → Bool) → ((x : A) → test x ≡ false) → (xs : List A) →
    filter test xs ≡ []
kept_none test fails [] = refl
kept_none test fails (x ∷ xs) =
    ap (λ b. cond b (x ∷ filter test xs) (filter test xs)) (fails x) ∙ kept_none test fails xs

first_none : {E A : Type 0} (p : Painted E A) → looked_first None p ≡ p
first_none (Done a k) = refl
first_none (Refused c k) = refl

-- nothing open, nothing waiting, nothing tried
abbrev idle : ℕ → Bool → Standing
idle floor is_over =
    record { stack = []; waiting = None; floor = floor; tried = []; is_over = is_over }

module _ (r : Rules) (dead : HasNoLiveItem r) (h : Here) (own : h.rules ≡ r) where
  abbrev free : Standing → ItemId → Bool
  free s i = not (is_tried s i) && is_allowed h.rules s.stack i

  no_start : (floor : ℕ) (is_over : Bool) (i : ItemId) → free (idle floor is_over) i ≡ false
  no_start floor is_over i = ap (λ r. is_allowed r [] i) own ∙ none_allowed r dead i

  no_word : (c floor : ℕ) (is_over : Bool) (end : Option ℕ) →
      keyword_to h.rules (free (idle floor is_over)) (this_line h) c end ≡ None
  no_word c floor is_over None = refl
  no_word c floor is_over (Some end) =
      ap (option_map (λ i. record { item = i; end = end }))
      (found_none (free (idle floor is_over)) (no_start floor is_over)
      (candidates h.rules.keywords (take (end - c) (drop c (this_line h)))))

  abbrev by_word : ℕ → Standing → List ItemId → Option WordFound → Painted Cause (Option Starting)
  by_word c s items o = elim o [
    | Some word ↦ done (Some (AWord word.item word.end))
    | None ↦ first_found (λ i. start_by h c s.floor i (item_of h.rules.items i).kind) items
  ]

  among_none : (c floor : ℕ) (is_over : Bool) →
      start_among h c (idle floor is_over) (is_allowed h.rules []) ≡ done None
  among_none c floor is_over =
      ap (by_word c (idle floor is_over)
      (filter (free (idle floor is_over)) (items_below (length h.rules.items))))
      (no_word c floor is_over (word_end (this_line h) c h.rules.sets.keyword))
      ∙ ap (λ items. by_word c (idle floor is_over) items None)
      (kept_none (free (idle floor is_over)) (no_start floor is_over)
      (items_below (length h.rules.items)))

  pick_nothing : (c floor : ℕ) (is_over : Bool) → picked h c (idle floor is_over) ≡ done Nothing
  pick_nothing c floor is_over =
      ap (λ p. p >>= (λ found. done (or_nothing found))) (among_none c floor is_over)

  abbrev next_turn : ℕ → ℕ → Standing → Picked → Painted Cause Standing
  next_turn n c s pick = elim pick [
    | Start starting ↦ started h c s starting >>= (λ s. turns n h c s)
    | SkipOn ↦ done s
    | Nothing ↦ done (record s { waiting = None })
  ]

  idle_column : (c floor : ℕ) (is_over : Bool) →
      column h c (idle floor is_over) ≡ done (idle floor is_over)
  idle_column c floor is_over =
      first_none (picked h c (idle floor is_over) >>= next_turn (length h.rules.items) c
      (idle floor is_over))
      ∙ ap (λ p. p >>= next_turn (length h.rules.items) c (idle floor is_over))
      (pick_nothing c floor is_over)

  abbrev blank : PaintedLine
  blank = record { spans = []; after = empty_state }

  abbrev with_char : ℕ → Standing → PaintedLine → Painted Refusal PaintedLine
  with_char c s rest =
      done (record rest { spans = joined c (shown h.rules (At 0 c) s.stack) rest.spans })

  blank_from : (c : ℕ) (line : List ℕ) (floor : ℕ) (is_over : Bool) →
      painted_from h c line (idle floor is_over) ≡ done blank
  blank_from c [] floor is_over =
      ap (λ p. at_col c p >>=
      (λ s. done (record
      { spans = []; after = record { stack = s.stack; waiting = s.waiting } })))
      (idle_column c floor is_over)
  blank_from c (x ∷ line) floor is_over =
      ap (λ p. at_col c p >>= (λ s. painted_from h (suc c) line s >>= with_char c s))
      (idle_column c floor is_over)
      ∙ (first_none
      (painted_from h (suc c) line (idle floor is_over) >>= with_char c (idle floor is_over))
      ∙ ap (λ p. p >>= with_char c (idle floor is_over)) (blank_from (suc c) line floor is_over))

  blank_line : painted_line h empty_state ≡ Done blank (Some (one_line (pos h.line)))
  blank_line =
      ap (looked_first (Some (one_line (pos h.line))))
      (first_none (painted_from h 0 (this_line h) (at_line_begin empty_state []))
      ∙ blank_from 0 (this_line h) 0 false)

module _ (r : Rules) (dead : HasNoLiveItem r) (t : Text) where
  abbrev goes_on : ℕ → List (List ℕ) → Painted Refusal PaintedLine → Painting
  goes_on l lines p = elim p [
    | Refused refusal k ↦ Fails l refusal
    | Done p k ↦ with_note
        (record { before = empty_state; spans = p.spans; after = p.after; looked = k })
        (painting_from r t (suc l) lines (next_line p.after))
  ]

  blank_text : (l : ℕ) (lines : List (List ℕ)) →
      painting_from r t l lines empty_state ≡ Whole (blank_notes l lines)
  blank_text l [] = refl
  blank_text l (x ∷ lines) =
      ap (goes_on l lines) (blank_line r dead (line_of r t l) refl)
      ∙ ap (with_note (blank_note l)) (blank_text (suc l) lines)

pub nothing_is_painted : NothingIsPainted
nothing_is_painted r t dead = blank_text r dead t 0 t
