-- A syntax that a script names is read, or what stands in its way; and the text is painted by it, or not.
use Rattle.std.proofs.Common.{◌≡◌, ℕ, zero, suc, ◌+◌, ◌<◌, ◌≤◌, true, false, List, length, refl, ap, subst, sym, ◌∙◌, arith}
use Rattle.std.specs.Prelude.{All, Option, Some, Result, Ok, Err, IfErr, IfOk, OnOk}
use Rattle.std.specs.List.{AllByRecursion, range_with_len}
use Rattle.std.proofs.lemmas.List.{length-map}
use Rattle.std.proofs.lemmas.List.Elements.{All-filter, All-from_recursion}
use Rattle.command_print.specs.Shown.{Shown, lines_shown_otherwise, shows_otherwise}
use Rattle.edit_session.specs.declared.document.Untaken.{Untaken}
use Rattle.edit_session.specs.declared.document.Untaken.TheVariants as untaken
use Rattle.edit_session.specs.Painter.{Painted, Painter, RefusesSyntax, TakesSyntax, syntax_costs}
use Rattle.program_words.specs.Given.{CheckWords, PageWords}
use Rattle.state_cache.specs.declared.refusal.EditError.{EditError}
use Rattle.state_cache.specs.PaintedText.{IsPaintingOf, PaintedText}
use Rattle.state_cache.specs.Shown.{line_shown, text_shown}
use Rattle.state_cache.specs.Spans.{text_spans}
use Rattle.syn_base.specs.declared.places.Span.{Span}
use Rattle.syn_base.specs.Outside.{FileMap}
use Rattle.syn_reader.specs.declared.syntax.Syntax.{Syntax}
use Rattle.vimsyn_cli.specs.declared.fault.Fault.{Fault as FaultOf}
use Rattle.vimsyn_cli.specs.declared.fault.FaultKind.{FaultKind}
use Rattle.vimsyn_cli.specs.declared.fault.FaultKind.TheVariants.{Missing, Unread, TooLong, Content}
use Rattle.vimsyn_cli.specs.declared.fault.Stop.{Stop}
use Rattle.vimsyn_cli.specs.declared.fault.Stop.TheVariants as stop
use Rattle.vimsyn_cli.specs.Editing.{painter_of, with_words}
use Rattle.vimsyn_cli.specs.Plans.{FollowsFiles, OrUnread, is_too_long, is_unread}
use Rattle.vimsyn_cli.specs.Reading.{IsUnreadAsked, syntax_told}
use Rattle.vimsyn_cli.specs.Renewal.{IsReadNamed, IsUntakenStop, RefusesPainting, is_long_read, library_of, naming, painter_read, unread_line}
use Rattle.vimsyn_cli.proofs.RunLaws.{decided}

-- ---- reading

-- a cause that the files' map doesn't decide
undecided : (cause : FaultKind) (unread planned : Type 0) → OrUnread cause unread planned → is_unread cause ≡ true → unread
undecided Missing unread planned p is = absurd cc
undecided Unread unread planned p is = p
undecided TooLong unread planned p is = absurd cc
undecided Content unread planned p is = absurd cc

long_read : (cause : FaultKind) → is_too_long cause ≡ true → is_unread cause ≡ false
long_read Missing is = absurd cc
long_read Unread is = absurd cc
long_read TooLong is = refl
long_read Content is = absurd cc

pub read_well : (told : Option FileMap) (asked other : CheckWords) (syntax : Syntax) (known : FileMap) → asked ≡ other → told ≡ Some known → FollowsFiles told (syntax_told asked) (IsUnreadAsked asked) (Ok syntax) → syntax_told other known ≡ Ok syntax
read_well told asked other syntax known same is follows =
    let P : Option FileMap → Type 0 = λ o. FollowsFiles o (syntax_told asked) (IsUnreadAsked asked) (Ok syntax) in
    let here : syntax_told asked known ≡ Ok syntax = subst P is follows in
    let Q : CheckWords → Type 0 = λ a. syntax_told a known ≡ Ok syntax in
    subst Q same here

stopped_reading : (asked : CheckWords) (known : FileMap) (why : Stop) (how : Untaken) → FollowsFiles (Some known) (syntax_told asked) (IsUnreadAsked asked) (Err why) → IsUntakenStop why how → IsReadNamed asked known (Err how)
stopped_reading asked known (stop.Fault fault) (untaken.Refused words) follows is =
    (fault, decided fault.cause (IsUnreadAsked asked known fault.line) (syntax_told asked known ≡ Err fault) follows is.0, is.2, is.1)
stopped_reading asked known (stop.Fault fault) (untaken.TooLong words) follows is =
    (fault, decided fault.cause (IsUnreadAsked asked known fault.line) (syntax_told asked known ≡ Err fault) follows (long_read fault.cause is.0), is.1, is.0)
stopped_reading asked known (stop.Fault fault) (untaken.Unread line) follows is =
    let unread = undecided fault.cause (IsUnreadAsked asked known fault.line) (syntax_told asked known ≡ Err fault) follows is.0 in
    let P : List ℕ → Type 0 = IsUnreadAsked asked known in
    subst P (sym is.1) unread
stopped_reading asked known (stop.Fault fault) untaken.Memory follows is = absurd is
stopped_reading asked known stop.Memory how follows is =
    let P : Untaken → Type 0 = λ u. IsReadNamed asked known (Err u) in
    subst P (sym is) tt

pub read_not : (told : Option FileMap) (asked other : CheckWords) (why : Stop) (how : Untaken) (known : FileMap) → asked ≡ other → told ≡ Some known → FollowsFiles told (syntax_told asked) (IsUnreadAsked asked) (Err why) → IsUntakenStop why how → IsReadNamed other known (Err how)
read_not told asked other why how known same is follows stops =
    let P : Option FileMap → Type 0 = λ o. FollowsFiles o (syntax_told asked) (IsUnreadAsked asked) (Err why) in
    let Q : CheckWords → Type 0 = λ a. IsReadNamed a known (Err how) in
    subst Q same (stopped_reading asked known why how (subst P is follows) stops)

-- ---- the text by another syntax

-- the painter that the name stands for
reads_is : (words : PageWords) (known : FileMap) (name : List ℕ) (syntax : Syntax) (old new : PaintedText) → syntax_told (naming (words.painting).syntax name) known ≡ Ok syntax → new.syntax ≡ syntax → new.budget ≡ old.budget → (library_of words old.budget known).reads name ≡ Ok (painter_of words new.syntax new.budget)
unfolding library_of
reads_is words known name syntax old new read same budget =
    ap (painter_read words old.budget) read
    ∙ ap (λ (s : Syntax). Ok (painter_of words s old.budget)) (sym same)
    ∙ ap (λ (b : ℕ). Ok (painter_of words new.syntax b)) (sym budget)

painted_is : (words : PageWords) (syntax : Syntax) (old new : PaintedText) → IsPaintingOf syntax old.text old.budget new → (painter_of words new.syntax new.budget).paint old.text ≡ Ok new.spans
painted_is words syntax old new is =
    ap (λ (s : Syntax). with_words s (text_spans s new.budget old.text)) is.syntax_is
    ∙ ap (λ (b : ℕ). with_words syntax (text_spans syntax b old.text)) is.budget_is
    ∙ ap (with_words syntax) is.spans_are

pub syntax_taken : (words : PageWords) (known : FileMap) (name : List ℕ) (syntax : Syntax) (old new : PaintedText) (result : Result (List ℕ) Untaken) → syntax_told (naming (words.painting).syntax name) known ≡ Ok syntax → OnOk result (IsPaintingOf syntax old.text old.budget new) → IfOk result (λ lines. lines ≡ lines_shown_otherwise (text_shown old.syntax old.spans) (text_shown syntax new.spans)) → IfErr result (RefusesPainting syntax old.budget old.text) → TakesSyntax (library_of words old.budget known) name (painter_of words old.syntax old.budget) (painter_of words new.syntax new.budget) (record { text = old.text; spans = old.spans }) (record { text = new.text; spans = new.spans }) result
unfolding library_of
syntax_taken words known name syntax old new (Ok lines) read painted told refused = (
  reads_is words known name syntax old new read painted.syntax_is painted.budget_is,
  ap is_long_read read,
  record {
    text = painted.text_is;
    spans = painted_is words syntax old new painted;
    lines = told ∙ ap (λ (s : Syntax). lines_shown_otherwise (text_shown old.syntax old.spans) (text_shown s new.spans)) (sym painted.syntax_is);
  },
)
syntax_taken words known name syntax old new (Err (untaken.Refused cause)) read painted told refused =
    let P : Result Painter (List ℕ) → Type 0 = λ r. RefusesSyntax r old.text cause in
    let reads : painter_read words old.budget (syntax_told (naming (words.painting).syntax name) known) ≡ Ok (painter_of words syntax old.budget) = ap (painter_read words old.budget) read in
    (subst P (sym reads) (ap (with_words syntax) refused.1 ∙ ap Err (sym refused.2)), ap is_long_read read)
syntax_taken words known name syntax old new (Err (untaken.TooLong cause)) read painted told refused = absurd refused
syntax_taken words known name syntax old new (Err (untaken.Unread line)) read painted told refused = absurd refused
syntax_taken words known name syntax old new (Err untaken.Memory) read painted told refused = tt

pub syntax_unread : (words : PageWords) (budget : ℕ) (known : FileMap) (name : List ℕ) (p q : Painter) (before after : Painted) (why : Untaken) → IsReadNamed (naming (words.painting).syntax name) known (Err why) → TakesSyntax (library_of words budget known) name p q before after (Err why)
unfolding library_of
syntax_unread words budget known name p q before after (untaken.Refused cause) read =
    let P : Result Painter (List ℕ) → Type 0 = λ r. RefusesSyntax r before.text cause in
    let reads : painter_read words budget (syntax_told (naming (words.painting).syntax name) known) ≡ painter_read words budget (Err read.0) = ap (painter_read words budget) read.1 in
    (subst P (sym reads) read.2, ap is_long_read read.1 ∙ read.3)
syntax_unread words budget known name p q before after (untaken.TooLong cause) read =
    (ap (painter_read words budget) read.1 ∙ ap Err (sym read.2), ap is_long_read read.1 ∙ read.3)
syntax_unread words budget known name p q before after (untaken.Unread line) read =
    record { number = read.number; told = ap unread_line read.asked ∙ ap Some (sym read.told) }
syntax_unread words budget known name p q before after untaken.Memory read = tt

-- ---- lines and steps

below_range : (a n m : ℕ) → a + n ≤ m → AllByRecursion (λ k. k < m) (range_with_len a n)
below_range a zero m fits = tt
below_range a (suc n) m fits = (omega (arith, fits), below_range (a + 1) n m (omega (arith, fits)))

otherwise_within : (before after : List (List Shown)) (all : ℕ) → length after ≡ all → All (λ k. k < all) (lines_shown_otherwise before after)
otherwise_within before after all size =
    let lines = range_with_len 0 (length after) in
    let fits : 0 + length after ≤ all = omega (arith, size) in
    All-filter (shows_otherwise before after) (λ k. k < all) lines (All-from_recursion (λ k. k < all) lines (below_range 0 (length after) all fits))

pub renewed_within : (syntax : Syntax) (old new : PaintedText) (result : Result (List ℕ) Untaken) → OnOk result (length new.spans ≡ length new.text) → IfOk result (λ lines. lines ≡ lines_shown_otherwise (text_shown old.syntax old.spans) (text_shown syntax new.spans)) → IfOk result (All (λ k. k < length new.text))
renewed_within syntax old new (Ok lines) counted told =
    let P : List ℕ → Type 0 = All (λ k. k < length new.text) in
    let size : length (text_shown syntax new.spans) ≡ length new.text = length-map new.spans (line_shown syntax) ∙ counted in
    subst P (sym told) (otherwise_within (text_shown old.syntax old.spans) (text_shown syntax new.spans) (length new.text) size)
renewed_within syntax old new (Err why) counted told = tt

pub renewed_steps : (words : PageWords) (budget : ℕ) (known : FileMap) (name : List ℕ) (syntax : Syntax) (text : List (List ℕ)) (before after : ℕ) → syntax_told (naming (words.painting).syntax name) known ≡ Ok syntax → after ≤ before + length text → after ≤ before + syntax_costs ((library_of words budget known).reads name) text
unfolding library_of
renewed_steps words budget known name syntax text before after read few =
    let costs : syntax_costs ((library_of words budget known).reads name) text ≡ length text = ap (λ (r : Result Painter (List ℕ)). syntax_costs r text) (ap (painter_read words budget) read) in
    omega (arith, costs, few)
