-- The painting of a file by marked items, step by step.
use Rattle.std.proofs.Common.{◌≡◌, ℕ, ◌+◌, ◌≤◌, List, refl, ap, subst, sym, inl, inr, ◌∙◌, true, false}
use Rattle.std.specs.Prelude.{◌⊎◌, Bool, Option, Some, None, unwrap_or, Result, Ok, Err, IfOk}
use Rattle.conceal_view.specs.Cells.{SeenLine}
use Rattle.conceal_view.specs.Marks.{marks_of}
use Rattle.conceal_view.specs.View.{view_of}
use Rattle.conceal_view.specs.declared.marks.Mark.{Mark}
use Rattle.hi_links.specs.declared.highlight.Highlight.{Highlight}
use Rattle.syn_base.specs.declared.places.GroupId.{GroupId}
use Rattle.program_words.specs.Given.{CheckWords, PaintWords}
use Rattle.state_cache.specs.declared.refusal.EditError.{EditError}
use Rattle.state_cache.specs.declared.refusal.EditError.TheVariants as error
use Rattle.state_cache.specs.PaintedText.{IsPaintingOf, IsRefusal as IsRefusalOf, PaintedText}
use Rattle.state_cache.specs.Spans.{text_spans}
use Rattle.syn_base.specs.declared.places.Span.{Span}
use Rattle.syn_base.specs.Outside.{FileMap}
use Rattle.syn_reader.specs.declared.syntax.Syntax.{Syntax}
use Rattle.syn_reader.specs.Names.{is_full}
use Rattle.syntax_set.specs.Groups.{group_numbered, group_of, with_group}
use Rattle.syntax_set.specs.declared.added_item.AddedItem.{AddedItem}
use Rattle.vimsyn_cli.specs.declared.fault.Fault.{Fault as FaultOf}
use Rattle.vimsyn_cli.specs.declared.fault.Stop.{Stop}
use Rattle.vimsyn_cli.specs.declared.fault.Stop.TheVariants as stop
use Rattle.vimsyn_cli.specs.declared.file_fault.NamedFault.TheVariants.{Unread}
use Rattle.vimsyn_cli.specs.Concealing.{AsksToSee, ConcealedText, IsUnreadView, IsViewFault, concealed_told, cover_name, covered_if, covered_told, crowded_fault, marked_syntax, marked_told, seen_of, with_cover, with_marks}
use Rattle.vimsyn_cli.specs.FileStop.{IsUnreadNamed}
use Rattle.vimsyn_cli.specs.Painting.{IsRefusedPainting, refused_by, refused_fault, text_told}
use Rattle.vimsyn_cli.specs.Plans.{FollowsFiles, IfFault, IsExpected, IsOfContent, and_then}
use Rattle.vimsyn_cli.specs.Reading.{IsReadFault, IsUnreadAsked, syntax_told}
use Rattle.vimsyn_cli.specs.Refusal.{IsRefusal}
use Rattle.vimsyn_cli.specs.Report.{IsFaultOf, fault_line}
use Rattle.vimsyn_cli.proofs.PaintLaws.{IsUnreadText, text_read}
use Rattle.vimsyn_cli.proofs.PlanLaws.{always, followed, stopped}

-- ---- the group that covers

pub covered_is : (name : List ℕ) (syntax made : Syntax) (groups : List (List ℕ)) → is_full syntax.groups cover_name ≡ false → groups ≡ with_group syntax.groups cover_name → made ≡ record syntax { groups = groups } → with_cover name syntax ≡ Ok made
covered_is name syntax made groups room are is =
    ap (λ (full : Bool). covered_if full name syntax) room
    ∙ ap (λ (names : List (List ℕ)). let s : Syntax = record syntax { groups = names } in Ok s) (sym are)
    ∙ ap (λ (s : Syntax). Ok s) (sym is)

pub crowded_is : (name : List ℕ) (syntax : Syntax) (fault : FaultOf) → is_full syntax.groups cover_name ≡ true → fault ≡ crowded_fault name → IsExpected (with_cover name syntax) (λ line. ⊥) (Err (stop.Fault fault))
crowded_is name syntax fault full is =
    let P : FaultOf → Type 0 = λ f. IsExpected (with_cover name syntax) (λ line. ⊥) (Err (stop.Fault f)) in
    subst P (sym is) (ap (λ (b : Bool). covered_if b name syntax) full)

-- there is no syntax
pub uncovered : (told : Option FileMap) (words : CheckWords) (why : Stop) (result : Result Syntax Stop) → FollowsFiles told (syntax_told words) (IsUnreadAsked words) (Err why) → result ≡ Err why → FollowsFiles told (covered_told words) (IsUnreadAsked words) result
uncovered told words why result read at =
    stopped told (syntax_told words) (λ files. with_cover words.syntax) (IsUnreadAsked words) (IsUnreadAsked words) why result (λ files line u. u) read at

-- there is one
pub covered_read : (told after : Option FileMap) (words : CheckWords) (name : List ℕ) (syntax : Syntax) (result : Result Syntax Stop) → after ≡ told → name ≡ words.syntax → FollowsFiles told (syntax_told words) (IsUnreadAsked words) (Ok syntax) → IsExpected (with_cover name syntax) (λ line. ⊥) result → FollowsFiles told (covered_told words) (IsUnreadAsked words) result
covered_read told after words name syntax result kept named read expected =
    let N : List ℕ → Type 0 = λ n. IsExpected (with_cover n syntax) (λ line. ⊥) result in
    followed told after (syntax_told words) (λ files. with_cover words.syntax) (IsUnreadAsked words) (λ files line. ⊥) (IsUnreadAsked words) syntax result
    kept (λ files line ok u. absurd u) read (always after (with_cover words.syntax syntax) (λ line. ⊥) result (subst N named expected))

pub read_told : (A : Type 0) {B : Type 0} (name : List ℕ) (why : Stop) (result : Result B Stop) → IfFault {A = A} (Err why) IsReadFault → result ≡ Err why → IfFault result (λ fault. IsReadFault fault ⊎ (fault ≡ crowded_fault name))
read_told A name stop.Memory result told at = rw at tt
read_told A name (stop.Fault fault) result told at = rw at (inl told)

pub crowded_told : (name : List ℕ) (words : CheckWords) (result : Result Syntax Stop) → name ≡ words.syntax → IfFault result (λ fault. fault ≡ crowded_fault name) → IfFault result (λ fault. IsReadFault fault ⊎ (fault ≡ crowded_fault words.syntax))
crowded_told name words (Ok syntax) named told = tt
crowded_told name words (Err stop.Memory) named told = tt
crowded_told name words (Err (stop.Fault fault)) named told =
    let P : List ℕ → Type 0 = λ n. fault ≡ crowded_fault n in
    inr (subst P named told)

-- ---- faults of the view

pub syntax_fault_seen : (A : Type 0) {B : Type 0} (words : PaintWords) (asked : CheckWords) (why : Stop) (result : Result B Stop) → 1 ≤ words.conceal → asked ≡ words.syntax → IfFault {A = A} (Err why) (λ fault. IsReadFault fault ⊎ (fault ≡ crowded_fault asked.syntax)) → result ≡ Err why → IfFault result (IsViewFault words)
syntax_fault_seen A words asked stop.Memory result level named told at = rw at tt
syntax_fault_seen A words asked (stop.Fault fault) result level named told at = rw at (by told)
  where
    by : IsReadFault fault ⊎ (fault ≡ crowded_fault asked.syntax) → IsViewFault words fault
    by (inl read) = inl (inl read)
    by (inr full) = let P : CheckWords → Type 0 = λ a. fault ≡ crowded_fault a.syntax in inr (level, subst P named full)

pub text_fault_seen : (A : Type 0) {B : Type 0} (words : PaintWords) (name : List ℕ) (why : Stop) (result : Result B Stop) → name ≡ words.text → IfFault {A = A} (Err why) (IsFaultOf name) → result ≡ Err why → IfFault result (IsViewFault words)
text_fault_seen A words name stop.Memory result named told at = rw at tt
text_fault_seen A words name (stop.Fault fault) result named told at =
    let P : List ℕ → Type 0 = λ n. IsFaultOf n fault in
    rw at (inl (inr (inl (subst P named told))))

pub refusal_seen : {A : Type 0} (words : PaintWords) (result : Result A Stop) → IfFault result (IsRefusedPainting words.text) → IfFault result (IsViewFault words)
refusal_seen words (Ok a) told = tt
refusal_seen words (Err stop.Memory) told = tt
refusal_seen words (Err (stop.Fault fault)) told = inl (inr (inr told))

-- ---- the painting step by step

abbrev further : PaintWords → FileMap → Syntax → Result ConcealedText FaultOf
further words files syntax = and_then (text_told words.text files) (marked_told words syntax)

covered_asked : (told : Option FileMap) (words : PaintWords) (asked : CheckWords) (read : Result Syntax Stop) → asked ≡ words.syntax → FollowsFiles told (covered_told asked) (IsUnreadAsked asked) read → FollowsFiles told (covered_told words.syntax) (IsUnreadAsked words.syntax) read
covered_asked told words asked read same is =
    let P : CheckWords → Type 0 = λ a. FollowsFiles told (covered_told a) (IsUnreadAsked a) read in
    subst P same is

-- there is no syntax, or none with room
pub view_stopped : (told : Option FileMap) (words : PaintWords) (asked : CheckWords) (why : Stop) (result : Result ConcealedText Stop) → asked ≡ words.syntax → FollowsFiles told (covered_told asked) (IsUnreadAsked asked) (Err why) → result ≡ Err why → FollowsFiles told (concealed_told words) (IsUnreadView words) result
view_stopped told words asked why result same is at =
    stopped told (covered_told words.syntax) (further words) (IsUnreadAsked words.syntax) (IsUnreadView words) why result
    (λ files line u. inl u) (covered_asked told words asked (Err why) same is) at

-- a covered syntax has room
asks : (words : PaintWords) (files : FileMap) (covered : Syntax) → covered_told words.syntax files ≡ Ok covered → AsksToSee words files
asks words files covered is = by (syntax_told words.syntax files) refl is
  where
    roomy : (syntax : Syntax) (full : Bool) → is_full syntax.groups cover_name ≡ full → covered_if full words.syntax.syntax syntax ≡ Ok covered → is_full syntax.groups cover_name ≡ false
    roomy syntax true e h = absurd (cc h)
    roomy syntax false e h = e

    by : (read : Result Syntax FaultOf) → syntax_told words.syntax files ≡ read → and_then read (with_cover words.syntax.syntax) ≡ Ok covered → AsksToSee words files
    by (Ok syntax) e h = record { syntax = syntax; accepted = e; roomy = λ level. roomy syntax (is_full syntax.groups cover_name) refl h }
    by (Err fault) e h = absurd (cc h)

behind_cover : (told after : Option FileMap) (words : PaintWords) (asked : CheckWords) (covered : Syntax) (result : Result ConcealedText Stop) → after ≡ told → asked ≡ words.syntax → FollowsFiles told (covered_told asked) (IsUnreadAsked asked) (Ok covered) → FollowsFiles after (λ files. further words files covered) (IsUnreadText words) result → FollowsFiles told (concealed_told words) (IsUnreadView words) result
behind_cover told after words asked covered result kept same is then =
    followed told after (covered_told words.syntax) (further words) (IsUnreadAsked words.syntax) (IsUnreadText words) (IsUnreadView words) covered result
    kept (λ files line ok u. inr (asks words files covered ok, u)) (covered_asked told words asked (Ok covered) same is) then

-- there is no text
pub text_unseen : (told after : Option FileMap) (words : PaintWords) (asked : CheckWords) (covered : Syntax) (name : List ℕ) (why : Stop) (result : Result ConcealedText Stop) → after ≡ told → asked ≡ words.syntax → FollowsFiles told (covered_told asked) (IsUnreadAsked asked) (Ok covered) → name ≡ words.text → FollowsFiles after (text_told name) (IsUnreadNamed name) (Err why) → result ≡ Err why → FollowsFiles told (concealed_told words) (IsUnreadView words) result
text_unseen told after words asked covered name why result kept same is named read at =
    behind_cover told after words asked covered result kept same is
    (stopped after (text_told words.text) (λ files. marked_told words covered) (IsUnreadText words) (IsUnreadText words) why result
    (λ files line u. u) (text_read after words name (Err why) named read) at)

-- both are there
pub both_seen : (told after : Option FileMap) (words : PaintWords) (asked : CheckWords) (covered : Syntax) (name : List ℕ) (text : List (List ℕ)) (result : Result ConcealedText Stop) → after ≡ told → asked ≡ words.syntax → FollowsFiles told (covered_told asked) (IsUnreadAsked asked) (Ok covered) → name ≡ words.text → FollowsFiles after (text_told name) (IsUnreadNamed name) (Ok text) → IsExpected (marked_told words covered text) (λ line. ⊥) result → FollowsFiles told (concealed_told words) (IsUnreadView words) result
both_seen told after words asked covered name text result kept same is named read expected =
    behind_cover told after words asked covered result kept same is
    (followed after after (text_told words.text) (λ files. marked_told words covered) (IsUnreadText words) (λ files line. ⊥) (IsUnreadText words) text result
    refl (λ files line ok u. absurd u) (text_read after words name (Ok text) named read)
    (always after (marked_told words covered text) (λ line. ⊥) result expected))

-- ---- the painting itself

-- what the painted text is with the items of the syntax itself
pub concealed_is : (words : PaintWords) (syntax painting : Syntax) (lines : List (List ℕ)) (budget level : ℕ) (items : List AddedItem) (painted : PaintedText) → painting ≡ marked_syntax syntax → items ≡ syntax.items → budget ≡ words.budget → level ≡ words.conceal → IsPaintingOf painting lines budget painted
    → marked_told words syntax lines ≡ Ok (record { names = painted.syntax.groups; links = painted.syntax.links; items = items; level = level; text = painted.text; spans = painted.spans })
concealed_is words syntax painting lines budget level items painted marked own costs at is =
    let S : Syntax → ℕ → Type 0 = λ s b. text_spans s b lines ≡ Ok painted.spans in
    let spans : text_spans (marked_syntax syntax) words.budget lines ≡ Ok painted.spans =
    subst (λ (s : Syntax). S s words.budget) marked (subst (S painting) costs is.spans_are) in
    let whole : painted.syntax ≡ marked_syntax syntax = is.syntax_is ∙ marked in
    ap (with_marks words syntax lines) spans
    ∙ rw (whole, is.text_is, own, at) refl

refusal_is : (expected : Result (List (List Span)) EditError) (refusal : EditError) → IsRefusalOf expected refusal → (refusal ≡ error.Memory → ⊥) → expected ≡ Err refusal
refusal_is expected (error.TooCostly l c i) h other = h
refusal_is expected (error.TooDeep l c) h other = h
refusal_is expected error.Memory h other = absurd (other refl)

fault_is : (words : PaintWords) (syntax painting left : Syntax) (name : List ℕ) (items : List AddedItem) (refusal : EditError) (fault : FaultOf) → painting ≡ marked_syntax syntax → left ≡ painting → items ≡ syntax.items → name ≡ words.text → fault ≡ refused_by name left.groups items refusal → fault ≡ refused_fault words.text syntax refusal
fault_is words syntax painting left name items refusal fault marked back own named told =
    let groups : left.groups ≡ syntax.groups = ap (λ (s : Syntax). s.groups) (back ∙ marked) in
    told ∙ rw (named, groups, own) refl

-- a refusal
pub refused_is : (words : PaintWords) (syntax painting left : Syntax) (lines : List (List ℕ)) (budget : ℕ) (name : List ℕ) (items : List AddedItem) (refusal : EditError) (why : Stop) → painting ≡ marked_syntax syntax → left ≡ painting → items ≡ syntax.items → budget ≡ words.budget → name ≡ words.text → IsRefusalOf (text_spans painting budget lines) refusal → IsRefusal name left.groups items refusal why → IsExpected (marked_told words syntax lines) (λ line. ⊥) (Err why)
refused_is words syntax painting left lines budget name items refusal stop.Memory marked back own costs named refused told = tt
refused_is words syntax painting left lines budget name items refusal (stop.Fault fault) marked back own costs named refused told =
    let F : FaultOf → Type 0 = λ f. IsExpected (marked_told words syntax lines) (λ line. ⊥) (Err (stop.Fault f)) in
    let S : Syntax → ℕ → Type 0 = λ s b. IsRefusalOf (text_spans s b lines) refusal in
    let known = subst (λ (s : Syntax). S s words.budget) marked (subst (S painting) costs refused) in
    subst F (sym (fault_is words syntax painting left name items refusal fault marked back own named told.1))
    (ap (with_marks words syntax lines) (refusal_is (text_spans (marked_syntax syntax) words.budget lines) refusal known told.0))

-- which is one of a painting
pub refused_told : (A : Type 0) (words : PaintWords) (syntax painting left : Syntax) (name : List ℕ) (items : List AddedItem) (refusal : EditError) (why : Stop) → painting ≡ marked_syntax syntax → left ≡ painting → items ≡ syntax.items → name ≡ words.text → IsRefusal name left.groups items refusal why → IfFault {A = A} (Err why) (IsRefusedPainting words.text)
refused_told A words syntax painting left name items refusal stop.Memory marked back own named told = tt
refused_told A words syntax painting left name items refusal (stop.Fault fault) marked back own named told =
    record { syntax = syntax; refusal = refusal; told = fault_is words syntax painting left name items refusal fault marked back own named told.1; known = told.0 }

pub refused_content : (A : Type 0) (name : List ℕ) (names : List (List ℕ)) (items : List AddedItem) (refusal : EditError) (why : Stop) → IsRefusal name names items refusal why → IfFault {A = A} (Err why) IsOfContent
refused_content A name names items refusal stop.Memory told = tt
refused_content A name names items refusal (stop.Fault fault) told = ap (λ (f : FaultOf). f.cause) told.1

-- ---- the view

pub view_seen : {E : Type 0} (names : List (List ℕ)) (links : List Highlight) (items : List AddedItem) (level : ℕ) (lines : List (List ℕ)) (spans : List (List Span)) (marks : List Mark) (cover : GroupId) (found : Option GroupId) (result : Result (List SeenLine) E) → marks ≡ marks_of items → found ≡ group_of names cover_name → cover ≡ unwrap_or found (group_numbered 0) → IfOk result (λ viewed. viewed ≡ view_of items marks cover level lines spans)
    → IfOk result (λ viewed. viewed ≡ seen_of (record { names = names; links = links; items = items; level = level; text = lines; spans = spans }))
view_seen names links items level lines spans marks cover found (Ok viewed) are is at seen = seen ∙ rw (are, at, is) refl
view_seen names links items level lines spans marks cover found (Err error) are is at seen = tt
