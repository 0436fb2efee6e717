-- What a session says of its causes, whatever the files say.
use Rattle.std.proofs.Common.{◌≡◌, ◌⊎◌, inl, inr, ℕ, ◌+◌, ◌<◌, ◌≤◌, Bool, true, false, List, [], ◌∷◌, ◌++◌, length, refl, ap, sym, subst, ◌∙◌, arith}
use Rattle.std.specs.Prelude.{Option, Some, None, IfSome, OnOk, Result, Ok, Err}
use Rattle.std.proofs.lemmas.List.{length-append}
use Rattle.syn_base.specs.declared.places.Span.{Span}
use Rattle.syn_base.specs.Causes.{Rose}
use Rattle.syn_base.specs.Outside.{AppendsPrefix, FileMap}
use Rattle.edit_script.specs.declared.commands.EditCommand.{EditCommand}
use Rattle.edit_script.specs.declared.commands.Resolved.{Resolved}
use Rattle.edit_script.specs.declared.commands.Resolved.TheVariants.{Replace, Move, CopyTo, Print, Ex, Page, Folds, Syntax}
use Rattle.edit_script.specs.Edits.{Replacement, moved, put_in_place, replaced}
use Rattle.edit_session.specs.declared.changes.Substituted.{Substituted}
use Rattle.edit_session.specs.declared.changes.Substituted.TheVariants.{Becomes, Counted}
use Rattle.edit_session.specs.declared.commands.Harm.{Harm}
use Rattle.edit_session.specs.declared.reading.End.{End}
use Rattle.edit_session.specs.declared.reading.End.TheVariants.{Done, Refused, TooLong, Unread, Unfetched, Unwritten, Memory}
use Rattle.edit_session.specs.Ends.{FilesChange, HasCause, MeetsLongs, SinkChange, SourceChange, Takes, TakesFew, files_change, sink_change, source_change}
use Rattle.edit_session.specs.Painter.{Library}
use Rattle.edit_session.specs.Session.{Answer, Standing, carries_out, ex_text, most_bytes, substitutes, with_painting}
use Rattle.edit_session.specs.Steps.{Answers, AreCaused, GivesAnswer, GivesOrStops, HasTaken, KeepsHarm, ReachesEnd, StandsAt, TakesPiece, TakesPieces, TakesScript, end_of}
use Rattle.edit_session.proofs.SessionLaws.{appended_nothing}
use Rattle.edit_session.proofs.ReadingLaws.{takes_more, takes_nothing}

-- ---- one command

abbrev harm_of : Standing → Harm
harm_of s = record { refused = s.refused; met_long = s.met_long }

-- a command that is carried out takes no refusal back
painted_unharmed : (s : Standing) (line : ℕ) (r : Replacement) (painting : Result (List (List Span)) (List ℕ)) → (with_painting s line r painting).stands.refused ≡ false → s.refused ≡ false
painted_unharmed s line r (Ok spans) none = none
painted_unharmed s line r (Err cause) none = absurd (cc)

substituted_unharmed : (s : Standing) (line : ℕ) (made : Result Substituted (List ℕ)) → (substitutes s line made).stands.refused ≡ false → s.refused ≡ false
substituted_unharmed s line (Ok (Becomes r)) none = painted_unharmed s line r (s.painter.paint (replaced s.painted.text r)) none
substituted_unharmed s line (Ok (Counted count)) none = none
substituted_unharmed s line (Err words) none = absurd (cc)

pub carries_unharmed : (s : Standing) (line : ℕ) (command : EditCommand) (resolved : Resolved) → (carries_out s line command resolved).stands.refused ≡ false → s.refused ≡ false
carries_unharmed s line command (Replace a b) none =
    let r = put_in_place s.painted.text a b command.lines in painted_unharmed s line r (s.painter.paint (replaced s.painted.text r)) none
carries_unharmed s line command (Move a b dest) none =
    let r = moved s.painted.text a b dest in painted_unharmed s line r (s.painter.paint (replaced s.painted.text r)) none
carries_unharmed s line command (CopyTo a b dest) none = painted_unharmed s line _ _ none
carries_unharmed s line command (Print a b) none = none
carries_unharmed s line command (Ex a b) none =
    substituted_unharmed s line (s.painter.substitute s.painted.text a b (ex_text command.verb)) none
carries_unharmed s line command Page none = none
carries_unharmed s line command Folds none = none
carries_unharmed s line command Syntax none = none

painted_meets_none : (s : Standing) (line : ℕ) (r : Replacement) (painting : Result (List (List Span)) (List ℕ)) → (with_painting s line r painting).stands.met_long ≡ s.met_long
painted_meets_none s line r (Ok spans) = refl
painted_meets_none s line r (Err cause) = refl

substituted_meets_none : (s : Standing) (line : ℕ) (made : Result Substituted (List ℕ)) → (substitutes s line made).stands.met_long ≡ s.met_long
substituted_meets_none s line (Ok (Becomes r)) = painted_meets_none s line r (s.painter.paint (replaced s.painted.text r))
substituted_meets_none s line (Ok (Counted count)) = refl
substituted_meets_none s line (Err words) = refl

-- nor does it meet a file
pub carries_meet_none : (s : Standing) (line : ℕ) (command : EditCommand) (resolved : Resolved) → (carries_out s line command resolved).stands.met_long ≡ s.met_long
carries_meet_none s line command (Replace a b) =
    let r = put_in_place s.painted.text a b command.lines in painted_meets_none s line r (s.painter.paint (replaced s.painted.text r))
carries_meet_none s line command (Move a b dest) =
    let r = moved s.painted.text a b dest in painted_meets_none s line r (s.painter.paint (replaced s.painted.text r))
carries_meet_none s line command (CopyTo a b dest) = painted_meets_none s line _ _
carries_meet_none s line command (Print a b) = refl
carries_meet_none s line command (Ex a b) =
    substituted_meets_none s line (s.painter.substitute s.painted.text a b (ex_text command.verb))
carries_meet_none s line command Page = refl
carries_meet_none s line command Folds = refl
carries_meet_none s line command Syntax = refl

pub unharmed_by : (E : Type 0) (result : Result (List ℕ) E) (s now : Standing) (answer : Answer) → GivesAnswer result now answer → (answer.stands.refused ≡ false → s.refused ≡ false) → answer.stands.met_long ≡ s.met_long → OnOk result (KeepsHarm (harm_of s) (harm_of now))
unharmed_by E (Ok text) s now answer given by same = record {
  refused = λ none. by (ap (λ (t : Standing). t.refused) (sym given.1) ∙ none);
  met_long = ap (λ (t : Standing). t.met_long) given.1 ∙ same;
}
unharmed_by E (Err e) s now answer given by same = tt

-- an answer that isn't there writes nothing
appends_none : (out : Option (List ℕ)) (text : List ℕ) → AppendsPrefix out out text
appends_none out [] = (0, appended_nothing out)
appends_none out (x ∷ text) = (0, appended_nothing out)

pub answer_stopped : (U : Type 0) (library : Library) (answer : Answer) (now : Standing) (out : Option (List ℕ)) (g : ℕ) (end : End) (result : Result U End) → GivesOrStops library (Err end) now answer → result ≡ Err end → Answers library answer now (sink_change out out g g) result
answer_stopped U library answer now out g (Unfetched line) result stops at = rw at (appends_none out answer.text, stops)
answer_stopped U library answer now out g Done result stops at = rw at (appends_none out answer.text)
answer_stopped U library answer now out g Refused result stops at = rw at (appends_none out answer.text)
answer_stopped U library answer now out g TooLong result stops at = rw at (appends_none out answer.text)
answer_stopped U library answer now out g Unread result stops at = rw at (appends_none out answer.text)
answer_stopped U library answer now out g Unwritten result stops at = rw at (appends_none out answer.text)
answer_stopped U library answer now out g Memory result stops at = rw at (appends_none out answer.text)

-- ---- commands one after the other

rose_before : (l0 l1 l2 : ℕ) → l0 ≤ l1 → Rose l1 l2 → Rose l0 l2
rose_before l0 l1 l2 few rose = (omega (arith, few, rose.0), omega (arith, few, rose.0, rose.1))

rose_behind : (l0 l1 l2 : ℕ) → Rose l0 l1 → l1 ≤ l2 → Rose l0 l2
rose_behind l0 l1 l2 rose few = (omega (arith, few, rose.0), omega (arith, few, rose.1))

longs_further : (b m a : Harm) (t t' t'' : Option FileMap) (f f' f'' m0 m1 m2 l0 l1 l2 : ℕ) → MeetsLongs b m (files_change t t' f f' m0 m1 l0 l1) → MeetsLongs m a (files_change t' t'' f' f'' m1 m2 l1 l2) → MeetsLongs b a (files_change t t'' f f'' m0 m2 l0 l2)
longs_further b m a t t' t'' f f' f'' m0 m1 m2 l0 l1 l2 first second =
    let few = first.counts in
    let more = second.counts in
    record { counts = omega (arith, few, more); met = λ is. met (second.met is) }
  where
    earlier : (b.met_long ≡ true) ⊎ Rose l0 l1 → (b.met_long ≡ true) ⊎ Rose l0 l2
    earlier (inl is) = inl is
    earlier (inr rose) = inr (rose_behind l0 l1 l2 rose second.counts)

    met : (m.met_long ≡ true) ⊎ Rose l1 l2 → (b.met_long ≡ true) ⊎ Rose l0 l2
    met (inl is) = earlier (first.met is)
    met (inr rose) = inr (rose_before l0 l1 l2 first.counts rose)

pub caused_further : (A B : Type 0) (b m a : Harm) (t t' t'' : Option FileMap) (f f' f'' m0 m1 m2 l0 l1 l2 : ℕ) (out out' out'' : Option (List ℕ)) (g g' g'' : ℕ) (done : A) (result : Result B End) → AreCaused b m (files_change t t' f f' m0 m1 l0 l1) (sink_change out out' g g') (Ok done) → AreCaused m a (files_change t' t'' f' f'' m1 m2 l1 l2) (sink_change out' out'' g' g'') result → AreCaused b a (files_change t t'' f f'' m0 m2 l0 l2) (sink_change out out'' g g'') result
caused_further A B b m a t t' t'' f f' f'' m0 m1 m2 l0 l1 l2 out out' out'' g g' g'' done (Ok more) first second = (
  second.0 ∙ first.0,
  second.1 ∙ first.1,
  λ none.
      let last = second.2 none in
      let before = first.2 last.0 in
      (before.0, last.1 ∙ before.1, last.2 ∙ before.2),
  longs_further b m a t t' t'' f f' f'' m0 m1 m2 l0 l1 l2 first.3 second.3,
)
caused_further A B b m a t t' t'' f f' f'' m0 m1 m2 l0 l1 l2 out out' out'' g g' g'' done (Err (Unfetched line)) first second =
    (second.0 ∙ first.0, subst (λ (n : ℕ). Rose n f'') first.1 second.1)
caused_further A B b m a t t' t'' f f' f'' m0 m1 m2 l0 l1 l2 out out' out'' g g' g'' done (Err Unwritten) first second =
    subst (λ (n : ℕ). Rose n g'') first.0 second
caused_further A B b m a t t' t'' f f' f'' m0 m1 m2 l0 l1 l2 out out' out'' g g' g'' done (Err Memory) first second =
    second ∙ first.0
caused_further A B b m a t t' t'' f f' f'' m0 m1 m2 l0 l1 l2 out out' out'' g g' g'' done (Err Done) first second = absurd second
caused_further A B b m a t t' t'' f f' f'' m0 m1 m2 l0 l1 l2 out out' out'' g g' g'' done (Err Refused) first second = absurd second
caused_further A B b m a t t' t'' f f' f'' m0 m1 m2 l0 l1 l2 out out' out'' g g' g'' done (Err TooLong) first second = absurd second
caused_further A B b m a t t' t'' f f' f'' m0 m1 m2 l0 l1 l2 out out' out'' g g' g'' done (Err Unread) first second = absurd second

-- a stop is one of more
pub caused_stop : (A B : Type 0) (b a : Harm) (files : FilesChange) (sink : SinkChange) (end : End) (result : Result B End) → AreCaused {A = A} b a files sink (Err end) → result ≡ Err end → AreCaused b a files sink result
caused_stop A B b a files sink (Unfetched line) result is at = rw at is
caused_stop A B b a files sink Unwritten result is at = rw at is
caused_stop A B b a files sink Memory result is at = rw at is
caused_stop A B b a files sink Done result is at = rw at is
caused_stop A B b a files sink Refused result is at = rw at is
caused_stop A B b a files sink TooLong result is at = rw at is
caused_stop A B b a files sink Unread result is at = rw at is

-- ---- what was taken

-- nothing was taken yet
pub took_start : (left : Option (List ℕ)) (f : ℕ) → HasTaken (source_change left left f f) []
took_start left f = record { few = omega arith; taken = takes_nothing left; readable = refl }

pub took_few : (source : SourceChange) (bytes : List ℕ) → HasTaken source bytes → TakesFew source
took_few source bytes took = let few = took.few in record { bytes = bytes; taken = took.taken; few = omega arith }

-- a piece more
pub took_further : (b a : Harm) (files : FilesChange) (sink : SinkChange) (room count taken : ℕ) (left left' left'' : Option (List ℕ)) (f f' f'' : ℕ) (bytes : List ℕ) → HasTaken (source_change left left' f f') bytes → length bytes ≡ taken → TakesPiece room b a (source_change left' left'' f' f'') files sink (Ok count) → taken + room ≤ most_bytes → (more : List ℕ) × HasTaken (source_change left left'' f f'') more × (length more ≡ taken + count)
took_further b a files sink room count taken left left' left'' f f' f'' bytes took size piece fits =
    let joined = length-append bytes piece.0 in
    let total : length (bytes ++ piece.0) ≡ taken + count = omega (arith, piece.2) in (
      bytes ++ piece.0,
      record {
        few = omega (arith, total, piece.3);
        taken = takes_more bytes piece.0 left left' left'' took.taken piece.1;
        readable = piece.5 ∙ took.readable;
      },
      total,
    )

-- reading stopped in a piece
few_more : (room taken : ℕ) (left left' left'' : Option (List ℕ)) (f f' f'' : ℕ) (bytes piece : List ℕ) → HasTaken (source_change left left' f f') bytes → length bytes ≡ taken → taken + room ≤ most_bytes → Takes piece left' left'' → length piece ≤ room → TakesFew (source_change left left'' f f'')
few_more room taken left left' left'' f f' f'' bytes piece took size fits takes within =
    let joined = length-append bytes piece in
    record { bytes = bytes ++ piece; taken = takes_more bytes piece left left' left'' took.taken takes; few = omega arith }

took_stopped_by : (A : Type 0) (b m a : Harm) (t t' t'' : Option FileMap) (e e' e'' m0 m1 m2 l0 l1 l2 : ℕ) (out out' out'' : Option (List ℕ)) (g g' g'' : ℕ) (done : A) (room taken : ℕ) (left left' left'' : Option (List ℕ)) (f f' f'' : ℕ) (bytes : List ℕ) (end : End) → HasTaken (source_change left left' f f') bytes → length bytes ≡ taken → taken + room ≤ most_bytes → AreCaused b m (files_change t t' e e' m0 m1 l0 l1) (sink_change out out' g g') (Ok done) → TakesPiece room m a (source_change left' left'' f' f'') (files_change t' t'' e' e'' m1 m2 l1 l2) (sink_change out' out'' g' g'') (Err end) → TakesPieces b a (source_change left left'' f f'') (files_change t t'' e e'' m0 m2 l0 l2) (sink_change out out'' g g'') (Err end)
took_stopped_by A b m a t t' t'' e e' e'' m0 m1 m2 l0 l1 l2 out out' out'' g g' g'' done room taken left left' left'' f f' f'' bytes Unread took size fits caused piece =
    let T : Option (List ℕ) → Type 0 = λ l. Takes bytes left l in
    let few = took.few in (
      record { bytes = bytes; taken = subst T (sym piece.0) took.taken; few = omega arith },
      subst (λ (n : ℕ). Rose n f'') took.readable piece.1,
      piece.2 ∙ caused.0,
    )
took_stopped_by A b m a t t' t'' e e' e'' m0 m1 m2 l0 l1 l2 out out' out'' g g' g'' done room taken left left' left'' f f' f'' bytes (Unfetched line) took size fits caused piece = (
  few_more room taken left left' left'' f f' f'' bytes piece.0 took size fits piece.1 piece.2,
  piece.3 ∙ took.readable,
  caused_further A Bool b m a t t' t'' e e' e'' m0 m1 m2 l0 l1 l2 out out' out'' g g' g'' done (Err (Unfetched line)) caused piece.4,
)
took_stopped_by A b m a t t' t'' e e' e'' m0 m1 m2 l0 l1 l2 out out' out'' g g' g'' done room taken left left' left'' f f' f'' bytes Unwritten took size fits caused piece = (
  few_more room taken left left' left'' f f' f'' bytes piece.0 took size fits piece.1 piece.2,
  piece.3 ∙ took.readable,
  caused_further A Bool b m a t t' t'' e e' e'' m0 m1 m2 l0 l1 l2 out out' out'' g g' g'' done (Err Unwritten) caused piece.4,
)
took_stopped_by A b m a t t' t'' e e' e'' m0 m1 m2 l0 l1 l2 out out' out'' g g' g'' done room taken left left' left'' f f' f'' bytes Memory took size fits caused piece = (
  few_more room taken left left' left'' f f' f'' bytes piece.0 took size fits piece.1 piece.2,
  piece.3 ∙ took.readable,
  caused_further A Bool b m a t t' t'' e e' e'' m0 m1 m2 l0 l1 l2 out out' out'' g g' g'' done (Err Memory) caused piece.4,
)
took_stopped_by A b m a t t' t'' e e' e'' m0 m1 m2 l0 l1 l2 out out' out'' g g' g'' done room taken left left' left'' f f' f'' bytes Done took size fits caused piece = absurd piece.4
took_stopped_by A b m a t t' t'' e e' e'' m0 m1 m2 l0 l1 l2 out out' out'' g g' g'' done room taken left left' left'' f f' f'' bytes Refused took size fits caused piece = absurd piece.4
took_stopped_by A b m a t t' t'' e e' e'' m0 m1 m2 l0 l1 l2 out out' out'' g g' g'' done room taken left left' left'' f f' f'' bytes TooLong took size fits caused piece = absurd piece.4

pub took_stopped : (A : Type 0) (b m a : Harm) (t t' t'' : Option FileMap) (e e' e'' m0 m1 m2 l0 l1 l2 : ℕ) (out out' out'' : Option (List ℕ)) (g g' g'' : ℕ) (done : A) (room taken : ℕ) (left left' left'' : Option (List ℕ)) (f f' f'' : ℕ) (bytes : List ℕ) (end : End) (result : Result Bool End) → HasTaken (source_change left left' f f') bytes → length bytes ≡ taken → taken + room ≤ most_bytes → AreCaused b m (files_change t t' e e' m0 m1 l0 l1) (sink_change out out' g g') (Ok done) → TakesPiece room m a (source_change left' left'' f' f'') (files_change t' t'' e' e'' m1 m2 l1 l2) (sink_change out' out'' g' g'') (Err end) → result ≡ Err end → TakesPieces b a (source_change left left'' f f'') (files_change t t'' e e'' m0 m2 l0 l2) (sink_change out out'' g g'') result
took_stopped A b m a t t' t'' e e' e'' m0 m1 m2 l0 l1 l2 out out' out'' g g' g'' done room taken left left' left'' f f' f'' bytes end result took size fits caused piece at =
    rw at (took_stopped_by A b m a t t' t'' e e' e'' m0 m1 m2 l0 l1 l2 out out' out'' g g' g'' done room taken left left' left'' f f' f'' bytes end took size fits caused piece)

-- ---- the script

-- reading stopped in the pieces
pub script_stopped : (U : Type 0) (b a : Harm) (source : SourceChange) (files : FilesChange) (sink : SinkChange) (end : End) → TakesPieces b a source files sink (Err end) → TakesScript {U = U} b a source files sink (Err end) × TakesFew source
script_stopped U b a source files sink Unread takes = ((takes.1, takes.2), takes.0)
script_stopped U b a source files sink (Unfetched line) takes = ((takes.1, takes.2), takes.0)
script_stopped U b a source files sink Unwritten takes = ((takes.1, takes.2), takes.0)
script_stopped U b a source files sink Memory takes = ((takes.1, takes.2), takes.0)
script_stopped U b a source files sink Done takes = ((takes.1, takes.2), takes.0)
script_stopped U b a source files sink Refused takes = ((takes.1, takes.2), takes.0)
script_stopped U b a source files sink TooLong takes = absurd takes.2

-- the end wasn't reached
pub script_over : (U V A : Type 0) (b a : Harm) (ended : Bool) (left left' left'' : Option (List ℕ)) (f f' f'' : ℕ) (files : FilesChange) (sink : SinkChange) (bytes : List ℕ) (done : A) (end : End) → HasTaken (source_change left left' f f') bytes → StandsAt ended (source_change left left' f f') bytes → AreCaused b a files sink (Ok done) → ReachesEnd {U = V} ended left' left'' f' f'' (Err end) → TakesScript {U = U} b a (source_change left left'' f f'') files sink (Err end) × TakesFew (source_change left left'' f f'')
script_over U V A b a true left left' left'' f f' f'' files sink bytes done end took at caused reached = absurd reached
script_over U V A b a false left left' left'' f f' f'' files sink bytes done TooLong took at caused reached =
    let joined = length-append bytes reached.0 in
    let taken = takes_more bytes reached.0 left left' left'' took.taken reached.2 in
    let many : most_bytes < length (bytes ++ reached.0) = omega (arith, joined, at, reached.1) in
    let few : length (bytes ++ reached.0) ≤ 67108865 = omega (arith, joined, at, reached.1) in (
      (record { bytes = bytes ++ reached.0; taken = taken; many = many }, reached.3 ∙ took.readable, caused.0, caused.1, caused.3),
      record { bytes = bytes ++ reached.0; taken = taken; few = few },
    )
script_over U V A b a false left left' left'' f f' f'' files sink bytes done Unread took at caused reached =
    let T : Option (List ℕ) → Type 0 = λ l. Takes bytes left l in
    let few = took.few in (
      (subst (λ (n : ℕ). Rose n f'') took.readable reached.1, caused.0),
      record { bytes = bytes; taken = subst T (sym reached.0) took.taken; few = omega arith },
    )
script_over U V A b a false left left' left'' f f' f'' files sink bytes done Done took at caused reached = absurd reached
script_over U V A b a false left left' left'' f f' f'' files sink bytes done Refused took at caused reached = absurd reached
script_over U V A b a false left left' left'' f f' f'' files sink bytes done (Unfetched line) took at caused reached = absurd reached
script_over U V A b a false left left' left'' f f' f'' files sink bytes done Unwritten took at caused reached = absurd reached
script_over U V A b a false left left' left'' f f' f'' files sink bytes done Memory took at caused reached = absurd reached

-- the end was reached
takes_none : (before after : Option (List ℕ)) → Takes [] before after → before ≡ after
takes_none before None taken = taken
takes_none before (Some rest) taken = taken

pub took_all : (V : Type 0) (ended : Bool) (left left' left'' : Option (List ℕ)) (f f' f'' : ℕ) (bytes : List ℕ) (done : V) → HasTaken (source_change left left' f f') bytes → StandsAt ended (source_change left left' f f') bytes → ReachesEnd ended left' left'' f' f'' (Ok done) → HasTaken (source_change left left'' f f'') bytes × IfSome left'' (λ rest. rest ≡ [])
took_all V true left left' left'' f f' f'' bytes done took at reached =
    let T : Option (List ℕ) → Type 0 = λ l. Takes bytes left l in
    let E : Option (List ℕ) → Type 0 = λ l. IfSome l (λ rest. rest ≡ []) in
    (record { few = took.few; taken = subst T (sym reached.0) took.taken; readable = reached.1 ∙ took.readable }, subst E (sym reached.0) at)
took_all V false left left' left'' f f' f'' bytes done took at reached =
    let T : Option (List ℕ) → Type 0 = λ l. Takes bytes left l in
    (record { few = took.few; taken = subst T (takes_none left' left'' reached.0) took.taken; readable = reached.2 ∙ took.readable }, reached.1)

-- and the commands that are left were carried out
pub script_finished : (U : Type 0) (b a : Harm) (source : SourceChange) (files : FilesChange) (sink : SinkChange) (bytes : List ℕ) (result : Result U End) → IfSome source.after (λ rest. rest ≡ []) → HasTaken source bytes → AreCaused b a files sink result → TakesScript b a source files sink result
script_finished U b a source files sink bytes (Ok done) ended took caused =
    ((ended, took.readable, record { bytes = bytes; taken = took.taken; few = took.few }), caused)
script_finished U b a source files sink bytes (Err (Unfetched line)) ended took caused = (took.readable, caused)
script_finished U b a source files sink bytes (Err Unwritten) ended took caused = (took.readable, caused)
script_finished U b a source files sink bytes (Err Memory) ended took caused = (took.readable, caused)
script_finished U b a source files sink bytes (Err Done) ended took caused = absurd caused
script_finished U b a source files sink bytes (Err Refused) ended took caused = absurd caused
script_finished U b a source files sink bytes (Err TooLong) ended took caused = absurd caused
script_finished U b a source files sink bytes (Err Unread) ended took caused = absurd caused

-- ---- the end of a session

pub has_cause : (U : Type 0) (before after : Harm) (source : SourceChange) (files : FilesChange) (sink : SinkChange) (done : U) → TakesScript before after source files sink (Ok done) → HasCause source sink files (end_of after.refused)
has_cause U before after source files sink done takes = by after.refused refl
  where
    by : (refused : Bool) → after.refused ≡ refused → HasCause source sink files (end_of refused)
    by true is = (takes.0, takes.1.0, takes.1.1)
    by false is = let none = takes.1.2 is in (takes.0, takes.1.0, takes.1.1, none.1, none.2)
