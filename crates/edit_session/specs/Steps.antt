-- What the steps of a session say.
use Rattle.std.specs.Prelude.{◌≡◌, ℕ, ◌+◌, ◌-◌, ◌<◌, ◌≤◌, Bool, true, false, List, [], ◌++◌, length, take, Option, IfSome, Result, Ok, Err, ⊤}
use Rattle.syn_base.specs.declared.places.Span.{Span}
use Rattle.syn_base.specs.Causes.{Rose}
use Rattle.syn_base.specs.Outside.{AppendsPrefix, appended}
use Rattle.edit_session.specs.declared.commands.Commands.{Commands}
use Rattle.edit_session.specs.declared.commands.Harm.{Harm}
use Rattle.edit_session.specs.declared.document.Untaken.{Untaken}
use Rattle.edit_session.specs.declared.document.Untaken.TheVariants as untaken
use Rattle.edit_session.specs.declared.reading.End.{End}
use Rattle.edit_session.specs.declared.reading.End.TheVariants.{Done, Refused, TooLong, Unread, Unfetched, Unwritten, Memory}
use Rattle.text_buffer.specs.TextOfBytes.{most_lines}
use Rattle.edit_script.specs.declared.commands.Entry.{Entry}
use Rattle.edit_script.specs.declared.commands.Resolved.{Resolved}
use Rattle.edit_script.specs.declared.commands.Resolved.TheVariants.{Replace, Move, CopyTo, Print, Ex, Page, Folds, Syntax}
use Rattle.edit_script.specs.Entries.{entries_of, kept_of}
use Rattle.edit_script.specs.Kept.{Kept}
use Rattle.edit_session.specs.Ends.{FailsBehind, FilesChange, IsReadWhole, IsUnharmed, IsUnreadOf, MeetsLongs, ReadsOver, ReadsToEnd, SinkChange, SourceChange, StopsAtFile, Takes, TakesFew, TakesMany}
use Rattle.edit_session.specs.Painter.{Library, Painter}
use Rattle.edit_session.specs.Session.{Answer, Standing, entries_read, most_bytes, script_session, session, session_costs}

-- what stands, by the commands and by what tells of their document the lines, the spans and the painter
abbrev pub standing :
    {D : Type 0} → (D → List (List ℕ)) → (D → List (List Span)) → (D → Painter) → Commands D → Standing
standing lines shown painter commands = record {
  number = commands.number;
  painter = painter commands.document;
  painted = record { text = lines commands.document; spans = shown commands.document };
  refused = (commands.harm).refused;
  met_long = (commands.harm).met_long;
}

-- a command with so many lines fits a text of so many; one that names a syntax is none of them
abbrev pub FitsText : ℕ → ℕ → Resolved → Type 0
FitsText count new (Replace a b) = (a ≤ b) × (b ≤ count) × (count - (b - a) + new ≤ most_lines)
FitsText count new (Move a b dest) = (a ≤ b) × (b ≤ count) × (dest ≤ count) × (count ≤ most_lines)
FitsText count new (CopyTo a b dest) = (a ≤ b) × (b ≤ count) × (dest ≤ count) × (count + (b - a) ≤ most_lines)
FitsText count new (Print a b) = (a ≤ b) × (b ≤ count)
FitsText count new (Ex a b) = (a < b) × (b ≤ count)
FitsText count new Page = ⊤
FitsText count new Folds = ⊤
FitsText count new Syntax = ⊥

-- the text is that of the answer, and so is what stands now; or memory ran out
abbrev pub GivesAnswer : {E : Type 0} → Result (List ℕ) E → Standing → Answer → Type 0
GivesAnswer (Ok text) now answer = (text ≡ answer.text) × (now ≡ answer.stands)
GivesAnswer (Err e) now answer = ⊤

-- the same where the command may name a syntax, a file of which couldn't be read
abbrev pub GivesOrStops : Library → Result (List ℕ) End → Standing → Answer → Type 0
GivesOrStops library (Ok text) now answer = (text ≡ answer.text) × (now ≡ answer.stands)
GivesOrStops library (Err (Unfetched line)) now answer = IsUnreadOf library answer.asked line
GivesOrStops library (Err end) now answer = ⊤

-- the answer's text was written whole and it stands now as the answer says; or a part of the text, from
-- its front, was written, and a write failed, a file couldn't be read or memory ran out
abbrev pub Answers : {U : Type 0} → Library → Answer → Standing → SinkChange → Result U End → Type 0
Answers library answer now sink (Ok done) = (sink.after ≡ appended sink.before answer.text) × (now ≡ answer.stands)
Answers library answer now sink (Err (Unfetched line)) =
    AppendsPrefix sink.before sink.after answer.text × IsUnreadOf library answer.asked line
Answers library answer now sink (Err end) = AppendsPrefix sink.before sink.after answer.text

-- ---- causes, whatever the files say

-- a syntax was put in force, and each file that was asked for was there; or it was refused, a file was too long or
-- couldn't be read, or memory ran out
abbrev pub IsTakingCaused : {A : Type 0} → FilesChange → Result A Untaken → Type 0
IsTakingCaused files (Ok told) =
    (files.faults_after ≡ files.faults) × (files.misses_after ≡ files.misses) × (files.longs_after ≡ files.longs)
IsTakingCaused files (Err (untaken.Refused words)) =
    (files.faults_after ≡ files.faults) × (files.longs_after ≡ files.longs)
IsTakingCaused files (Err (untaken.TooLong words)) =
    (files.faults_after ≡ files.faults) × Rose files.longs files.longs_after
IsTakingCaused files (Err (untaken.Unread line)) = Rose files.faults files.faults_after
IsTakingCaused files (Err untaken.Memory) = ⊤

-- a command takes no refusal back, and meets no file
pub record KeepsHarm (before after : Harm) : Type 0 where
  pub refused : after.refused ≡ false → before.refused ≡ false
  pub met_long : after.met_long ≡ before.met_long

-- a command was answered; or a file couldn't be read, or memory ran out
abbrev pub IsAnswerCaused : {A : Type 0} → Harm → Harm → FilesChange → Result A End → Type 0
IsAnswerCaused before after files (Ok text) =
    (files.faults_after ≡ files.faults) × IsUnharmed before after files × MeetsLongs before after files
IsAnswerCaused before after files (Err (Unfetched line)) = Rose files.faults files.faults_after
IsAnswerCaused before after files (Err Memory) = ⊤
IsAnswerCaused before after files (Err end) = ⊥

-- commands were answered and all was written; or a file couldn't be read, a write failed, or memory ran out
abbrev pub AreCaused : {A : Type 0} → Harm → Harm → FilesChange → SinkChange → Result A End → Type 0
AreCaused before after files sink (Ok done) =
    (sink.faults_after ≡ sink.faults)
    × (files.faults_after ≡ files.faults)
    × IsUnharmed before after files
    × MeetsLongs before after files
AreCaused before after files sink (Err (Unfetched line)) =
    (sink.faults_after ≡ sink.faults) × Rose files.faults files.faults_after
AreCaused before after files sink (Err Unwritten) = Rose sink.faults sink.faults_after
AreCaused before after files sink (Err Memory) = sink.faults_after ≡ sink.faults
AreCaused before after files sink (Err end) = ⊥

-- ---- reading

-- bytes were taken into the front of a buffer, none only at the end; or a read failed, and nothing was taken
abbrev pub TakesBytes : Option (List ℕ) → Option (List ℕ) → ℕ → ℕ → List ℕ → Result ℕ End → Type 0
TakesBytes before after faults faults_after buffer (Ok count) =
    (count ≤ length buffer)
    × Takes (take count buffer) before after
    × (count ≡ 0 → IfSome after (λ rest. rest ≡ []))
    × (faults_after ≡ faults)
TakesBytes before after faults faults_after buffer (Err Unread) = (after ≡ before) × Rose faults faults_after
TakesBytes before after faults faults_after buffer (Err end) = ⊥

-- the end of the script was reached, or as many bytes were read as are read of one
abbrev pub StandsAt : Bool → SourceChange → List ℕ → Type 0
StandsAt true source bytes = IfSome source.after (λ rest. rest ≡ [])
StandsAt false source bytes = length bytes ≡ most_bytes

-- a count of painted lines before and after a call
pub record StepsChange : Type 0 where
  pub before : ℕ
  pub after : ℕ

abbrev pub steps_change : ℕ → ℕ → StepsChange
steps_change before after = record { before = before; after = after }

-- it rose by the lines that these commands may paint, at most
abbrev pub PaintsFew : Library → Standing → StepsChange → List Entry → Type 0
PaintsFew library s steps entries = steps.after ≤ steps.before + session_costs library s entries

-- these bytes were taken, and the commands whose last line is whole in them were answered
pub record HasRead
    (library : Library) (s now : Standing) (kept : Kept)
    (source : SourceChange) (sink : SinkChange) (steps : StepsChange) (bytes : List ℕ) : Type 0 where
  pub few : length bytes ≤ most_bytes
  pub taken : Takes bytes source.before source.after
  pub keeps : kept ≡ kept_of 0 bytes
  pub stands : now ≡ (session library s (entries_of 0 bytes)).stands
  pub written : sink.after ≡ appended sink.before (session library s (entries_of 0 bytes)).text
  pub painted : PaintsFew library s steps (entries_of 0 bytes)

-- no more happened than the script asks for: where the source tells, a part of what its script prints was written, and
-- as many lines were painted as it may paint, at most
pub record StaysWithin
    (library : Library) (s : Standing) (source : SourceChange) (sink : SinkChange) (steps : StepsChange) : Type 0 where
  pub part : IfSome source.before (λ bytes.
      AppendsPrefix sink.before sink.after (session library s (entries_read bytes)).text)
  pub painted : IfSome source.before (λ bytes. PaintsFew library s steps (entries_read bytes))

-- a piece was taken and fed, and the commands that became whole were answered, or a part of them
abbrev pub ReadsPiece :
    Library → Standing → Standing → Kept → Kept → ℕ → SourceChange → SinkChange → StepsChange → Result ℕ End → Type 0
ReadsPiece library now next kept kept' room source sink steps (Ok count) =
    (piece : List ℕ)
    × Takes piece source.before source.after
    × (length piece ≡ count)
    × (count ≤ room)
    × (count ≡ 0 → IfSome source.after (λ rest. rest ≡ []))
    × (kept' ≡ kept_of kept.lines (kept.bytes ++ piece))
    × (next ≡ (session library now (entries_of kept.lines (kept.bytes ++ piece))).stands)
    × (sink.after ≡ appended sink.before (session library now (entries_of kept.lines (kept.bytes ++ piece))).text)
    × PaintsFew library now steps (entries_of kept.lines (kept.bytes ++ piece))
ReadsPiece library now next kept kept' room source sink steps (Err Unread) =
    (source.after ≡ source.before)
    × Rose source.faults source.faults_after
    × (sink.after ≡ sink.before)
    × (sink.faults_after ≡ sink.faults)
    × (steps.after ≡ steps.before)
ReadsPiece library now next kept kept' room source sink steps (Err (Unfetched line)) =
    (piece : List ℕ)
    × Takes piece source.before source.after
    × (length piece ≤ room)
    × AppendsPrefix sink.before sink.after (session library now (entries_of kept.lines (kept.bytes ++ piece))).text
    × PaintsFew library now steps (entries_of kept.lines (kept.bytes ++ piece))
    × IsUnreadOf library (session library now (entries_of kept.lines (kept.bytes ++ piece))).asked line
ReadsPiece library now next kept kept' room source sink steps (Err end) =
    (piece : List ℕ)
    × Takes piece source.before source.after
    × (length piece ≤ room)
    × AppendsPrefix sink.before sink.after (session library now (entries_of kept.lines (kept.bytes ++ piece))).text
    × PaintsFew library now steps (entries_of kept.lines (kept.bytes ++ piece))

-- a read or a write failed, a file couldn't be read, or memory ran out, before the end of the script
abbrev pub StopsSo : Library → Standing → SourceChange → SinkChange → StepsChange → End → Type 0
StopsSo library s source sink steps Unread = FailsBehind library s source sink × StaysWithin library s source sink steps
StopsSo library s source sink steps (Unfetched line) =
    StopsAtFile library s source line × StaysWithin library s source sink steps
StopsSo library s source sink steps end = StaysWithin library s source sink steps

abbrev pub ReadsPieces :
    Library → Standing → Standing → Kept → SourceChange → SinkChange → StepsChange → Result Bool End → Type 0
ReadsPieces library s now kept source sink steps (Ok ended) =
    (bytes : List ℕ)
    × HasRead library s now kept source sink steps bytes
    × StandsAt ended source bytes
ReadsPieces library s now kept source sink steps (Err end) = StopsSo library s source sink steps end

abbrev pub EndsReading : {U : Type 0} → Library → Standing → Bool → SourceChange → SinkChange → Result U End → Type 0
EndsReading library s refused source sink (Ok done) = ReadsToEnd library s refused source sink
EndsReading library s refused source sink (Err TooLong) = ReadsOver library s source sink
EndsReading library s refused source sink (Err Unread) = FailsBehind library s source sink
EndsReading library s refused source sink (Err (Unfetched line)) = StopsAtFile library s source line
EndsReading library s refused source sink (Err end) = ⊤

-- where a script was read to its end, or past the most bytes of one, a command met a file that is too long just where
-- the files say so
abbrev pub MeetsAsTold : {U : Type 0} → Library → Standing → Option (List ℕ) → Bool → Result U End → Type 0
MeetsAsTold library s script met (Ok done) =
    IfSome script (λ bytes. (script_session library s bytes).stands.met_long ≡ met)
MeetsAsTold library s script met (Err TooLong) =
    IfSome script (λ bytes. (script_session library s bytes).stands.met_long ≡ met)
MeetsAsTold library s script met (Err end) = ⊤

-- ---- reading, whatever the files say

-- a piece was taken, and what became whole with it was carried out
abbrev pub TakesPiece : ℕ → Harm → Harm → SourceChange → FilesChange → SinkChange → Result ℕ End → Type 0
TakesPiece room before after source files sink (Ok count) =
    (piece : List ℕ)
    × Takes piece source.before source.after
    × (length piece ≡ count)
    × (count ≤ room)
    × (count ≡ 0 → IfSome source.after (λ rest. rest ≡ []))
    × (source.faults_after ≡ source.faults)
    × AreCaused before after files sink (Ok count)
TakesPiece room before after source files sink (Err Unread) =
    (source.after ≡ source.before) × Rose source.faults source.faults_after × (sink.faults_after ≡ sink.faults)
TakesPiece room before after source files sink (Err end) =
    (piece : List ℕ)
    × Takes piece source.before source.after
    × (length piece ≤ room)
    × (source.faults_after ≡ source.faults)
    × AreCaused {A = ℕ} before after files sink (Err end)

-- these bytes were taken
pub record HasTaken (source : SourceChange) (bytes : List ℕ) : Type 0 where
  pub few : length bytes ≤ most_bytes
  pub taken : Takes bytes source.before source.after
  pub readable : source.faults_after ≡ source.faults

-- pieces were taken up to the end, or up to the most bytes; or something failed before
abbrev pub TakesPieces : Harm → Harm → SourceChange → FilesChange → SinkChange → Result Bool End → Type 0
TakesPieces before after source files sink (Ok ended) =
    (bytes : List ℕ)
    × HasTaken source bytes
    × StandsAt ended source bytes
    × AreCaused before after files sink (Ok ended)
TakesPieces before after source files sink (Err Unread) =
    TakesFew source × Rose source.faults source.faults_after × (sink.faults_after ≡ sink.faults)
TakesPieces before after source files sink (Err end) =
    TakesFew source × (source.faults_after ≡ source.faults) × AreCaused {A = Bool} before after files sink (Err end)

-- behind the end nothing is taken; behind the most bytes of a script a further one is too much
abbrev pub ReachesEnd : {U : Type 0} → Bool → Option (List ℕ) → Option (List ℕ) → ℕ → ℕ → Result U End → Type 0
ReachesEnd true before after faults faults_after (Ok done) = (after ≡ before) × (faults_after ≡ faults)
ReachesEnd true before after faults faults_after (Err end) = ⊥
ReachesEnd false before after faults faults_after (Ok done) =
    Takes [] before after × IfSome after (λ rest. rest ≡ []) × (faults_after ≡ faults)
ReachesEnd false before after faults faults_after (Err TooLong) =
    (more : List ℕ) × (length more ≡ 1) × Takes more before after × (faults_after ≡ faults)
ReachesEnd false before after faults faults_after (Err Unread) = (after ≡ before) × Rose faults faults_after
ReachesEnd false before after faults faults_after (Err end) = ⊥

-- the script was read to its end or past the most bytes of one, or something failed
abbrev pub TakesScript : {U : Type 0} → Harm → Harm → SourceChange → FilesChange → SinkChange → Result U End → Type 0
TakesScript before after source files sink (Ok done) = IsReadWhole source × AreCaused before after files sink (Ok done)
TakesScript before after source files sink (Err TooLong) =
    TakesMany source × (source.faults_after ≡ source.faults) × (sink.faults_after ≡ sink.faults)
    × (files.faults_after ≡ files.faults)
    × MeetsLongs before after files
TakesScript before after source files sink (Err Unread) =
    Rose source.faults source.faults_after × (sink.faults_after ≡ sink.faults)
TakesScript {U} before after source files sink (Err end) =
    (source.faults_after ≡ source.faults) × AreCaused {A = U} before after files sink (Err end)

abbrev pub end_of : Bool → End
end_of true = Refused
end_of false = Done
