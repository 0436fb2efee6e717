-- How a session over a source and a sink ends.
use Rattle.std.specs.Prelude.{◌≡◌, ◌⊎◌, ℕ, ◌<◌, ◌≤◌, Bool, true, false, List, [], ◌++◌, length, Contains, Option, Some, IfSome, option_map, ⊤}
use Rattle.syn_base.specs.Causes.{Rose}
use Rattle.syn_base.specs.Outside.{FileMap, appended}
use Rattle.edit_script.specs.Entries.{entries_at_end, entries_of}
use Rattle.edit_session.specs.declared.commands.Harm.{Harm}
use Rattle.edit_session.specs.declared.reading.End.{End}
use Rattle.edit_session.specs.declared.reading.End.TheVariants.{Done, Refused, TooLong, Unread, Unfetched, Unwritten, Memory}
use Rattle.edit_session.specs.Painter.{IsUnread, Library}
use Rattle.edit_session.specs.Session.{Standing, entries_read, most_bytes, script_session, session}

-- a source before and after a call: the bytes to come, where told, and its count of faults
pub record SourceChange : Type 0 where
  pub before : Option (List ℕ)
  pub after : Option (List ℕ)
  pub faults : ℕ
  pub faults_after : ℕ

-- a sink before and after a call: what it holds, where told, and its count of faults
pub record SinkChange : Type 0 where
  pub before : Option (List ℕ)
  pub after : Option (List ℕ)
  pub faults : ℕ
  pub faults_after : ℕ

-- files before and after a call: what they hold, where told, and their counts
pub record FilesChange : Type 0 where
  pub told : Option FileMap
  pub told_after : Option FileMap
  pub faults : ℕ
  pub faults_after : ℕ
  pub misses : ℕ
  pub misses_after : ℕ
  pub longs : ℕ
  pub longs_after : ℕ

abbrev pub source_change : Option (List ℕ) → Option (List ℕ) → ℕ → ℕ → SourceChange
source_change before after faults faults_after =
    record { before = before; after = after; faults = faults; faults_after = faults_after }

abbrev pub sink_change : Option (List ℕ) → Option (List ℕ) → ℕ → ℕ → SinkChange
sink_change before after faults faults_after =
    record { before = before; after = after; faults = faults; faults_after = faults_after }

abbrev pub files_change : Option FileMap → Option FileMap → ℕ → ℕ → ℕ → ℕ → ℕ → ℕ → FilesChange
files_change told told_after faults faults_after misses misses_after longs longs_after = record {
  told = told;
  told_after = told_after;
  faults = faults;
  faults_after = faults_after;
  misses = misses;
  misses_after = misses_after;
  longs = longs;
  longs_after = longs_after;
}

-- what a call did to a source, a sink and files, by what tells what each of them holds and its counts
abbrev pub source_between : {S : Type 0} → (S → Option (List ℕ)) → (S → ℕ) → S → S → SourceChange
source_between left faults old new = source_change (left old) (left new) (faults old) (faults new)

abbrev pub sink_between : {S : Type 0} → (S → Option (List ℕ)) → (S → ℕ) → S → S → SinkChange
sink_between written faults old new = sink_change (written old) (written new) (faults old) (faults new)

abbrev pub files_between :
    {F : Type 0} → (F → Option FileMap) → (F → ℕ) → (F → ℕ) → (F → ℕ) → F → F → FilesChange
files_between told faults misses longs old new =
    files_change (told old) (told new) (faults old) (faults new) (misses old) (misses new) (longs old) (longs new)

-- where the files are told
abbrev pub IfKnown : Option FileMap → (FileMap → Type 0) → Type 0
IfKnown told P = (known : FileMap) → told ≡ Some known → P known

-- these bytes were taken from the front of a source
abbrev pub Takes : List ℕ → Option (List ℕ) → Option (List ℕ) → Type 0
Takes bytes before after = before ≡ option_map (λ rest. bytes ++ rest) after

-- where told, at most so many bytes were taken of a script: 64 MiB, and one behind them
pub record TakesFew (source : SourceChange) : Type 0 where
  pub bytes : List ℕ
  pub taken : Takes bytes source.before source.after
  pub few : length bytes ≤ 67108865

-- ---- what was written, where the files are told

-- the script was read to its end, and all that its commands print was written
pub record ReadsToEnd (library : Library) (s : Standing) (refused : Bool) (source : SourceChange) (sink : SinkChange) : Type 0 where
  pub bytes : List ℕ
  pub few : length bytes ≤ most_bytes
  pub taken : Takes bytes source.before source.after
  pub ended : IfSome source.after (λ rest. rest ≡ [])
  pub written : sink.after ≡ appended sink.before (session library s (entries_at_end 0 bytes)).text
  pub refusals : (session library s (entries_at_end 0 bytes)).stands.refused ≡ refused
  pub readable : source.faults_after ≡ source.faults
  pub writable : sink.faults_after ≡ sink.faults

-- there are more bytes than are read of a script, of which one was taken; what the commands print whose last
-- line is whole within the most bytes was written
pub record ReadsOver (library : Library) (s : Standing) (source : SourceChange) (sink : SinkChange) : Type 0 where
  pub bytes : List ℕ
  pub more : List ℕ
  pub most : length bytes ≡ most_bytes
  pub one : length more ≡ 1
  pub taken : Takes (bytes ++ more) source.before source.after
  pub written : sink.after ≡ appended sink.before (session library s (entries_of 0 bytes)).text
  pub readable : source.faults_after ≡ source.faults
  pub writable : sink.faults_after ≡ sink.faults

-- a read failed behind these bytes; what the commands print whose last line is whole in them was written
pub record FailsBehind (library : Library) (s : Standing) (source : SourceChange) (sink : SinkChange) : Type 0 where
  pub bytes : List ℕ
  pub few : length bytes ≤ most_bytes
  pub taken : Takes bytes source.before source.after
  pub written : sink.after ≡ appended sink.before (session library s (entries_of 0 bytes)).text
  pub writable : sink.faults_after ≡ sink.faults
  pub unreadable : Rose source.faults source.faults_after

-- the line tells a file that can't be read, for which one of these syntaxes asks
pub record IsUnreadOf (library : Library) (names : List (List ℕ)) (line : List ℕ) : Type 0 where
  pub name : List ℕ
  pub asked : Contains names name
  pub unread : IsUnread library name line

-- a syntax that the script names couldn't be read, which the line tells
abbrev pub StopsAtFile : Library → Standing → SourceChange → List ℕ → Type 0
StopsAtFile library s source line =
    IfSome source.before (λ bytes. IsUnreadOf library (session library s (entries_read bytes)).asked line)

-- each end with what was written
abbrev pub EndsSo : Library → Standing → SourceChange → SinkChange → End → Type 0
EndsSo library s source sink Done = ReadsToEnd library s false source sink
EndsSo library s source sink Refused = ReadsToEnd library s true source sink
EndsSo library s source sink TooLong = ReadsOver library s source sink
EndsSo library s source sink Unread = FailsBehind library s source sink
EndsSo library s source sink (Unfetched line) = StopsAtFile library s source line
EndsSo library s source sink Unwritten = ⊤
EndsSo library s source sink Memory = ⊤

-- ---- causes, whatever the files say

-- more bytes of the script were taken than are read of one
pub record TakesMany (source : SourceChange) : Type 0 where
  pub bytes : List ℕ
  pub taken : Takes bytes source.before source.after
  pub many : most_bytes < length bytes

-- no more bytes were taken than are read of a script
pub record TakesWithin (source : SourceChange) : Type 0 where
  pub bytes : List ℕ
  pub taken : Takes bytes source.before source.after
  pub few : length bytes ≤ most_bytes

-- nothing is left of the script, which isn't too long, and no read of it failed
abbrev pub IsReadWhole : SourceChange → Type 0
IsReadWhole source =
    IfSome source.after (λ rest. rest ≡ []) × (source.faults_after ≡ source.faults) × TakesWithin source

-- where no command is refused behind these, none was before, and no file was absent or too long
abbrev pub IsUnharmed : Harm → Harm → FilesChange → Type 0
IsUnharmed before after files =
    after.refused ≡ false
    → (before.refused ≡ false) × (files.misses_after ≡ files.misses) × (files.longs_after ≡ files.longs)

-- the count of files that are too long didn't fall, and where a command met one, one did so before these or the count rose
pub record MeetsLongs (before after : Harm) (files : FilesChange) : Type 0 where
  pub counts : files.longs ≤ files.longs_after
  pub met : after.met_long ≡ true → (before.met_long ≡ true) ⊎ Rose files.longs files.longs_after

-- a script that was read to its end with a refusal, or past the most bytes of one: where a command of it names a syntax of
-- which a file is too long, the count of such files rose
abbrev pub LongsRise : Library → Standing → Option (List ℕ) → FilesChange → Type 0
LongsRise library s script files = IfSome script (λ bytes.
    (script_session library s bytes).stands.met_long ≡ true → Rose files.longs files.longs_after)

abbrev pub CountsLongs : Library → Standing → Option (List ℕ) → FilesChange → End → Type 0
CountsLongs library s script files Refused = LongsRise library s script files
CountsLongs library s script files TooLong = LongsRise library s script files
CountsLongs library s script files end = ⊤

-- each end with its cause
abbrev pub HasCause : SourceChange → SinkChange → FilesChange → End → Type 0
HasCause source sink files Done =
    IsReadWhole source × (sink.faults_after ≡ sink.faults) × (files.faults_after ≡ files.faults)
    × (files.misses_after ≡ files.misses) × (files.longs_after ≡ files.longs)
HasCause source sink files Refused =
    IsReadWhole source × (sink.faults_after ≡ sink.faults) × (files.faults_after ≡ files.faults)
HasCause source sink files TooLong =
    TakesMany source × (source.faults_after ≡ source.faults) × (sink.faults_after ≡ sink.faults)
    × (files.faults_after ≡ files.faults)
HasCause source sink files Unread = Rose source.faults source.faults_after × (sink.faults_after ≡ sink.faults)
HasCause source sink files (Unfetched line) =
    (source.faults_after ≡ source.faults) × (sink.faults_after ≡ sink.faults) × Rose files.faults files.faults_after
HasCause source sink files Unwritten = (source.faults_after ≡ source.faults) × Rose sink.faults sink.faults_after
HasCause source sink files Memory = (source.faults_after ≡ source.faults) × (sink.faults_after ≡ sink.faults)
