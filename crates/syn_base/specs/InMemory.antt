-- What the forms in memory hold. Each numbers its calls from 1, and fails at the calls whose numbers
-- it was given.
use Rattle.std.specs.Prelude.{ℕ, ◌==◌, Bool, min, ◌||◌, List, length, if◌then◌else◌}
use Rattle.std.specs.List.{list_any}
use Rattle.syn_base.specs.Causes.{one_more}
use Rattle.syn_base.specs.Outside.{FileMap, is_failed, is_missing, is_too_long}
use Rattle.syn_base.specs.declared.outside.Fetched.{Fetched}

-- whether the call of this number is to fail
abbrev pub fails_at : List ℕ → ℕ → Bool
fails_at failing call = list_any (λ k. k == call) failing

-- files, and the counts of calls and of answers that aren't success
pub record HeldFiles : Type 0 where
  pub files : FileMap
  pub failing : List ℕ
  pub calls : ℕ
  pub faults : ℕ
  pub misses : ℕ
  pub longs : ℕ

-- a count after a call: one more where the call is counted
abbrev pub counting : Bool → ℕ → ℕ
counting counted count = if counted then one_more count else count

-- the files after a fetch with this answer
abbrev pub after_fetch : HeldFiles → Fetched → HeldFiles
after_fetch held answer = record {
  files = held.files;
  failing = held.failing;
  calls = one_more held.calls;
  faults = counting (is_failed answer) held.faults;
  misses = counting (is_missing answer) held.misses;
  longs = counting (is_too_long answer) held.longs;
}

-- the bytes to come, and the most of them that one call gives
pub record HeldSource : Type 0 where
  pub left : List ℕ
  pub most : ℕ
  pub failing : List ℕ
  pub calls : ℕ
  pub faults : ℕ

-- how many bytes a call moves that doesn't fail: as many as the buffer or the piece, the most of one
-- call, and what is left or the room that is left allow
abbrev pub moved : ℕ → ℕ → ℕ → ℕ
moved asked most rest = min asked (min most rest)

-- the bytes so far, the bytes that there is room for in all, and the most that one call takes
pub record HeldSink : Type 0 where
  pub bytes : List ℕ
  pub room : ℕ
  pub most : ℕ
  pub failing : List ℕ
  pub calls : ℕ
  pub faults : ℕ

-- whether the next call fails: its number is in the list, or the room is full
abbrev pub sink_fails : HeldSink → Bool
sink_fails held = fails_at held.failing (one_more held.calls) || length held.bytes == held.room
