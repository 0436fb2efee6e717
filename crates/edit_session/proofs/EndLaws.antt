-- What the end of a session says of a script whose bytes are told.
use Rattle.std.proofs.Common.{◌≡◌, ℕ, ◌+◌, ◌<◌, ◌≤◌, Bool, true, false, List, [], ◌++◌, length, take, refl, ap, sym, subst, ◌∙◌, append_assoc, arith}
use Rattle.std.specs.Prelude.{Option, Some, None, IfSome, option_map, if◌then◌else◌}
use Rattle.std.proofs.Math.Seq.{take-append_seam}
use Rattle.std.proofs.lemmas.Bool.Decides.{nat_tests}
use Rattle.std.proofs.lemmas.List.{append-nil, length-append}
use Rattle.syn_base.specs.Outside.{appended}
use Rattle.edit_script.specs.declared.commands.Entry.{Entry}
use Rattle.edit_script.specs.Entries.{entries_at_end, entries_of}
use Rattle.edit_session.specs.Ends.{ReadsOver, ReadsToEnd, SinkChange, SourceChange, Takes, TakesFew}
use Rattle.edit_session.specs.Painter.{Library}
use Rattle.edit_session.specs.Session.{Answer, Standing, entries_read, is_too_long, most_bytes, script_session, session}

-- of a source that is as it was none were taken
pub untouched_few : (source : SourceChange) → source.after ≡ source.before → TakesFew source
untouched_few source same = record {
  bytes = [];
  taken = sym same ∙ nothing source.after;
  few = omega arith;
}
  where
    nothing : (left : Option (List ℕ)) → left ≡ option_map (λ rest. [] ++ rest) left
    nothing None = refl
    nothing (Some rest) = refl

-- the bytes that were taken of a script are all of it
all_taken : (bytes all : List ℕ) (after : Option (List ℕ)) → Takes bytes (Some all) after → IfSome after (λ rest. rest ≡ []) → all ≡ bytes
all_taken bytes all None taken ended = absurd (cc)
all_taken bytes all (Some rest) taken ended =
    let is : all ≡ bytes ++ rest = cc in
    is ∙ ap (λ r. bytes ++ r) ended ∙ append-nil bytes

short : (bytes : List ℕ) → length bytes ≤ most_bytes → is_too_long bytes ≡ false
short bytes few = grind (arith, nat_tests)

-- so its commands are those of these bytes
pub entries_whole : (bytes all : List ℕ) (after : Option (List ℕ)) → Takes bytes (Some all) after → IfSome after (λ rest. rest ≡ []) → length bytes ≤ most_bytes → (is_too_long all ≡ false) × (entries_read all ≡ entries_at_end 0 bytes)
entries_whole bytes all after taken ended few =
    let same : all ≡ bytes = all_taken bytes all after taken ended in
    let brief : is_too_long all ≡ false = ap is_too_long same ∙ short bytes few in
    (brief, ap (λ (long : Bool). if long then entries_of 0 (take most_bytes all) else entries_at_end 0 all) brief ∙ ap (entries_at_end 0) same)

pub whole_told : (library : Library) (s : Standing) (refused : Bool) (source : SourceChange) (sink : SinkChange) (all : List ℕ) → ReadsToEnd library s refused source sink → source.before ≡ Some all → (is_too_long all ≡ false) × (sink.after ≡ appended sink.before (script_session library s all).text) × ((script_session library s all).stands.refused ≡ refused)
whole_told library s refused source sink all read told =
    let T : Option (List ℕ) → Type 0 = λ l. Takes read.bytes l source.after in
    let whole = entries_whole read.bytes all source.after (subst T told read.taken) read.ended read.few in
    let answer : script_session library s all ≡ session library s (entries_at_end 0 read.bytes) = ap (session library s) whole.1 in
    (whole.0, read.written ∙ ap (λ (a : Answer). appended sink.before a.text) (sym answer), ap (λ (a : Answer). a.stands.refused) answer ∙ read.refusals)

-- more bytes were taken than are read
over_taken : (bytes all : List ℕ) (after : Option (List ℕ)) → Takes bytes (Some all) after → (rest : List ℕ) × (all ≡ bytes ++ rest)
over_taken bytes all None taken = absurd (cc)
over_taken bytes all (Some rest) taken = (rest, cc)

long : (bytes : List ℕ) → most_bytes < length bytes → is_too_long bytes ≡ true
long bytes many = grind (arith, nat_tests)

pub entries_over : (bytes more all : List ℕ) (after : Option (List ℕ)) → Takes (bytes ++ more) (Some all) after → length bytes ≡ most_bytes → length more ≡ 1 → (is_too_long all ≡ true) × (entries_read all ≡ entries_of 0 bytes)
entries_over bytes more all after takes most one =
    let taken = over_taken (bytes ++ more) all after takes in
    let is : all ≡ bytes ++ (more ++ taken.0) = taken.1 ∙ append_assoc bytes more taken.0 in
    let first = length-append bytes (more ++ taken.0) in
    let second = length-append more taken.0 in
    let size : length all ≡ length bytes + (length more + length taken.0) = ap length is ∙ first ∙ ap (λ n. length bytes + n) second in
    let many : most_bytes < length all = omega (arith, size, most, one) in
    let verbose : is_too_long all ≡ true = long all many in
    let front : take most_bytes all ≡ bytes = ap (take most_bytes) is ∙ ap (λ n. take n (bytes ++ (more ++ taken.0))) (sym most) ∙ take-append_seam bytes (more ++ taken.0) in
    (verbose, ap (λ (b : Bool). if b then entries_of 0 (take most_bytes all) else entries_at_end 0 all) verbose ∙ ap (entries_of 0) front)

pub over_told : (library : Library) (s : Standing) (source : SourceChange) (sink : SinkChange) (all : List ℕ) → ReadsOver library s source sink → source.before ≡ Some all → (is_too_long all ≡ true) × (sink.after ≡ appended sink.before (script_session library s all).text)
over_told library s source sink all read told =
    let T : Option (List ℕ) → Type 0 = λ l. Takes (read.bytes ++ read.more) l source.after in
    let over = entries_over read.bytes read.more all source.after (subst T told read.taken) read.most read.one in
    (over.0, read.written ∙ ap (λ (es : List Entry). appended sink.before (session library s es).text) (sym over.1))
