-- What was read so far, and what is read next.
use Rattle.std.proofs.Common.{◌≡◌, ℕ, ◌+◌, ◌-◌, ◌≤◌, Bool, true, false, List, [], ◌++◌, length, take, refl, ap, sym, subst, ◌∙◌, append_assoc, arith}
use Rattle.std.specs.Prelude.{Option, Some, None, IfSome, Result, Ok, Err, option_map, if◌then◌else◌}
use Rattle.std.proofs.Math.Seq.{take-append-add}
use Rattle.std.proofs.lemmas.Bool.Decides.{nat_tests}
use Rattle.std.proofs.lemmas.List.{append-nil, length-append}
use Rattle.syn_base.specs.Causes.{Rose}
use Rattle.syn_base.specs.Outside.{AppendsPrefix, appended}
use Rattle.edit_script.specs.declared.commands.Entry.{Entry}
use Rattle.edit_script.specs.Entries.{entries_at_end, entries_of, kept_of}
use Rattle.edit_script.specs.Kept.{Kept}
use Rattle.edit_script.proofs.StandingLaws.{end_two, entries_two, kept_two}
use Rattle.edit_session.specs.Ends.{FilesChange, IsUnreadOf, SinkChange, SourceChange, Takes, sink_change, source_change}
use Rattle.edit_session.specs.Painter.{Library}
use Rattle.edit_session.specs.Session.{Answer, Standing, behind, entries_read, is_too_long, most_bytes, session, session_costs}
use Rattle.edit_session.specs.declared.commands.Harm.{Harm}
use Rattle.edit_session.specs.declared.reading.End.{End}
use Rattle.edit_session.specs.declared.reading.End.TheVariants.{Done, Refused, TooLong, Unread, Unfetched, Unwritten, Memory}
use Rattle.edit_session.specs.Steps.{Answers, AreCaused, EndsReading, HasRead, ReachesEnd, ReadsPiece, ReadsPieces, StandsAt, StaysWithin, StepsChange, StopsSo, TakesPieces, steps_change}
use Rattle.edit_session.proofs.SessionLaws.{appended_nothing, appended_twice, appends_all, appends_behind, appends_of_more, costs_joined, session_joined, unread_before, unread_behind}

-- ---- sources

pub takes_nothing : (left : Option (List ℕ)) → Takes [] left left
takes_nothing None = refl
takes_nothing (Some rest) = refl

pub takes_more : (one two : List ℕ) (before middle after : Option (List ℕ)) → Takes one before middle → Takes two middle after → Takes (one ++ two) before after
takes_more one two before middle None first second = first ∙ ap (option_map (λ rest. one ++ rest)) second
takes_more one two before middle (Some rest) first second =
    first ∙ ap (option_map (λ rest. one ++ rest)) second ∙ ap Some (sym (append_assoc one two rest))

-- ---- entries

-- the entries of more bytes, behind those of the first ones
entries_of_more : (bytes more : List ℕ) → (entries : List Entry) × (entries_of 0 (bytes ++ more) ≡ entries_of 0 bytes ++ entries)
entries_of_more bytes more = (entries_of (kept_of 0 bytes).lines ((kept_of 0 bytes).bytes ++ more), entries_two 0 bytes more)

take_within : (most : ℕ) (bytes rest : List ℕ) → length bytes ≤ most → take most (bytes ++ rest) ≡ bytes ++ take (most - length bytes) rest
take_within most bytes rest few =
    let split : most ≡ length bytes + (most - length bytes) = omega arith in
    ap (λ n. take n (bytes ++ rest)) split ∙ take-append-add bytes rest (most - length bytes)

read_by_length : (long : Bool) (bytes : List ℕ) (first : List ℕ) (rest : List ℕ) → bytes ≡ first ++ rest → length first ≤ most_bytes → (entries : List Entry) × ((if long then entries_of 0 (take most_bytes bytes) else entries_at_end 0 bytes) ≡ entries_of 0 first ++ entries)
read_by_length true bytes first rest is few =
    let more = entries_of_more first (take (most_bytes - length first) rest) in
    (more.0, ap (λ b. entries_of 0 (take most_bytes b)) is ∙ ap (entries_of 0) (take_within most_bytes first rest few) ∙ more.1)
read_by_length false bytes first rest is few =
    let more = entries_of_more first rest in
    let last : List Entry = entries_at_end (kept_of 0 (first ++ rest)).lines (kept_of 0 (first ++ rest)).bytes in
    (more.0 ++ last, ap (entries_at_end 0) is ∙ end_two 0 (first ++ rest) ∙ ap (λ es. es ++ last) more.1 ∙ append_assoc (entries_of 0 first) more.0 last)

-- the entries that are read of a script that begins with these bytes
entries_read_more : (bytes rest : List ℕ) → length bytes ≤ most_bytes → (entries : List Entry) × (entries_read (bytes ++ rest) ≡ entries_of 0 bytes ++ entries)
entries_read_more bytes rest few = read_by_length (is_too_long (bytes ++ rest)) (bytes ++ rest) bytes rest refl few

short : (bytes : List ℕ) → length bytes ≤ most_bytes → is_too_long bytes ≡ false
short bytes few = grind (arith, nat_tests)

entries_read_all : (bytes : List ℕ) → length bytes ≤ most_bytes → entries_read bytes ≡ entries_at_end 0 bytes
entries_read_all bytes few = rw (short bytes few) refl

-- ---- what was written is a part of what the script prints

part_told : (library : Library) (s : Standing) (bytes rest : List ℕ) (out out' : Option (List ℕ)) → length bytes ≤ most_bytes → AppendsPrefix out out' (session library s (entries_of 0 bytes)).text → AppendsPrefix out out' (session library s (entries_read (bytes ++ rest))).text
part_told library s bytes rest out out' few part =
    let more = entries_read_more bytes rest few in
    let P : List ℕ → Type 0 = AppendsPrefix out out' in
    let joined = ap (λ (a : Answer). a.text) (ap (session library s) more.1 ∙ session_joined library s (entries_of 0 bytes) more.0) in
    subst P (sym joined) (appends_of_more out out' _ (session library (session library s (entries_of 0 bytes)).stands more.0).text part)

pub part_written : (library : Library) (s : Standing) (left left' out out' : Option (List ℕ)) (bytes : List ℕ) → length bytes ≤ most_bytes → Takes bytes left left' → AppendsPrefix out out' (session library s (entries_of 0 bytes)).text → IfSome left (λ all. AppendsPrefix out out' (session library s (entries_read all)).text)
part_written library s None left' out out' bytes few taken part = tt
part_written library s (Some all) None out out' bytes few taken part = absurd (cc)
part_written library s (Some all) (Some rest) out out' bytes few taken part =
    let is : all ≡ bytes ++ rest = cc in
    let P : List ℕ → Type 0 = λ a. AppendsPrefix out out' (session library s (entries_read a)).text in
    subst P (sym is) (part_told library s bytes rest out out' few part)

pub end_written : (library : Library) (s : Standing) (left left' out out' : Option (List ℕ)) (bytes : List ℕ) → length bytes ≤ most_bytes → Takes bytes left left' → IfSome left' (λ rest. rest ≡ []) → AppendsPrefix out out' (session library s (entries_at_end 0 bytes)).text → IfSome left (λ all. AppendsPrefix out out' (session library s (entries_read all)).text)
end_written library s None left' out out' bytes few taken ended part = tt
end_written library s (Some all) None out out' bytes few taken ended part = absurd (cc)
end_written library s (Some all) (Some rest) out out' bytes few taken ended part =
    let is : all ≡ bytes ++ rest = cc in
    let whole : all ≡ bytes = is ∙ ap (λ r. bytes ++ r) ended ∙ append-nil bytes in
    let P : List ℕ → Type 0 = λ a. AppendsPrefix out out' (session library s (entries_read a)).text in
    let Q : List Entry → Type 0 = λ es. AppendsPrefix out out' (session library s es).text in
    subst P (sym whole) (subst Q (sym (entries_read_all bytes few)) part)

-- ---- and as many lines were painted as it may paint, at most

painted_told : (library : Library) (s : Standing) (bytes rest : List ℕ) (n n' : ℕ) → length bytes ≤ most_bytes → n' ≤ n + session_costs library s (entries_of 0 bytes) → n' ≤ n + session_costs library s (entries_read (bytes ++ rest))
painted_told library s bytes rest n n' few painted =
    let more = entries_read_more bytes rest few in
    let joined : session_costs library s (entries_read (bytes ++ rest)) ≡ session_costs library s (entries_of 0 bytes) + session_costs library (session library s (entries_of 0 bytes)).stands more.0 =
    ap (session_costs library s) more.1 ∙ costs_joined library s (entries_of 0 bytes) more.0 in
    omega arith

painted_part : (library : Library) (s : Standing) (left left' : Option (List ℕ)) (n n' : ℕ) (bytes : List ℕ) → length bytes ≤ most_bytes → Takes bytes left left' → n' ≤ n + session_costs library s (entries_of 0 bytes) → IfSome left (λ all. n' ≤ n + session_costs library s (entries_read all))
painted_part library s None left' n n' bytes few taken painted = tt
painted_part library s (Some all) None n n' bytes few taken painted = absurd (cc)
painted_part library s (Some all) (Some rest) n n' bytes few taken painted =
    let is : all ≡ bytes ++ rest = cc in
    let P : List ℕ → Type 0 = λ a. n' ≤ n + session_costs library s (entries_read a) in
    subst P (sym is) (painted_told library s bytes rest n n' few painted)

painted_whole : (library : Library) (s : Standing) (left left' : Option (List ℕ)) (n n' : ℕ) (bytes : List ℕ) → length bytes ≤ most_bytes → Takes bytes left left' → IfSome left' (λ rest. rest ≡ []) → n' ≤ n + session_costs library s (entries_at_end 0 bytes) → IfSome left (λ all. n' ≤ n + session_costs library s (entries_read all))
painted_whole library s None left' n n' bytes few taken ended painted = tt
painted_whole library s (Some all) None n n' bytes few taken ended painted = absurd (cc)
painted_whole library s (Some all) (Some rest) n n' bytes few taken ended painted =
    let is : all ≡ bytes ++ rest = cc in
    let whole : all ≡ bytes = is ∙ ap (λ r. bytes ++ r) ended ∙ append-nil bytes in
    let P : List ℕ → Type 0 = λ a. n' ≤ n + session_costs library s (entries_read a) in
    let Q : List Entry → Type 0 = λ es. n' ≤ n + session_costs library s es in
    subst P (sym whole) (subst Q (sym (entries_read_all bytes few)) painted)

-- ---- a file that can't be read is one for which the script asks

unread_told : (library : Library) (s : Standing) (bytes rest line : List ℕ) → length bytes ≤ most_bytes → IsUnreadOf library (session library s (entries_of 0 bytes)).asked line → IsUnreadOf library (session library s (entries_read (bytes ++ rest))).asked line
unread_told library s bytes rest line few unread =
    let more = entries_read_more bytes rest few in
    let R : Answer → Type 0 = λ a. IsUnreadOf library a.asked line in
    let first = session library s (entries_of 0 bytes) in
    let joined = ap (session library s) more.1 ∙ session_joined library s (entries_of 0 bytes) more.0 in
    subst R (sym joined) (unread_before library first (session library first.stands more.0) line unread)

unread_part : (library : Library) (s : Standing) (left left' : Option (List ℕ)) (bytes line : List ℕ) → length bytes ≤ most_bytes → Takes bytes left left' → IsUnreadOf library (session library s (entries_of 0 bytes)).asked line → IfSome left (λ all. IsUnreadOf library (session library s (entries_read all)).asked line)
unread_part library s None left' bytes line few taken unread = tt
unread_part library s (Some all) None bytes line few taken unread = absurd (cc)
unread_part library s (Some all) (Some rest) bytes line few taken unread =
    let is : all ≡ bytes ++ rest = cc in
    let R : List ℕ → Type 0 = λ a. IsUnreadOf library (session library s (entries_read a)).asked line in
    subst R (sym is) (unread_told library s bytes rest line few unread)

unread_whole : (library : Library) (s : Standing) (left left' : Option (List ℕ)) (bytes line : List ℕ) → length bytes ≤ most_bytes → Takes bytes left left' → IfSome left' (λ rest. rest ≡ []) → IsUnreadOf library (session library s (entries_at_end 0 bytes)).asked line → IfSome left (λ all. IsUnreadOf library (session library s (entries_read all)).asked line)
unread_whole library s None left' bytes line few taken ended unread = tt
unread_whole library s (Some all) None bytes line few taken ended unread = absurd (cc)
unread_whole library s (Some all) (Some rest) bytes line few taken ended unread =
    let is : all ≡ bytes ++ rest = cc in
    let whole : all ≡ bytes = is ∙ ap (λ r. bytes ++ r) ended ∙ append-nil bytes in
    let R : List ℕ → Type 0 = λ a. IsUnreadOf library (session library s (entries_read a)).asked line in
    let Q : List Entry → Type 0 = λ es. IsUnreadOf library (session library s es).asked line in
    subst R (sym whole) (subst Q (sym (entries_read_all bytes few)) unread)

-- ---- steps

-- the commands whose last line is whole in the bytes that were taken were answered, or a part of them
within_part : (library : Library) (s : Standing) (left left' out out' : Option (List ℕ)) (f f' g g' n n' : ℕ) (bytes : List ℕ) → length bytes ≤ most_bytes → Takes bytes left left' → AppendsPrefix out out' (session library s (entries_of 0 bytes)).text → n' ≤ n + session_costs library s (entries_of 0 bytes) → StaysWithin library s (source_change left left' f f') (sink_change out out' g g') (steps_change n n')
within_part library s left left' out out' f f' g g' n n' bytes few taken part painted = record {
  part = part_written library s left left' out out' bytes few taken part;
  painted = painted_part library s left left' n n' bytes few taken painted;
}

-- nothing was taken, written or painted
pub within_nothing : (library : Library) (s : Standing) (left out : Option (List ℕ)) (f g n : ℕ) → StaysWithin library s (source_change left left f f) (sink_change out out g g) (steps_change n n)
within_nothing library s left out f g n =
    within_part library s left left out out f f g g n n [] (omega arith) (takes_nothing left) (appends_all out out [] (appended_nothing out)) (omega arith)

-- all commands were answered, or a part of them
within_whole : (library : Library) (s : Standing) (left left' out out' : Option (List ℕ)) (f f' g g' n n' : ℕ) (bytes : List ℕ) → length bytes ≤ most_bytes → Takes bytes left left' → IfSome left' (λ rest. rest ≡ []) → AppendsPrefix out out' (session library s (entries_at_end 0 bytes)).text → n' ≤ n + session_costs library s (entries_at_end 0 bytes) → StaysWithin library s (source_change left left' f f') (sink_change out out' g g') (steps_change n n')
within_whole library s left left' out out' f f' g g' n n' bytes few taken ended part painted = record {
  part = end_written library s left left' out out' bytes few taken ended part;
  painted = painted_whole library s left left' n n' bytes few taken ended painted;
}

-- nothing was read yet
pub read_start : (library : Library) (s : Standing) (kept : Kept) (left out : Option (List ℕ)) (f f' g n : ℕ) → kept ≡ record { lines = 0; bytes = [] } → HasRead library s s kept (source_change left left f f') (sink_change out out g g) (steps_change n n) []
read_start library s kept left out f f' g n fresh = record {
  few = omega arith;
  taken = takes_nothing left;
  keeps = fresh;
  stands = refl;
  written = appended_nothing out;
  painted = omega arith;
}

-- what a piece more makes whole
joined_by_piece : (library : Library) (s now : Standing) (kept : Kept) (source : SourceChange) (sink : SinkChange) (steps : StepsChange) (bytes piece : List ℕ) → HasRead library s now kept source sink steps bytes → session library s (entries_of 0 (bytes ++ piece)) ≡ behind (session library s (entries_of 0 bytes)) (session library now (entries_of kept.lines (kept.bytes ++ piece)))
joined_by_piece library s now kept source sink steps bytes piece read =
    let E : Kept → List Entry = λ k. entries_of k.lines (k.bytes ++ piece) in
    let first = session library s (entries_of 0 bytes) in
    ap (session library s) (entries_two 0 bytes piece)
    ∙ session_joined library s (entries_of 0 bytes) (E (kept_of 0 bytes))
    ∙ ap (λ k. behind first (session library first.stands (E k))) (sym read.keeps)
    ∙ ap (λ t. behind first (session library t (E kept))) (sym read.stands)

-- the commands that are left at the end
pub joined_at_end : (library : Library) (s now : Standing) (kept : Kept) (source : SourceChange) (sink : SinkChange) (steps : StepsChange) (bytes : List ℕ) → HasRead library s now kept source sink steps bytes → session library s (entries_at_end 0 bytes) ≡ behind (session library s (entries_of 0 bytes)) (session library now (entries_at_end kept.lines kept.bytes))
joined_at_end library s now kept source sink steps bytes read =
    let E : Kept → List Entry = λ k. entries_at_end k.lines k.bytes in
    let first = session library s (entries_of 0 bytes) in
    ap (session library s) (end_two 0 bytes)
    ∙ session_joined library s (entries_of 0 bytes) (E (kept_of 0 bytes))
    ∙ ap (λ k. behind first (session library first.stands (E k))) (sym read.keeps)
    ∙ ap (λ t. behind first (session library t (E kept))) (sym read.stands)

-- what the commands may paint that a piece more makes whole
costs_further : (library : Library) (s now : Standing) (kept : Kept) (source : SourceChange) (sink : SinkChange) (steps : StepsChange) (bytes piece : List ℕ) → HasRead library s now kept source sink steps bytes → session_costs library s (entries_of 0 (bytes ++ piece)) ≡ session_costs library s (entries_of 0 bytes) + session_costs library now (entries_of kept.lines (kept.bytes ++ piece))
costs_further library s now kept source sink steps bytes piece read =
    let E : Kept → List Entry = λ k. entries_of k.lines (k.bytes ++ piece) in
    let first = session_costs library s (entries_of 0 bytes) in
    ap (session_costs library s) (entries_two 0 bytes piece)
    ∙ costs_joined library s (entries_of 0 bytes) (E (kept_of 0 bytes))
    ∙ ap (λ k. first + session_costs library (session library s (entries_of 0 bytes)).stands (E k)) (sym read.keeps)
    ∙ ap (λ t. first + session_costs library t (E kept)) (sym read.stands)

-- and those that are left at the end
costs_at_end : (library : Library) (s now : Standing) (kept : Kept) (source : SourceChange) (sink : SinkChange) (steps : StepsChange) (bytes : List ℕ) → HasRead library s now kept source sink steps bytes → session_costs library s (entries_at_end 0 bytes) ≡ session_costs library s (entries_of 0 bytes) + session_costs library now (entries_at_end kept.lines kept.bytes)
costs_at_end library s now kept source sink steps bytes read =
    let E : Kept → List Entry = λ k. entries_at_end k.lines k.bytes in
    let first = session_costs library s (entries_of 0 bytes) in
    ap (session_costs library s) (end_two 0 bytes)
    ∙ costs_joined library s (entries_of 0 bytes) (E (kept_of 0 bytes))
    ∙ ap (λ k. first + session_costs library (session library s (entries_of 0 bytes)).stands (E k)) (sym read.keeps)
    ∙ ap (λ t. first + session_costs library t (E kept)) (sym read.stands)

-- a piece was read, and the commands that it made whole were answered
pub read_further : (library : Library) (s now next : Standing) (kept kept' : Kept) (left left' left'' out out' out'' : Option (List ℕ)) (f f' f'' g g' g'' n n' n'' : ℕ) (bytes piece : List ℕ) → HasRead library s now kept (source_change left left' f f') (sink_change out out' g g') (steps_change n n') bytes → Takes piece left' left'' → length (bytes ++ piece) ≤ most_bytes → kept' ≡ kept_of kept.lines (kept.bytes ++ piece) → next ≡ (session library now (entries_of kept.lines (kept.bytes ++ piece))).stands → out'' ≡ appended out' (session library now (entries_of kept.lines (kept.bytes ++ piece))).text → n'' ≤ n' + session_costs library now (entries_of kept.lines (kept.bytes ++ piece)) → HasRead library s next kept' (source_change left left'' f f'') (sink_change out out'' g g'') (steps_change n n'') (bytes ++ piece)
read_further library s now next kept kept' left left' left'' out out' out'' f f' f'' g g' g'' n n' n'' bytes piece read taken few keeps stands written painted =
    let costs = costs_further library s now kept (source_change left left' f f') (sink_change out out' g g') (steps_change n n') bytes piece read in
    let joined = joined_by_piece library s now kept (source_change left left' f f') (sink_change out out' g g') (steps_change n n') bytes piece read in
    let so_far = read.painted in
    let K : Kept → Kept = λ k. kept_of k.lines (k.bytes ++ piece) in
    let more = session library now (entries_of kept.lines (kept.bytes ++ piece)) in
    record {
      few = few;
      taken = takes_more bytes piece left left' left'' read.taken taken;
      keeps = keeps ∙ ap K read.keeps ∙ sym (kept_two 0 bytes piece);
      stands = stands ∙ ap (λ (a : Answer). a.stands) (sym joined);
      written = written ∙ ap (λ o. appended o more.text) read.written ∙ appended_twice out _ _ ∙ ap (λ (a : Answer). appended out a.text) (sym joined);
      painted = omega arith;
    }

-- an answer stopped in the middle of a piece
within_further : (library : Library) (s now : Standing) (kept : Kept) (left left' left'' out out' out'' : Option (List ℕ)) (f f' f'' g g' g'' n n' n'' : ℕ) (bytes piece : List ℕ) → HasRead library s now kept (source_change left left' f f') (sink_change out out' g g') (steps_change n n') bytes → Takes piece left' left'' → length (bytes ++ piece) ≤ most_bytes → AppendsPrefix out' out'' (session library now (entries_of kept.lines (kept.bytes ++ piece))).text → n'' ≤ n' + session_costs library now (entries_of kept.lines (kept.bytes ++ piece)) → StaysWithin library s (source_change left left'' f f'') (sink_change out out'' g g'') (steps_change n n'')
within_further library s now kept left left' left'' out out' out'' f f' f'' g g' g'' n n' n'' bytes piece read taken few part painted =
    let costs = costs_further library s now kept (source_change left left' f f') (sink_change out out' g g') (steps_change n n') bytes piece read in
    let joined = joined_by_piece library s now kept (source_change left left' f f') (sink_change out out' g g') (steps_change n n') bytes piece read in
    let so_far = read.painted in
    let more = session library now (entries_of kept.lines (kept.bytes ++ piece)) in
    let P : Answer → Type 0 = λ a. AppendsPrefix out out'' a.text in
    within_part library s left left'' out out'' f f'' g g'' n n'' (bytes ++ piece) few (takes_more bytes piece left left' left'' read.taken taken)
    (subst P (sym joined) (appends_behind out out' out'' _ more.text read.written part)) (omega arith)

-- nothing more is read
within_so_far : (library : Library) (s now : Standing) (kept : Kept) (left left' out out' : Option (List ℕ)) (f f' f'' g g' n n' : ℕ) (bytes : List ℕ) → HasRead library s now kept (source_change left left' f f') (sink_change out out' g g') (steps_change n n') bytes → StaysWithin library s (source_change left left' f f'') (sink_change out out' g g') (steps_change n n')
within_so_far library s now kept left left' out out' f f' f'' g g' n n' bytes read =
    within_part library s left left' out out' f f'' g g' n n' bytes read.few read.taken (appends_all out out' _ read.written) read.painted

-- ---- pieces

-- a piece more was read
pub pieces_further : (library library' : Library) → library' ≡ library → (s now next : Standing) (kept kept' : Kept) (room count taken : ℕ) (left left' left'' out out' out'' : Option (List ℕ)) (f f' f'' g g' g'' n n' n'' : ℕ) (bytes : List ℕ) → HasRead library s now kept (source_change left left' f f') (sink_change out out' g g') (steps_change n n') bytes → length bytes ≡ taken → ReadsPiece library' now next kept kept' room (source_change left' left'' f' f'') (sink_change out' out'' g' g'') (steps_change n' n'') (Ok count) → taken + room ≤ most_bytes → (more : List ℕ) × HasRead library s next kept' (source_change left left'' f f'') (sink_change out out'' g g'') (steps_change n n'') more × (length more ≡ taken + count)
pieces_further library library' same s now next kept kept' room count taken left left' left'' out out' out'' f f' f'' g g' g'' n n' n'' bytes read size given fits =
    let R : Library → Type 0 = λ q. ReadsPiece q now next kept kept' room (source_change left' left'' f' f'') (sink_change out' out'' g' g'') (steps_change n' n'') (Ok count) in
    let piece : R library = subst R same given in
    let joined = length-append bytes piece.0 in
    let total : length (bytes ++ piece.0) ≡ taken + count = omega (arith, piece.2) in (
      bytes ++ piece.0,
      read_further library s now next kept kept' left left' left'' out out' out'' f f' f'' g g' g'' n n' n'' bytes piece.0 read piece.1 (omega (arith, total, piece.3)) piece.5 piece.6 piece.7 piece.8,
      total,
    )

-- reading stopped in a piece, a part of whose commands was answered
stopped_in : (library : Library) (s now : Standing) (kept : Kept) (room taken : ℕ) (left left' left'' out out' out'' : Option (List ℕ)) (f f' f'' g g' g'' n n' n'' : ℕ) (bytes : List ℕ) → HasRead library s now kept (source_change left left' f f') (sink_change out out' g g') (steps_change n n') bytes → length bytes ≡ taken → taken + room ≤ most_bytes → (piece : List ℕ) → Takes piece left' left'' → length piece ≤ room → AppendsPrefix out' out'' (session library now (entries_of kept.lines (kept.bytes ++ piece))).text → n'' ≤ n' + session_costs library now (entries_of kept.lines (kept.bytes ++ piece)) → StaysWithin library s (source_change left left'' f f'') (sink_change out out'' g g'') (steps_change n n'')
stopped_in library s now kept room taken left left' left'' out out' out'' f f' f'' g g' g'' n n' n'' bytes read size fits piece takes few part painted =
    let joined = length-append bytes piece in
    within_further library s now kept left left' left'' out out' out'' f f' f'' g g' g'' n n' n'' bytes piece read takes (omega arith) part painted

stopped_by : (library : Library) (s now next : Standing) (kept kept' : Kept) (room taken : ℕ) (left left' left'' out out' out'' : Option (List ℕ)) (f f' f'' g g' g'' n n' n'' : ℕ) (bytes : List ℕ) (end : End) → HasRead library s now kept (source_change left left' f f') (sink_change out out' g g') (steps_change n n') bytes → length bytes ≡ taken → taken + room ≤ most_bytes → f' ≡ f → g' ≡ g → ReadsPiece library now next kept kept' room (source_change left' left'' f' f'') (sink_change out' out'' g' g'') (steps_change n' n'') (Err end) → StopsSo library s (source_change left left'' f f'') (sink_change out out'' g g'') (steps_change n n'') end
stopped_by library s now next kept kept' room taken left left' left'' out out' out'' f f' f'' g g' g'' n n' n'' bytes Unread read size fits readable writable piece =
    let same_left : left'' ≡ left' = piece.0 in
    let same_out : out'' ≡ out' = piece.2 in
    let same_steps : n'' ≡ n' = piece.4 in
    let so_far = read.painted in
    let taken : Takes bytes left left'' = let T : Option (List ℕ) → Type 0 = λ l. Takes bytes left l in subst T (sym same_left) read.taken in
    let written : out'' ≡ appended out (session library s (entries_of 0 bytes)).text = same_out ∙ read.written in (
      record {
        bytes = bytes;
        few = read.few;
        taken = taken;
        written = written;
        writable = piece.3 ∙ writable;
        unreadable = subst (λ (m : ℕ). Rose m f'') readable piece.1;
      },
      within_part library s left left'' out out'' f f'' g g'' n n'' bytes read.few taken (appends_all out out'' _ written) (omega arith),
    )
stopped_by library s now next kept kept' room taken left left' left'' out out' out'' f f' f'' g g' g'' n n' n'' bytes (Unfetched line) read size fits readable writable piece =
    let joined = joined_by_piece library s now kept (source_change left left' f f') (sink_change out out' g g') (steps_change n n') bytes piece.0 read in
    let total = length-append bytes piece.0 in
    let few : length (bytes ++ piece.0) ≤ most_bytes = omega (arith, total, piece.2) in
    let R : Answer → Type 0 = λ a. IsUnreadOf library a.asked line in
    let more = session library now (entries_of kept.lines (kept.bytes ++ piece.0)) in (
      unread_part library s left left'' (bytes ++ piece.0) line few (takes_more bytes piece.0 left left' left'' read.taken piece.1)
          (subst R (sym joined) (unread_behind library (session library s (entries_of 0 bytes)) more line piece.5)),
      stopped_in library s now kept room taken left left' left'' out out' out'' f f' f'' g g' g'' n n' n'' bytes read size fits piece.0 piece.1 piece.2 piece.3 piece.4,
    )
stopped_by library s now next kept kept' room taken left left' left'' out out' out'' f f' f'' g g' g'' n n' n'' bytes Unwritten read size fits readable writable piece =
    stopped_in library s now kept room taken left left' left'' out out' out'' f f' f'' g g' g'' n n' n'' bytes read size fits piece.0 piece.1 piece.2 piece.3 piece.4
stopped_by library s now next kept kept' room taken left left' left'' out out' out'' f f' f'' g g' g'' n n' n'' bytes Memory read size fits readable writable piece =
    stopped_in library s now kept room taken left left' left'' out out' out'' f f' f'' g g' g'' n n' n'' bytes read size fits piece.0 piece.1 piece.2 piece.3 piece.4
stopped_by library s now next kept kept' room taken left left' left'' out out' out'' f f' f'' g g' g'' n n' n'' bytes Done read size fits readable writable piece =
    stopped_in library s now kept room taken left left' left'' out out' out'' f f' f'' g g' g'' n n' n'' bytes read size fits piece.0 piece.1 piece.2 piece.3 piece.4
stopped_by library s now next kept kept' room taken left left' left'' out out' out'' f f' f'' g g' g'' n n' n'' bytes Refused read size fits readable writable piece =
    stopped_in library s now kept room taken left left' left'' out out' out'' f f' f'' g g' g'' n n' n'' bytes read size fits piece.0 piece.1 piece.2 piece.3 piece.4
stopped_by library s now next kept kept' room taken left left' left'' out out' out'' f f' f'' g g' g'' n n' n'' bytes TooLong read size fits readable writable piece =
    stopped_in library s now kept room taken left left' left'' out out' out'' f f' f'' g g' g'' n n' n'' bytes read size fits piece.0 piece.1 piece.2 piece.3 piece.4

pub pieces_stopped : (library library' : Library) → library' ≡ library → (s now next : Standing) (kept kept' : Kept) (room taken : ℕ) (left left' left'' out out' out'' : Option (List ℕ)) (f f' f'' g g' g'' n n' n'' : ℕ) (bytes : List ℕ) (end : End) (result : Result Bool End) → HasRead library s now kept (source_change left left' f f') (sink_change out out' g g') (steps_change n n') bytes → length bytes ≡ taken → f' ≡ f → g' ≡ g → ReadsPiece library' now next kept kept' room (source_change left' left'' f' f'') (sink_change out' out'' g' g'') (steps_change n' n'') (Err end) → taken + room ≤ most_bytes → result ≡ Err end → ReadsPieces library s next kept' (source_change left left'' f f'') (sink_change out out'' g g'') (steps_change n n'') result
pieces_stopped library library' same s now next kept kept' room taken left left' left'' out out' out'' f f' f'' g g' g'' n n' n'' bytes end result read size readable writable given fits at =
    let R : Library → Type 0 = λ q. ReadsPiece q now next kept kept' room (source_change left' left'' f' f'') (sink_change out' out'' g' g'') (steps_change n' n'') (Err end) in
    rw at (stopped_by library s now next kept kept' room taken left left' left'' out out' out'' f f' f'' g g' g'' n n' n'' bytes end read size fits readable writable (subst R same given))

-- ---- the end

takes_none : (before after : Option (List ℕ)) → Takes [] before after → before ≡ after
takes_none before None taken = taken
takes_none before (Some rest) taken = taken

-- no piece says that a script is too long, so what stopped the pieces is the end of reading
pub stopped_reading : (U : Type 0) (library : Library) (s : Standing) (refused : Bool) (before after : Harm) (source : SourceChange) (files : FilesChange) (sink : SinkChange) (steps : StepsChange) (end : End) → StopsSo library s source sink steps end → TakesPieces before after source files sink (Err end) → EndsReading {U = U} library s refused source sink (Err end) × StaysWithin library s source sink steps
stopped_reading U library s refused before after source files sink steps Unread stops takes = stops
stopped_reading U library s refused before after source files sink steps (Unfetched line) stops takes = stops
stopped_reading U library s refused before after source files sink steps Unwritten stops takes = (tt, stops)
stopped_reading U library s refused before after source files sink steps Memory stops takes = (tt, stops)
stopped_reading U library s refused before after source files sink steps Done stops takes = (tt, stops)
stopped_reading U library s refused before after source files sink steps Refused stops takes = (tt, stops)
stopped_reading U library s refused before after source files sink steps TooLong stops takes = absurd takes.2

-- the end wasn't reached: there are more bytes, or the next read failed
pub over_end : (U V : Type 0) (library : Library) (s now : Standing) (refused ended : Bool) (kept : Kept) (left left' left'' out out' : Option (List ℕ)) (f f' f'' g g' n n' : ℕ) (bytes : List ℕ) (end : End) → HasRead library s now kept (source_change left left' f f') (sink_change out out' g g') (steps_change n n') bytes → StandsAt ended (source_change left left' f f') bytes → f' ≡ f → g' ≡ g → ReachesEnd {U = V} ended left' left'' f' f'' (Err end) → EndsReading {U = U} library s refused (source_change left left'' f f'') (sink_change out out' g g') (Err end) × StaysWithin library s (source_change left left'' f f'') (sink_change out out' g g') (steps_change n n')
over_end U V library s now refused true kept left left' left'' out out' f f' f'' g g' n n' bytes end read at readable writable reached = absurd reached
over_end U V library s now refused false kept left left' left'' out out' f f' f'' g g' n n' bytes TooLong read at readable writable reached =
    let within = within_so_far library s now kept left left' out out' f f' f'' g g' n n' bytes read in (
      record {
        bytes = bytes;
        more = reached.0;
        most = at;
        one = reached.1;
        taken = takes_more bytes reached.0 left left' left'' read.taken reached.2;
        written = read.written;
        readable = reached.3 ∙ readable;
        writable = writable;
      },
      record { part = within.part; painted = within.painted },
    )
over_end U V library s now refused false kept left left' left'' out out' f f' f'' g g' n n' bytes Unread read at readable writable reached =
    let taken : Takes bytes left left'' = let T : Option (List ℕ) → Type 0 = λ l. Takes bytes left l in subst T (sym reached.0) read.taken in (
      record {
        bytes = bytes;
        few = read.few;
        taken = taken;
        written = read.written;
        writable = writable;
        unreadable = subst (λ (m : ℕ). Rose m f'') readable reached.1;
      },
      within_part library s left left'' out out' f f'' g g' n n' bytes read.few taken (appends_all out out' _ read.written) read.painted,
    )
over_end U V library s now refused false kept left left' left'' out out' f f' f'' g g' n n' bytes Done read at readable writable reached = absurd reached
over_end U V library s now refused false kept left left' left'' out out' f f' f'' g g' n n' bytes Refused read at readable writable reached = absurd reached
over_end U V library s now refused false kept left left' left'' out out' f f' f'' g g' n n' bytes (Unfetched line) read at readable writable reached = absurd reached
over_end U V library s now refused false kept left left' left'' out out' f f' f'' g g' n n' bytes Unwritten read at readable writable reached = absurd reached
over_end U V library s now refused false kept left left' left'' out out' f f' f'' g g' n n' bytes Memory read at readable writable reached = absurd reached

-- the end was reached
pub reached_end : (V : Type 0) (library : Library) (s now : Standing) (ended : Bool) (kept : Kept) (left left' left'' out out' : Option (List ℕ)) (f f' f'' g g' n n' : ℕ) (bytes : List ℕ) (done : V) → HasRead library s now kept (source_change left left' f f') (sink_change out out' g g') (steps_change n n') bytes → StandsAt ended (source_change left left' f f') bytes → ReachesEnd ended left' left'' f' f'' (Ok done) → HasRead library s now kept (source_change left left'' f f'') (sink_change out out' g g') (steps_change n n') bytes × IfSome left'' (λ rest. rest ≡ [])
reached_end V library s now true kept left left' left'' out out' f f' f'' g g' n n' bytes done read at reached =
    let same : left'' ≡ left' = reached.0 in
    let T : Option (List ℕ) → Type 0 = λ l. Takes bytes left l in
    let E : Option (List ℕ) → Type 0 = λ l. IfSome l (λ rest. rest ≡ []) in
    (record { few = read.few; taken = subst T (sym same) read.taken; keeps = read.keeps; stands = read.stands; written = read.written; painted = read.painted }, subst E (sym same) at)
reached_end V library s now false kept left left' left'' out out' f f' f'' g g' n n' bytes done read at reached =
    let same : left' ≡ left'' = takes_none left' left'' reached.0 in
    let T : Option (List ℕ) → Type 0 = λ l. Takes bytes left l in
    (record { few = read.few; taken = subst T same read.taken; keeps = read.keeps; stands = read.stands; written = read.written; painted = read.painted }, reached.1)

within_end : (library : Library) (s now : Standing) (kept : Kept) (left left' out out' out'' : Option (List ℕ)) (f f' g g' g'' n n' n'' : ℕ) (bytes : List ℕ) → HasRead library s now kept (source_change left left' f f') (sink_change out out' g g') (steps_change n n') bytes → IfSome left' (λ rest. rest ≡ []) → AppendsPrefix out' out'' (session library now (entries_at_end kept.lines kept.bytes)).text → n'' ≤ n' + session_costs library now (entries_at_end kept.lines kept.bytes) → StaysWithin library s (source_change left left' f f') (sink_change out out'' g g'') (steps_change n n'')
within_end library s now kept left left' out out' out'' f f' g g' g'' n n' n'' bytes read ended part painted =
    let costs = costs_at_end library s now kept (source_change left left' f f') (sink_change out out' g g') (steps_change n n') bytes read in
    let so_far = read.painted in
    let P : Answer → Type 0 = λ a. AppendsPrefix out out'' a.text in
    within_whole library s left left' out out'' f f' g g'' n n'' bytes read.few read.taken ended
    (subst P (sym (joined_at_end library s now kept (source_change left left' f f') (sink_change out out' g g') (steps_change n n') bytes read)) (appends_behind out out' out'' _ (session library now (entries_at_end kept.lines kept.bytes)).text read.written part)) (omega arith)

-- the commands that are left were answered
finished_by : (U : Type 0) (library : Library) (s now next : Standing) (kept : Kept) (left left' out out' out'' : Option (List ℕ)) (f f' g g' g'' n n' n'' : ℕ) (bytes : List ℕ) (before after : Harm) (files : FilesChange) (result : Result U End) → HasRead library s now kept (source_change left left' f f') (sink_change out out' g g') (steps_change n n') bytes → IfSome left' (λ rest. rest ≡ []) → f' ≡ f → g' ≡ g → Answers library (session library now (entries_at_end kept.lines kept.bytes)) next (sink_change out' out'' g' g'') result → n'' ≤ n' + session_costs library now (entries_at_end kept.lines kept.bytes) → AreCaused before after files (sink_change out' out'' g' g'') result → EndsReading library s next.refused (source_change left left' f f') (sink_change out out'' g g'') result × StaysWithin library s (source_change left left' f f') (sink_change out out'' g g'') (steps_change n n'')
finished_by U library s now next kept left left' out out' out'' f f' g g' g'' n n' n'' bytes before after files (Ok done) read ended readable writable answered painted caused =
    let joined = joined_at_end library s now kept (source_change left left' f f') (sink_change out out' g g') (steps_change n n') bytes read in
    let rest = session library now (entries_at_end kept.lines kept.bytes) in
    let whole : out'' ≡ appended out (session library s (entries_at_end 0 bytes)).text =
    answered.0 ∙ ap (λ o. appended o rest.text) read.written ∙ appended_twice out _ _ ∙ ap (λ (a : Answer). appended out a.text) (sym joined) in (
      record {
        bytes = bytes;
        few = read.few;
        taken = read.taken;
        ended = ended;
        written = whole;
        refusals = ap (λ (a : Answer). a.stands.refused) joined ∙ ap (λ (t : Standing). t.refused) (sym answered.1);
        readable = readable;
        writable = caused.0 ∙ writable;
      },
      within_end library s now kept left left' out out' out'' f f' g g' g'' n n' n'' bytes read ended (appends_all out' out'' _ answered.0) painted,
    )
finished_by U library s now next kept left left' out out' out'' f f' g g' g'' n n' n'' bytes before after files (Err (Unfetched line)) read ended readable writable answered painted caused =
    let joined = joined_at_end library s now kept (source_change left left' f f') (sink_change out out' g g') (steps_change n n') bytes read in
    let rest = session library now (entries_at_end kept.lines kept.bytes) in
    let R : Answer → Type 0 = λ a. IsUnreadOf library a.asked line in (
      unread_whole library s left left' bytes line read.few read.taken ended
          (subst R (sym joined) (unread_behind library (session library s (entries_of 0 bytes)) rest line answered.1)),
      within_end library s now kept left left' out out' out'' f f' g g' g'' n n' n'' bytes read ended answered.0 painted,
    )
finished_by U library s now next kept left left' out out' out'' f f' g g' g'' n n' n'' bytes before after files (Err Unwritten) read ended readable writable answered painted caused =
    (tt, within_end library s now kept left left' out out' out'' f f' g g' g'' n n' n'' bytes read ended answered painted)
finished_by U library s now next kept left left' out out' out'' f f' g g' g'' n n' n'' bytes before after files (Err Memory) read ended readable writable answered painted caused =
    (tt, within_end library s now kept left left' out out' out'' f f' g g' g'' n n' n'' bytes read ended answered painted)
finished_by U library s now next kept left left' out out' out'' f f' g g' g'' n n' n'' bytes before after files (Err Done) read ended readable writable answered painted caused = absurd caused
finished_by U library s now next kept left left' out out' out'' f f' g g' g'' n n' n'' bytes before after files (Err Refused) read ended readable writable answered painted caused = absurd caused
finished_by U library s now next kept left left' out out' out'' f f' g g' g'' n n' n'' bytes before after files (Err TooLong) read ended readable writable answered painted caused = absurd caused
finished_by U library s now next kept left left' out out' out'' f f' g g' g'' n n' n'' bytes before after files (Err Unread) read ended readable writable answered painted caused = absurd caused

pub finished : (U : Type 0) (library library' : Library) → library' ≡ library → (s now next : Standing) (kept : Kept) (left left' out out' out'' : Option (List ℕ)) (f f' g g' g'' n n' n'' : ℕ) (bytes : List ℕ) (before after : Harm) (files : FilesChange) (result : Result U End) → HasRead library s now kept (source_change left left' f f') (sink_change out out' g g') (steps_change n n') bytes → IfSome left' (λ rest. rest ≡ []) → f' ≡ f → g' ≡ g → Answers library' (session library' now (entries_at_end kept.lines kept.bytes)) next (sink_change out' out'' g' g'') result → n'' ≤ n' + session_costs library' now (entries_at_end kept.lines kept.bytes) → AreCaused before after files (sink_change out' out'' g' g'') result → EndsReading library s next.refused (source_change left left' f f') (sink_change out out'' g g'') result × StaysWithin library s (source_change left left' f f') (sink_change out out'' g g'') (steps_change n n'')
finished U library library' same s now next kept left left' out out' out'' f f' g g' g'' n n' n'' bytes before after files result read ended readable writable answered painted caused =
    let A : Library → Type 0 = λ q. Answers q (session q now (entries_at_end kept.lines kept.bytes)) next (sink_change out' out'' g' g'') result in
    let C : Library → Type 0 = λ q. n'' ≤ n' + session_costs q now (entries_at_end kept.lines kept.bytes) in
    finished_by U library s now next kept left left' out out' out'' f f' g g' g'' n n' n'' bytes before after files result read ended readable writable (subst A same answered) (subst C same painted) caused
