-- Laws of a piece: its lines one after the other, and its rest.
use Rattle.std.proofs.Common.{◌≡◌, ℕ, zero, suc, ◌+◌, ◌-◌, ◌<◌, ◌≤◌, List, [], ◌∷◌, ◌++◌, length, take, drop, ap, sym, ◌∙◌, append_assoc, arith, length-append, length-drop}
use Rattle.std.specs.Prelude.{Option, Some, None, Result, Ok, Err, IfOk, OnOk}
use Rattle.std.proofs.lemmas.Bool.{eqb-true}
use Rattle.std.proofs.lemmas.Grind.{common_steps}
use Rattle.std.proofs.Math.Seq.{drop-append_seam, take-add, take-append_seam}
use Rattle.std.proofs.lemmas.List.{append-nil, drop_all, drop-drop, length-take-le, take-append-drop}
use Rattle.memchr.specs.Find.{NoneBefore, Nowhere, Passes, is_byte}
use Rattle.text_buffer.specs.TextOfBytes.{line_break, byte_lines}
use Rattle.text_buffer.proofs.LineLaws.{pieces_broken, pieces_whole}
use Rattle.edit_script.specs.declared.commands.Entry.{Entry}
use Rattle.edit_script.specs.Kept.{Kept}
use Rattle.edit_script.specs.Entries.{Between, standing_behind, standing_in, entries_from, entries_of, entries_at_end, kept_of, but_last, unfinished, whole_lines, cut_line}
use Rattle.edit_script.specs.declared.reader.Place.{Place}
use Rattle.edit_script.specs.Reading.{Stands, begin_behind, kept_at, stays}
use Rattle.edit_script.proofs.PieceLaws.{IsLine, pieces_are_lines, whole_behind, whole_break, end_full}
use Rattle.edit_script.proofs.StandingLaws.{end_at, end_two, entries_two, kept_two, standing_of_kept}
use Rattle.edit_script.proofs.ReaderLaws.{entries_standing, stands_more}

-- the first line break of bytes is at k
abbrev pub FirstBreak : List ℕ → ℕ → Type 0
FirstBreak bytes k = NoneBefore (Passes (is_byte line_break) bytes) 0 (length bytes) k × Passes (is_byte line_break) bytes k

pub line_before : (bytes : List ℕ) (k : ℕ) → FirstBreak bytes k → IsLine (take k bytes)
line_before bytes k found =
    let pieces = pieces_broken bytes k (found.0).high found.1 (found.0).before in
    (rw pieces at (pieces_are_lines bytes)).0

split_at : (bytes : List ℕ) (k : ℕ) → k < length bytes → Passes (is_byte line_break) bytes k → take k bytes ++ line_break ∷ drop (suc k) bytes ≡ bytes
split_at [] k within at_break = absurd (omega arith)
split_at (byte ∷ bytes) zero within at_break = ap (λ c. c ∷ bytes) (sym (eqb-true byte line_break at_break))
split_at (byte ∷ bytes) (suc k) within at_break = ap (λ bs. byte ∷ bs) (split_at bytes k (omega arith) at_break)

-- what follows a byte, as code slices it
pub rest_of : (bytes : List ℕ) (at : ℕ) → take (length bytes - at) (drop at bytes) ≡ drop at bytes
rest_of bytes at = grind (arith, common_steps)

pub split : (bytes : List ℕ) (k : ℕ) → FirstBreak bytes k → take k bytes ++ line_break ∷ take (length bytes - (k + 1)) (drop (k + 1) bytes) ≡ bytes
split bytes k found =
    let next : k + 1 ≡ suc k = omega arith in
    ap (λ r. take k bytes ++ line_break ∷ r) (rest_of bytes (k + 1) ∙ ap (λ n. drop n bytes) next)
    ∙ split_at bytes k (found.0).high found.1

-- ---- bytes of which those before `next` were read, and those before `begin` are done with

abbrev pub between : ℕ → ℕ → List ℕ → List ℕ
between begin end bytes = take (end - begin) (drop begin bytes)

behind_between : (begin next : ℕ) (bytes : List ℕ) → begin ≤ next → drop (next - begin) (drop begin bytes) ≡ drop next bytes
behind_between begin next bytes order =
    let same : begin + (next - begin) ≡ next = omega arith in
    drop-drop (next - begin) begin bytes ∙ ap (λ n. drop n bytes) same

pub split_from : (begin next : ℕ) (bytes : List ℕ) → begin ≤ next → between begin next bytes ++ drop next bytes ≡ drop begin bytes
split_from begin next bytes order =
    ap (λ b. between begin next bytes ++ b) (sym (behind_between begin next bytes order))
    ∙ take-append-drop (next - begin) (drop begin bytes)

-- what is read up to the next line break, as two parts
pub read_further : (begin next count : ℕ) (bytes : List ℕ) → begin ≤ next → between begin (next + count) bytes ≡ between begin next bytes ++ take count (drop next bytes)
read_further begin next count bytes order =
    let same : next + count - begin ≡ (next - begin) + count = omega arith in
    ap (λ n. take n (drop begin bytes)) same
    ∙ take-add (next - begin) count (drop begin bytes)
    ∙ ap (λ b. between begin next bytes ++ take count b) (behind_between begin next bytes order)

drop_break : (bytes : List ℕ) (k : ℕ) → FirstBreak bytes k → drop k bytes ≡ line_break ∷ drop (suc k) bytes
drop_break bytes k found =
    let within : k < length bytes = (found.0).high in
    let whole = split_at bytes k within found.1 in
    let len : length (take k bytes) ≡ k = length-take-le k bytes (omega arith) in
    ap (drop k) (sym whole)
    ∙ ap (λ n. drop n (take k bytes ++ line_break ∷ drop (suc k) bytes)) (sym len)
    ∙ drop-append_seam (take k bytes) (line_break ∷ drop (suc k) bytes)

-- what is read up to a line break, and behind it
pub split_break : (begin next count : ℕ) (bytes : List ℕ) → begin ≤ next → FirstBreak (drop next bytes) count → (between begin (next + count) bytes ++ line_break ∷ []) ++ drop (next + count + 1) bytes ≡ drop begin bytes
split_break begin next count bytes order found =
    let more : suc (next + count) ≡ next + count + 1 = omega arith in
    let suc_is : next + suc count ≡ suc (next + count) = omega arith in
    append_assoc (between begin (next + count) bytes) (line_break ∷ []) (drop (next + count + 1) bytes)
    ∙ ap (λ n. between begin (next + count) bytes ++ line_break ∷ drop n bytes) (sym more)
    ∙ ap (λ n. between begin (next + count) bytes ++ line_break ∷ drop n bytes) (sym suc_is)
    ∙ ap (λ b. between begin (next + count) bytes ++ line_break ∷ b) (sym (drop-drop (suc count) next bytes))
    ∙ ap (λ b. between begin (next + count) bytes ++ b) (sym (drop_break (drop next bytes) count found))
    ∙ ap (λ b. between begin (next + count) bytes ++ b) (drop-drop count next bytes)
    ∙ split_from begin (next + count) bytes (omega arith)

-- what stays behind the line break stands where the code says
pub stays_between : (text : Option ℕ) (begin next count : ℕ) (bytes : List ℕ) → begin ≤ next → next ≤ length bytes → FirstBreak (drop next bytes) count → between (begin_behind text begin (next + count + 1)) (next + count + 1) bytes ≡ stays text (between begin (next + count) bytes)
stays_between None begin next count bytes order within found =
    let none : next + count + 1 - (next + count + 1) ≡ 0 = omega arith in
    ap (λ n. take n (drop (next + count + 1) bytes)) none
stays_between (Some text_at) begin next count bytes order within found =
    let front = between begin (next + count) bytes in
    let inside : count < length (drop next bytes) = (found.0).high in
    let len : length (front ++ line_break ∷ []) ≡ next + count + 1 - begin =
    length-append front (line_break ∷ [])
    ∙ ap (λ n. n + 1) (length-take-le (next + count - begin) (drop begin bytes) (omega (arith, length-drop begin bytes, length-drop next bytes, inside)))
    ∙ omega arith in
    ap (λ n. take n (drop begin bytes)) (sym len)
    ∙ ap (take (length (front ++ line_break ∷ []))) (sym (split_break begin next count bytes order found))
    ∙ take-append_seam (front ++ line_break ∷ []) (drop (next + count + 1) bytes)

pub behind_low : (text : Option ℕ) (begin next : ℕ) → begin ≤ next → begin_behind text begin next ≤ next
behind_low None begin next order = omega arith
behind_low (Some text_at) begin next order = order

-- the bytes that are still kept, with those to come
pub still_kept : (text : Option ℕ) (begin next count : ℕ) (bytes : List ℕ) → begin ≤ next → next ≤ length bytes → FirstBreak (drop next bytes) count → stays text (between begin (next + count) bytes) ++ drop (next + count + 1) bytes ≡ drop (begin_behind text begin (next + count + 1)) bytes
still_kept text begin next count bytes order within found =
    let after = behind_low text begin (next + count + 1) (omega (arith, order)) in
    ap (λ b. b ++ drop (next + count + 1) bytes) (sym (stays_between text begin next count bytes order within found))
    ∙ split_from (begin_behind text begin (next + count + 1)) (next + count + 1) bytes after

-- reading behind one more line break
pub entries_step : (now : Place) (number begin next count : ℕ) (bytes : List ℕ) (made so_far more : List Entry) → begin ≤ next → next ≤ length bytes → FirstBreak (drop next bytes) count → kept_at now (stays now.text (between begin (next + count) bytes)) ≡ kept_of number (between begin (next + count) bytes ++ line_break ∷ []) → more ≡ so_far ++ entries_of number (between begin (next + count) bytes ++ line_break ∷ []) → made ≡ so_far ++ entries_of number (drop begin bytes) → made ≡ more ++ entries_of now.lines (drop (begin_behind now.text begin (next + count + 1)) bytes)
entries_step now number begin next count bytes made so_far more order within found is_now is_more is_made =
    let x = between begin (next + count) bytes ++ line_break ∷ [] in
    let rest = drop (next + count + 1) bytes in
    is_made
    ∙ ap (λ b. so_far ++ entries_of number b) (sym (split_break begin next count bytes order found))
    ∙ ap (λ es. so_far ++ es) (entries_two number x rest)
    ∙ sym (append_assoc so_far (entries_of number x) (entries_of (kept_of number x).lines ((kept_of number x).bytes ++ rest)))
    ∙ ap (λ es. es ++ entries_of (kept_of number x).lines ((kept_of number x).bytes ++ rest)) (sym is_more)
    ∙ ap (λ (kept : Kept). more ++ entries_of kept.lines (kept.bytes ++ rest)) (sym is_now)
    ∙ ap (λ b. more ++ entries_of now.lines b) (still_kept now.text begin next count bytes order within found)

pub kept_step : (now : Place) (number begin next count : ℕ) (bytes : List ℕ) (kept : Kept) → begin ≤ next → next ≤ length bytes → FirstBreak (drop next bytes) count → kept_at now (stays now.text (between begin (next + count) bytes)) ≡ kept_of number (between begin (next + count) bytes ++ line_break ∷ []) → kept ≡ kept_of number (drop begin bytes) → kept ≡ kept_of now.lines (drop (begin_behind now.text begin (next + count + 1)) bytes)
kept_step now number begin next count bytes kept order within found is_now is_kept =
    let x = between begin (next + count) bytes ++ line_break ∷ [] in
    let rest = drop (next + count + 1) bytes in
    is_kept
    ∙ ap (kept_of number) (sym (split_break begin next count bytes order found))
    ∙ kept_two number x rest
    ∙ ap (λ (k : Kept). kept_of k.lines (k.bytes ++ rest)) (sym is_now)
    ∙ ap (λ b. kept_of now.lines b) (still_kept now.text begin next count bytes order within found)

-- the rest of a piece, which has no line break
pub rest_line : (bytes : List ℕ) → Nowhere (Passes (is_byte line_break) bytes) 0 (length bytes) → IsLine bytes
rest_line bytes none = pieces_whole bytes none

-- the place stands behind all bytes, of which nothing is whole
pub stands_last : (text : Option ℕ) (lines at cut begin next : ℕ) (bytes : List ℕ) → begin ≤ next → IsLine (drop next bytes) → Stands text lines at cut (between begin next bytes) → Stands text lines at cut (drop begin bytes)
stands_last text lines at cut begin next bytes order line stands =
    stands_more text lines at cut (between begin next bytes) (drop next bytes) (drop begin bytes) (sym (split_from begin next bytes order)) line stands

pub entries_last : (text : Option ℕ) (number at cut : ℕ) (bytes : List ℕ) (made so_far : List Entry) → Stands text number at cut bytes → made ≡ so_far ++ entries_of number bytes → so_far ≡ made
entries_last text number at cut bytes made so_far stands is_made =
    sym (is_made ∙ ap (λ es. so_far ++ es) (entries_standing text number at cut bytes stands) ∙ append-nil so_far)

-- however the bytes before were cut
pub further : (before piece : List ℕ) (old : Kept) (entries : List Entry) → entries ≡ entries_of old.lines (old.bytes ++ piece) → old ≡ kept_of 0 before → entries_of 0 (before ++ piece) ≡ entries_of 0 before ++ entries
further before piece old entries are is =
    entries_two 0 before piece
    ∙ ap (λ es. entries_of 0 before ++ es) (ap (λ (k : Kept). entries_of k.lines (k.bytes ++ piece)) (sym is) ∙ sym are)

pub behind_all : (before piece : List ℕ) (old new : Kept) → new ≡ kept_of old.lines (old.bytes ++ piece) → old ≡ kept_of 0 before → new ≡ kept_of 0 (before ++ piece)
behind_all before piece old new are is =
    are ∙ ap (λ (k : Kept). kept_of k.lines (k.bytes ++ piece)) is ∙ sym (kept_two 0 before piece)

pub further_at_end : (before : List ℕ) (old : Kept) (entries : List Entry) → entries ≡ entries_at_end old.lines old.bytes → old ≡ kept_of 0 before → entries_at_end 0 before ≡ entries_of 0 before ++ entries
further_at_end before old entries are is =
    end_two 0 before
    ∙ ap (λ es. entries_of 0 before ++ es) (ap (λ (k : Kept). entries_at_end k.lines k.bytes) (sym is) ∙ sym are)

-- ---- the lines of a text

pub next_line : (rest : List ℕ) (k : ℕ) → FirstBreak rest k → whole_lines rest ≡ take k rest ∷ whole_lines (take (length rest - (k + 1)) (drop (k + 1) rest))
next_line rest k found =
    let more = take (length rest - (k + 1)) (drop (k + 1) rest) in
    ap whole_lines (sym (split rest k found))
    ∙ ap whole_lines (sym (append_assoc (take k rest) (line_break ∷ []) more))
    ∙ whole_behind (take k rest ∷ []) more (line_before rest k found, tt)

pub one_done : (text rest more line : List ℕ) (done : List (List ℕ)) → whole_lines text ≡ done ++ whole_lines rest → whole_lines rest ≡ line ∷ whole_lines more → whole_lines text ≡ (done ++ line ∷ []) ++ whole_lines more
one_done text rest more line done all next =
    all ∙ ap (λ ls. done ++ ls) next ∙ sym (append_assoc done (line ∷ []) (whole_lines more))

pub all_done : (text rest : List ℕ) (done : List (List ℕ)) → whole_lines text ≡ done ++ whole_lines rest → Nowhere (Passes (is_byte line_break) rest) 0 (length rest) → whole_lines text ≡ done
all_done text rest done all none =
    all ∙ ap (λ ls. done ++ ls) (ap but_last (rest_line rest none)) ∙ append-nil done

-- ---- the script's end

-- a last line in which something stands
full_line : (number : ℕ) (bytes cut : List ℕ) → 0 < length cut → cut_line bytes ≡ cut → byte_lines bytes ≡ whole_lines (bytes ++ line_break ∷ [])
full_line number bytes [] some is = absurd (omega arith)
full_line number bytes (byte ∷ rest) some is =
    end_full bytes byte rest is ∙ sym (whole_break bytes ∙ ap (λ l. whole_lines bytes ++ l ∷ []) is)

pub ends_full : (number cut : ℕ) (bytes : List ℕ) (now : Kept) (old new : List Entry) → cut < length bytes → drop cut bytes ≡ cut_line bytes → now ≡ kept_of number (bytes ++ line_break ∷ []) → new ≡ old ++ entries_of number (bytes ++ line_break ∷ []) → new ++ unfinished (standing_in now.lines now.bytes) ≡ old ++ entries_at_end number bytes
ends_full number cut bytes now old new some rest is_now is_new =
    let all = bytes ++ line_break ∷ [] in
    let lines : byte_lines bytes ≡ whole_lines all = full_line number bytes (drop cut bytes) (omega (arith, length-drop cut bytes)) (sym rest) in
    let end : entries_at_end number bytes ≡ entries_of number all ++ unfinished (standing_in number all) =
    ap (λ ls. entries_from (Between number) ls ++ unfinished (standing_behind (Between number) ls)) lines in
    let stands : standing_in now.lines now.bytes ≡ standing_in number all =
    ap (λ (k : Kept). standing_in k.lines k.bytes) is_now
    ∙ ap (λ b. standing_in (kept_of number all).lines b) (sym (append-nil (kept_of number all).bytes))
    ∙ standing_of_kept number all [] ∙ ap (λ b. standing_in number b) (append-nil all) in
    ap (λ es. es ++ unfinished (standing_in now.lines now.bytes)) is_new
    ∙ ap (λ s. old ++ entries_of number all ++ unfinished s) stands
    ∙ append_assoc old (entries_of number all) (unfinished (standing_in number all))
    ∙ ap (λ es. old ++ es) (sym end)

pub ends_empty : (text : Option ℕ) (number at cut : ℕ) (bytes : List ℕ) (old : List Entry) → length bytes ≤ cut → Stands text number at cut bytes → old ++ unfinished (standing_in number bytes) ≡ old ++ entries_at_end number bytes
ends_empty text number at cut bytes old none stands =
    let empty : cut_line bytes ≡ [] = sym stands.rest ∙ drop_all cut bytes none in
    let end : entries_at_end number bytes ≡ unfinished (standing_in number bytes) =
    end_at number bytes [] empty
    ∙ ap (λ es. es ++ unfinished (standing_in number bytes)) (entries_standing text number at cut bytes stands) in
    ap (λ es. old ++ es) (sym end)

-- a fact of the value that follows from others, where there is a value
pub if_ok_maps : {T E : Type 0} {P Q : T → Type 0} (r : Result T E) → ((x : T) → P x → Q x) → IfOk r P → IfOk r Q
if_ok_maps (Ok x) follows p = follows x p
if_ok_maps (Err e) follows p = tt

pub if_ok_both : {T E K : Type 0} {P Q : T → Type 0} (r : Result T E) → ((x : T) → K → P x → Q x) → OnOk r K → IfOk r P → IfOk r Q
if_ok_both (Ok x) follows k p = follows x k p
if_ok_both (Err e) follows k p = tt
