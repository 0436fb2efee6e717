-- Laws of where a script stands: lines in two parts, and what is kept of a command that waits.
use Rattle.std.proofs.Common.{◌≡◌, ℕ, suc, ◌+◌, List, [], ◌∷◌, ◌++◌, length, refl, ap, sym, ◌∙◌, append_assoc, Bool, true, false}
use Rattle.std.proofs.Common.{inl, inr}
use Rattle.std.specs.Prelude.{not, Ok, Err, if◌then◌else◌}
use Rattle.std.specs.Str.{chars, is_utf8}
use Rattle.std.proofs.lemmas.List.{append-nil}
use Rattle.std.proofs.lemmas.Str.{chars-nil}
use Rattle.std.proofs.Math.Bool.{or-true}
use Rattle.text_buffer.specs.TextOfBytes.{byte_lines}
use Rattle.edit_script.specs.declared.commands.Entry.{Entry}
use Rattle.text_buffer.specs.declared.LineFault.TheVariants.{NotUtf8, TooLong}
use Rattle.edit_script.specs.CommandLine.{in_script, is_long, takes_text, with_chars}
use Rattle.edit_script.specs.Kept.{Kept}
use Rattle.edit_script.specs.Entries.{Standing, Between, InText, behind, made_whole, standing_behind, standing_in, entries_from, entries_of, entries_at_end, kept_of, unfinished, begins_text, is_dot, is_empty, broken, lines_before, lines_kept, whole_lines, cut_line}
use Rattle.edit_script.proofs.PieceLaws.{IsLine, AllLines, whole_append, cut_append, whole_behind, cut_behind, whole_are_lines, end_full, end_empty, no_whole}

pub standing_append : (s : Standing) (lines more : List (List ℕ)) → standing_behind s (lines ++ more) ≡ standing_behind (standing_behind s lines) more
standing_append s [] more = refl
standing_append s (line ∷ lines) more = standing_append (behind s line) lines more

pub entries_append : (s : Standing) (lines more : List (List ℕ)) → entries_from s (lines ++ more) ≡ entries_from s lines ++ entries_from (standing_behind s lines) more
entries_append s [] more = refl
entries_append s (line ∷ lines) more =
    ap (λ es. made_whole s line ++ es) (entries_append (behind s line) lines more)
    ∙ sym (append_assoc (made_whole s line) (entries_from (behind s line) lines) (entries_from (standing_behind (behind s line) lines) more))

-- an empty line begins no text
nothing_begins : (good long : Bool) (text : List ℕ) → text ≡ [] → takes_text (with_chars (in_script (if not good then Err NotUtf8 else if long then Err TooLong else Ok text))) ≡ false
nothing_begins false long text none = refl
nothing_begins true true text none = refl
nothing_begins true false text none = rw none refl

pub empty_begins_none : begins_text [] ≡ false
empty_begins_none = nothing_begins (is_utf8 []) (is_long []) (chars []) chars-nil

-- ---- what is kept

-- the lines that are kept lead to where the script stands
abbrev Held : Standing → Type 0
Held (Between number) = Unit {0}
Held (InText number line text) = (begins_text line ≡ true) × (standing_behind (InText number line []) text ≡ InText number line text) × (entries_from (InText number line []) text ≡ []) × AllLines (line ∷ text)

lines_append : (lines more : List (List ℕ)) → AllLines lines → AllLines more → AllLines (lines ++ more)
lines_append [] more all all_more = all_more
lines_append (line ∷ lines) more all all_more = (all.0, lines_append lines more all.1 all_more)

held_between : (number : ℕ) (line : List ℕ) (begins : Bool) → begins_text line ≡ begins → IsLine line → Held (if begins then InText number line [] else Between (suc number))
held_between number line true test is = (test, refl, refl, (is, tt))
held_between number line false test is = tt

pub standing_further : (number : ℕ) (line : List ℕ) (text : List (List ℕ)) (next : List ℕ) → is_dot next ≡ false → standing_behind (InText number line []) text ≡ InText number line text → standing_behind (InText number line []) (text ++ next ∷ []) ≡ InText number line (text ++ next ∷ [])
standing_further number line text next test stands =
    standing_append (InText number line []) text (next ∷ []) ∙ ap (λ s. behind s next) stands ∙ rw test refl

pub entries_further : (number : ℕ) (line : List ℕ) (text : List (List ℕ)) (next : List ℕ) → is_dot next ≡ false → standing_behind (InText number line []) text ≡ InText number line text → entries_from (InText number line []) text ≡ [] → entries_from (InText number line []) (text ++ next ∷ []) ≡ []
entries_further number line text next test stands silent =
    entries_append (InText number line []) text (next ∷ [])
    ∙ ap (λ es. es ++ entries_from (standing_behind (InText number line []) text) (next ∷ [])) silent
    ∙ ap (λ s. made_whole s next ++ []) stands ∙ rw test refl

held_text : (number : ℕ) (line : List ℕ) (text : List (List ℕ)) (next : List ℕ) (dot : Bool) → is_dot next ≡ dot → Held (InText number line text) → IsLine next → Held (if dot then Between (number + length text + 2) else InText number line (text ++ next ∷ []))
held_text number line text next true test held is = tt
held_text number line text next false test held is = (
  held.0,
  standing_further number line text next test held.1,
  entries_further number line text next test held.1 held.2,
  (held.3.0, lines_append text (next ∷ []) held.3.1 (is, tt)),
)

held_behind : (s : Standing) (line : List ℕ) → Held s → IsLine line → Held (behind s line)
held_behind (Between number) line held is = held_between number line (begins_text line) refl is
held_behind (InText number line text) next held is = held_text number line text next (is_dot next) refl held is

held_all : (s : Standing) (lines : List (List ℕ)) → Held s → AllLines lines → Held (standing_behind s lines)
held_all s [] held all = held
held_all s (line ∷ lines) held all = held_all (behind s line) lines (held_behind s line held all.0) all.1

pub held_in : (number : ℕ) (bytes : List ℕ) → Held (standing_in number bytes)
held_in number bytes = held_all (Between number) (whole_lines bytes) tt (whole_are_lines bytes)

-- the lines of a text that waits lead there, and make no entry whole
pub text_stands : (number : ℕ) (line : List ℕ) (text : List (List ℕ)) → begins_text line ≡ true → standing_behind (InText number line []) text ≡ InText number line text → standing_behind (Between number) (line ∷ text) ≡ InText number line text
text_stands number line text begins stands = rw begins stands

pub text_silent : (number : ℕ) (line : List ℕ) (text : List (List ℕ)) → begins_text line ≡ true → entries_from (InText number line []) text ≡ [] → entries_from (Between number) (line ∷ text) ≡ []
text_silent number line text begins silent = rw (begins, or-true (is_empty line)) silent

stands_again : (s : Standing) → Held s → standing_behind (Between (lines_before s)) (lines_kept s) ≡ s
stands_again (Between number) held = refl
stands_again (InText number line text) held = text_stands number line text held.0 held.1

silent_again : (s : Standing) → Held s → entries_from (Between (lines_before s)) (lines_kept s) ≡ []
silent_again (Between number) held = refl
silent_again (InText number line text) held = text_silent number line text held.0 held.2

kept_lines : (s : Standing) → Held s → AllLines (lines_kept s)
kept_lines (Between number) held = tt
kept_lines (InText number line text) held = held.3

-- ---- bytes in two parts

-- the standing from what is kept, with more bytes behind
standing_kept : (s : Standing) (cut more : List ℕ) → Held s → standing_in (lines_before s) (broken (lines_kept s) ++ (cut ++ more)) ≡ standing_behind s (whole_lines (cut ++ more))
standing_kept s cut more held =
    ap (λ ls. standing_behind (Between (lines_before s)) ls) (whole_behind (lines_kept s) (cut ++ more) (kept_lines s held))
    ∙ standing_append (Between (lines_before s)) (lines_kept s) (whole_lines (cut ++ more))
    ∙ ap (λ t. standing_behind t (whole_lines (cut ++ more))) (stands_again s held)

entries_kept : (s : Standing) (cut more : List ℕ) → Held s → entries_of (lines_before s) (broken (lines_kept s) ++ (cut ++ more)) ≡ entries_from s (whole_lines (cut ++ more))
entries_kept s cut more held =
    ap (λ ls. entries_from (Between (lines_before s)) ls) (whole_behind (lines_kept s) (cut ++ more) (kept_lines s held))
    ∙ entries_append (Between (lines_before s)) (lines_kept s) (whole_lines (cut ++ more))
    ∙ ap (λ es. es ++ entries_from (standing_behind (Between (lines_before s)) (lines_kept s)) (whole_lines (cut ++ more))) (silent_again s held)
    ∙ ap (λ t. entries_from t (whole_lines (cut ++ more))) (stands_again s held)

standing_two : (number : ℕ) (bytes more : List ℕ) → standing_in number (bytes ++ more) ≡ standing_behind (standing_in number bytes) (whole_lines (cut_line bytes ++ more))
standing_two number bytes more =
    ap (λ ls. standing_behind (Between number) ls) (whole_append bytes more)
    ∙ standing_append (Between number) (whole_lines bytes) (whole_lines (cut_line bytes ++ more))

-- where bytes are cut makes no difference: first the entries of the one part, then those of what is kept of
-- it, with the other part behind
pub entries_two : (number : ℕ) (bytes more : List ℕ) → entries_of number (bytes ++ more) ≡ entries_of number bytes ++ entries_of (kept_of number bytes).lines ((kept_of number bytes).bytes ++ more)
entries_two number bytes more =
    let s = standing_in number bytes in
    let kept : entries_of (lines_before s) (broken (lines_kept s) ++ cut_line bytes ++ more) ≡ entries_from s (whole_lines (cut_line bytes ++ more)) =
    ap (λ b. entries_of (lines_before s) b) (append_assoc (broken (lines_kept s)) (cut_line bytes) more) ∙ entries_kept s (cut_line bytes) more (held_in number bytes) in
    ap (λ ls. entries_from (Between number) ls) (whole_append bytes more)
    ∙ entries_append (Between number) (whole_lines bytes) (whole_lines (cut_line bytes ++ more))
    ∙ ap (λ es. entries_of number bytes ++ es) (sym kept)

pub standing_of_kept : (number : ℕ) (bytes more : List ℕ) → standing_in (kept_of number bytes).lines ((kept_of number bytes).bytes ++ more) ≡ standing_in number (bytes ++ more)
standing_of_kept number bytes more =
    let s = standing_in number bytes in
    ap (λ b. standing_in (lines_before s) b) (append_assoc (broken (lines_kept s)) (cut_line bytes) more)
    ∙ standing_kept s (cut_line bytes) more (held_in number bytes)
    ∙ sym (standing_two number bytes more)

cut_of_kept : (number : ℕ) (bytes more : List ℕ) → cut_line ((kept_of number bytes).bytes ++ more) ≡ cut_line (bytes ++ more)
cut_of_kept number bytes more =
    let s = standing_in number bytes in
    ap cut_line (append_assoc (broken (lines_kept s)) (cut_line bytes) more)
    ∙ cut_behind (lines_kept s) (cut_line bytes ++ more) (kept_lines s (held_in number bytes))
    ∙ sym (cut_append bytes more)

abbrev kept_in : Standing → List ℕ → Kept
kept_in s cut = record { lines = lines_before s; bytes = broken (lines_kept s) ++ cut }

pub kept_two : (number : ℕ) (bytes more : List ℕ) → kept_of number (bytes ++ more) ≡ kept_of (kept_of number bytes).lines ((kept_of number bytes).bytes ++ more)
kept_two number bytes more =
    ap (λ s. kept_in s (cut_line (bytes ++ more))) (sym (standing_of_kept number bytes more))
    ∙ ap (λ c. kept_in (standing_in (kept_of number bytes).lines ((kept_of number bytes).bytes ++ more)) c) (sym (cut_of_kept number bytes more))

-- ---- the script's end

-- the entries that come where a script ends behind these bytes of its last line
abbrev pub last_entries : Standing → List ℕ → List Entry
last_entries s [] = unfinished s
last_entries s (byte ∷ cut) = made_whole s (byte ∷ cut) ++ unfinished (behind s (byte ∷ cut))

one_more : (number : ℕ) (whole : List (List ℕ)) (cut : List ℕ) → entries_from (Between number) (whole ++ cut ∷ []) ++ unfinished (standing_behind (Between number) (whole ++ cut ∷ [])) ≡ entries_from (Between number) whole ++ (made_whole (standing_behind (Between number) whole) cut ++ unfinished (behind (standing_behind (Between number) whole) cut))
one_more number whole cut =
    let s = standing_behind (Between number) whole in
    let first : entries_from (Between number) (whole ++ cut ∷ []) ≡ entries_from (Between number) whole ++ made_whole s cut =
    entries_append (Between number) whole (cut ∷ []) ∙ ap (λ es. entries_from (Between number) whole ++ es) (append-nil (made_whole s cut)) in
    ap (λ es. es ++ unfinished (standing_behind (Between number) (whole ++ cut ∷ []))) first
    ∙ ap (λ t. entries_from (Between number) whole ++ made_whole s cut ++ unfinished t) (standing_append (Between number) whole (cut ∷ []))
    ∙ append_assoc (entries_from (Between number) whole) (made_whole s cut) (unfinished (behind s cut))

-- a script that ends behind a line break, or in a line
pub end_at : (number : ℕ) (bytes cut : List ℕ) → cut_line bytes ≡ cut → entries_at_end number bytes ≡ entries_of number bytes ++ last_entries (standing_in number bytes) cut
end_at number bytes [] cut =
    elim (end_empty bytes cut) [ inl e ↦ rw (e.0, e.1, empty_begins_none) refl | inr e ↦ rw e refl ]
end_at number bytes (byte ∷ rest) cut =
    let lines : byte_lines bytes ≡ whole_lines bytes ++ (byte ∷ rest) ∷ [] = end_full bytes byte rest cut in
    ap (λ ls. entries_from (Between number) ls ++ unfinished (standing_behind (Between number) ls)) lines ∙ one_more number (whole_lines bytes) (byte ∷ rest)

-- the entries where the script ends are those so far, and those of what is kept
pub end_two : (number : ℕ) (bytes : List ℕ) → entries_at_end number bytes ≡ entries_of number bytes ++ entries_at_end (kept_of number bytes).lines (kept_of number bytes).bytes
end_two number bytes =
    let kept = kept_of number bytes in
    let none : kept.bytes ++ [] ≡ kept.bytes = append-nil kept.bytes in
    let all : bytes ++ [] ≡ bytes = append-nil bytes in
    let stands : standing_in kept.lines kept.bytes ≡ standing_in number bytes = rw (none, all) at (standing_of_kept number bytes []) in
    let cut : cut_line kept.bytes ≡ cut_line bytes = rw (none, all) at (cut_of_kept number bytes []) in
    let silent : entries_of kept.lines kept.bytes ≡ [] = silent_kept number bytes in
    end_at number bytes (cut_line bytes) refl
    ∙ ap (λ es. entries_of number bytes ++ es)
    (sym (end_at kept.lines kept.bytes (cut_line bytes) cut
    ∙ ap (λ es. es ++ last_entries (standing_in kept.lines kept.bytes) (cut_line bytes)) silent
    ∙ ap (λ s. last_entries s (cut_line bytes)) stands))
  where
    silent_kept : (number : ℕ) (bytes : List ℕ) → entries_of (kept_of number bytes).lines (kept_of number bytes).bytes ≡ []
    silent_kept number bytes =
        let s = standing_in number bytes in
        let whole : whole_lines (broken (lines_kept s) ++ cut_line bytes) ≡ lines_kept s =
        whole_behind (lines_kept s) (cut_line bytes) (kept_lines s (held_in number bytes))
        ∙ ap (λ ls. lines_kept s ++ ls) (no_whole bytes) ∙ append-nil (lines_kept s) in
        ap (λ ls. entries_from (Between (lines_before s)) ls) whole ∙ silent_again s (held_in number bytes)
