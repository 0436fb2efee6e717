-- Laws of the reader: what one more line, or more bytes of a line, do to what is kept.
use Rattle.std.proofs.Common.{◌≡◌, ℕ, suc, ◌+◌, ◌-◌, ◌≤◌, List, [], ◌∷◌, ◌++◌, length, take, drop, refl, ap, sym, ◌∙◌, append_assoc, Bool, true, false, arith, length-append, length-drop}
use Rattle.std.specs.Prelude.{Option, Some, None, Result, Ok, Err}
use Rattle.std.specs.Prelude.{if◌then◌else◌}
use Rattle.std.proofs.lemmas.List.{append-nil, drop-append-le, drop_all}
use Rattle.std.proofs.lemmas.Grind.{common_steps}
use Rattle.std.proofs.Math.Bool.{or-true}
use Rattle.std.proofs.Math.Seq.{take-append_seam, drop-append_seam}
use Rattle.text_buffer.specs.TextOfBytes.{line_break}
use Rattle.edit_script.specs.declared.commands.Entry.{Entry}
use Rattle.edit_script.specs.declared.commands.ScriptFault.{ScriptFault}
use Rattle.edit_script.specs.declared.head.Head.{Head}
use Rattle.edit_script.specs.declared.reader.Meaning.TheVariants.{Nothing, BeginsText, IsWhole}
use Rattle.edit_script.specs.CommandLine.{line_head, takes_text}
use Rattle.edit_script.specs.Kept.{Kept}
use Rattle.edit_script.specs.Entries.{Standing, Between, InText, behind, made_whole, standing_behind, standing_in, entries_from, entries_of, kept_of, begins_text, broken, entry, is_dot, is_empty, lines_before, lines_kept, unfinished, whole_lines, cut_line}
use Rattle.edit_script.specs.Reading.{Fits, Stands, Waits, head_meaning, meaning_of}
use Rattle.edit_script.proofs.PieceLaws.{AllLines, IsLine, joined, whole_are_lines, whole_behind, whole_break, cut_break, whole_more, cut_more}
use Rattle.edit_script.proofs.StandingLaws.{standing_append, entries_append, standing_further, entries_further, text_stands, text_silent, empty_begins_none}

-- ---- more bytes without a line break

pub stands_more : (text : Option ℕ) (lines at cut : ℕ) (bytes more all : List ℕ) → all ≡ bytes ++ more → IsLine more → Stands text lines at cut bytes → Stands text lines at cut all
stands_more text lines at cut bytes more all is line stands =
    let whole : whole_lines all ≡ whole_lines bytes = ap whole_lines is ∙ whole_more bytes more line in
    record {
      fits = rw whole stands.fits;
      number = rw whole stands.number;
      rest = ap (drop cut) is ∙ drop-append-le cut bytes more stands.within ∙ ap (λ r. r ++ more) stands.rest ∙ sym (cut_more bytes more line) ∙ ap cut_line (sym is);
      within = omega (arith, stands.within, ap length is ∙ length-append bytes more);
    }

-- ---- one more line break

abbrev kept : ℕ → List ℕ → Kept
kept lines bytes = record { lines = lines; bytes = bytes }

-- what is kept where a script stands so, behind a line break
abbrev pub kept_behind : Standing → Kept
kept_behind s = record { lines = lines_before s; bytes = broken (lines_kept s) }

pub entries_break : (number : ℕ) (bytes : List ℕ) → entries_of number (bytes ++ line_break ∷ []) ≡ entries_of number bytes ++ made_whole (standing_in number bytes) (cut_line bytes)
entries_break number bytes =
    ap (λ ls. entries_from (Between number) ls) (whole_break bytes)
    ∙ entries_append (Between number) (whole_lines bytes) (cut_line bytes ∷ [])
    ∙ ap (λ es. entries_of number bytes ++ es) (append-nil (made_whole (standing_in number bytes) (cut_line bytes)))

pub standing_break : (number : ℕ) (bytes : List ℕ) → standing_in number (bytes ++ line_break ∷ []) ≡ behind (standing_in number bytes) (cut_line bytes)
standing_break number bytes =
    ap (λ ls. standing_behind (Between number) ls) (whole_break bytes)
    ∙ standing_append (Between number) (whole_lines bytes) (cut_line bytes ∷ [])

kept_parts : (s : Standing) (cut : List ℕ) → cut ≡ [] → record { lines = lines_before s; bytes = broken (lines_kept s) ++ cut } ≡ kept_behind s
kept_parts s cut none = ap (λ b. record { lines = lines_before s; bytes = b }) (ap (λ c. broken (lines_kept s) ++ c) none ∙ append-nil (broken (lines_kept s)))

pub kept_break : (number : ℕ) (bytes : List ℕ) → kept_of number (bytes ++ line_break ∷ []) ≡ kept_behind (behind (standing_in number bytes) (cut_line bytes))
kept_break number bytes =
    kept_parts (standing_in number (bytes ++ line_break ∷ [])) (cut_line (bytes ++ line_break ∷ [])) (cut_break bytes)
    ∙ ap kept_behind (standing_break number bytes)

-- the last line, as code slices it
rest_of : (bytes : List ℕ) (at : ℕ) → take (length bytes - at) (drop at bytes) ≡ drop at bytes
rest_of bytes at = grind (arith, common_steps)

pub cut_slice : (bytes now : List ℕ) (cut : ℕ) → now ≡ bytes → drop cut bytes ≡ cut_line bytes → take (length now - cut) (drop cut now) ≡ cut_line bytes
cut_slice bytes now cut is rest = ap (λ b. take (length b - cut) (drop cut b)) is ∙ rest_of bytes cut ∙ rest

-- ---- outside of a text

-- the bytes are one line without its break
pub cut_outside : (bytes : List ℕ) → whole_lines bytes ≡ [] → cut_line bytes ≡ bytes
cut_outside bytes none = ap (λ ls. broken ls ++ cut_line bytes) (sym none) ∙ joined bytes

pub entries_outside : (number : ℕ) (bytes : List ℕ) → whole_lines bytes ≡ [] → entries_of number (bytes ++ line_break ∷ []) ≡ made_whole (Between number) bytes
entries_outside number bytes none =
    entries_break number bytes
    ∙ ap (λ ls. entries_from (Between number) ls ++ made_whole (standing_behind (Between number) ls) (cut_line bytes)) none
    ∙ ap (λ l. made_whole (Between number) l) (cut_outside bytes none)

pub kept_outside : (number : ℕ) (bytes : List ℕ) → whole_lines bytes ≡ [] → kept_of number (bytes ++ line_break ∷ []) ≡ kept_behind (behind (Between number) bytes)
kept_outside number bytes none =
    kept_break number bytes
    ∙ ap (λ ls. kept_behind (behind (standing_behind (Between number) ls) (cut_line bytes))) none
    ∙ ap (λ l. kept_behind (behind (Between number) l)) (cut_outside bytes none)

-- so many lines are done with, and the next one has this number
next_outside : (number at next : ℕ) (bytes : List ℕ) → whole_lines bytes ≡ [] → at ≡ number + length (whole_lines bytes) → next ≡ at + 1 → next ≡ suc number
next_outside number at next bytes none is more = omega (arith, is, more, ap length none)

done_with : (number next : ℕ) → next ≡ suc number → kept_behind (Between (suc number)) ≡ record { lines = next; bytes = [] }
done_with number next is = ap (λ n. record { lines = n; bytes = [] }) (sym is)

head_nothing : (number : ℕ) (line : List ℕ) (says : Result Head ScriptFault) → head_meaning number line says ≡ Nothing → ⊥
head_nothing number line (Err fault) is = absurd (cc)
head_nothing number line (Ok head) is = by head.takes_text is
  where
    by : (takes : Bool) → (if takes then BeginsText else IsWhole (entry number line [] true)) ≡ Nothing → ⊥
    by true is = absurd (cc)
    by false is = absurd (cc)

meaning_nothing : (number : ℕ) (line : List ℕ) → meaning_of number line ≡ Nothing → line ≡ []
meaning_nothing number [] is = refl
meaning_nothing number (byte ∷ line) is = absurd (head_nothing number (byte ∷ line) (line_head (byte ∷ line)) is)

begins_by : (number : ℕ) (line : List ℕ) (takes : Bool) → (if takes then BeginsText else IsWhole (entry number line [] true)) ≡ BeginsText → takes ≡ true
begins_by number line true is = refl
begins_by number line false is = absurd (cc)

head_begins : (number : ℕ) (line : List ℕ) (says : Result Head ScriptFault) → head_meaning number line says ≡ BeginsText → takes_text says ≡ true
head_begins number line (Err fault) is = absurd (cc)
head_begins number line (Ok head) is = begins_by number line head.takes_text is

meaning_begins : (number : ℕ) (line : List ℕ) → meaning_of number line ≡ BeginsText → begins_text line ≡ true
meaning_begins number [] is = absurd (cc)
meaning_begins number (byte ∷ line) is = head_begins number (byte ∷ line) (line_head (byte ∷ line)) is

head_whole : (number : ℕ) (line : List ℕ) (says : Result Head ScriptFault) (e : Entry) → head_meaning number line says ≡ IsWhole e → (e ≡ entry number line [] true) × (takes_text says ≡ false)
head_whole number line (Err fault) e is =
    let same : entry number line [] true ≡ e = cc in
    (sym same, refl)
head_whole number line (Ok head) e is = by head.takes_text refl is
  where
    by : (takes : Bool) → head.takes_text ≡ takes → (if takes then BeginsText else IsWhole (entry number line [] true)) ≡ IsWhole e → (e ≡ entry number line [] true) × (head.takes_text ≡ false)
    by true takes is = absurd (cc)
    by false takes is =
        let same : entry number line [] true ≡ e = cc in
        (sym same, takes)

meaning_whole : (number : ℕ) (line : List ℕ) (e : Entry) → meaning_of number line ≡ IsWhole e → (e ≡ entry number line [] true) × (is_empty line ≡ false) × (begins_text line ≡ false)
meaning_whole number [] e is = absurd (cc)
meaning_whole number (byte ∷ line) e is =
    let w = head_whole number (byte ∷ line) (line_head (byte ∷ line)) e is in
    (w.0, refl, w.1)

pub nothing_outside : (number at next : ℕ) (bytes : List ℕ) → whole_lines bytes ≡ [] → at ≡ number + length (whole_lines bytes) → next ≡ at + 1 → meaning_of number bytes ≡ Nothing → (entries_of number (bytes ++ line_break ∷ []) ≡ []) × (kept_of number (bytes ++ line_break ∷ []) ≡ record { lines = next; bytes = [] })
nothing_outside number at next bytes none is more means =
    let empty : bytes ≡ [] = meaning_nothing number bytes means in (
      entries_outside number bytes none ∙ ap (made_whole (Between number)) empty,
      kept_outside number bytes none ∙ ap (λ l. kept_behind (behind (Between number) l)) empty ∙ rw empty_begins_none (done_with number next (next_outside number at next bytes none is more)),
    )

pub whole_outside : (number at next : ℕ) (bytes : List ℕ) (e : Entry) → whole_lines bytes ≡ [] → at ≡ number + length (whole_lines bytes) → next ≡ at + 1 → meaning_of number bytes ≡ IsWhole e → (entries_of number (bytes ++ line_break ∷ []) ≡ e ∷ []) × (kept_of number (bytes ++ line_break ∷ []) ≡ record { lines = next; bytes = [] })
whole_outside number at next bytes e none is more means =
    let w = meaning_whole number bytes e means in (
      entries_outside number bytes none ∙ rw (w.1, w.2) (ap (λ x. x ∷ []) (sym w.0)),
      kept_outside number bytes none ∙ rw w.2 (done_with number next (next_outside number at next bytes none is more)),
    )

pub text_outside : (number at next cut : ℕ) (bytes : List ℕ) → cut ≡ length bytes + 1 → whole_lines bytes ≡ [] → at ≡ number + length (whole_lines bytes) → next ≡ at + 1 → meaning_of number bytes ≡ BeginsText → (entries_of number (bytes ++ line_break ∷ []) ≡ []) × (kept_of number (bytes ++ line_break ∷ []) ≡ record { lines = number; bytes = bytes ++ line_break ∷ [] }) × Stands (Some cut) number next cut (bytes ++ line_break ∷ [])
text_outside number at next cut bytes is_cut none is more means =
    let begins : begins_text bytes ≡ true = meaning_begins number bytes means in
    let whole : whole_lines (bytes ++ line_break ∷ []) ≡ bytes ∷ [] = whole_break bytes ∙ ap (λ ls. ls ++ cut_line bytes ∷ []) none ∙ ap (λ l. l ∷ []) (cut_outside bytes none) in
    let waits : Waits cut number bytes [] = record {
      place = is_cut;
      begins = begins;
      stands = refl;
      silent = refl;
    } in (
      entries_outside number bytes none ∙ rw (begins, or-true (is_empty bytes)) refl,
      kept_outside number bytes none ∙ rw begins refl,
      record {
        fits = rw whole waits;
        number = rw whole (next_outside number at next bytes none is more ∙ add_one number);
        rest = drop_all cut (bytes ++ line_break ∷ []) (omega (arith, is_cut, length-append bytes (line_break ∷ []))) ∙ sym (cut_break bytes);
        within = omega (arith, is_cut, length-append bytes (line_break ∷ []));
      },
    )
  where
    add_one : (n : ℕ) → suc n ≡ n + 1
    add_one n = omega arith

-- ---- in a text

pub fits_some : (text_at number : ℕ) (lines : List (List ℕ)) → Fits (Some text_at) number lines → (line : List ℕ) × (text : List (List ℕ)) × (lines ≡ line ∷ text) × Waits text_at number line text
fits_some text_at number [] fits = absurd fits
fits_some text_at number (line ∷ text) fits = (line, text, refl, fits)

standing_waiting : (text_at number : ℕ) (bytes line : List ℕ) (text : List (List ℕ)) → whole_lines bytes ≡ line ∷ text → Waits text_at number line text → standing_in number bytes ≡ InText number line text
standing_waiting text_at number bytes line text whole waits =
    ap (λ ls. standing_behind (Between number) ls) whole
    ∙ text_stands number line text waits.begins waits.stands

silent_waiting : (text_at number : ℕ) (bytes line : List ℕ) (text : List (List ℕ)) → whole_lines bytes ≡ line ∷ text → Waits text_at number line text → entries_of number bytes ≡ []
silent_waiting text_at number bytes line text whole waits =
    ap (λ ls. entries_from (Between number) ls) whole
    ∙ text_silent number line text waits.begins waits.silent

entries_inside : (text_at number : ℕ) (bytes line : List ℕ) (text : List (List ℕ)) → whole_lines bytes ≡ line ∷ text → Waits text_at number line text → entries_of number (bytes ++ line_break ∷ []) ≡ made_whole (InText number line text) (cut_line bytes)
entries_inside text_at number bytes line text whole waits =
    entries_break number bytes
    ∙ ap (λ es. es ++ made_whole (standing_in number bytes) (cut_line bytes)) (silent_waiting text_at number bytes line text whole waits)
    ∙ ap (λ s. made_whole s (cut_line bytes)) (standing_waiting text_at number bytes line text whole waits)

kept_inside : (text_at number : ℕ) (bytes line : List ℕ) (text : List (List ℕ)) → whole_lines bytes ≡ line ∷ text → Waits text_at number line text → kept_of number (bytes ++ line_break ∷ []) ≡ kept_behind (behind (InText number line text) (cut_line bytes))
kept_inside text_at number bytes line text whole waits =
    kept_break number bytes
    ∙ ap (λ s. kept_behind (behind s (cut_line bytes))) (standing_waiting text_at number bytes line text whole waits)

-- an entry of the command that waits in these bytes
abbrev pub IsOf : ℕ → List ℕ → Bool → Entry → Type 0
IsOf number bytes ended e = (line : List ℕ) (text : List (List ℕ)) → whole_lines bytes ≡ line ∷ text → e ≡ entry number line text ended

-- the dot of a text
pub dot_inside : (text_at number at next cut : ℕ) (bytes : List ℕ) (e : Entry) → Stands (Some text_at) number at cut bytes → next ≡ at + 1 → is_dot (cut_line bytes) ≡ true → IsOf number bytes true e → (entries_of number (bytes ++ line_break ∷ []) ≡ e ∷ []) × (kept_of number (bytes ++ line_break ∷ []) ≡ record { lines = next; bytes = [] })
dot_inside text_at number at next cut bytes e stands more dot makes =
    let f = fits_some text_at number (whole_lines bytes) stands.fits in
    let made : e ≡ entry number f.0 f.1 true = makes f.0 f.1 f.2 in
    let count : number + length f.1 + 2 ≡ next = omega (arith, stands.number, more, ap length f.2) in (
      entries_inside text_at number bytes f.0 f.1 f.2 f.3 ∙ rw dot (ap (λ x. x ∷ []) (sym made)),
      kept_inside text_at number bytes f.0 f.1 f.2 f.3 ∙ rw dot (ap (λ n. record { lines = n; bytes = [] }) count),
    )

-- a line of a text makes no entry whole
pub silent_inside : (text_at number at cut : ℕ) (bytes : List ℕ) → Stands (Some text_at) number at cut bytes → is_dot (cut_line bytes) ≡ false → entries_of number (bytes ++ line_break ∷ []) ≡ []
silent_inside text_at number at cut bytes stands dot =
    let f = fits_some text_at number (whole_lines bytes) stands.fits in
    entries_inside text_at number bytes f.0 f.1 f.2 f.3 ∙ rw dot refl

broken_more : (lines : List (List ℕ)) (line : List ℕ) → broken (lines ++ line ∷ []) ≡ broken lines ++ (line ++ line_break ∷ [])
broken_more [] line = refl
broken_more (first ∷ lines) line =
    ap (λ b. first ++ line_break ∷ b) (broken_more lines line)
    ∙ sym (append_assoc first (line_break ∷ broken lines) (line ++ line_break ∷ []))

-- the whole lines and the last one, each with its break
all_broken : (bytes : List ℕ) → broken (whole_lines bytes ++ cut_line bytes ∷ []) ≡ bytes ++ line_break ∷ []
all_broken bytes =
    broken_more (whole_lines bytes) (cut_line bytes)
    ∙ sym (append_assoc (broken (whole_lines bytes)) (cut_line bytes) (line_break ∷ []))
    ∙ ap (λ b. b ++ line_break ∷ []) (joined bytes)

-- a line of a text, which isn't its dot
pub line_inside : (text_at number at next cut next_cut : ℕ) (bytes : List ℕ) → next_cut ≡ length bytes + 1 → Stands (Some text_at) number at cut bytes → next ≡ at + 1 → is_dot (cut_line bytes) ≡ false → (kept_of number (bytes ++ line_break ∷ []) ≡ record { lines = number; bytes = bytes ++ line_break ∷ [] }) × Stands (Some text_at) number next next_cut (bytes ++ line_break ∷ [])
line_inside text_at number at next cut next_cut bytes is_cut stands more dot =
    let f = fits_some text_at number (whole_lines bytes) stands.fits in
    let whole : whole_lines (bytes ++ line_break ∷ []) ≡ f.0 ∷ (f.1 ++ cut_line bytes ∷ []) = whole_break bytes ∙ ap (λ ls. ls ++ cut_line bytes ∷ []) f.2 in
    let bytes_kept : broken (f.0 ∷ (f.1 ++ cut_line bytes ∷ [])) ≡ bytes ++ line_break ∷ [] = ap (λ ls. broken (ls ++ cut_line bytes ∷ [])) (sym f.2) ∙ all_broken bytes in
    let waits : Waits text_at number f.0 (f.1 ++ cut_line bytes ∷ []) = record {
      place = f.3.place;
      begins = f.3.begins;
      stands = standing_further number f.0 f.1 (cut_line bytes) dot f.3.stands;
      silent = entries_further number f.0 f.1 (cut_line bytes) dot f.3.stands f.3.silent;
    } in (
      kept_inside text_at number bytes f.0 f.1 f.2 f.3 ∙ rw dot (ap (λ b. record { lines = number; bytes = b }) bytes_kept),
      rw is_cut (record {
        fits = rw whole waits;
        number = omega (arith, stands.number, more, ap length f.2, ap length whole, length-append f.1 (cut_line bytes ∷ []));
        rest = drop_all (length bytes + 1) (bytes ++ line_break ∷ []) (omega (arith, length-append bytes (line_break ∷ []))) ∙ sym (cut_break bytes);
        within = omega (arith, length-append bytes (line_break ∷ []));
      }),
    )

-- ---- what is kept makes no entry whole, and is kept again

pub entries_standing : (text : Option ℕ) (number at cut : ℕ) (bytes : List ℕ) → Stands text number at cut bytes → entries_of number bytes ≡ []
entries_standing None number at cut bytes stands = ap (λ ls. entries_from (Between number) ls) stands.fits
entries_standing (Some text_at) number at cut bytes stands =
    let f = fits_some text_at number (whole_lines bytes) stands.fits in
    silent_waiting text_at number bytes f.0 f.1 f.2 f.3

pub kept_standing : (text : Option ℕ) (number at cut : ℕ) (bytes : List ℕ) → Stands text number at cut bytes → kept_of number bytes ≡ record { lines = number; bytes = bytes }
kept_standing None number at cut bytes stands =
    ap (λ ls. record { lines = lines_before (standing_behind (Between number) ls); bytes = broken (lines_kept (standing_behind (Between number) ls)) ++ cut_line bytes }) stands.fits
    ∙ ap (λ b. record { lines = number; bytes = b }) (cut_outside bytes stands.fits)
kept_standing (Some text_at) number at cut bytes stands =
    let f = fits_some text_at number (whole_lines bytes) stands.fits in
    ap (λ s. record { lines = lines_before s; bytes = broken (lines_kept s) ++ cut_line bytes }) (standing_waiting text_at number bytes f.0 f.1 f.2 f.3)
    ∙ ap (λ b. record { lines = number; bytes = b }) (ap (λ ls. broken ls ++ cut_line bytes) (sym f.2) ∙ joined bytes)

-- ---- the script's end

pub unfinished_outside : (number at cut : ℕ) (bytes : List ℕ) → Stands None number at cut bytes → unfinished (standing_in number bytes) ≡ []
unfinished_outside number at cut bytes stands = ap (λ ls. unfinished (standing_behind (Between number) ls)) stands.fits

pub unfinished_inside : (text_at number at cut : ℕ) (bytes : List ℕ) (e : Entry) → Stands (Some text_at) number at cut bytes → IsOf number bytes false e → unfinished (standing_in number bytes) ≡ e ∷ []
unfinished_inside text_at number at cut bytes e stands makes =
    let f = fits_some text_at number (whole_lines bytes) stands.fits in
    ap unfinished (standing_waiting text_at number bytes f.0 f.1 f.2 f.3)
    ∙ ap (λ x. x ∷ []) (sym (makes f.0 f.1 f.2))

-- ---- the bytes of a text that waits

-- bytes whose whole lines are those of a command and of its text
parts : (bytes line : List ℕ) (text : List (List ℕ)) → whole_lines bytes ≡ line ∷ text → line ++ line_break ∷ (broken text ++ cut_line bytes) ≡ bytes
parts bytes line text whole =
    sym (append_assoc line (line_break ∷ broken text) (cut_line bytes))
    ∙ ap (λ ls. broken ls ++ cut_line bytes) (sym whole) ∙ joined bytes

lengths : (bytes line : List ℕ) (text : List (List ℕ)) → whole_lines bytes ≡ line ∷ text → length bytes ≡ length line + (1 + (length (broken text) + length (cut_line bytes)))
lengths bytes line text whole =
    omega (arith, ap length (sym (parts bytes line text whole)), length-append line (line_break ∷ (broken text ++ cut_line bytes)), length-append (broken text) (cut_line bytes))

-- where the last line begins
cut_at : (text_at number at cut : ℕ) (bytes line : List ℕ) (text : List (List ℕ)) → Stands (Some text_at) number at cut bytes → whole_lines bytes ≡ line ∷ text → cut ≡ length line + (1 + length (broken text))
cut_at text_at number at cut bytes line text stands whole =
    omega (arith, stands.within, ap length stands.rest, length-drop cut bytes, lengths bytes line text whole)

place_of : (text_at number : ℕ) (lines : List (List ℕ)) (line : List ℕ) (text : List (List ℕ)) → Fits (Some text_at) number lines → lines ≡ line ∷ text → text_at ≡ length line + 1
place_of text_at number lines line text fits is =
    let waits : Waits text_at number line text = rw is at fits in
    waits.place

pub text_within : (text_at number at cut : ℕ) (bytes : List ℕ) → Stands (Some text_at) number at cut bytes → (1 ≤ text_at) × (text_at ≤ cut)
text_within text_at number at cut bytes stands =
    let f = fits_some text_at number (whole_lines bytes) stands.fits in
    let cut_is = cut_at text_at number at cut bytes f.0 f.1 stands f.2 in
    (omega (arith, f.3.place), omega (arith, f.3.place, cut_is))

take_line : (line more bytes : List ℕ) (count : ℕ) → line ++ more ≡ bytes → count ≡ length line → take count bytes ≡ line
take_line line more bytes count is is_count =
    ap (take count) (sym is) ∙ ap (λ n. take n (line ++ more)) is_count ∙ take-append_seam line more

pub line_slice : (text_at number at cut : ℕ) (bytes line : List ℕ) (text : List (List ℕ)) → Stands (Some text_at) number at cut bytes → whole_lines bytes ≡ line ∷ text → take (text_at - 1) bytes ≡ line
line_slice text_at number at cut bytes line text stands whole =
    let place = place_of text_at number (whole_lines bytes) line text stands.fits whole in
    take_line line (line_break ∷ (broken text ++ cut_line bytes)) bytes (text_at - 1) (parts bytes line text whole) (omega (arith, place))

drop_line : (line more : List ℕ) (count : ℕ) → count ≡ length line + 1 → drop count (line ++ line_break ∷ more) ≡ more
drop_line line more count is =
    let length_is : length (line ++ line_break ∷ []) ≡ count = length-append line (line_break ∷ []) ∙ sym is in
    ap (drop count) (sym (append_assoc line (line_break ∷ []) more))
    ∙ ap (λ n. drop n ((line ++ line_break ∷ []) ++ more)) (sym length_is)
    ∙ drop-append_seam (line ++ line_break ∷ []) more

pub text_slice : (text_at number at cut : ℕ) (bytes line : List ℕ) (text : List (List ℕ)) → Stands (Some text_at) number at cut bytes → whole_lines bytes ≡ line ∷ text → whole_lines (take (cut - text_at) (drop text_at bytes)) ≡ text
text_slice text_at number at cut bytes line text stands whole =
    let place = place_of text_at number (whole_lines bytes) line text stands.fits whole in
    let cut_is = cut_at text_at number at cut bytes line text stands whole in
    let behind_line : drop text_at bytes ≡ broken text ++ cut_line bytes = ap (drop text_at) (sym (parts bytes line text whole)) ∙ drop_line line (broken text ++ cut_line bytes) text_at place in
    let all : AllLines (line ∷ text) = rw whole at (whole_are_lines bytes) in
    ap (λ b. whole_lines (take (cut - text_at) b)) behind_line
    ∙ ap whole_lines (take_line (broken text) (cut_line bytes) (broken text ++ cut_line bytes) (cut - text_at) refl (omega (arith, place, cut_is)))
    ∙ ap whole_lines (sym (append-nil (broken text)))
    ∙ whole_behind text [] all.1 ∙ append-nil text
