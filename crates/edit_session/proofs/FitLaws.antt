-- What a command that is resolved does fits the text.
use Rattle.std.proofs.Common.{◌≡◌, ℕ, ◌+◌, ◌-◌, ◌≤◌, ◌<◌, List, [], ◌++◌, length, take, drop, Bool, true, false, refl, arith, subst, sym}
use Rattle.std.specs.Prelude.{Option, Some, None, Ok, nat_lt, slice_range, ◌||◌, if◌then◌else◌}
use Rattle.std.proofs.lemmas.List.{length-append, length-drop, length-take-le}
use Rattle.std.proofs.lemmas.Bool.Decides.{nat_tests}
use Rattle.text_buffer.specs.TextOfBytes.{most_lines}
use Rattle.edit_script.specs.declared.commands.Last.{Last}
use Rattle.edit_script.specs.declared.commands.Verb.{Verb}
use Rattle.edit_script.specs.declared.commands.Verb.TheVariants.{Append, Insert, Change, Delete, Move, CopyTo, Print, Ex, Page, Folds, Syntax}
use Rattle.edit_script.specs.declared.commands.EditCommand.{EditCommand}
use Rattle.edit_script.specs.declared.commands.Resolved.{Resolved}
use Rattle.edit_script.specs.declared.commands.ResolveError.{ResolveError}
use Rattle.edit_script.specs.Edits.{backwards, destination_outside, does_of, first_cause, into_self, least_line, line_named, moved, or_else, outside, Replacement, replaced, resolved_of, too_many, too_many_lines, unless}
use Rattle.edit_session.specs.Session.{syntax_named}
use Rattle.edit_session.specs.Steps.{FitsText}

-- no cause stands against it
none_first : (one two : Option ResolveError) → or_else one two ≡ None → (one ≡ None) × (two ≡ None)
none_first None two none = (refl, none)
none_first (Some cause) two none = absurd (cc)

ok_unless : (cause : Option ResolveError) (does resolved : Resolved) → unless cause does ≡ Ok resolved → (cause ≡ None) × (does ≡ resolved)
ok_unless None does resolved is = (refl, cc)
ok_unless (Some cause) does resolved is = absurd (cc)

within_of : (least : ℕ) (address : Last) (count : ℕ) → outside least address count ≡ None → (least ≤ line_named address count) × (line_named address count ≤ count)
within_of least address count none = by_test (nat_lt (line_named address count) least || nat_lt count (line_named address count)) refl none
  where
    by_test : (test : Bool) → (nat_lt (line_named address count) least || nat_lt count (line_named address count)) ≡ test → outside least address count ≡ None → (least ≤ line_named address count) × (line_named address count ≤ count)
    by_test true is none' = absurd (grind (arith, nat_tests))
    by_test false is none' = (grind (arith, nat_tests), grind (arith, nat_tests))

ordered_of : (first last : ℕ) → backwards first last ≡ None → first ≤ last
ordered_of first last none = grind (arith, nat_tests)

few_of : (lines : ℕ) → too_many lines ≡ None → lines ≤ most_lines
few_of lines none = grind (arith, nat_tests)

fits_does : (verb : Verb) (first last count new : ℕ) → syntax_named verb ≡ None → least_line verb ≤ first → first ≤ count → last ≤ count → destination_outside verb count ≡ None → first ≤ last → too_many_lines (does_of verb first last count) new count ≡ None → FitsText count new (does_of verb first last count)
fits_does Append first last count new other least in_first in_last dest ordered few = (omega arith, in_last, few_of _ few)
fits_does Insert first last count new other least in_first in_last dest ordered few = (omega arith, omega arith, few_of _ few)
fits_does Change first last count new other least in_first in_last dest ordered few = (omega arith, in_last, few_of _ few)
fits_does Delete first last count new other least in_first in_last dest ordered few = (omega arith, in_last, few_of _ few)
fits_does (Move to) first last count new other least in_first in_last dest ordered few =
    (omega arith, in_last, (within_of 0 to count dest).1, few_of _ few)
fits_does (CopyTo to) first last count new other least in_first in_last dest ordered few =
    (omega arith, in_last, (within_of 0 to count dest).1, few_of _ few)
fits_does Print first last count new other least in_first in_last dest ordered few = (omega arith, in_last)
fits_does (Ex text) first last count new other least in_first in_last dest ordered few = (omega arith, in_last)
fits_does Page first last count new other least in_first in_last dest ordered few = tt
fits_does Folds first last count new other least in_first in_last dest ordered few = tt
fits_does (Syntax name) first last count new other least in_first in_last dest ordered few = absurd (cc)

pub fits_of : (command : EditCommand) (count : ℕ) (resolved : Resolved) → syntax_named command.verb ≡ None → resolved_of command count ≡ Ok resolved → FitsText count (length command.lines) resolved
fits_of command count resolved other is =
    let verb = command.verb in
    let first = line_named command.first count in
    let last = line_named command.last count in
    let whole = ok_unless (first_cause command count) (does_of verb first last count) resolved is in
    let a = none_first (outside (least_line verb) command.first count) _ whole.0 in
    let b = none_first (outside (least_line verb) command.last count) _ a.1 in
    let c = none_first (destination_outside verb count) _ b.1 in
    let d = none_first (backwards first last) _ c.1 in
    let e = none_first (into_self verb first last count) _ d.1 in
    let P : Resolved → Type 0 = FitsText count (length command.lines) in
    subst P whole.1
    (fits_does verb first last count (length command.lines) other (within_of (least_line verb) command.first count a.0).0 (within_of (least_line verb) command.first count a.0).1 (within_of (least_line verb) command.last count b.0).1 c.0 (ordered_of first last d.0) e.1)

pub fits_text : (command : EditCommand) (text : List (List ℕ)) (count : ℕ) (resolved : Resolved) → syntax_named command.verb ≡ None → count ≡ length text → resolved_of command count ≡ Ok resolved → FitsText (length text) (length command.lines) resolved
fits_text command text count resolved other counted is =
    let P : ℕ → Type 0 = λ n. FitsText n (length command.lines) resolved in
    subst P counted (fits_of command count resolved other is)

-- ---- texts keep some line

length_range : (text : List (List ℕ)) (a b : ℕ) → a ≤ b → b ≤ length text → length (slice_range text a b) ≡ b - a
length_range text a b ordered within =
    length-take-le (b - a) (drop a text) (omega (arith, length-drop a text))

length_replaced : (text new : List (List ℕ)) (a b : ℕ) → a ≤ b → b ≤ length text → length (take a text ++ new ++ drop b text) ≡ a + length new + (length text - b)
length_replaced text new a b ordered within =
    let first = length-append (take a text ++ new) (drop b text) in
    let second = length-append (take a text) new in
    let front = length-take-le a text (omega arith) in
    let back = length-drop b text in
    omega arith

some_exchanged : (text : List (List ℕ)) (a middle b : ℕ) → a ≤ middle → middle ≤ b → b ≤ length text → 0 < length text → 0 < length (take a text ++ (slice_range text middle b ++ slice_range text a middle) ++ drop b text)
some_exchanged text a middle b one two within some =
    let new = slice_range text middle b ++ slice_range text a middle in
    let whole = length_replaced text new a b (omega arith) within in
    let both = length-append (slice_range text middle b) (slice_range text a middle) in
    let second = length_range text middle b two within in
    let first = length_range text a middle one (omega arith) in
    omega arith

some_same : (text : List (List ℕ)) (a : ℕ) → a ≤ length text → 0 < length text → 0 < length (take a text ++ [] ++ drop a text)
some_same text a within some = let whole = length_replaced text [] a a (omega arith) within in omega arith

some_by_tests : (before behind : Bool) (text : List (List ℕ)) (a b dest : ℕ) → nat_lt dest a ≡ before → nat_lt b dest ≡ behind → a ≤ b → b ≤ length text → dest ≤ length text → 0 < length text → 0 < length (replaced text (if before then record { a = dest; b = b; new = slice_range text a b ++ slice_range text dest a } else if behind then record { a = a; b = dest; new = slice_range text b dest ++ slice_range text a b } else record { a = a; b = a; new = [] }))
some_by_tests true behind text a b dest one two ordered within place some = some_exchanged text dest a b (grind (arith, nat_tests)) ordered within some
some_by_tests false true text a b dest one two ordered within place some = some_exchanged text a b dest ordered (grind (arith, nat_tests)) place some
some_by_tests false false text a b dest one two ordered within place some = some_same text a (omega arith) some

pub some_moved : (text : List (List ℕ)) (a b dest : ℕ) (r : Replacement) → r ≡ moved text a b dest → a ≤ b → b ≤ length text → dest ≤ length text → 0 < length text → 0 < length (replaced text r)
some_moved text a b dest r is ordered within place some =
    let P : Replacement → Type 0 = λ s. 0 < length (replaced text s) in
    subst P (sym is) (some_by_tests (nat_lt dest a) (nat_lt b dest) text a b dest refl refl ordered within place some)

pub some_copied : (text : List (List ℕ)) (a b dest : ℕ) (r : Replacement) → r ≡ record { a = dest; b = dest; new = slice_range text a b } → dest ≤ length text → 0 < length text → 0 < length (replaced text r)
some_copied text a b dest r is place some =
    let P : Replacement → Type 0 = λ s. 0 < length (replaced text s) in
    let whole = length_replaced text (slice_range text a b) dest dest (omega arith) place in
    subst P (sym is) (omega arith)
