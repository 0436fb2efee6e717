-- Commands, and what they do to texts.
use Rattle.std.proofs.Common.{◌≡◌, ◌≤◌, ℕ, List, [], ◌∷◌, refl, arith}
use Rattle.std.specs.Prelude.{codes, Ok, Err}
use Rattle.std.proofs.lemmas.Bool.Decides.{nat_tests}
use Rattle.edit_script.specs.declared.commands.EditCommand.{EditCommand}
use Rattle.edit_script.specs.declared.commands.Last.{Last}
use Rattle.edit_script.specs.declared.commands.Last.TheVariants.{Number, End}
use Rattle.edit_script.specs.declared.commands.Resolved.TheVariants as does
use Rattle.edit_script.specs.declared.commands.ResolveError.TheVariants.{NoLine, Backwards, MoveIntoSelf, TooManyLines}
use Rattle.edit_script.specs.declared.commands.Verb.{Verb}
use Rattle.edit_script.specs.declared.commands.Verb.TheVariants.{Append, Insert, Change, Delete, Move, CopyTo, Print, Ex, Page, Folds, Syntax}
use Rattle.edit_script.specs.Edits.{lines_become, moved, put_in_place, replaced, resolved_of}

abbrev of : Last → Last → Verb → EditCommand
of first last verb = record { first = first; last = last; verb = verb; lines = [] }

abbrev at : ℕ → Verb → EditCommand
at n verb = of (Number n) (Number n) verb

abbrev with : ℕ → Verb → List (List ℕ) → EditCommand
with n verb lines = record { first = Number n; last = Number n; verb = verb; lines = lines }

-- ---- in numbers

no_line : resolved_of (at 9 Delete) 3 ≡ Err (NoLine 9)
no_line = refl

-- of two addresses outside the first from the left; and before the range is looked at
first_outside : resolved_of (of (Number 2) (Number 1) (Move (Number 9))) 1 ≡ Err (NoLine 2)
first_outside = refl

last_outside : resolved_of (of (Number 1) (Number 7) (Move (Number 9))) 3 ≡ Err (NoLine 7)
last_outside = refl

destination_outside : resolved_of (of (Number 2) (Number 1) (Move (Number 9))) 3 ≡ Err (NoLine 9)
destination_outside = refl

backwards : resolved_of (of (Number 2) (Number 1) Delete) 4 ≡ Err Backwards
backwards = refl

into_self : resolved_of (of (Number 1) (Number 3) (Move (Number 2))) 4 ≡ Err MoveIntoSelf
into_self = refl

into_its_first_line : resolved_of (of (Number 1) (Number 3) (Move (Number 1))) 4 ≡ Err MoveIntoSelf
into_its_first_line = refl

behind_its_last_line : resolved_of (of (Number 1) (Number 3) (Move (Number 3))) 4 ≡ Ok (does.Move 0 3 3)
behind_its_last_line = refl

to_the_end : resolved_of (of (Number 1) (Number 2) (Move (Number 4))) 4 ≡ Ok (does.Move 0 2 4)
to_the_end = refl

-- `0i` is as `1i`
before_line_0 : resolved_of (with 0 Insert (codes "x" ∷ [])) 3 ≡ Ok (does.Replace 0 0)
before_line_0 = refl

before_line_1 : resolved_of (with 1 Insert (codes "x" ∷ [])) 3 ≡ Ok (does.Replace 0 0)
before_line_1 = refl

behind_line_0 : resolved_of (with 0 Append (codes "x" ∷ [])) 3 ≡ Ok (does.Replace 0 0)
behind_line_0 = refl

behind_the_last_line : resolved_of (of End End Append) 3 ≡ Ok (does.Replace 3 3)
behind_the_last_line = refl

line_0_in_place : resolved_of (at 0 Change) 3 ≡ Err (NoLine 0)
line_0_in_place = refl

copy_to_the_front : resolved_of (at 1 (CopyTo (Number 0))) 1 ≡ Ok (does.CopyTo 0 1 0)
copy_to_the_front = refl

all_lines : resolved_of (of (Number 1) End Delete) 5 ≡ Ok (does.Replace 0 5)
all_lines = refl

a_page : resolved_of (of End End Page) 1 ≡ Ok does.Page
a_page = refl

-- of each text the folds are told
folds : (count : ℕ) → 1 ≤ count → resolved_of (of End End Folds) count ≡ Ok does.Folds
folds count some = grind (arith, nat_tests)

-- no text stands against another syntax, whatever its file is called
syntaxes : (name : List ℕ) (count : ℕ) → 1 ≤ count → resolved_of (of End End (Syntax name)) count ≡ Ok does.Syntax
syntaxes name count some = grind (arith, nat_tests)

a_syntax_in_a_full_text : resolved_of (of End End (Syntax (codes "s2"))) 2000000 ≡ Ok does.Syntax
a_syntax_in_a_full_text = refl

lines_printed : resolved_of (of (Number 2) End Print) 3 ≡ Ok (does.Print 1 3)
lines_printed = refl

lines_by_pattern : (text : List ℕ) → resolved_of (of (Number 2) End (Ex text)) 3 ≡ Ok (does.Ex 1 3)
lines_by_pattern text = refl

-- its range is looked at before what it says
line_0_by_pattern : (text : List ℕ) → resolved_of (at 0 (Ex text)) 3 ≡ Err (NoLine 0)
line_0_by_pattern text = refl

backwards_by_pattern : (text : List ℕ) → resolved_of (of (Number 3) (Number 2) (Ex text)) 3 ≡ Err Backwards
backwards_by_pattern text = refl

by_pattern_in_a_full_text : (text : List ℕ) → resolved_of (of (Number 1) End (Ex text)) 2000000 ≡ Ok (does.Ex 0 2000000)
by_pattern_in_a_full_text text = refl

one_line_too_many : resolved_of (with 1 Append (codes "x" ∷ [])) 2000000 ≡ Err TooManyLines
one_line_too_many = refl

as_many_as_fit : resolved_of (with 1 Append (codes "x" ∷ [])) 1999999 ≡ Ok (does.Replace 1 1)
as_many_as_fit = refl

one_for_one : resolved_of (with 1 Change (codes "x" ∷ [])) 2000000 ≡ Ok (does.Replace 0 1)
one_for_one = refl

too_many_copies : resolved_of (of (Number 1) End (CopyTo End)) 1000001 ≡ Err TooManyLines
too_many_copies = refl

-- ---- in texts

abbrev a : List ℕ
a = codes "a"

abbrev b : List ℕ
b = codes "b"

abbrev c : List ℕ
c = codes "c"

abbrev three : List (List ℕ)
three = a ∷ b ∷ c ∷ []

-- a text left without lines is one empty line
nothing_left : put_in_place three 0 3 [] ≡ lines_become 0 3 ([] ∷ [])
nothing_left = refl

one_line_less : put_in_place three 1 2 [] ≡ lines_become 1 2 []
one_line_less = refl

nothing_put : put_in_place three 1 1 [] ≡ lines_become 1 1 []
nothing_put = refl

moved_down : moved three 0 1 3 ≡ lines_become 0 3 (b ∷ c ∷ a ∷ [])
moved_down = refl

moved_up : moved three 2 3 1 ≡ lines_become 1 3 (c ∷ b ∷ [])
moved_up = refl

stays_behind_the_line_before : moved three 1 3 1 ≡ lines_become 1 1 []
stays_behind_the_line_before = refl

stays_behind_its_last_line : moved three 0 2 2 ≡ lines_become 0 0 []
stays_behind_its_last_line = refl

swapped : replaced three (record { a = 1; b = 3; new = c ∷ b ∷ [] }) ≡ a ∷ c ∷ b ∷ []
swapped = refl
