-- What sessions print whose scripts have commands by pattern, where one counts its lines, one deletes them, one puts two
-- lines in their place, and others are refused; the painting of a text is refused where it has more than three lines.
use Rattle.std.proofs.Common.{◌≡◌, ℕ, ◌+◌, ◌-◌, List, [], ◌∷◌, ◌++◌, length, map, refl, true, false}
use Rattle.std.specs.Prelude.{codes, decimal, bytes_eq, nat_lt, Some, None, Ok, Err, Result, if◌then◌else◌}
use Rattle.std.specs.List.{range_with_len}
use Rattle.std.specs.Fmt.{digits}
use Rattle.std.specs.Str.{chars, is_utf8}
use Rattle.std.proofs.Math.Utf8.{encode}
use Rattle.edit_script.specs.declared.commands.EditCommand.{EditCommand}
use Rattle.edit_script.specs.declared.commands.Last.{Last}
use Rattle.edit_script.specs.declared.commands.Last.TheVariants.{Number, End}
use Rattle.edit_script.specs.declared.commands.Verb.{Verb}
use Rattle.edit_script.specs.declared.commands.Verb.TheVariants.{CopyTo, Delete, Ex, Move, Print}
use Rattle.edit_script.specs.Edits.{lines_become, put_in_place}
use Rattle.edit_session.specs.declared.changes.Substituted.{Substituted}
use Rattle.edit_session.specs.declared.changes.Substituted.TheVariants.{Becomes, Counted}
use Rattle.edit_session.specs.Painter.{Library, Painter}
use Rattle.edit_session.specs.Session.{Answer, Standing, change_of, script_costs, script_session, start}

abbrev substituted : List (List ℕ) → ℕ → ℕ → List ℕ → Result Substituted (List ℕ)
substituted text a b command =
    if bytes_eq command (codes "s/a/b/n") then Ok (Counted (b - a))
    else if bytes_eq command (codes "g/a/d") then Ok (Becomes (put_in_place text a b []))
    else if bytes_eq command (codes "s/a/x\\ry/") then Ok (Becomes (lines_become a b (codes "x" ∷ codes "y" ∷ [])))
    else Err (codes "no match")

abbrev painter : Painter
painter = record {
  paint = λ text. if nat_lt 3 (length text) then Err (codes "too costly") else Ok (map (λ line. []) text);
  report = λ before after a b count. range_with_len a count;
  costs = λ text r. length text;
  substitute = substituted;
  line = λ number spans. decimal (number + 1) ++ codes "\n";
  page = λ text spans. [];
  folds = λ text. [];
  shows = λ spans. [];
}

-- no file is told of
abbrev library : Library
library = record { reads = λ name. Err []; is_long = λ name. false; unread = λ name number. None }

abbrev three : List (List ℕ)
three = codes "a" ∷ codes "b" ∷ codes "c" ∷ []

abbrev begun : Standing
begun = start painter (record { text = three; spans = [] ∷ [] ∷ [] ∷ [] })

abbrev run : List ℕ → Answer
run script = script_session library begun script

-- ---- in sessions

-- matches are told, of one too, and neither text nor spans change
a_count : (run (codes "1,2s/a/b/n\n3s/a/b/n\n")).text ≡ codes "@1\n2 matches\n@2\n1 matches\n"
unfolding chars encode is_utf8 digits
a_count = refl

stays_behind_a_count : (run (codes "1,2s/a/b/n\n")).stands ≡ record begun { number = 1 }
unfolding chars encode is_utf8 digits
stays_behind_a_count = refl

-- a change is told by its lines, as that of any other command
a_change : (run (codes "2,3s/a/x\\ry/\n")).text ≡ codes "@1\n2\n3\n"
unfolding chars encode is_utf8 digits
a_change = refl

changed_text : (run (codes "2,3g/a/d\n1s/a/x\\ry/\n")).stands.painted.text ≡ codes "x" ∷ codes "y" ∷ []
unfolding chars encode is_utf8 digits
changed_text = refl

-- a refused one changes nothing, and the run goes on
a_refusal : (run (codes "1s/q/q/\n$p\n")).text ≡ codes "@1 ? 1 no match\n@2\n3\n"
unfolding chars encode is_utf8 digits
a_refusal = refl

stays_behind_a_refusal : (run (codes "1s/q/q/\n")).stands ≡ record begun { number = 1; refused = true }
unfolding chars encode is_utf8 digits
stays_behind_a_refusal = refl

-- the causes of its range come first, and those of painting last
range_first : (run (codes "4s/q/q/\n3,2g/q/d\n0v/q/d\n")).text ≡ codes "@1 ? 1 no line 4\n@2 ? 2 backwards range\n@3 ? 3 no line 0\n"
unfolding chars encode is_utf8 digits
range_first = refl

painting_last : (run (codes "1s/a/x\\ry/\n1p\n")).text ≡ codes "@1 ? 1 too costly\n@2\n1\n"
unfolding chars encode is_utf8 digits
painting_last = refl

-- a change may paint what its painter says, also where its painting is refused; a count and a refusal paint nothing
costs_of_changes : script_costs library begun (codes "1s/a/x\\ry/\n1s/a/b/n\n1s/q/q/\n2,3g/a/d\n$g/a/d\n") ≡ 7
unfolding chars encode is_utf8 digits
costs_of_changes = refl

-- ---- what a command comes to

abbrev of : Last → Last → Verb → EditCommand
of first last verb = record { first = first; last = last; verb = verb; lines = [] }

comes_to_a_change : change_of painter three (of (Number 1) End (Ex (codes "g/a/d"))) ≡ Ok (Some (lines_become 0 3 ([] ∷ [])))
comes_to_a_change = refl

comes_to_a_count : change_of painter three (of (Number 1) End (Ex (codes "s/a/b/n"))) ≡ Ok None
comes_to_a_count = refl

comes_to_no_match : change_of painter three (of (Number 1) End (Ex (codes "s/q/q/"))) ≡ Err (codes "no match")
comes_to_no_match = refl

outside : change_of painter three (of (Number 1) (Number 4) (Ex (codes "s/q/q/"))) ≡ Err (codes "no line 4")
unfolding digits
outside = refl

nothing_left : change_of painter three (of (Number 1) End Delete) ≡ Ok (Some (lines_become 0 3 ([] ∷ [])))
nothing_left = refl

moved_down : change_of painter three (of (Number 1) (Number 1) (Move End)) ≡ Ok (Some (lines_become 0 3 (codes "b" ∷ codes "c" ∷ codes "a" ∷ [])))
moved_down = refl

copied : change_of painter three (of (Number 1) (Number 2) (CopyTo (Number 3))) ≡ Ok (Some (lines_become 3 3 (codes "a" ∷ codes "b" ∷ [])))
copied = refl

printed : change_of painter three (of (Number 1) (Number 2) Print) ≡ Ok None
printed = refl
