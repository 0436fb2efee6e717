-- A law of the session in the subject's own terms: commands that fit the text, of which those by pattern come to a
-- change or a count, and whose paintings are accepted, are all carried out.
use Rattle.std.specs.Prelude.{◌≡◌, ℕ, false, List, [], ◌∷◌, Option, Some, None, Result, Ok, Err, IsOk, ⊤}
use Rattle.edit_script.specs.declared.commands.EditCommand.{EditCommand}
use Rattle.edit_script.specs.declared.commands.Entry.{Entry}
use Rattle.edit_script.specs.declared.commands.ScriptFault.{ScriptFault}
use Rattle.edit_script.specs.Edits.{Replacement, replaced}
use Rattle.edit_session.specs.Painter.{Library, Painted, Painter}
use Rattle.edit_session.specs.Session.{Standing, answers, change_of, entries_read, script_session, session, start, syntax_named}

-- a command goes through where the painting of the changed text is accepted, and where it changes none; one with
-- words against it doesn't: it isn't resolved on the text, or is by pattern and comes to nothing
abbrev pub GoesThrough : Painter → List (List ℕ) → Result (Option Replacement) (List ℕ) → Type 0
GoesThrough p text (Ok (Some r)) = IsOk (p.paint (replaced text r))
GoesThrough p text (Ok None) = ⊤
GoesThrough p text (Err words) = ⊥

-- a syntax goes through where its file is accepted, and the painting of the text by it
abbrev pub IsTaken : Result Painter (List ℕ) → List (List ℕ) → Type 0
IsTaken (Ok q) text = IsOk (q.paint text)
IsTaken (Err words) text = ⊥

abbrev pub CommandGoesThrough : Library → Standing → EditCommand → Option (List ℕ) → Type 0
CommandGoesThrough library s command (Some name) = IsTaken (library.reads name) s.painted.text
CommandGoesThrough library s command None = GoesThrough s.painter s.painted.text (change_of s.painter s.painted.text command)

-- what stands in a line of the script is a command, and it goes through
abbrev pub IsCarriedOut : Library → Standing → Result EditCommand ScriptFault → Type 0
IsCarriedOut library s (Ok command) = CommandGoesThrough library s command (syntax_named command.verb)
IsCarriedOut library s (Err fault) = ⊥

-- each of them is, on what those before it left
abbrev pub AreCarriedOut : Library → Standing → List Entry → Type 0
AreCarriedOut library s [] = ⊤
AreCarriedOut library s (entry ∷ entries) =
    IsCarriedOut library s entry.what × AreCarriedOut library (answers library s entry.line entry.what).stands entries

-- then the session refuses none of them
abbrev pub SessionsRefuseNone : Type 0
SessionsRefuseNone =
    (library : Library) (s : Standing) (entries : List Entry)
    → AreCarriedOut library s entries → (session library s entries).stands.refused ≡ s.refused

-- and at the end of such a script no command was refused
abbrev pub ScriptsRefuseNone : Type 0
ScriptsRefuseNone =
    (library : Library) (p : Painter) (painted : Painted) (bytes : List ℕ)
    → AreCarriedOut library (start p painted) (entries_read bytes)
    → (script_session library (start p painted) bytes).stands.refused ≡ false
