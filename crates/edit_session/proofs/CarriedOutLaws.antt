-- Commands that are carried out refuse nothing.
use Rattle.std.proofs.Common.{◌≡◌, ℕ, List, [], ◌∷◌, length, false, refl, ◌∙◌}
use Rattle.std.specs.Prelude.{Option, Some, None, Result, Ok, Err, IsOk}
use Rattle.syn_base.specs.declared.places.Span.{Span}
use Rattle.edit_script.specs.declared.commands.EditCommand.{EditCommand}
use Rattle.edit_script.specs.declared.commands.Entry.{Entry}
use Rattle.edit_script.specs.declared.commands.ResolveError.{ResolveError}
use Rattle.edit_script.specs.declared.commands.Resolved.{Resolved}
use Rattle.edit_script.specs.declared.commands.Resolved.TheVariants.{Replace, Move, CopyTo, Print, Ex, Page, Folds, Syntax}
use Rattle.edit_script.specs.declared.commands.ScriptFault.{ScriptFault}
use Rattle.edit_script.specs.Edits.{Replacement, moved, put_in_place, replaced, resolved_of}
use Rattle.edit_session.specs.declared.changes.Substituted.{Substituted}
use Rattle.edit_session.specs.declared.changes.Substituted.TheVariants.{Becomes, Counted}
use Rattle.edit_session.specs.Laws.{AreCarriedOut, CommandGoesThrough, GoesThrough, IsCarriedOut, IsTaken}
use Rattle.edit_session.specs.Painter.{Library, Painter, Painted}
use Rattle.edit_session.specs.Session.{Standing, answers, change_in, change_or_words, does, entries_read, ex_text, obeys, script_session, session, start, substitutes, syntax_named, with_painter, with_painting, with_syntax}

painted_well : (s : Standing) (line : ℕ) (r : Replacement) (painting : Result (List (List Span)) (List ℕ)) → IsOk painting → (with_painting s line r painting).stands.refused ≡ s.refused
painted_well s line r (Ok spans) is = refl
painted_well s line r (Err cause) is = absurd (cc)

substituted_well : (s : Standing) (line : ℕ) (made : Result Substituted (List ℕ)) → GoesThrough s.painter s.painted.text (change_in made) → (substitutes s line made).stands.refused ≡ s.refused
substituted_well s line (Ok (Becomes r)) is = painted_well s line r (s.painter.paint (replaced s.painted.text r)) is
substituted_well s line (Ok (Counted count)) is = refl
substituted_well s line (Err words) is = absurd is

obeyed_well : (s : Standing) (line : ℕ) (command : EditCommand) (found : Result Resolved ResolveError) → GoesThrough s.painter s.painted.text (change_or_words s.painter s.painted.text command found) → (obeys s line command found).stands.refused ≡ s.refused
obeyed_well s line command (Ok (Replace a b)) is =
    let r = put_in_place s.painted.text a b command.lines in painted_well s line r (s.painter.paint (replaced s.painted.text r)) is
obeyed_well s line command (Ok (Move a b dest)) is =
    let r = moved s.painted.text a b dest in painted_well s line r (s.painter.paint (replaced s.painted.text r)) is
obeyed_well s line command (Ok (CopyTo a b dest)) is = painted_well s line _ _ is
obeyed_well s line command (Ok (Print a b)) is = refl
obeyed_well s line command (Ok (Ex a b)) is =
    substituted_well s line (s.painter.substitute s.painted.text a b (ex_text command.verb)) is
obeyed_well s line command (Ok Page) is = refl
obeyed_well s line command (Ok Folds) is = refl
obeyed_well s line command (Ok Syntax) is = refl
obeyed_well s line command (Err misfit) is = absurd is

painted_by : (s : Standing) (line : ℕ) (q : Painter) (painting : Result (List (List Span)) (List ℕ)) → IsOk painting → (with_painter s line q painting).stands.refused ≡ s.refused
painted_by s line q (Ok spans) is = refl
painted_by s line q (Err cause) is = absurd (cc)

taken_well : (s : Standing) (line : ℕ) (read : Result Painter (List ℕ)) → IsTaken read s.painted.text → (with_syntax s line read).stands.refused ≡ s.refused
taken_well s line (Ok q) is = painted_by s line q (q.paint s.painted.text) is
taken_well s line (Err words) is = absurd is

done_well : (library : Library) (s : Standing) (line : ℕ) (command : EditCommand) (named : Option (List ℕ)) → CommandGoesThrough library s command named → (does library s line command named).stands.refused ≡ s.refused
done_well library s line command (Some name) is = taken_well s line (library.reads name) is
done_well library s line command None is =
    obeyed_well s line command (resolved_of command (length s.painted.text)) is

answered_well : (library : Library) (s : Standing) (line : ℕ) (what : Result EditCommand ScriptFault) → IsCarriedOut library s what → (answers library s line what).stands.refused ≡ s.refused
answered_well library s line (Ok command) is = done_well library s line command (syntax_named command.verb) is
answered_well library s line (Err fault) is = absurd is

pub none_refused : (library : Library) (s : Standing) (entries : List Entry) → AreCarriedOut library s entries → (session library s entries).stands.refused ≡ s.refused
none_refused library s [] are = refl
none_refused library s (entry ∷ entries) are =
    none_refused library (answers library s entry.line entry.what).stands entries are.1 ∙ answered_well library s entry.line entry.what are.0

pub none_of_script : (library : Library) (p : Painter) (painted : Painted) (bytes : List ℕ) → AreCarriedOut library (start p painted) (entries_read bytes) → (script_session library (start p painted) bytes).stands.refused ≡ false
none_of_script library p painted bytes are = none_refused library (start p painted) (entries_read bytes) are
