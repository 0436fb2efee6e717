-- What the reader of strings answers.
use Rattle.std.specs.Prelude.{◌≡◌, ℕ, List, Result, Ok, Err}
use Rattle.ex_substitute.specs.declared.error.ExError.{ExError}
use Rattle.ex_substitute.specs.declared.refusal.Refusal.{Refusal}
use Rattle.ex_substitute.specs.declared.string.Piece.{Piece}
use Rattle.ex_substitute.specs.declared.string.Spelled.{Spelled}
use Rattle.ex_substitute.specs.Answers.{FailsAs}

abbrev pub ReadsString : Result Spelled Refusal → Result (List Piece × List ℕ) ExError → Type 0
ReadsString (Ok s) rules = rules ≡ Ok (s.pieces, s.rest.now)
ReadsString (Err e) rules = FailsAs e rules
