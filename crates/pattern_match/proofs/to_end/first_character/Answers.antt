use Rattle.std.proofs.Common.{◌≡◌, ap, ◌∙◌}
use Rattle.std.specs.Prelude.{Some}
use Rattle.pattern_items.specs.declared.atom.Atom.TheVariants.{Char}
use Rattle.vim_pattern.specs.Shape.{Shape}
use Rattle.match_rules.specs.Marks.{followed}
use Rattle.pattern_match.specs.FirstAtom.{first_atom}
use Rattle.pattern_match.specs.Glance.{marks_behind}
use Rattle.pattern_match.specs.Steps.{atom_of, shape_of}
use Rattle.pattern_match.proofs.FirstAtomLaws.{first_atom-fails}
use Rattle.pattern_match.proofs.to_end.first_character.Goals as goal

pub returns-in-Some-Char : goal.returns-in-Some-Char
returns-in-Some-Char c = λ x w fails.
    let s : Shape = shape_of c.in-Then.step.now in
    let first : first_atom s ≡ Some (Char c.in-Some-Char.c) = c.in-Some-Char.ensures ∙ ap (λ test. Some (atom_of test)) c.in-Some-Char.field-0-is in
    rw c.in-Then.is (ap (λ m. followed m (marks_behind x c.in-Then.field-1.now)) (first_atom-fails x s w (Char c.in-Some-Char.c) first fails))
