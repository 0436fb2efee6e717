-- The nodes of a pattern that is ready stand for those of its tree.
use Rattle.std.specs.Prelude.{true}
use Rattle.pattern_items.specs.declared.atom.Atom.{Atom}
use Rattle.pattern_items.specs.declared.atom.Atom.TheVariants as atom
use Rattle.vim_pattern.specs.Shape.{Shape, empty, one, seq, or, and, group, external, repeat, ahead, before, whole}
use Rattle.pattern_match.specs.Fates.{choice}
use Rattle.pattern_match.specs.declared.step.Step.{Step}
use Rattle.pattern_match.specs.declared.step.Step.TheVariants as step
use Rattle.pattern_match.specs.declared.step.Test.{Test}
use Rattle.pattern_match.specs.declared.step.Test.TheVariants as test

abbrev pub atom_of : Test → Atom
atom_of (test.Char c) = atom.Char c
atom_of (test.Any ends) = atom.Any ends
atom_of (test.Is class negative ends) = atom.Is class negative ends
atom_of (test.Set collection) = atom.Set collection.value
atom_of test.LineEnd = atom.LineEnd
atom_of test.LineStart = atom.LineStart
atom_of test.LineStop = atom.LineStop
atom_of test.WordStart = atom.WordStart
atom_of test.WordStop = atom.WordStop
atom_of test.FileStart = atom.FileStart
atom_of test.FileStop = atom.FileStop
atom_of test.MatchStart = atom.MatchStart
atom_of test.MatchStop = atom.MatchStop
atom_of (test.LineNumber how number) = atom.LineNumber how number
atom_of (test.Ref number) = atom.Ref number
atom_of (test.ExternalRef number) = atom.ExternalRef number

abbrev pub shape_of : Step → Shape
shape_of step.Empty = empty
shape_of (step.One t) = one (atom_of t)
shape_of (step.Seq' p a q b) = seq (shape_of a) (shape_of b)
shape_of (step.Or' p a q b) = or (shape_of a) (shape_of b)
shape_of (step.Choice' p a q b) = choice (shape_of a) (shape_of b)
shape_of (step.Optional' p a) = or (shape_of a) empty
shape_of (step.And' p a q b) = and (shape_of a) (shape_of b)
shape_of (step.Group' p a number) = group (shape_of a) number
shape_of (step.External' p a number) = external (shape_of a) number
shape_of (step.Repeat' p a least most lazy) = repeat (shape_of a) least most lazy
shape_of (step.Ahead' p a negative) = ahead (shape_of a) negative
shape_of (step.Before' p a negative limit) = before (shape_of a) negative limit
shape_of (step.Whole' p a) = whole (shape_of a)
shape_of step.Never = ahead empty true
