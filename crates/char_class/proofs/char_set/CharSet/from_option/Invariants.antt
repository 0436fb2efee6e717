use Rattle.std.proofs.Common.{◌≡◌, length, drop}
use Rattle.std.specs.Str.{chars}
use Rattle.char_class.specs.OptionValue.{set_of}
use Rattle.char_class.specs.SoFar.{resumed}
use Rattle.char_class.proofs.char_set.CharSet.from_option.Given as goal

-- what was read stands for the characters that were taken
abbrev pub invariant-loop-c : goal.invariant-loop-c
invariant-loop-c l = record {
  at : l.reader.at ≡ length l.yielded;
  rest : resumed l.reader (drop l.reader.at (chars l.text)) ≡ set_of (chars l.text);
}
