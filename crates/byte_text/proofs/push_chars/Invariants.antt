use Rattle.std.proofs.Common.{◌≡◌, ◌++◌, take, encode_utf8_all}
use Rattle.byte_text.proofs.push_chars.Given as goal

-- the characters so far stand behind what was there
abbrev pub invariant-loop-c : goal.invariant-loop-c
invariant-loop-c l = l.out.items ≡ l.initial.out.items ++ encode_utf8_all (take l.c-index l.characters)
