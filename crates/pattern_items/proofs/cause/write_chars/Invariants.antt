use Rattle.std.proofs.Common.{◌≡◌, ℕ, List, ◌++◌, encode_utf8_all, length}
use Rattle.std.specs.Fmt.{HasWritten, IsPlainFormatter}
use Rattle.pattern_items.proofs.cause.write_chars.Given as goal

-- what has been written, with the characters that are left, is the whole
abbrev pub invariant-loop-c : goal.invariant-loop-c
invariant-loop-c g l =
    IsPlainFormatter l.fn.f
    → (done : List ℕ) × HasWritten g.W.Write.write_str_gives l.fn.f done l.f × (done ++ encode_utf8_all l.rest ≡ encode_utf8_all l.chars)

abbrev pub decreases-loop-c : goal.decreases-loop-c
decreases-loop-c g l = length l.rest
