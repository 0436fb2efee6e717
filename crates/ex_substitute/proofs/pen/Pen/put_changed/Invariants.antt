use Rattle.std.proofs.Common.{◌≡◌, map, drop}
use Rattle.ex_substitute.specs.Glyphs.{sign}
use Rattle.ex_substitute.specs.Pens.{drawn}
use Rattle.ex_substitute.proofs.pen.Pen.put_changed.Given as goal

-- the characters so far, with those from here on, are all
abbrev pub invariant-loop-c : goal.invariant-loop-c
invariant-loop-c l = drawn l.self (map sign (drop l.c-index l.chars)) ≡ drawn l.fn.self (map sign l.chars)
