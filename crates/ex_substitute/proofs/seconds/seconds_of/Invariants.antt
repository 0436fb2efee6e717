use Rattle.std.proofs.Common.{◌≡◌, ◌<◌, ℕ, false}
use Rattle.char_class.specs.Bits.{has_code}
use Rattle.ex_substitute.specs.Begins.{IsNoSecond}
use Rattle.ex_substitute.proofs.seconds.seconds_of.Given as goal

-- of the codes below `code` those that aren't in are known not to stand second
abbrev pub invariant-loop-code : goal.invariant-loop-code
invariant-loop-code l =
    (c : ℕ) → c < l.code → has_code l.codes c ≡ false → IsNoSecond (record { tree = l.command.tree; context = l.context; budget = l.budget }) c
