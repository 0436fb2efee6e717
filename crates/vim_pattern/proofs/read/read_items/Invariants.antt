use Rattle.std.proofs.Common.{◌≡◌, ◌+◌, ◌^◌, ◌<◌, length}
use Rattle.pattern_items.specs.Place.{items_of}
use Rattle.vim_pattern.specs.Built.{state_of}
use Rattle.pattern_items.specs.Vain.{Known}
use Rattle.vim_pattern.proofs.Progress.{Progress}
use Rattle.vim_pattern.proofs.read.read_items.Given as goal

-- what is left, from what has been built and noted, is the whole
abbrev pub invariant-loop-rest : goal.invariant-loop-rest
invariant-loop-rest l = record {
  whole : Progress (items_of l.fn.usage l.text) l.around l.place l.rest l.noted (state_of l.reading);
  within : l.place + length l.rest ≡ length l.text;
  few : length l.text < 2 ^ 61;
  known : Known l.in_vain l.rest;
}

abbrev pub decreases-loop-rest : goal.decreases-loop-rest
decreases-loop-rest l = length l.rest
