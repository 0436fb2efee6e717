use Rattle.std.proofs.Common.{rules, ◌<◌, length}
use Rattle.pattern_items.specs.Place.{items_of}
use Rattle.vim_pattern.specs.Built.{state_of}
use Rattle.vim_pattern.proofs.Progress.{progress_next}
use Rattle.vim_pattern.proofs.read.read_items.Goals as goal

pub loop-rest-preserved : goal.loop-rest-preserved
loop-rest-preserved c =
    let some : 0 < length c.loop-rest.rest.now = search rules in
    record {
      whole = progress_next (items_of c.args.usage c.args.text.now) c.loop-rest.around c.loop-rest.place c.loop-rest.rest.now c.loop-rest.noted (state_of c.loop-rest.reading)
          c.in_ok-sign.field-0 c.in_ok-sign.ensures.value (state_of c.in_ok-reading.reading) c.noted_next-noted.result c.behind-rest.result.now
          some c.in_ok-sign.ensures.some c.noted_next-noted.ensures c.in_ok-reading.ensures c.behind-rest.ensures.value c.loop-rest.invariant.whole;
      within = search rules;
      few = search rules;
      known = search rules;
    }
