use Rattle.std.proofs.Common.{◌≡◌, ◌≤◌, ◌+◌, ◌∙◌, length, refl, arith}
use Rattle.syn_folds.specs.Folds.{folds_of}
use Rattle.syn_folds.proofs.BegunLaws.{all_ended, next_line}
use Rattle.syn_folds.proofs.stretches.folds.Goals as goal

pub loop-line-preserved : goal.loop-line-preserved
loop-line-preserved c = record {
  all =
      next_line c.args.levels.now c.loop-line.line (c.loop-line.line + 1) c.loop-line.begun.places.items
      c.end_above.new.self.places.items c.begin_up_to.new.self.places.items c.loop-line.begun.folds.items
      c.end_above.new.self.folds.items c.begin_up_to.new.self.folds.items (folds_of c.args.levels.now)
      c.loop-line-test.true refl c.loop-line.invariant.all c.end_above.ensures.ended c.end_above.ensures.left
      c.in_ok-begin_up_to.ensures.begun c.in_ok-begin_up_to.ensures.risen;
  places = c.in_ok-begin_up_to.ensures.places;
  late = λ some. omega arith;
}

pub returns : goal.returns
returns c =
    let at : c.loop-line.line ≡ length c.args.levels.now = omega arith in
    let past : length c.args.levels.now ≤ c.loop-line.line = omega arith in
    c.from_vec.ensures
    ∙ all_ended c.args.levels.now c.loop-line.line (length c.args.levels.now) c.loop-line.begun.places.items
    c.end_above-2.new.self.places.items c.loop-line.begun.folds.items c.end_above-2.new.self.folds.items
    (folds_of c.args.levels.now) at past c.loop-line.invariant.all c.end_above-2.ensures.ended
    c.end_above-2.ensures.left
