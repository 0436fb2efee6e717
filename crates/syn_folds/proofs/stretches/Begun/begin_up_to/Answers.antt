use Rattle.std.proofs.Common.{◌≡◌, ◌+◌, length, arith}
use Rattle.syn_folds.proofs.BegunLaws.{more_begun}
use Rattle.syn_folds.proofs.stretches.Begun.begin_up_to.Goals as goal

pub begins-preserved : goal.begins-preserved
begins-preserved c =
    let risen : length c.begin.new.self.places.items ≡ length c.begins.self.places.items + 1 =
    c.in_ok-begin.ensures.risen in
    record {
      begun =
          more_begun c.args.line (length c.args.self.now.places.items) (length c.begins.self.places.items)
          (length c.begin.new.self.places.items) c.args.self.now.places.items c.begins.self.places.items
          c.begin.new.self.places.items c.args.self.now.folds.items c.begins.self.folds.items
          c.begin.new.self.folds.items c.begins.invariant.risen risen c.begins.invariant.begun
          c.in_ok-begin.ensures.begun;
      below = omega arith;
      risen = omega arith;
      places = c.in_ok-begin.ensures.places;
    }
