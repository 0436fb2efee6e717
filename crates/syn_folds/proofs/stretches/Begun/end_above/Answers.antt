use Rattle.std.proofs.Common.{◌≡◌, ◌<◌, ◌+◌, ◌-◌, length, subst, arith}
use Rattle.syn_folds.specs.Begun.{HaveEnded}
use Rattle.syn_folds.proofs.BegunLaws.{more_ended}
use Rattle.syn_folds.proofs.stretches.Begun.end_above.Goals as goal

pub ends-preserved : goal.ends-preserved
ends-preserved c =
    let some : 0 < length c.ends.self.places.items = omega arith in
    let late : 0 < c.args.line = c.ends.invariant.late some in
    let at : c.args.line - 1 + 1 ≡ c.args.line = omega arith in
    let ends : HaveEnded c.args.line (length c.ends.self.places.items) c.ends.self.places.items c.ends.self.folds.items c.end_last.new.self.places.items c.end_last.new.self.folds.items =
    subst (λ line. HaveEnded line (length c.ends.self.places.items) c.ends.self.places.items c.ends.self.folds.items c.end_last.new.self.places.items c.end_last.new.self.folds.items)
    at c.end_last.ensures.ended in
    record {
      ended =
          more_ended c.args.line (c.args.level + 1) (length c.ends.self.places.items) c.args.self.now.places.items
          c.ends.self.places.items c.end_last.new.self.places.items c.args.self.now.folds.items
          c.ends.self.folds.items c.end_last.new.self.folds.items (omega arith) c.ends.invariant.ended ends;
      left = omega arith;
      places = c.end_last.ensures.places;
      late = λ more. late;
    }
