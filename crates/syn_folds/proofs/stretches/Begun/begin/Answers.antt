use Rattle.std.proofs.Common.{◌≡◌, ◌+◌, ◌++◌, ◌∷◌, [], length, refl}
use Rattle.syn_folds.specs.declared.stretches.Fold.{Fold}
use Rattle.syn_folds.specs.Begun.{ended}
use Rattle.syn_folds.specs.Folds.{begun_at}
use Rattle.syn_folds.proofs.BegunLaws.{one_begun}
use Rattle.syn_folds.proofs.stretches.Begun.begin.Goals as goal

pub returns-clause-begun : goal.returns-clause-begun
returns-clause-begun c levels =
    let places = c.args.self.now.places.items in
    let folds = c.args.self.now.folds.items in
    let f : Fold = record { first = c.args.line; last = c.args.line; level = length places + 1 } in
    let begun : ended c.args.line levels 1 (places ++ length folds ∷ []) (folds ++ f ∷ []) ≡ ended c.args.line levels 1 places folds ++ begun_at c.args.line (length places) (length places + 1) levels =
    one_begun c.args.line places folds c.args.line (length places + 1) c.requires.places refl levels in
    let place = c.in_ok-push.ensures.items in
    let long = c.in_ok-push.ensures.len in
    let more = c.in_ok-push-2.ensures.items in
    cc
