use Rattle.std.proofs.Common.{arith, ◌≡◌, ◌+◌, ◌<◌, ◌≤◌, ◌^◌, ◌≤ℤ◌, ◌+ℤ◌, pos, subst, length}
use Rattle.std.specs.Prelude.{true}
use Rattle.paint_reuse.specs.declared.change.Change.{Change}
use Rattle.state_cache.specs.Edits.{change_by, old_by}
use Rattle.state_cache.proofs.ReachLaws.{untouched_above, untouched_below, untouched_more, untouched_on}
use Rattle.state_cache.proofs.edit.Edit.clear_until.Goals as goal

pub loop-j-init : goal.loop-j-init
loop-j-init c =
    let e = c.args.self.now in
    untouched_above (change_by e) e.reach (old_by e) c.args.from c.min-near.result e.changed.ordered c.requires.sound.within
    (λ j low high.
    let less : j < c.first_near.result = omega (arith, low, high, c.max.ensures, c.min-near.ensures) in
    (omega (arith, less, c.first_near.ensures.above), c.first_near.ensures.far j less))

pub loop-j-preserved : goal.loop-j-preserved
loop-j-preserved c =
    let e = c.args.self.now in
    untouched_more (change_by e) (old_by e) c.args.from c.loop-j.j c.is_untouched.result c.loop-j.invariant c.is_untouched.ensures c.if-not-is_untouched.false

pub returns-clause-untouched : goal.returns-clause-untouched
returns-clause-untouched c =
    let e = c.args.self.now in
    let few : length (old_by e) < 2 ^ 32 = omega (arith, c.requires.sound.count, e.changed.small) in
    untouched_on (change_by e) (old_by e) c.args.from c.loop-j.j c.args.to c.loop-j.invariant
    (untouched_below (change_by e) e.reach (old_by e) c.loop-j.j c.args.to e.changed.ordered c.requires.sound.within
    (λ j low high.
    let past : c.first_behind.result ≤ j = omega (arith, low, high, c.max-2.ensures, c.min-behind.ensures, c.loop-j-test.false) in
    let on : j < 2 ^ 32 = omega (arith, high, few, c.requires.inside) in
    let Far : Change → Type 0 = λ x. (pos x.b ≤ℤ (pos j +ℤ e.reach.low)) × (e.reach.numbered ≡ true → x.a + x.count ≡ x.b) in
    subst Far c.change.ensures (c.first_behind.ensures.lines j past on, c.first_behind.ensures.numbers j past on)))
