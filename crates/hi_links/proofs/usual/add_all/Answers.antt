use Rattle.std.proofs.Common.{[], arith}
use Rattle.std.proofs.lemmas.Result.{err_from_is_err_and}
use Rattle.hi_links.specs.UsualGroups.{groups_and_links}
use Rattle.hi_links.proofs.UsualLaws.{none_made, one_more, refused_one, some_made}
use Rattle.hi_links.proofs.usual.add_all.Goals as goal

pub loop-row-init : goal.loop-row-init
loop-row-init c = record { so_far = none_made c.args.groups.now c.args.links.now c.requires.none; most = λ h. absurd (omega arith) }

pub returns-in_err-add-clause-some : goal.returns-in_err-add-clause-some
returns-in_err-add-clause-some c =
    let p = err_from_is_err_and c.from_residual.result c.from_residual.ensures.1 in
    rw p.1 (some_made c.args.rows.now c.loop-row.row-index _ c.loop-row-test.true c.args.groups.now c.loop-row.groups c.add.new.groups
    c.loop-row.links c.loop-row.invariant.so_far c.in_err-add.ensures.some)

pub returns-in_err-add-clause-refused : goal.returns-in_err-add-clause-refused
returns-in_err-add-clause-refused c =
    let p = err_from_is_err_and c.from_residual.result c.from_residual.ensures.1 in
    rw (p.1, p.2) (refused_one c.args.rows.now c.loop-row.row-index _ c.loop-row-test.true c.add.new.groups _ c.in_err-add.ensures.refused)

pub loop-row-preserved : goal.loop-row-preserved
loop-row-preserved c = record {
  so_far = one_more c.args.rows.now c.loop-row.row-index _ c.loop-row-test.true (groups_and_links c.args.groups.now [])
      c.loop-row.groups c.loop-row.links c.loop-row.invariant.so_far c.add.new.groups c.add.new.links
      c.in_ok-add.ensures.names c.in_ok-add.ensures.links;
  most = λ _. c.in_ok-add.ensures.most;
}
