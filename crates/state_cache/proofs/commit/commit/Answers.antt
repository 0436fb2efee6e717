use Rattle.std.proofs.Common.{arith, ap, ◌∙◌, ◌≡◌, ◌≤◌, length}
use Rattle.chunk_list.proofs.ReplacedLaws.{length-replaced}
use Rattle.state_cache.proofs.PatchLaws.{length-patched}
use Rattle.state_cache.proofs.commit.commit.Goals as goal

pub replace_reserved-requires-clause-inside : goal.replace_reserved-requires-clause-inside
replace_reserved-requires-clause-inside c =
    omega (arith, ap length c.put_patches.ensures.notes, length-patched c.args.notes.now.0 c.args.patches, c.requires.full, c.requires.inside)

pub replace_reserved-requires-clause-few : goal.replace_reserved-requires-clause-few
replace_reserved-requires-clause-few c =
    let full : length c.put_patches.new.notes.0 ≡ length c.args.text.now.lines = ap length c.put_patches.ensures.notes ∙ length-patched c.args.notes.now.0 c.args.patches ∙ c.requires.full in
    let inside : c.args.b ≤ length c.put_patches.new.notes.0 = omega (arith, full, c.requires.inside) in
    let n = length-replaced c.put_patches.new.notes.0 c.args.a c.args.b c.args.fresh c.requires.ordered inside in
    let m = length-replaced c.args.text.now.lines c.args.a c.args.b c.args.new c.requires.ordered c.requires.inside in
    omega (arith, n, m, full, c.requires.few, c.requires.count)
