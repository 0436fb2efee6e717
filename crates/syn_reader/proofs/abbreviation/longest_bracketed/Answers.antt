use Rattle.std.proofs.Common.{◌≡◌, ◌==◌, ◌+◌, length, true, sym, arith}
use Rattle.std.proofs.lemmas.Bool.Decides.{nat_tests}
use Rattle.std.specs.Prelude.{not, ◌&&◌}
use Rattle.syn_reader.proofs.AbbreviationLaws.{longest-closed}
use Rattle.syn_reader.proofs.abbreviation.longest_bracketed.Goals as goal

pub returns-in-Some : goal.returns-in-Some
returns-in-Some c =
    let stem = c.args.stem.now in
    let behind = c.args.behind.now in
    let sound : (not (length stem == 0) && c.in-Some.close + 1 == length behind) ≡ true = grind (arith, nat_tests) in
    sym (longest-closed stem behind _ c.in-Some.close (sym c.in-Some.ensures.place) c.in-Some.ensures.within sound)
