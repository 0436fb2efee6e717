use Rattle.std.proofs.Common.{◌≡◌, false}
use Rattle.match_rules.specs.Ways.{Way}
use Rattle.pattern_match.specs.Glance.{asks_for_group}
use Rattle.pattern_match.specs.Steps.{atom_of}
use Rattle.pattern_match.proofs.TriedLaws.{asks_for_none}
use Rattle.pattern_match.proofs.atoms.try_atom.Goals as goal

pub returns-in_default : goal.returns-in_default
returns-in_default g c =
    let w : Way = c.args.ways.now.here.way in
    let plain : asks_for_group (atom_of c.args.test.now) ≡ false =
    asks_for_none c.args.test.now c.in_default.not-Ref c.in_default.not-ExternalRef in
    record {
      place = rw c.place-at.ensures at c.try_plain.ensures.place w plain;
      looked = rw c.place-at.ensures at c.try_plain.ensures.looked w plain;
      on_text = c.try_plain.ensures.on_text;
    }
