use Rattle.std.proofs.Common.{◌≡◌}
use Rattle.vimsyn_cli.specs.Renewal.{naming}
use Rattle.vimsyn_cli.proofs.RenewalLaws.{read_not, read_well}
use Rattle.vimsyn_cli.proofs.renewal.read_named.Goals as goal

pub returns-in-Ok-read-clause-read : goal.returns-in-Ok-read-clause-read
returns-in-Ok-read-clause-read g c =
    let same : c.naming.result ≡ naming c.args.words.now c.args.name.now = cc (c.naming.ensures, c.as_str.ensures.value, c.in-Ok.ensures) in
    λ known is. read_well (g.F.Files.told c.args.files.now) c.naming.result (naming c.args.words.now c.args.name.now) c.in-Ok-read.syntax known same is c.in-Ok-read.ensures.planned

pub returns-in-Ok-clause-read : goal.returns-in-Ok-clause-read
returns-in-Ok-clause-read g c =
    let same : c.naming.result ≡ naming c.args.words.now c.args.name.now = cc (c.naming.ensures, c.as_str.ensures.value, c.in-Ok.ensures) in
    λ known is. read_not (g.F.Files.told c.args.files.now) c.naming.result (naming c.args.words.now c.args.name.now) c.in-Err-read.stop c.untaken.result known same is c.in-Err-read.ensures.planned c.untaken.ensures
