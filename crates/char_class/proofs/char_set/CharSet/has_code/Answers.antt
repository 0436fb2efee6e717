use Rattle.std.proofs.Common.{◌<◌, arith}
use Rattle.char_class.proofs.SetLaws.{is_member-members_in}
use Rattle.char_class.proofs.char_set.CharSet.has_code.Goals as goal

pub returns : goal.returns
returns c =
    let within : c.args.code < 256 = omega arith in
    rw (← c.self.view_is, is_member-members_in c.self.inside.codes.words c.args.code within) c.have.ensures
