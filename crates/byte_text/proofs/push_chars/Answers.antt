use Rattle.std.proofs.Common.{◌<◌, length, arith}
use Rattle.byte_text.proofs.Characters.{further}
use Rattle.byte_text.proofs.push_chars.Goals as goal

pub loop-c-preserved : goal.loop-c-preserved
loop-c-preserved c =
    let within : c.loop-c.c-index < length c.args.characters.now = omega arith in
    further c.args.characters.now _ _ _ c.loop-c.c-index _ within c.c-item.is c.loop-c.invariant c.in_ok-push_char.ensures
