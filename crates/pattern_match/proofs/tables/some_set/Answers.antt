use Rattle.std.proofs.Common.{IsOk}
use Rattle.pattern_match.proofs.TableLaws.{underscore_is_read}
use Rattle.pattern_match.proofs.tables.some_set.Goals as goal

pub unreachable-requires : goal.unreachable-requires
unreachable-requires c =
    let read : IsOk c.from_option.result = rw c.from_option.ensures underscore_is_read in
    let bad = rw c.in-Err.is at read in
    cc
