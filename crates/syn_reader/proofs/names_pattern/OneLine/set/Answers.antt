use Rattle.std.proofs.Common.{◌≡◌, rules}
use Rattle.std.specs.Str.{chars}
use Rattle.std.proofs.lemmas.Str.{Chars-Drains, encodes-chars}
use Rattle.syn_reader.proofs.names_pattern.OneLine.set.Goals as goal

pub returns : goal.returns
returns c =
    let ran = c.in_ok-extend.ensures.ran in
    let name = c.args.name.now in
    let same : ran.1 ≡ chars name = Chars-Drains (chars name) ran.1 ran.0 (search (rules, encodes-chars, ran.2)) ran.4 in
    search (rules, same, ran.3)
