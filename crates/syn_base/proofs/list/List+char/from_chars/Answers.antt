use Rattle.std.proofs.Common.{◌≡◌, rules}
use Rattle.std.specs.Str.{chars}
use Rattle.std.proofs.lemmas.Str.{Chars-Drains, encodes-chars}
use Rattle.syn_base.proofs.list.List+char.from_chars.Goals as goal

pub returns : goal.returns
returns c =
    let ran = c.in_ok-extend.ensures.ran in
    let text = c.args.text.now in
    let same : ran.1 ≡ chars text = Chars-Drains (chars text) ran.1 ran.0 (search (rules, encodes-chars, ran.2)) ran.4 in
    search (rules, same, ran.3)
