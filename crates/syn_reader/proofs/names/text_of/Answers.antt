use Rattle.std.proofs.Common.{◌≡◌, sym, rules, encode_utf8_all}
use Rattle.std.proofs.lemmas.Iterator.{YieldsList-from_slice}
use Rattle.std.proofs.lemmas.Iterator.Adapters.{items_from_extend}
use Rattle.std.proofs.lemmas.Iterator.Consumers.{YieldsList-from_copied}
use Rattle.std.proofs.lemmas.Str.{chars_from_encodes, IsUtf8-string_bytes}
use Rattle.std.specs.String.{string_bytes}
use Rattle.syn_reader.proofs.names.text_of.Goals as goal

pub returns-clause-bytes : goal.returns-clause-bytes
returns-clause-bytes c =
    let all = items_from_extend c.extend.result c.extend.ensures.ran (YieldsList-from_copied (YieldsList-from_slice c.args.characters.now (search rules))) in
    search (rules, all)

pub returns-clause-characters : goal.returns-clause-characters
returns-clause-characters c =
    let text = c.extend.new.self in
    let all = items_from_extend c.extend.result c.extend.ensures.ran (YieldsList-from_copied (YieldsList-from_slice c.args.characters.now (search rules))) in
    let bytes : string_bytes text ≡ encode_utf8_all c.args.characters.now = search (rules, all) in
    sym (chars_from_encodes c.args.characters.now (string_bytes text) (IsUtf8-string_bytes text) (sym bytes))
