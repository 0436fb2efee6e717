use Rattle.std.proofs.Common.{rules}
use Rattle.std.proofs.lemmas.List.{append_assoc}
use Rattle.html_writer.proofs.numbers.push_number.Goals as goal

pub returns : goal.returns
returns c = search (rules, append_assoc)
