use Rattle.std.proofs.Common.{ap, sym, ◌∙◌}
use Rattle.syn_reader.specs.NamedLists.{found_in}
use Rattle.syn_reader.proofs.ListLaws.{found_in-written}
use Rattle.syn_reader.proofs.read_list.ReadNames.with_written.Goals as goal

pub invariant_of-result : goal.invariant_of-result
invariant_of-result c = c.self.invariant ∙ sym (found_in-written c.self.inside.names c.args.name c.requires) ∙ sym (ap found_in c.in_ok-push.ensures.ok)
