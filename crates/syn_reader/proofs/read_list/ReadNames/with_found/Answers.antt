use Rattle.std.proofs.Common.{◌≡◌, ◌∷◌, ◌++◌, [], ap, ◌∙◌}
use Rattle.std.specs.Prelude.{not}
use Rattle.syntax_set.specs.Numbers.{has_number}
use Rattle.syn_reader.specs.declared.read_list.ReadName.TheVariants.{Found}
use Rattle.syn_reader.specs.NamedLists.{with_found, found_in}
use Rattle.syn_reader.proofs.ListLaws.{found_kept, when_new, when_known}
use Rattle.syn_reader.proofs.read_list.ReadNames.with_found.Goals as goal
use Rattle.syn_reader.proofs.read_list.ReadNames.with_found.Goals.{then-branch+in_ok-push, else-branch}

pub invariant_of-result : goal.invariant_of-result
invariant_of-result c =
    let old = c.self.inside in
    let group = c.args.group in
    let known = has_number (found_in old.names) group.0 in
    let new : c.in_ok-insert.field-0 ≡ not known = c.in_ok-insert.ensures.added ∙ ap (λ ks. not (has_number ks group.0)) c.self.invariant in
    let more = old.names ++ Found group ∷ [] in
    let names : c.if-branch.names ≡ with_found old.names group =
    elim c.if-branch.branch [
      | then-branch+in_ok-push w ↦ when_new known c.in_ok-insert.field-0 old.names more c.if-branch.names new w.if-branch.true (w.names-is ∙ w.in_ok-push.ensures.ok)
      | else-branch w ↦ when_known known c.in_ok-insert.field-0 old.names more c.if-branch.names new w.if-branch.false w.names-is
    ] in
    found_kept old.names c.if-branch.names old.found.keys c.insert.new.self.keys group c.self.invariant c.in_ok-insert.ensures.keys names
