use Rattle.std.proofs.Common.{◌≡◌, ap, ◌∙◌}
use Rattle.edit_script.specs.Entries.{entries_at_end}
use Rattle.edit_script.specs.Kept.{Kept}
use Rattle.edit_script.proofs.FeedLaws.{further_at_end}
use Rattle.edit_script.proofs.script.Script.finish.Goals as goal

pub returns : goal.returns
returns c =
    let entries : c.push_unfinished.new.entries ≡ entries_at_end c.args.self.lines c.args.self.bytes =
    c.in_ok-push_unfinished.ensures
    ∙ c.in_ok-entries.ensures.ends
    ∙ ap (λ (k : Kept). entries_at_end k.lines k.bytes) c.self.view_is in
    record {
      entries = entries;
      further = λ before is. further_at_end before c.args.self c.push_unfinished.new.entries entries is;
    }
