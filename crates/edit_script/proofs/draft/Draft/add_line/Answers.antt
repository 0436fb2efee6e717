use Rattle.std.proofs.Common.{◌≡◌, sym, ◌∙◌}
use Rattle.std.specs.Prelude.{Ok, Err}
use Rattle.edit_script.specs.CommandLine.{line_chars}
use Rattle.edit_script.proofs.TextLaws.{with_good_line, with_faulty_line}
use Rattle.edit_script.proofs.draft.Draft.add_line.Goals as goal

pub returns-in_ok-push-in-Ok-clause-more : goal.returns-in_ok-push-in-Ok-clause-more
returns-in_ok-push-in-Ok-clause-more c =
    let is : line_chars c.args.bytes.now ≡ Ok c.in-Ok.line = sym c.in_ok-line.ensures ∙ c.in-Ok.is in
    λ text is_text. with_good_line c.args.self.now text c.args.bytes.now c.in-Ok.line c.push.new.self is c.in_ok-push-in-Ok.ensures.ok is_text

pub returns-in-Err-clause-more : goal.returns-in-Err-clause-more
returns-in-Err-clause-more c =
    let is : line_chars c.args.bytes.now ≡ Err c.in-Err.fault = sym c.in_ok-line.ensures ∙ c.in-Err.is in
    λ text is_text. rw c.add_fault.ensures (with_faulty_line c.args.self.now text c.args.bytes.now c.in-Err.fault is is_text)
