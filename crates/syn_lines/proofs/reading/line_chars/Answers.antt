use Rattle.std.proofs.Common.{◌∙◌, ap}
use Rattle.std.specs.Str.{chars, is_utf8}
use Rattle.std.proofs.lemmas.Bool.{false_from_ne_true}
use Rattle.std.proofs.lemmas.Str.{IsUtf8-from_is_utf8, is_utf8-from_IsUtf8}
use Rattle.syn_lines.proofs.reading.line_chars.Goals as goal

pub returns-in-Err : goal.returns-in-Err
returns-in-Err c = false_from_ne_true (is_utf8 c.args.bytes.now) (λ good. (c.in-Err.ensures.cases).0 (IsUtf8-from_is_utf8 c.args.bytes.now good))

pub returns-in_ok-from_chars-in-Ok : goal.returns-in_ok-from_chars-in-Ok
returns-in_ok-from_chars-in-Ok c =
    (is_utf8-from_IsUtf8 c.args.bytes.now (c.in-Ok.ensures.cases).1, c.in_ok-from_chars-in-Ok.ensures ∙ ap chars (c.in-Ok.ensures.cases).0)
