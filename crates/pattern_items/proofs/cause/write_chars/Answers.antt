use Rattle.std.proofs.Common.{◌++◌, encode_utf8, encode_utf8_all, sym, ap, ◌∙◌, append_assoc, rules}
use Rattle.std.proofs.Output.{has_written_append}
use Rattle.pattern_items.proofs.cause.write_chars.Goals as goal

pub loop-c-preserved : goal.loop-c-preserved
loop-c-preserved g c =
    λ plain.
    let now = c.loop-c.invariant plain in
    let ch = c.in-Some.c in (
      now.0 ++ encode_utf8 ch,
      has_written_append _ _ _ _ _ _ now.1 (search rules),
      append_assoc now.0 (encode_utf8 ch) _ ∙ ap (λ l. now.0 ++ encode_utf8_all l) (sym c.in-Some.ensures) ∙ now.2,
    )
