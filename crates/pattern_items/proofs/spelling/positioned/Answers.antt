use Rattle.std.proofs.Common.{◌∙◌, ap}
use Rattle.std.specs.Prelude.{take}
use Rattle.std.specs.List.{list_all}
use Rattle.pattern_items.specs.Numbers.{is_digit}
use Rattle.pattern_items.proofs.DigitLaws.{all_in_front}
use Rattle.pattern_items.proofs.spelling.positioned.Goals as goal

pub line_number-requires-clause-digits : goal.line_number-requires-clause-digits
line_number-requires-clause-digits c =
    ap (λ digits. list_all is_digit digits) c.first_of.ensures
    ∙ ap (λ count. list_all is_digit (take count c.args.text.now)) c.digit_count-count.ensures.count
    ∙ all_in_front c.args.text.now
