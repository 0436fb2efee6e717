use Rattle.edit_script.proofs.NumberLaws.{all_in_front}
use Rattle.edit_script.proofs.addresses.address_at.Goals as goal

pub line_of-requires : goal.line_of-requires
line_of-requires c = rw c.digit_count-count.ensures.count (all_in_front c.args.text.now)
