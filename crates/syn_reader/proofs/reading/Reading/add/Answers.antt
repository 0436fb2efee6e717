use Rattle.std.proofs.Common.{length}
use Rattle.syn_reader.proofs.ItemLaws.{added, not_full, ok_is_no_err}
use Rattle.syn_reader.proofs.reading.Reading.add.Goals as goal

pub returns : goal.returns
returns c =
    let room = not_full (length c.args.self.now.items) 32000 (λ e. ok_is_no_err c.in_ok-id.id _ (c.in_ok-id.ensures.too_many.1 e)) in
    added c.args.self.now c.args.item c.args.words c.in_ok-id.id c.add_item.new.self c.add_words.new.keywords c.add_words.result room
    c.in_ok-id.ensures.number c.in_ok-id.ensures.added c.add_words.ensures
