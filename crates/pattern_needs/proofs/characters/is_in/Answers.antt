use Rattle.std.proofs.Common.{◌≡◌, ◌/◌, ap}
use Rattle.std.specs.Prelude.{◌==◌, slice_index}
use Rattle.std.proofs.lemmas.Nat.Bits.{shr_and_one}
use Rattle.char_class.specs.Bits.{has_bit}
use Rattle.pattern_needs.proofs.characters.is_in.Goals as goal

pub returns : goal.returns
unfolding has_bit
returns c =
    let word : c.from.result ≡ c.args.code / 64 = cc in
    rw word (ap (λ n. n == 1) (shr_and_one (slice_index c.args.words.now (c.args.code / 64)) _))
