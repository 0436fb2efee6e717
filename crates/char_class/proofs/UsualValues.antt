-- The values that the options have unless they are set, as texts that have a reading.
use Rattle.std.proofs.Common.{◌≡◌, IsOk, refl}
use Rattle.std.specs.Prelude.{codes}
use Rattle.std.specs.Str.{chars}
use Rattle.char_class.specs.OptionValue.{set_of}

pub words_are_ascii : chars (codes "@,48-57,_,192-255") ≡ codes "@,48-57,_,192-255"
unfolding chars
words_are_ascii = refl

pub file_names_are_ascii : chars (codes "@,48-57,/,.,-,_,+,,,#,$,%,~,=") ≡ codes "@,48-57,/,.,-,_,+,,,#,$,%,~,="
unfolding chars
file_names_are_ascii = refl

pub words_are_read : IsOk (set_of (chars (codes "@,48-57,_,192-255")))
unfolding chars set_of
words_are_read = refl

pub file_names_are_read : IsOk (set_of (chars (codes "@,48-57,/,.,-,_,+,,,#,$,%,~,=")))
unfolding chars set_of
file_names_are_read = refl
