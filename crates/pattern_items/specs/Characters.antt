-- The characters that items are spelled with: a printable one stands in quotes behind `char`, as
-- `char "v"`; the others have names.
use Rattle.std.specs.Prelude.{ℕ}
pub use Prim.Native.Char.{code as char}

abbrev pub backspace : ℕ
backspace = 8

abbrev pub tab : ℕ
tab = 9

abbrev pub carriage_return : ℕ
carriage_return = 13

abbrev pub escape : ℕ
escape = 27
