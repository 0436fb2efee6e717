use Rattle.std.proofs.Common.{◌≡◌, ◌≤◌, take, length, vec_capacity, vec_len}
use Rattle.text_buffer.proofs.reading.ascii_chars.Given as goal

-- those of the first bytes, and room for the others
abbrev pub invariant-loop-byte : goal.invariant-loop-byte
invariant-loop-byte l = record {
  copied : l.chars.items ≡ take l.byte-index l.bytes;
  count : vec_len l.chars ≡ l.byte-index;
  room : length l.bytes ≤ vec_capacity l.chars;
}
