use Rattle.std.proofs.Common.{◌≡◌, ◌+◌, drop, length}
use Rattle.std.specs.Prelude.{nat_eq}
use Rattle.std.specs.List.{starts_with}
use Rattle.pattern_items.proofs.class_names.begins_with.Given as goal

abbrev pub invariant-loop-byte : goal.invariant-loop-byte
invariant-loop-byte l = record {
  same : starts_with nat_eq l.rest (drop l.byte-index l.word) ≡ starts_with nat_eq l.text l.word;
  within : l.byte-index + length l.rest ≡ length l.text;
}
