-- Laws of what a sink holds.
use Rattle.std.proofs.Common.{◌≡◌, ℕ, ◌+◌, ◌-◌, ◌≤◌, List, [], ◌++◌, take, drop, length, refl, ap, arith}
use Rattle.std.specs.Prelude.{Option, Some, None}
use Rattle.std.proofs.lemmas.List.{append_assoc, append-nil, drop-drop, drop_all, take-append-drop}
use Rattle.std.proofs.lemmas.Grind.{common_steps}
use Rattle.std.proofs.Math.Seq.{take-add, take-append_seam}
use Rattle.syn_base.specs.Outside.{appended}

-- two writes append one after the other
pub appended-appended : (written : Option (List ℕ)) (a b : List ℕ) → appended (appended written a) b ≡ appended written (a ++ b)
appended-appended None a b = refl
appended-appended (Some before) a b = ap Some (append_assoc before a b)

-- nothing appended
pub appended-nothing : (written : Option (List ℕ)) → appended written [] ≡ written
appended-nothing None = refl
appended-nothing (Some before) = ap Some (append-nil before)

-- a further part of the bytes, appended behind the first n of them
pub appended-further : (before now after : Option (List ℕ)) (bytes : List ℕ) (n m : ℕ) → now ≡ appended before (take n bytes) → after ≡ appended now (take m (take (length bytes - n) (drop n bytes))) → after ≡ appended before (take (n + m) bytes)
appended-further before now after bytes n m e f =
    let rest : take (length bytes - n) (drop n bytes) ≡ drop n bytes = grind (arith, common_steps) in
    rw (f, rest, e, take-add n m bytes) (appended-appended before (take n bytes) (take m (drop n bytes)))

-- the next n bytes of a source, copied into the front of a buffer, and the bytes behind them
pub next_bytes : (bytes copied buf : List ℕ) (at n : ℕ) → copied ≡ take n (take (length bytes - at) (drop at bytes)) → n ≤ length bytes - at → take n (copied ++ drop n buf) ++ drop (at + n) bytes ≡ drop at bytes
next_bytes bytes copied buf at n e within =
    let rest : take (length bytes - at) (drop at bytes) ≡ drop at bytes = grind (arith, common_steps) in
    let front : copied ≡ take n (drop at bytes) = rw (← rest) e in
    let long : length copied ≡ n = grind (arith, common_steps) in
    let back : take n (copied ++ drop n buf) ≡ copied = rw (← long) (take-append_seam copied (drop (length copied) buf)) in
    rw (back, front, ← drop-drop n at bytes) (take-append-drop n (drop at bytes))

-- behind the end there are no bytes
pub no_more : (bytes : List ℕ) (at n : ℕ) → length bytes - at ≡ 0 → drop (at + n) bytes ≡ []
no_more bytes at n e = drop_all (at + n) bytes (omega arith)
