-- How far lines looked, at most, and whether any of them looked at a line's number.
use Rattle.std.specs.Prelude.{◌≡◌, ◌≤ℤ◌, true}
use Rattle.syn_base.specs.declared.looked.Looked.{Looked}
use Rattle.paint_reuse.specs.Kept.{KeptNote}

-- one range within another; a number that was looked at in it was looked at in the other
pub record IsWithin (inner outer : Looked) : Type 0 where
  pub low : outer.low ≤ℤ inner.low
  pub high : inner.high ≤ℤ outer.high
  pub numbered : inner.numbered ≡ true → outer.numbered ≡ true

abbrev pub LooksWithin : Looked → KeptNote → Type 0
LooksWithin reach note = IsWithin note.looked reach
