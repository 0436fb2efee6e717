-- What a count of faults says: it never falls, and it moves in no call but one that answers its cause.
use Rattle.std.specs.Prelude.{◌≡◌, ℕ, ◌+◌, ◌-◌, ◌^◌, ◌≤◌, min, Bool, true, false}

-- the greatest number of a count of 64 bits, at which a count that rises stands still
abbrev pub count_limit : ℕ
count_limit = 2 ^ 64 - 1

-- a count after one more
abbrev pub one_more : ℕ → ℕ
one_more count = min (count + 1) count_limit

-- the count rose: it didn't fall, and it is greater than before or stands at its greatest number
abbrev pub Rose : ℕ → ℕ → Type 0
Rose before now = (before ≤ now) × (one_more before ≤ now)

-- the count rose where the call answers its cause, and else it is as it was
abbrev pub Counted : Bool → ℕ → ℕ → Type 0
Counted true before now = Rose before now
Counted false before now = now ≡ before

-- the counts of files: reads that failed, names without a file, files longer than was asked for
pub record FileCounts : Type 0 where
  pub faults : ℕ
  pub misses : ℕ
  pub longs : ℕ
