-- Two texts that agree on some lines, where one of them may stand some lines further on in the other.
--
-- A line's number may be -1 and the number of lines too: there, before the first line and behind the
-- last one, a text has no line, and no two texts differ.
use Rattle.std.specs.Prelude.{◌≡◌, ℕ, ℤ, pos, negsuc, ◌+ℤ◌, ◌≤ℤ◌, true, List, length, Option, Some, None, slice_get}
use Rattle.syn_base.specs.declared.looked.Looked.{Looked}

-- what stands at a number
pub data Seen : Type 0 where
  before_first : Seen
  present : (chars : List ℕ) → Seen
  behind_last : Seen

abbrev pub or_behind : Option (List ℕ) → Seen
or_behind (Some chars) = present chars
or_behind None = behind_last

abbrev pub seen_at : List (List ℕ) → ℤ → Seen
seen_at text (pos l) = or_behind (slice_get text l)
seen_at text (negsuc n) = before_first

-- line l of the one text is line l + shift of the other
pub record AgreeAt (text other : List (List ℕ)) (shift l : ℤ) : Type 0 where
  -- it is the line before the other's first one, or a later one
  pub from_before_first : negsuc 0 ≤ℤ (l +ℤ shift)
  -- and the line behind the other's last one, or an earlier one
  pub to_behind_last : (l +ℤ shift) ≤ℤ pos (length other)
  -- the same stands there: both have no line, on the same side, or both have the same characters
  pub same : seen_at other (l +ℤ shift) ≡ seen_at text l

-- the two texts agree on what was looked at: on each line of a range, and on the line's number where
-- that was looked at too
pub record Agree (text other : List (List ℕ)) (shift : ℤ) (looked : Looked) : Type 0 where
  pub unmoved : looked.numbered ≡ true → shift ≡ pos 0
  pub each_line : (l : ℤ) → looked.low ≤ℤ l → l ≤ℤ looked.high → AgreeAt text other shift l
