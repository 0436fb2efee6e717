-- Words (Vim's help, 'iskeyword'): whole runs of the characters of a set. Columns are counted from 0.
use Rattle.std.specs.Prelude.{ℕ, ◌+◌, ◌-◌, ◌==◌, Bool, false, not, ◌&&◌, ◌||◌, List, length, drop, slice_get, take_while, Option, Some, None, if◌then◌else◌}
use Rattle.std.specs.Option.{option_map_or}
use Rattle.char_class.specs.CharSet.{set_has}

-- whether a character of the set stands at the column; none stands behind the line
abbrev pub has_at : List ℕ → List ℕ → ℕ → Bool
has_at set line col = option_map_or (set_has set) (slice_get line col) false

-- a word begins where a character of the set stands and the one before it isn't of the set
abbrev pub begins_word : List ℕ → List ℕ → ℕ → Bool
begins_word set line col = has_at set line col && (col == 0 || not (has_at set line (col - 1)))

-- how many characters of the set stand at the front
abbrev pub run_length : List ℕ → List ℕ → ℕ
run_length set characters = length (take_while (set_has set) characters)

-- the column behind the word that begins at the column, if one does
unfoldable pub word_end : List ℕ → ℕ → List ℕ → Option ℕ
word_end line col set = if begins_word set line col then Some (col + run_length set (drop col line)) else None
