-- Columns at which an attempt has no way, looks at its line alone and costs no more than a budget.
use Rattle.std.specs.Prelude.{◌≡◌, ◌<◌, ℕ, Bool, true, false, not, ◌&&◌, nat_lt}
use Rattle.char_class.specs.declared.sets.Sets.{Sets}
use Rattle.vim_pattern.specs.Tree.{PatternTree}
use Rattle.pattern_screens.specs.Bounds.{failing_cost}
use Rattle.pattern_screens.specs.Keys.{is_first, key_numbered}
use Rattle.pattern_screens.specs.Screens.{is_futile}
use Rattle.pattern_screens.specs.declared.key.Key.{Key}

-- at a column with this key
abbrev pub fails : Sets → ℕ → Bool → Key → PatternTree → Bool
fails sets budget ignore key tree =
    is_futile sets ignore key tree && not (nat_lt budget (failing_cost tree))

-- at a column whose key has this number; by a number that is none of a key nothing is known
abbrev pub fails_at : Sets → ℕ → Bool → ℕ → PatternTree → Bool
fails_at sets budget ignore number tree =
    nat_lt number 777 && fails sets budget ignore (key_numbered number) tree

-- at each column that has one before it, whatever stands there
abbrev pub FailsPastFirst : Sets → ℕ → Bool → PatternTree → Type 0
FailsPastFirst sets budget ignore tree =
    (number : ℕ) → number < 777 → is_first (key_numbered number).last ≡ false →
    fails_at sets budget ignore number tree ≡ true
