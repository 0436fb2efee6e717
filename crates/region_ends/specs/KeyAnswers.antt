-- Answers to a question that is asked of an item at the columns with a key.
use Rattle.std.specs.Prelude.{◌≡◌, ℕ, Bool, true, List, Some, slice_get}
use Rattle.region_ends.specs.declared.key_answers.Answer.{Answer}
use Rattle.region_ends.specs.declared.key_answers.Answer.TheVariants.{Yes}
use Rattle.region_ends.specs.declared.key_answers.KeyAnswers.{KeyAnswers}
use Rattle.region_ends.specs.declared.key_answers.Row.{Row}

-- the answer by the number of a key is yes
abbrev pub IsYesAt : List Answer → ℕ → Type 0
IsYesAt answers number = slice_get answers number ≡ Some Yes

-- that of an item is
abbrev pub IsYes : KeyAnswers → ℕ → ℕ → Type 0
IsYes answers item number =
    (row : Row) × ((slice_get answers.rows.items item ≡ Some row) × IsYesAt row.answers.items number)

-- what was answered by yes is so; `is` says what is asked, of the number of a key and that of an item
pub record AnswersStand (is : ℕ → ℕ → Bool) (answers : KeyAnswers) : Type 0 where
  pub told : (number item : ℕ) → IsYes answers item number → is number item ≡ true
