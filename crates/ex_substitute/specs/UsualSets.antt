-- The sets of characters that a command's pattern goes by: those of the values that the options have unless they are set (Vim's
-- help, 'isident', 'iskeyword', 'isfname').
use Rattle.std.specs.Prelude.{ℕ, List, [], Result, Ok, Err, codes}
use Rattle.char_class.specs.declared.sets.Sets.{Sets}
use Rattle.char_class.specs.OptionValue.{set_of}

-- the set of a value whose reading is known
abbrev pub known : {E : Type 0} → Result (List ℕ) E → List ℕ
known (Ok set) = set
known (Err bad) = []

abbrev pub usual_words : List ℕ
usual_words = known (set_of (codes "@,48-57,_,192-255"))

abbrev pub usual_sets : Sets
usual_sets = record {
  ident = usual_words;
  keyword = usual_words;
  file = known (set_of (codes "@,48-57,/,.,-,_,+,,,#,$,%,~,="));
}
