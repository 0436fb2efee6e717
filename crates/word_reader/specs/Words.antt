-- Words of a line. Blanks are space and tab. A bar ends a command, and a quote where a word could begin starts a comment.
use Rattle.std.specs.Prelude.{ℕ, ◌-◌, nat_eq, not, ◌&&◌, ◌||◌, List, [], ◌∷◌, Option, Some, None, Bool, true, false, if◌then◌else◌}
use Rattle.std.specs.Char.{eq_ignore_ascii_case}
use Rattle.text_scan.specs.Characters.{is_blank, is_digit, is_letter, past_blanks}
use Rattle.word_reader.specs.declared.words.Until.{Until}
use Rattle.word_reader.specs.declared.words.Until.TheVariants.{Word, Key, ListName, OptionName}

-- Where a run of characters ends: a word at a blank or a bar, a key also at an equals sign, a name of a list also at a
-- comma; the name of one of Vim's options at what isn't a letter, a digit or an underscore.
abbrev pub stops : Until → ℕ → Bool
stops Word c = is_blank c || nat_eq c 124
stops Key c = is_blank c || nat_eq c 124 || nat_eq c 61
stops ListName c = is_blank c || nat_eq c 124 || nat_eq c 44
stops OptionName c = not (is_letter c || is_digit c || nat_eq c 95)

abbrev pub run : Until → List ℕ → List ℕ
run until [] = []
run until (c ∷ cs) = if stops until c then [] else c ∷ run until cs

abbrev pub past : Until → List ℕ → List ℕ
past until [] = []
past until (c ∷ cs) = if stops until c then c ∷ cs else past until cs

abbrev pub begins : ℕ → List ℕ → Bool
begins d [] = false
begins d (c ∷ cs) = nat_eq c d

abbrev pub behind_first : List ℕ → List ℕ
behind_first [] = []
behind_first (c ∷ cs) = cs

-- a word ends here
abbrev pub ends_word : List ℕ → Bool
ends_word [] = true
ends_word (c ∷ cs) = stops Word c

-- no word begins here
abbrev pub is_over : List ℕ → Bool
is_over [] = true
is_over (c ∷ cs) = nat_eq c 124 || nat_eq c 34

-- an equals sign follows, maybe behind blanks
abbrev pub has_equals : List ℕ → Bool
has_equals text = begins 61 (past_blanks text)

abbrev pub behind_equals : List ℕ → List ℕ
behind_equals text = behind_first (past_blanks text)

-- what is left behind a command of whose words nothing is asked; the first says whether a word could begin here
abbrev pub past_command : Bool → List ℕ → List ℕ
past_command may_begin [] = []
past_command may_begin (c ∷ cs) = if nat_eq c 124 || (may_begin && nat_eq c 34) then c ∷ cs else past_command (is_blank c) cs

-- Comparing words.

abbrev pub alike : Bool → ℕ → ℕ → Bool
alike true c d = eq_ignore_ascii_case c d
alike false c d = nat_eq c d

abbrev pub same : Bool → List ℕ → List ℕ → Bool
same ignore [] [] = true
same ignore [] (d ∷ ds) = false
same ignore (c ∷ cs) [] = false
same ignore (c ∷ cs) (d ∷ ds) = alike ignore c d && same ignore cs ds

abbrev pub is_word : List ℕ → List ℕ → Bool
is_word text word = same false text word

abbrev pub is_word_in_any_case : List ℕ → List ℕ → Bool
is_word_in_any_case text word = same true text word

abbrev pub is_empty : List ℕ → Bool
is_empty [] = true
is_empty (c ∷ cs) = false

abbrev pub bang : ℕ → ℕ → List ℕ → Option Bool
bang least c cs = if nat_eq least 0 && nat_eq c 33 && is_empty cs then Some true else None

-- The text is this word, cut down to no fewer than so many letters: whether a `!` follows.
abbrev pub abbreviates : ℕ → List ℕ → List ℕ → Option Bool
abbreviates least full [] = if nat_eq least 0 then Some false else None
abbreviates least [] (c ∷ cs) = bang least c cs
abbreviates least (f ∷ fs) (c ∷ cs) = if nat_eq c f then abbreviates (least - 1) fs cs else bang least c cs

-- what follows this word at the front of a text
abbrev pub strip : List ℕ → List ℕ → Option (List ℕ)
strip [] text = Some text
strip (w ∷ ws) [] = None
strip (w ∷ ws) (c ∷ cs) = if nat_eq c w then strip ws cs else None
