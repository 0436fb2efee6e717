-- Highlight commands (Vim's help, :highlight).
use Rattle.std.specs.Prelude.{ℕ, ◌||◌, List, Option, Some, None, Bool, true, false, if◌then◌else◌, Result, Ok, codes}
use Rattle.syn_words.specs.declared.cause.Cause.{Cause}
use Rattle.syn_words.specs.declared.what.What.{What}
use Rattle.syn_words.specs.declared.what.What.TheVariants as what
use Rattle.syn_words.specs.Answers.{Read, ◌>>=◌}
use Rattle.syn_words.specs.Alone.{alone}
use Rattle.syn_words.specs.Names.{group_name, group_argument}
use Rattle.syn_words.specs.Styles.{style_parts}
use Rattle.word_reader.specs.Words.{is_word}
use Rattle.syn_words.specs.Arguments.{argument}
use Rattle.word_values.specs.GroupNames.{is_none}

abbrev pub link_target : List ℕ → Result (Option (List ℕ)) Cause
link_target word = if is_none word then Ok None else (group_name word >>= λ name. Ok (Some name))

abbrev pub link_command : Bool → Bool → List ℕ → Read What
link_command unset force text = do
  from ← group_argument text
  word ← argument from.1
  to ← link_target word.0
  alone (what.Link from.0 to unset force) word.1

abbrev pub style_command : Bool → List ℕ → List ℕ → Read What
style_command unset word text = do
  group ← group_name word
  parts ← style_parts text
  Ok (what.Style group parts.0 unset, parts.1)

-- by the word that is `link` or the group
abbrev pub link_or_style : Bool → Bool → List ℕ → List ℕ → Read What
link_or_style unset force word text = if is_word word (codes "link") then link_command unset force text else style_command unset word text

abbrev pub is_default : List ℕ → Bool
is_default word = is_word word (codes "default") || is_word word (codes "def")

abbrev pub unset_command : Bool → List ℕ → Read What
unset_command force text = do
  word ← argument text
  link_or_style true force word.0 word.1

abbrev pub highlight_command : Bool → List ℕ → Read What
highlight_command force text = do
  word ← argument text
  if is_default word.0 then unset_command force word.1 else link_or_style false force word.0 word.1
