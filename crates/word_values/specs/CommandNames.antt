-- First words of commands, and words of the commands without effect.
use Rattle.std.specs.Prelude.{ℕ, nat_eq, not, ◌||◌, List, Option, Some, None, Bool, true, false, if◌then◌else◌, codes}
use Rattle.word_values.specs.declared.command_names.CommandName.{CommandName}
use Rattle.word_values.specs.declared.command_names.CommandName.TheVariants as name
use Rattle.word_reader.specs.declared.words.Until.TheVariants as until
use Rattle.text_scan.specs.Characters.{is_letter}
use Rattle.word_reader.specs.Words.{run, is_word, abbreviates}

abbrev pub is_plain : Option Bool → Bool
is_plain None = false
is_plain (Some force) = not force

abbrev pub is_some_way : Option Bool → Bool
is_some_way None = false
is_some_way (Some force) = true

abbrev pub highlight_by : Option Bool → Option CommandName
highlight_by None = None
highlight_by (Some force) = Some (name.Highlight force)

abbrev pub highlight_name : List ℕ → Option CommandName
highlight_name word = highlight_by (abbreviates 2 (codes "highlight") word)

-- the command that a word names; some may be cut down, and some have a `!` behind them
abbrev pub command_name : List ℕ → Option CommandName
command_name word =
    if is_plain (abbreviates 2 (codes "syntax") word) then Some name.Syntax
    else if is_word word (codes "let") then Some name.Let
    else if is_some_way (abbreviates 3 (codes "unlet") word) then Some name.Unlet
    else if is_plain (abbreviates 2 (codes "set") word) then Some name.Set
    else if is_plain (abbreviates 7 (codes "scriptencoding") word) then Some name.Scriptencoding
    else if is_some_way (abbreviates 2 (codes "runtime") word) then Some name.Runtime
    else if is_word word (codes "if") then Some name.If
    else highlight_name word

-- `cpo` or `cpoptions`
abbrev pub is_cpo : List ℕ → Bool
is_cpo option = is_word option (codes "cpo") || is_word option (codes "cpoptions")

abbrev pub begins_cpo : List ℕ → Bool
begins_cpo text = is_cpo (run until.OptionName text)

abbrev pub begins_variable : ℕ → Bool
begins_variable c = is_letter c || nat_eq c 95

-- the condition of the guard, quoted either way
abbrev pub is_guard : List ℕ → Bool
is_guard word = is_word word (codes "exists(\"b:current_syntax\")") || is_word word (codes "exists('b:current_syntax')")
