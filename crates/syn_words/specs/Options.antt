-- Words that stand for options of items (Vim's help, :syn-arguments), in any case, and those before the parts of a region.
use Rattle.std.specs.Prelude.{ℕ, List, Option, Some, None, if◌then◌else◌, codes}
use Rattle.syn_words.specs.declared.what.Flag.{Flag}
use Rattle.syn_words.specs.declared.what.Flag.TheVariants as flag
use Rattle.syn_words.specs.declared.what.Field.TheVariants as field
use Rattle.syn_words.specs.declared.what.Role.TheVariants as role
use Rattle.syn_words.specs.declared.options.OptionWord.{OptionWord}
use Rattle.syn_words.specs.declared.options.OptionWord.TheVariants as word
use Rattle.word_reader.specs.Words.{is_word_in_any_case}

abbrev pub first_flags : List ℕ → Option Flag
first_flags key =
    if is_word_in_any_case key (codes "contained") then Some flag.Contained
    else if is_word_in_any_case key (codes "oneline") then Some flag.Oneline
    else if is_word_in_any_case key (codes "keepend") then Some flag.Keepend
    else if is_word_in_any_case key (codes "extend") then Some flag.Extend
    else if is_word_in_any_case key (codes "excludenl") then Some flag.Excludenl
    else if is_word_in_any_case key (codes "transparent") then Some flag.Transparent
    else None

abbrev pub later_flags : List ℕ → Option Flag
later_flags key =
    if is_word_in_any_case key (codes "skipwhite") then Some flag.Skipwhite
    else if is_word_in_any_case key (codes "skipnl") then Some flag.Skipnl
    else if is_word_in_any_case key (codes "skipempty") then Some flag.Skipempty
    else if is_word_in_any_case key (codes "display") then Some flag.Display
    else if is_word_in_any_case key (codes "fold") then Some flag.Fold
    else if is_word_in_any_case key (codes "conceal") then Some flag.Conceal
    else if is_word_in_any_case key (codes "concealends") then Some flag.Concealends
    else None

abbrev pub first_flag : Option Flag → Option Flag → Option Flag
first_flag (Some f) others = Some f
first_flag None others = others

-- an option without a value
abbrev pub flag_of : List ℕ → Option Flag
flag_of key = first_flag (first_flags key) (later_flags key)

abbrev pub quote_word : List ℕ → Option OptionWord
quote_word key =
    if is_word_in_any_case key (codes "start") then Some (word.Quote role.Start)
    else if is_word_in_any_case key (codes "skip") then Some (word.Quote role.Skip)
    else if is_word_in_any_case key (codes "end") then Some (word.Quote role.End)
    else None

-- an option that has a value
abbrev pub valued : List ℕ → Option OptionWord
valued key =
    if is_word_in_any_case key (codes "cchar") then Some word.Cchar
    else if is_word_in_any_case key (codes "contains") then Some (word.Names field.Contains)
    else if is_word_in_any_case key (codes "containedin") then Some (word.Names field.Containedin)
    else if is_word_in_any_case key (codes "nextgroup") then Some (word.Names field.Nextgroup)
    else if is_word_in_any_case key (codes "matchgroup") then Some word.Matchgroup
    else quote_word key

abbrev pub flag_or : Option Flag → Option OptionWord → Option OptionWord
flag_or (Some f) others = Some (word.Has f)
flag_or None others = others

abbrev pub option_of : List ℕ → Option OptionWord
option_of key = flag_or (flag_of key) (valued key)
