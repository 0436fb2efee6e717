-- Worked rows: small files, each as its physical lines, and the first of their commands that is refused as words.
use Rattle.std.proofs.Common.{◌≡◌, ℕ, List, [], ◌∷◌, refl, true, false, Some, None}
use Rattle.std.specs.Prelude.{codes}
use Rattle.syn_words.specs.declared.cause.Cause.{Cause}
use Rattle.syn_words.specs.declared.cause.Cause.TheVariants as cause
use Rattle.syn_words.specs.declared.what.ItemCommand.TheVariants as item
use Rattle.syn_words.specs.declared.what.What.{What}
use Rattle.syn_words.specs.declared.what.What.TheVariants as what
use Rattle.syn_words.specs.declared.what.Command.{Command}
use Rattle.syn_words.specs.declared.what.Piece.TheVariants as piece
use Rattle.syn_words.specs.declared.what.Flag.TheVariants as flag
use Rattle.syn_words.specs.declared.what.Commands.{Commands}
use Rattle.syn_words.specs.FileCommands.{commands_in, fault_at}
use Rattle.syn_lines.specs.LogicalLines.{joined_lines}
use Rattle.syn_lines.specs.declared.line.LogicalLines.TheVariants.{Lines}

-- the commands of physical lines
abbrev commands_in_lines : List (List ℕ) → Commands
commands_in_lines file = commands_in (Lines (joined_lines file))

abbrev accepted : List (List ℕ) → Type 0
accepted file = (commands_in_lines file).fault ≡ None

abbrev Refused : List (List ℕ) → ℕ → Cause → Type 0
Refused file line c = (commands_in_lines file).fault ≡ Some (fault_at line c)

abbrev command : ℕ → What → Command
command line w = record { line = line; what = w }

-- Lines.

remark : accepted (codes "syn match A" ∷ codes "\"\\ c" ∷ codes "\\ /x/" ∷ [])
remark = refl

comment_continued : accepted (codes "\" c" ∷ codes "\\ foo" ∷ [])
comment_continued = refl

first_line_is_no_continuation : Refused (codes "\\ syn case match" ∷ []) 1 cause.UnknownCommand
first_line_is_no_continuation = refl

line_of_a_continued_command : Refused (codes "syn case match" ∷ codes "syn match A" ∷ codes "\\ /x/ foo" ∷ []) 2 cause.UnknownOption
line_of_a_continued_command = refl

-- Bars and quotes.

bar_in_keywords : Refused (codes "syn keyword A a|b" ∷ []) 1 cause.UnknownCommand
bar_in_keywords = refl

bar_begins_no_match : Refused (codes "syn match A |x|" ∷ []) 1 cause.NoPattern
bar_begins_no_match = refl

bars_in_a_region : accepted (codes "syn region A start=|x| end= |y|" ∷ [])
bars_in_a_region = refl

quote_behind_equals : accepted (codes "syn match A /x/ cchar=\"" ∷ [])
quote_behind_equals = refl

quote_behind_blank : Refused (codes "syn match A /x/ cchar= \"" ∷ []) 1 cause.MissingArgument
quote_behind_blank = refl

quotes_in_a_region : accepted (codes "syn region A start= \"a\" end=\"b\"" ∷ [])
quotes_in_a_region = refl

comment_behind_a_pattern : accepted (codes "syn match A \"x\" \"y" ∷ [])
comment_behind_a_pattern = refl

-- Blanks and case.

blanks_round_equals : accepted (codes "hi A gui = bold" ∷ codes "syn cluster C contains = A , B" ∷ [])
blanks_round_equals = refl

blank_in_offsets : Refused (codes "syn match A /a/ms=s, me=e" ∷ []) 1 cause.BadOffset
blank_in_offsets = refl

keys_in_any_case : accepted (codes "syn region A START=/a/ End=/b/" ∷ [])
keys_in_any_case = refl

exact_words : Refused (codes "syn case MATCH" ∷ []) 1 cause.UnknownOption
exact_words = refl

none_in_any_case : accepted (codes "syn match A /x/ contains=all" ∷ codes "syn region R matchgroup=none start=/a/ end=/b/" ∷ codes "hi link A none" ∷ [])
none_in_any_case = refl

-- Options.

contains_with_a_keyword : Refused (codes "syn keyword A contains" ∷ []) 1 cause.OptionHere
contains_with_a_keyword = refl

bare_nextgroup : Refused (codes "syn keyword A nextgroup" ∷ []) 1 cause.UnknownOption
bare_nextgroup = refl

words_of_a_keyword : accepted (codes "syn keyword A start oneline=" ∷ [])
words_of_a_keyword = refl

pieces_of_a_keyword : (commands_in_lines (codes "syn keyword K r[eturn] oneline" ∷ [])).list ≡
    command 1 (what.Item item.Keyword (codes "K") (piece.Word (codes "r[eturn]") ∷ piece.Has flag.Oneline ∷ [])) ∷ []
pieces_of_a_keyword = refl

second_pattern : Refused (codes "syn match A /x/ /y/" ∷ []) 1 cause.UnknownOption
second_pattern = refl

text_behind_a_delimiter : Refused (codes "syn match A /x/\"c" ∷ []) 1 cause.BadOffset
text_behind_a_delimiter = refl

empty_value : Refused (codes "syn match A contains=" ∷ []) 1 cause.MissingArgument
empty_value = refl

two_characters : Refused (codes "syn match A /x/ cchar=ab" ∷ []) 1 cause.UnknownOption
two_characters = refl

second_skip : Refused (codes "syn region A start=/a/ skip=/b/ skip= end=/c/" ∷ []) 1 cause.TwoSkips
second_skip = refl

no_start : Refused (codes "syn region A end=/c/" ∷ []) 1 cause.NoStart
no_start = refl

no_end : Refused (codes "syn region A start=/c/" ∷ []) 1 cause.NoEnd
no_end = refl

word_before_missing_part : Refused (codes "syn region A foo" ∷ []) 1 cause.UnknownOption
word_before_missing_part = refl

-- Patterns.

letters_are_ascii : accepted (codes "syn match A éxé" ∷ [])
letters_are_ascii = refl

collection_hides : Refused (codes "syn match A \"[a\" contains=B | syn match C /]/" ∷ []) 1 cause.NoDelimiter
collection_hides = refl

level_without_collections : accepted (codes "syn match M /\\V[/" ∷ [])
level_without_collections = refl

optional_list_hides_nothing : Refused (codes "syn match A /r\\%[a/]x/" ∷ []) 1 cause.BadOffset
optional_list_hides_nothing = refl

mark_hides_nothing : accepted (codes "syn match A /\\%'[/ contains=a].*" ∷ codes "syn match A /\\%<'[/ contains=a].*" ∷ codes "syn match A /\\v%>'[/ contains=a].*" ∷ [])
mark_hides_nothing = refl

sign_needs_digits : Refused (codes "syn match A /a/ms=s+" ∷ []) 1 cause.BadOffset
sign_needs_digits = refl

great_offset : Refused (codes "syn match A /a/ms=s+65536" ∷ []) 1 cause.BadOffset
great_offset = refl

-- Names.

reserved_cluster : Refused (codes "syn match A /x/ contains=@ALL" ∷ []) 1 cause.BadList
reserved_cluster = refl

empty_name : Refused (codes "syn match A /x/ contains=B," ∷ []) 1 cause.BadList
empty_name = refl

special_word_later : Refused (codes "syn match A /x/ contains=B,ALL" ∷ []) 1 cause.BadList
special_word_later = refl

special_word_in_nextgroup : Refused (codes "syn match A /x/ nextgroup=NONE" ∷ []) 1 cause.BadList
special_word_in_nextgroup = refl

bad_group_name : Refused (codes "syn match @A /x/" ∷ []) 1 cause.BadGroupName
bad_group_name = refl

reserved_name : Refused (codes "syn match top /x/" ∷ []) 1 cause.ReservedName
reserved_name = refl

-- Commands.

unknown_target : Refused (codes "let &foo = 1" ∷ []) 1 cause.UnknownCommand
unknown_target = refl

lines_without_effect : accepted (codes "let s:a = \"x | y" ∷ codes "let &cpo = s:a" ∷ codes "unlet! s:a" ∷ codes "set cpo&vim ts=8" ∷ codes "scripte utf-8" ∷ codes "syn spell x | syn sync y" ∷ [])
lines_without_effect = refl

guard : accepted (codes "if exists(\"b:current_syntax\")" ∷ codes "  finish" ∷ codes "endif" ∷ [])
guard = refl

text_in_the_guard : Refused (codes "if exists(\"b:current_syntax\")" ∷ codes "finish x" ∷ []) 2 cause.ExtraText
text_in_the_guard = refl

guard_unfinished : Refused (codes "syn case match" ∷ codes "if exists('b:current_syntax')" ∷ codes "finish" ∷ codes "foo" ∷ []) 2 cause.GuardUnfinished
guard_unfinished = refl

guard_at_the_end : Refused (codes "if exists('b:current_syntax') | finish" ∷ []) 1 cause.GuardUnfinished
guard_at_the_end = refl

finish_outside : Refused (codes "finish x" ∷ []) 1 cause.UnknownCommand
finish_outside = refl

sync_alone : Refused (codes "syn sync" ∷ []) 1 cause.MissingArgument
sync_alone = refl

another_method : (commands_in_lines (codes "syn sync fromstart x" ∷ [])).list ≡ command 1 (what.Sync false) ∷ []
another_method = refl

style_without_a_key : Refused (codes "hi clear" ∷ []) 1 cause.MissingArgument
style_without_a_key = refl

bad_colour : Refused (codes "hi A guifg=#12345" ∷ []) 1 cause.BadStyle
bad_colour = refl

left_out : Refused (codes "syn enable x" ∷ []) 1 (cause.NotInProfile (codes "enable"))
left_out = refl

unknown_subcommand : Refused (codes "syn Match A /x/" ∷ []) 1 cause.UnknownSubcommand
unknown_subcommand = refl

bad_file_name : Refused (codes "runtime a/../b c" ∷ []) 1 cause.BadFileName
bad_file_name = refl

second_file_name : Refused (codes "runtime a b" ∷ []) 1 cause.ExtraText
second_file_name = refl

folder_of_the_file : (commands_in_lines (codes "syn include @C <sfile>:p:h/b.vim" ∷ [])).list ≡ command 1 (what.Include (Some (codes "C")) (codes "syntax/b.vim")) ∷ []
folder_of_the_file = refl

-- the commands before the first that is refused are told
commands_before : (commands_in_lines (codes "syn case ignore" ∷ codes "foo" ∷ codes "bar" ∷ [])).list ≡ command 1 (what.CaseIgnore true) ∷ []
commands_before = refl

first_fault : Refused (codes "syn case ignore" ∷ codes "foo" ∷ codes "syn case x" ∷ []) 2 cause.UnknownCommand
first_fault = refl

bar_behind_let : Refused (codes "let |" ∷ []) 1 cause.MissingArgument
bar_behind_let = refl

bar_behind_unlet : Refused (codes "unlet | let x = 1" ∷ []) 1 cause.MissingArgument
bar_behind_unlet = refl

quote_behind_let : Refused (codes "let \"x" ∷ []) 1 cause.MissingArgument
quote_behind_let = refl

bar_directly_behind_let : Refused (codes "let|" ∷ []) 1 cause.MissingArgument
bar_directly_behind_let = refl
