-- Commands of a syntax file, each by its first word.
use Rattle.std.specs.Prelude.{ℕ, ◌&&◌, ◌||◌, List, [], ◌∷◌, ◌++◌, Option, Some, None, Bool, true, false, if◌then◌else◌, Result, Ok, Err, codes}
use Rattle.syn_words.specs.declared.cause.Cause.{Cause}
use Rattle.syn_words.specs.declared.cause.Cause.TheVariants as cause
use Rattle.syn_words.specs.declared.what.ItemCommand.{ItemCommand}
use Rattle.syn_words.specs.declared.what.ItemCommand.TheVariants as item
use Rattle.syn_words.specs.declared.what.Named.{Named}
use Rattle.syn_words.specs.declared.what.Named.TheVariants as named
use Rattle.syn_words.specs.declared.what.What.{What}
use Rattle.syn_words.specs.declared.what.What.TheVariants as what
use Rattle.word_values.specs.declared.command_names.CommandName.{CommandName}
use Rattle.word_values.specs.declared.command_names.CommandName.TheVariants as name
use Rattle.syn_words.specs.declared.first_words.Said.{Said}
use Rattle.syn_words.specs.declared.first_words.Said.TheVariants.{Does, OpensGuard}
use Rattle.syn_words.specs.declared.syntax.Subcommand.{Subcommand}
use Rattle.syn_words.specs.declared.syntax.Subcommand.TheVariants as sub
use Rattle.word_reader.specs.declared.words.Until.TheVariants as until
use Rattle.syn_words.specs.Answers.{Read, ◌>>=◌}
use Rattle.syn_words.specs.Alone.{alone}
use Rattle.syn_words.specs.Names.{group_name, group_argument}
use Rattle.syn_words.specs.Pieces.{pieces}
use Rattle.syn_words.specs.Highlight.{highlight_command}
use Rattle.syn_words.specs.FileNames.{file_argument}
use Rattle.syn_words.specs.Clusters.{changes}
use Rattle.text_scan.specs.Characters.{past_blanks}
use Rattle.word_reader.specs.Words.{begins, behind_first, is_over, is_word, past, past_command, run}
use Rattle.syn_words.specs.Arguments.{argument, no_more, word_start}
use Rattle.word_values.specs.CommandNames.{command_name, begins_cpo, begins_variable, is_guard}

-- Commands without effect.

-- a variable, of which the rest of the line isn't read
abbrev pub variable_at : List ℕ → Read What
variable_at [] = Err cause.UnknownCommand
variable_at (c ∷ cs) = if begins_variable c then Ok (what.Nothing, []) else Err cause.UnknownCommand

-- Vim's option 'cpoptions' behind an ampersand
abbrev pub cpoptions_at : List ℕ → Read What
cpoptions_at text = if begins_cpo (behind_first text) then Ok (what.Nothing, []) else Err cause.UnknownCommand

-- the target of `let`
abbrev pub let_at : List ℕ → Read What
let_at text = if begins 38 text then cpoptions_at text else variable_at text

abbrev pub let_command : List ℕ → Read What
let_command text = word_start text >>= λ start. let_at start

abbrev pub unlet_command : List ℕ → Read What
unlet_command text = word_start text >>= λ start. variable_at start

-- a command of whose words nothing is asked
abbrev pub behind_quiet : List ℕ → List ℕ
behind_quiet text = past_command false text

abbrev pub quiet : List ℕ → Read What
quiet text = Ok (what.Nothing, behind_quiet text)

abbrev pub set_command : List ℕ → Read What
set_command text = do
  start ← word_start text
  if begins_cpo start then quiet start else Err cause.UnknownCommand

abbrev pub runtime_command : List ℕ → Read What
runtime_command text = do
  file ← file_argument text
  alone (what.Runtime file.0) file.1

-- Syntax commands (Vim's help, :syntax).

abbrev pub ignored_case : List ℕ → Result Bool Cause
ignored_case word = if is_word word (codes "match") then Ok false else if is_word word (codes "ignore") then Ok true else Err cause.UnknownOption

abbrev pub case_command : List ℕ → Read What
case_command text = do
  word ← argument text
  ignore ← ignored_case word.0
  alone (what.CaseIgnore ignore) word.1

abbrev pub keyword_set : List ℕ → Option (List ℕ)
keyword_set word = if is_word word (codes "clear") then None else Some word

abbrev pub iskeyword_command : List ℕ → Read What
iskeyword_command text = do
  word ← argument text
  alone (what.Iskeyword (keyword_set word.0)) word.1

abbrev pub item_command : ItemCommand → List ℕ → Read What
item_command kind text = do
  group ← group_argument text
  found ← pieces kind group.1
  Ok (what.Item kind group.0 found.0, found.1)

abbrev pub cluster_command : List ℕ → Read What
cluster_command text = do
  cluster ← group_argument text
  found ← changes cluster.1
  Ok (what.Cluster cluster.0 found.0, found.1)

abbrev pub included : Option (List ℕ) → List ℕ → Read What
included cluster text = do
  file ← file_argument text
  alone (what.Include cluster file.0) file.1

abbrev pub include_in : List ℕ → Read What
include_in text = do
  cluster ← group_name (run until.Word text)
  included (Some cluster) (past until.Word text)

abbrev pub include_command : List ℕ → Read What
include_command text = do
  start ← word_start text
  if begins 64 start then include_in (behind_first start) else included None start

-- `fromstart` and nothing else
abbrev pub is_fromstart : List ℕ → Bool
is_fromstart text = is_word (run until.Word text) (codes "fromstart") && is_over (past_blanks (past until.Word text))

abbrev pub sync_command : List ℕ → Read What
sync_command text = do
  start ← word_start text
  Ok (what.Sync (is_fromstart start), behind_quiet start)

abbrev pub cleared_cluster : List ℕ → Read Named
cleared_cluster text = do
  name ← group_name (run until.Word text)
  Ok (named.Cluster name, past until.Word text)

abbrev pub cleared_group : List ℕ → Read Named
cleared_group text = do
  name ← group_name (run until.Word text)
  Ok (named.Group name, past until.Word text)

-- a group or a cluster to be cleared
abbrev pub cleared : List ℕ → Read Named
cleared text = if begins 64 text then cleared_cluster (behind_first text) else cleared_group text

abbrev pub clear_whole : List Named → What
clear_whole [] = what.ClearAll
clear_whole (n ∷ ns) = what.Clear (n ∷ ns)

-- The names from here on, behind those so far. A name takes a character at least, so as many turns as characters are enough.
abbrev pub cleared_after : List Named → List ℕ → List ℕ → Read What
cleared_after so_far [] text = Ok (clear_whole so_far, text)
cleared_after so_far (t ∷ turns) text =
    if is_over (past_blanks text) then Ok (clear_whole so_far, past_blanks text)
    else (cleared (past_blanks text) >>= λ p. cleared_after (so_far ++ p.0 ∷ []) turns p.1)

abbrev pub clear_command : List ℕ → Read What
clear_command text = cleared_after [] text text

abbrev pub is_quiet_subcommand : List ℕ → Bool
is_quiet_subcommand word = is_word word (codes "spell") || is_word word (codes "foldlevel") || is_word word (codes "conceal")

abbrev pub is_left_out : List ℕ → Bool
is_left_out word =
    is_word word (codes "on") || is_word word (codes "off") || is_word word (codes "enable") || is_word word (codes "list") || is_word word (codes "manual") || is_word word (codes "reset")

abbrev pub other_subcommand : List ℕ → Option Subcommand
other_subcommand word =
    if is_word word (codes "case") then Some sub.Case
    else if is_word word (codes "iskeyword") then Some sub.Iskeyword
    else if is_word word (codes "include") then Some sub.Include
    else if is_word word (codes "sync") then Some sub.Sync
    else if is_word word (codes "clear") then Some sub.Clear
    else if is_quiet_subcommand word then Some sub.Quiet
    else if is_left_out word then Some sub.LeftOut
    else None

abbrev pub subcommand_of : List ℕ → Option Subcommand
subcommand_of word =
    if is_word word (codes "keyword") then Some (sub.Item item.Keyword)
    else if is_word word (codes "match") then Some (sub.Item item.Match)
    else if is_word word (codes "region") then Some (sub.Item item.Region)
    else if is_word word (codes "cluster") then Some sub.Cluster
    else other_subcommand word

abbrev pub by_subcommand : Option Subcommand → List ℕ → List ℕ → Read What
by_subcommand None word text = Err cause.UnknownSubcommand
by_subcommand (Some (sub.Item kind)) word text = item_command kind text
by_subcommand (Some sub.Cluster) word text = cluster_command text
by_subcommand (Some sub.Case) word text = case_command text
by_subcommand (Some sub.Iskeyword) word text = iskeyword_command text
by_subcommand (Some sub.Include) word text = include_command text
by_subcommand (Some sub.Sync) word text = sync_command text
by_subcommand (Some sub.Clear) word text = clear_command text
by_subcommand (Some sub.Quiet) word text = quiet text
by_subcommand (Some sub.LeftOut) word text = Err (cause.NotInProfile word)

abbrev pub syntax_command : List ℕ → Read What
syntax_command text = do
  word ← argument text
  by_subcommand (subcommand_of word.0) word.0 word.1

-- All commands.

-- an `if` other than the guard's is unknown
abbrev pub guard_at : List ℕ → Read Said
guard_at text = if is_guard (run until.Word text) then (no_more (past until.Word text) >>= λ rest. Ok (OpensGuard, rest)) else Err cause.UnknownCommand

abbrev pub guard : List ℕ → Read Said
guard text = guard_at (past_blanks text)

-- a command other than the guard's, behind its first word
abbrev pub plain_command : CommandName → List ℕ → Read What
plain_command name.Syntax text = syntax_command text
plain_command name.Let text = let_command text
plain_command name.Unlet text = unlet_command text
plain_command name.Set text = set_command text
plain_command name.Scriptencoding text = quiet text
plain_command name.Runtime text = runtime_command text
plain_command name.If text = Err cause.UnknownCommand
plain_command (name.Highlight force) text = highlight_command force text

abbrev pub does : CommandName → List ℕ → Read Said
does n text = plain_command n text >>= λ said. Ok (Does said.0, said.1)

abbrev pub command_by : Option CommandName → List ℕ → Read Said
command_by None text = Err cause.UnknownCommand
command_by (Some name.If) text = guard text
command_by (Some n) text = does n text

-- the command that begins here
abbrev pub command : List ℕ → Read Said
command text = command_by (command_name (run until.Word text)) (past until.Word text)

-- a command of the guard, by the word that is awaited
abbrev pub awaited : List ℕ → List ℕ → Result (List ℕ) Cause
awaited word text = if is_word (run until.Word text) word then no_more (past until.Word text) else Err cause.GuardUnfinished
