-- What is left of a line behind a command.
use Rattle.std.proofs.Common.{◌≡◌, ℕ, suc, ◌≤◌, Bool, true, false, List, [], ◌∷◌, length, arith}
use Rattle.std.proofs.Common.{cond}
use Rattle.std.specs.Prelude.{Option, Some, None, Ok, Err, nat_eq, ◌&&◌, ◌||◌, if◌then◌else◌, codes}
use Rattle.text_scan.specs.Characters.{is_blank, past_blanks}
use Rattle.word_reader.specs.declared.words.Until.TheVariants as until
use Rattle.word_reader.specs.Words.{begins, behind_first, is_over, is_word, past, past_command, run}
use Rattle.word_reader.specs.Words.{stops}
use Rattle.word_values.specs.declared.command_names.CommandName.{CommandName}
use Rattle.word_values.specs.declared.command_names.CommandName.TheVariants as name
use Rattle.word_values.specs.CommandNames.{begins_cpo, begins_variable, command_name, is_guard}
use Rattle.syn_words.specs.declared.cause.Cause.TheVariants as cause
use Rattle.syn_words.specs.declared.first_words.Said.TheVariants.{Does, OpensGuard}
use Rattle.syn_words.specs.declared.syntax.Subcommand.{Subcommand}
use Rattle.syn_words.specs.declared.syntax.Subcommand.TheVariants as sub
use Rattle.syn_words.specs.declared.what.ItemCommand.{ItemCommand}
use Rattle.syn_words.specs.declared.what.What.{What}
use Rattle.syn_words.specs.declared.what.What.TheVariants as what
use Rattle.syn_words.specs.Alone.{alone}
use Rattle.syn_words.specs.Answers.{◌>>=◌}
use Rattle.syn_words.specs.Arguments.{argument, no_more, word_start}
use Rattle.syn_words.specs.Clusters.{changes}
use Rattle.syn_words.specs.Commands.{awaited, by_subcommand, case_command, cluster_command, command}
use Rattle.syn_words.specs.Commands.{command_by, cpoptions_at, does, guard, guard_at, ignored_case}
use Rattle.syn_words.specs.Commands.{include_command, include_in, included, is_fromstart}
use Rattle.syn_words.specs.Commands.{iskeyword_command, item_command, keyword_set, let_at}
use Rattle.syn_words.specs.Commands.{let_command, plain_command, quiet, runtime_command}
use Rattle.syn_words.specs.Commands.{set_command, subcommand_of, sync_command, syntax_command}
use Rattle.syn_words.specs.Commands.{unlet_command, variable_at}
use Rattle.syn_words.specs.FileNames.{file_argument, file_name}
use Rattle.syn_words.specs.Highlight.{highlight_command, is_default, link_command, link_or_style}
use Rattle.syn_words.specs.Highlight.{link_target, style_command, unset_command}
use Rattle.syn_words.specs.Names.{group_argument, group_name}
use Rattle.syn_words.specs.Pieces.{nothing_seen, pieces}
use Rattle.syn_words.specs.Styles.{style_parts}
use Rattle.syn_words.proofs.ClearTurns.{clear_left}
use Rattle.syn_words.proofs.ClusterTurns.{changes_left}
use Rattle.syn_words.proofs.LeftLaws.{Leaves, LeavesText, argument_left, first_left, left_behind}
use Rattle.syn_words.proofs.LeftLaws.{left_by, left_from, left_if, past_left, run_left, text_if}
use Rattle.syn_words.proofs.LeftLaws.{word_start_left}
use Rattle.syn_words.proofs.PieceTurns.{pieces_left}
use Rattle.syn_words.proofs.StyleTurns.{parts_left}
use Rattle.syn_words.proofs.WordLaws.{blanks_shorter}

-- Words that a command needs, and where it may take none.

no_more_left : (n : ℕ) (text : List ℕ) → length text ≤ n → LeavesText n (no_more text)
no_more_left n text most =
    let blanks = blanks_shorter text in
    text_if n (is_over (past_blanks text)) (Ok (past_blanks text)) (Err cause.ExtraText)
    (omega (arith, blanks, most)) tt

alone_left : (n : ℕ) (w : What) (text : List ℕ) → length text ≤ n → Leaves n (alone w text)
alone_left n w text most =
    left_from n n (no_more text) (λ rest. Ok (w, rest)) (no_more_left n text most)
    (λ rest fewer. fewer)

group_left : (n : ℕ) (text : List ℕ) → length text ≤ n → Leaves n (group_argument text)
group_left n text most =
    left_behind n n (argument text) (λ word. group_name word.0 >>= λ name. Ok (name, word.1))
    (argument_left n text most)
    (λ word fewer. left_by n (group_name word.0) (λ name. Ok (name, word.1)) (λ name. fewer))

file_left : (n : ℕ) (text : List ℕ) → length text ≤ n → Leaves n (file_argument text)
file_left n text most =
    left_behind n n (argument text) (λ word. file_name word.0 >>= λ name. Ok (name, word.1))
    (argument_left n text most)
    (λ word fewer. left_by n (file_name word.0) (λ name. Ok (name, word.1)) (λ name. fewer))

-- Commands without effect.

command_if : (n : ℕ) (b : Bool) (x y : List ℕ) → length x ≤ n → length y ≤ n
    → length (cond b x y) ≤ n
command_if n true x y p q = p
command_if n false x y p q = q

behind_left : (n : ℕ) (b : Bool) (text : List ℕ) → length text ≤ n
    → length (past_command b text) ≤ n
behind_left n b [] most = most
behind_left n b (c ∷ cs) most =
    command_if n (nat_eq c 124 || (b && nat_eq c 34)) (c ∷ cs) (past_command (is_blank c) cs) most
    (behind_left n (is_blank c) cs (omega (arith, most)))

quiet_left : (n : ℕ) (text : List ℕ) → length text ≤ n → Leaves n (quiet text)
quiet_left n text most = behind_left n false text most

variable_left : (n : ℕ) (text : List ℕ) → Leaves n (variable_at text)
variable_left n [] = tt
variable_left n (c ∷ cs) =
    left_if n (begins_variable c) (Ok (what.Nothing, [])) (Err cause.UnknownCommand)
    (λ is. omega arith) (λ is. tt)

cpoptions_left : (n : ℕ) (text : List ℕ) → Leaves n (cpoptions_at text)
cpoptions_left n text =
    left_if n (begins_cpo (behind_first text)) (Ok (what.Nothing, [])) (Err cause.UnknownCommand)
    (λ is. omega arith) (λ is. tt)

let_left : (n : ℕ) (text : List ℕ) → length text ≤ n → Leaves n (let_command text)
let_left n text most =
    left_from n n (word_start text) (λ start. let_at start) (word_start_left n text most)
    (λ start fewer. left_if n (begins 38 start) (cpoptions_at start) (variable_at start)
    (λ is. cpoptions_left n start) (λ is. variable_left n start))

unlet_left : (n : ℕ) (text : List ℕ) → length text ≤ n → Leaves n (unlet_command text)
unlet_left n text most =
    left_from n n (word_start text) (λ start. variable_at start) (word_start_left n text most)
    (λ start fewer. variable_left n start)

set_left : (n : ℕ) (text : List ℕ) → length text ≤ n → Leaves n (set_command text)
set_left n text most =
    left_from n n (word_start text)
    (λ start. if begins_cpo start then quiet start else Err cause.UnknownCommand)
    (word_start_left n text most)
    (λ start fewer. left_if n (begins_cpo start) (quiet start) (Err cause.UnknownCommand)
    (λ is. quiet_left n start fewer) (λ is. tt))

runtime_left : (n : ℕ) (text : List ℕ) → length text ≤ n → Leaves n (runtime_command text)
runtime_left n text most =
    left_behind n n (file_argument text) (λ file. alone (what.Runtime file.0) file.1)
    (file_left n text most)
    (λ file fewer. alone_left n (what.Runtime file.0) file.1 fewer)

-- Syntax commands.

case_left : (n : ℕ) (text : List ℕ) → length text ≤ n → Leaves n (case_command text)
case_left n text most =
    left_behind n n (argument text)
    (λ word. ignored_case word.0 >>= λ ignore. alone (what.CaseIgnore ignore) word.1)
    (argument_left n text most)
    (λ word fewer. left_by n (ignored_case word.0) (λ ignore. alone (what.CaseIgnore ignore) word.1)
    (λ ignore. alone_left n (what.CaseIgnore ignore) word.1 fewer))

iskeyword_left : (n : ℕ) (text : List ℕ) → length text ≤ n → Leaves n (iskeyword_command text)
iskeyword_left n text most =
    left_behind n n (argument text) (λ word. alone (what.Iskeyword (keyword_set word.0)) word.1)
    (argument_left n text most)
    (λ word fewer. alone_left n (what.Iskeyword (keyword_set word.0)) word.1 fewer)

item_left : (n : ℕ) (kind : ItemCommand) (text : List ℕ) → length text ≤ n
    → Leaves n (item_command kind text)
item_left n kind text most =
    left_behind n n (group_argument text)
    (λ group. pieces kind group.1 >>= λ found. Ok (what.Item kind group.0 found.0, found.1))
    (group_left n text most)
    (λ group fewer. left_behind n n (pieces kind group.1)
    (λ found. Ok (what.Item kind group.0 found.0, found.1))
    (pieces_left n kind nothing_seen [] group.1 group.1 fewer)
    (λ found less. less))

cluster_left : (n : ℕ) (text : List ℕ) → length text ≤ n → Leaves n (cluster_command text)
cluster_left n text most =
    left_behind n n (group_argument text)
    (λ cluster. changes cluster.1 >>= λ found. Ok (what.Cluster cluster.0 found.0, found.1))
    (group_left n text most)
    (λ cluster fewer. left_behind n n (changes cluster.1)
    (λ found. Ok (what.Cluster cluster.0 found.0, found.1))
    (changes_left n [] cluster.1 cluster.1 fewer)
    (λ found less. less))

included_left : (n : ℕ) (cluster : Option (List ℕ)) (text : List ℕ) → length text ≤ n
    → Leaves n (included cluster text)
included_left n cluster text most =
    left_behind n n (file_argument text) (λ file. alone (what.Include cluster file.0) file.1)
    (file_left n text most)
    (λ file fewer. alone_left n (what.Include cluster file.0) file.1 fewer)

include_in_left : (n : ℕ) (text : List ℕ) → length text ≤ n → Leaves n (include_in text)
include_in_left n text most =
    left_by n (group_name (run until.Word text))
    (λ cluster. included (Some cluster) (past until.Word text))
    (λ cluster. included_left n (Some cluster) (past until.Word text)
    (past_left n until.Word text most))

include_left : (n : ℕ) (text : List ℕ) → length text ≤ n → Leaves n (include_command text)
include_left n text most =
    left_from n n (word_start text)
    (λ start. if begins 64 start then include_in (behind_first start) else included None start)
    (word_start_left n text most)
    (λ start fewer.
    let first = first_left start in
    left_if n (begins 64 start) (include_in (behind_first start)) (included None start)
    (λ is. include_in_left n (behind_first start) (omega (arith, first, fewer)))
    (λ is. included_left n None start fewer))

sync_left : (n : ℕ) (text : List ℕ) → length text ≤ n → Leaves n (sync_command text)
sync_left n text most =
    left_from n n (word_start text)
    (λ start. Ok (what.Sync (is_fromstart start), past_command false start))
    (word_start_left n text most) (λ start fewer. behind_left n false start fewer)

by_left : (n : ℕ) (o : Option Subcommand) (word text : List ℕ) → length text ≤ n
    → Leaves n (by_subcommand o word text)
by_left n None word text most = tt
by_left n (Some (sub.Item kind)) word text most = item_left n kind text most
by_left n (Some sub.Cluster) word text most = cluster_left n text most
by_left n (Some sub.Case) word text most = case_left n text most
by_left n (Some sub.Iskeyword) word text most = iskeyword_left n text most
by_left n (Some sub.Include) word text most = include_left n text most
by_left n (Some sub.Sync) word text most = sync_left n text most
by_left n (Some sub.Clear) word text most = clear_left n [] text text most
by_left n (Some sub.Quiet) word text most = quiet_left n text most
by_left n (Some sub.LeftOut) word text most = tt

syntax_left : (n : ℕ) (text : List ℕ) → length text ≤ n → Leaves n (syntax_command text)
syntax_left n text most =
    left_behind n n (argument text) (λ word. by_subcommand (subcommand_of word.0) word.0 word.1)
    (argument_left n text most)
    (λ word fewer. by_left n (subcommand_of word.0) word.0 word.1 fewer)

-- Highlight commands.

link_left : (n : ℕ) (unset force : Bool) (text : List ℕ) → length text ≤ n
    → Leaves n (link_command unset force text)
link_left n unset force text most =
    left_behind n n (group_argument text)
    (λ from. argument from.1 >>= λ word. link_target word.0 >>= λ to. alone
    (what.Link from.0 to unset force) word.1)
    (group_left n text most)
    (λ from fewer. left_behind n n (argument from.1)
    (λ word. link_target word.0 >>= λ to. alone (what.Link from.0 to unset force) word.1)
    (argument_left n from.1 fewer)
    (λ word less. left_by n (link_target word.0)
    (λ to. alone (what.Link from.0 to unset force) word.1)
    (λ to. alone_left n (what.Link from.0 to unset force) word.1 less)))

style_left : (n : ℕ) (unset : Bool) (word text : List ℕ) → length text ≤ n
    → Leaves n (style_command unset word text)
style_left n unset word text most =
    left_by n (group_name word)
    (λ group. style_parts text >>= λ parts. Ok (what.Style group parts.0 unset, parts.1))
    (λ group. left_behind n n (style_parts text)
    (λ parts. Ok (what.Style group parts.0 unset, parts.1))
    (parts_left n false [] text text most) (λ parts fewer. fewer))

link_or_left : (n : ℕ) (unset force : Bool) (word text : List ℕ) → length text ≤ n
    → Leaves n (link_or_style unset force word text)
link_or_left n unset force word text most =
    left_if n (is_word word (codes "link")) (link_command unset force text)
    (style_command unset word text)
    (λ is. link_left n unset force text most) (λ is. style_left n unset word text most)

unset_left : (n : ℕ) (force : Bool) (text : List ℕ) → length text ≤ n
    → Leaves n (unset_command force text)
unset_left n force text most =
    left_behind n n (argument text) (λ word. link_or_style true force word.0 word.1)
    (argument_left n text most)
    (λ word fewer. link_or_left n true force word.0 word.1 fewer)

highlight_left : (n : ℕ) (force : Bool) (text : List ℕ) → length text ≤ n
    → Leaves n (highlight_command force text)
highlight_left n force text most =
    left_behind n n (argument text)
    (λ word. if is_default word.0 then unset_command force word.1
    else link_or_style false force word.0 word.1)
    (argument_left n text most)
    (λ word fewer. left_if n (is_default word.0) (unset_command force word.1)
    (link_or_style false force word.0 word.1)
    (λ is. unset_left n force word.1 fewer)
    (λ is. link_or_left n false force word.0 word.1 fewer))

-- All commands.

guard_at_left : (n : ℕ) (text : List ℕ) → length text ≤ n → Leaves n (guard_at text)
guard_at_left n text most =
    left_if n (is_guard (run until.Word text))
    (no_more (past until.Word text) >>= λ rest. Ok (OpensGuard, rest)) (Err cause.UnknownCommand)
    (λ is. left_from n n (no_more (past until.Word text)) (λ rest. Ok (OpensGuard, rest))
    (no_more_left n (past until.Word text) (past_left n until.Word text most))
    (λ rest fewer. fewer))
    (λ is. tt)

guard_left : (n : ℕ) (text : List ℕ) → length text ≤ n → Leaves n (guard text)
guard_left n text most =
    let blanks = blanks_shorter text in
    guard_at_left n (past_blanks text) (omega (arith, blanks, most))

plain_left : (n : ℕ) (word : CommandName) (text : List ℕ) → length text ≤ n
    → Leaves n (plain_command word text)
plain_left n name.Syntax text most = syntax_left n text most
plain_left n name.Let text most = let_left n text most
plain_left n name.Unlet text most = unlet_left n text most
plain_left n name.Set text most = set_left n text most
plain_left n name.Scriptencoding text most = quiet_left n text most
plain_left n name.Runtime text most = runtime_left n text most
plain_left n name.If text most = tt
plain_left n (name.Highlight force) text most = highlight_left n force text most

does_left : (n : ℕ) (word : CommandName) (text : List ℕ) → length text ≤ n
    → Leaves n (does word text)
does_left n word text most =
    left_behind n n (plain_command word text) (λ said. Ok (Does said.0, said.1))
    (plain_left n word text most)
    (λ said fewer. fewer)

command_by_left : (n : ℕ) (o : Option CommandName) (text : List ℕ) → length text ≤ n
    → Leaves n (command_by o text)
command_by_left n None text most = tt
command_by_left n (Some name.If) text most = guard_left n text most
command_by_left n (Some name.Syntax) text most = does_left n name.Syntax text most
command_by_left n (Some name.Let) text most = does_left n name.Let text most
command_by_left n (Some name.Unlet) text most = does_left n name.Unlet text most
command_by_left n (Some name.Set) text most = does_left n name.Set text most
command_by_left n (Some name.Scriptencoding) text most = does_left n name.Scriptencoding text most
command_by_left n (Some name.Runtime) text most = does_left n name.Runtime text most
command_by_left n (Some (name.Highlight force)) text most =
    does_left n (name.Highlight force) text most

-- a command takes a character at least, where it begins with neither a blank nor a bar
pub command_left : (n c : ℕ) (cs : List ℕ) → stops until.Word c ≡ false → length (c ∷ cs) ≤ suc n
    → Leaves n (command (c ∷ cs))
command_left n c cs goes most =
    command_by_left n (command_name (run until.Word (c ∷ cs))) (past until.Word (c ∷ cs))
    (run_left n until.Word c cs goes most)

-- and so does a word that the guard awaits
pub awaited_left : (n : ℕ) (word : List ℕ) (c : ℕ) (cs : List ℕ) → stops until.Word c ≡ false
    → length (c ∷ cs) ≤ suc n → LeavesText n (awaited word (c ∷ cs))
awaited_left n word c cs goes most =
    text_if n (is_word (run until.Word (c ∷ cs)) word) (no_more (past until.Word (c ∷ cs)))
    (Err cause.GuardUnfinished)
    (no_more_left n (past until.Word (c ∷ cs)) (run_left n until.Word c cs goes most)) tt
