-- Worked rows: small syntax files, and what the rules make of them.
use Rattle.std.proofs.Common.{◌≡◌, ℕ, List, [], ◌∷◌, ◌++◌, refl, true, false, Some, None, length}
use Rattle.std.specs.Prelude.{Bool, Option, Result, Ok, Err, codes, count_by, map, ℤ, pos, negsuc}
use Rattle.std.specs.Str.{is_utf8, chars}
use lib.Utf8.{encode}
use Rattle.syn_base.specs.Outside.{FileMap}
use Rattle.syn_base.specs.declared.places.GroupId.{GroupId}
use Rattle.char_class.specs.OptionValue.{set_of}
use Rattle.char_class.specs.Folds.{is_same, range_holds}
use Rattle.pattern_items.specs.declared.cause.PatternCause.TheVariants as pattern
use Rattle.hi_links.specs.FinalGroup.{final_group, followed}
use Rattle.hi_links.specs.UsualGroups.{usual_groups, with_all_usual}
use Rattle.syntax_set.specs.Groups.{group_of, name_of, group_numbered}
use Rattle.syntax_set.specs.declared.item.Entry.{Entry}
use Rattle.syntax_set.specs.declared.item.Entry.TheVariants as entry
use Rattle.syntax_set.specs.declared.item.GroupList.{GroupList}
use Rattle.syntax_set.specs.declared.item.ItemKind.{ItemKind}
use Rattle.syntax_set.specs.declared.item.ItemKind.TheVariants as item_kind
use Rattle.syntax_set.specs.declared.item.Offset.{Offset}
use Rattle.syntax_set.specs.declared.item.Pattern.{Pattern}
use Rattle.syn_words.specs.declared.cause.Cause.{Cause}
use Rattle.syn_words.specs.declared.cause.Cause.TheVariants as cause
use Rattle.syn_reader.specs.declared.syntax.ReadError.{ReadError}
use Rattle.syn_reader.specs.declared.syntax.ReadError.TheVariants as error
use Rattle.syn_reader.specs.declared.syntax.ReadOptions.{ReadOptions}
use Rattle.syn_reader.specs.declared.syntax.Syntax.{Syntax}
use Rattle.syn_reader.specs.SyntaxOf.{syntax_of}

abbrev usual_options : ReadOptions
usual_options = record { folder = codes "."; assume_fromstart = false }

-- the file `s` alone, or with one more
abbrev alone : List ℕ → FileMap
alone s = (codes "s", s) ∷ []

abbrev with_file : List ℕ → List ℕ → List ℕ → FileMap
with_file s name f = (codes "s", s) ∷ (name, f) ∷ []

abbrev read : FileMap → Result Syntax ReadError
read files = syntax_of files (codes "s") usual_options

-- how many items, keywords and clusters there are
abbrev counted : Result Syntax ReadError → Result (ℕ × ℕ × ℕ) ReadError
counted (Ok syntax) = Ok (count_by (λ added. added.live) syntax.items, length syntax.keywords, length syntax.clusters.lists)
counted (Err e) = Err e

abbrev Refused : FileMap → ℕ → Cause → Type 0
Refused files line c = counted (read files) ≡ Err (error.Refused (codes "s") line c)

abbrev Counts : FileMap → ℕ → ℕ → ℕ → Type 0
Counts files items keywords clusters = counted (read files) ≡ Ok (items, keywords, clusters)

nothing : Counts (alone []) 0 0 0
unfolding is_utf8 chars encode with_all_usual usual_groups
nothing = refl

one_match : Counts (alone (codes "syn match A \"x\"\n")) 1 0 0
unfolding is_utf8 chars encode with_all_usual usual_groups
one_match = refl

sync_method : Refused (alone (codes "syn sync minlines=50")) 1 cause.SyncMethod
unfolding is_utf8 chars encode with_all_usual usual_groups
sync_method = refl

sync_assumed : counted (syntax_of (alone (codes "syn sync minlines=50")) (codes "s") (record { folder = codes "."; assume_fromstart = true })) ≡ Ok (0, 0, 0)
unfolding is_utf8 chars encode with_all_usual usual_groups
sync_assumed = refl

external_in_a_match : Refused (alone (codes "syn match M \"\\z(a\\)\"")) 1 (cause.Pattern 0 pattern.ExternalHere)
unfolding is_utf8 chars encode with_all_usual usual_groups
external_in_a_match = refl

bad_brackets : Refused (alone (codes "syn keyword K a[b")) 1 cause.BadBrackets
unfolding is_utf8 chars encode with_all_usual usual_groups
bad_brackets = refl

unknown_command : Refused (alone (codes "foo bar")) 1 cause.UnknownCommand
unfolding is_utf8 chars encode with_all_usual usual_groups
unknown_command = refl

long_keyword : Refused (alone (codes "syn keyword K aaaaaaaaaaaaaaaaaaaaaaaaaaaaaaaaaaaaaaaaaaaaaaaaaaaaaaaaaaaaaaaaaaaaaaaaaaaaaaaaa")) 1 cause.TooLongWord
unfolding is_utf8 chars encode with_all_usual usual_groups
long_keyword = refl

first_fault_of_any_kind : Refused (alone (codes "syn match A \"\\(\"\nfoo bar")) 1 (cause.Pattern 0 pattern.Unclosed)
unfolding is_utf8 chars encode with_all_usual usual_groups
first_fault_of_any_kind = refl

bad_option_value : Refused (alone (codes "syn iskeyword z-a")) 1 cause.BadOptionValue
unfolding is_utf8 chars encode with_all_usual usual_groups set_of
bad_option_value = refl

replaced_list_is_made : Counts (alone (codes "syn match A /x/ contains=@B contains=@C")) 1 0 2
unfolding is_utf8 chars encode with_all_usual usual_groups
replaced_list_is_made = refl

cleared_group_keeps_its_words : Counts (alone (codes "syn keyword K r[eturn]\nsyn clear K")) 0 6 0
unfolding is_utf8 chars encode with_all_usual usual_groups
cleared_group_keeps_its_words = refl

absent_file : counted (read (alone (codes "syn include @Sub syntax/sub.vim"))) ≡ Err (error.Missing (codes "s") 1 (codes "./syntax/sub.vim"))
unfolding is_utf8 chars encode with_all_usual usual_groups
absent_file = refl

absent_first_file : counted (read []) ≡ Err (error.Missing (codes "s") 0 (codes "s"))
unfolding is_utf8 chars encode with_all_usual usual_groups
absent_first_file = refl

included : Counts (with_file (codes "syn include @Sub syntax/sub.vim\nsyn region R start=\"<\" end=\">\" contains=@Sub") (codes "./syntax/sub.vim") (codes "syn keyword subK foo")) 2 1 1
unfolding is_utf8 chars encode with_all_usual usual_groups
included = refl

too_deep : counted (read (with_file (codes "syn include s") (codes "./s") (codes "syn include s"))) ≡ Err (error.Refused (codes "./s") 1 cause.TooDeepIncludes)
unfolding is_utf8 chars encode with_all_usual usual_groups
too_deep = refl

-- the names of the groups that a cluster has
abbrev groups_in : Result Syntax ReadError → List (List (List ℕ))
groups_in (Ok syntax) = map (λ list. map (λ g. name_of syntax.groups (group_numbered g)) list.groups) syntax.clusters.lists
groups_in (Err e) = []

cluster_is_made_anew : groups_in (read (with_file (codes "syn include @C f\nsyn match R \"<.*>\" contains=@C") (codes "./f") (codes "syn clear\nsyn match A \"a\""))) ≡ (codes "A" ∷ []) ∷ []
unfolding is_utf8 chars encode with_all_usual usual_groups
cluster_is_made_anew = refl

-- the name of the final group of a group
abbrev final_in : List ℕ → Option GroupId → Syntax → List ℕ
final_in name None syntax = []
final_in name (Some g) syntax = name_of syntax.groups (final_group syntax.links g)

abbrev final_of : List ℕ → Result Syntax ReadError → List ℕ
final_of name (Ok syntax) = final_in name (group_of syntax.groups name) syntax
final_of name (Err e) = []

taken_link_needs_a_link : final_of (codes "A") (read (alone (codes "hi link A NONE\nhi def link A B"))) ≡ codes "B"
unfolding is_utf8 chars encode with_all_usual usual_groups final_group followed
taken_link_needs_a_link = refl

style_takes_the_link : final_of (codes "A") (read (alone (codes "hi link A B\nhi A gui=NONE\nhi def link A C"))) ≡ codes "A"
unfolding is_utf8 chars encode with_all_usual usual_groups final_group followed
style_takes_the_link = refl

-- the names of an item's `contains`
abbrev entry_name : Syntax → Entry → List ℕ
entry_name syntax (entry.Group g) = name_of syntax.groups g
entry_name syntax (entry.Cluster c) = 64 ∷ name_of syntax.clusters.names (group_numbered c)

abbrev list_names : Syntax → Option GroupList → List (List ℕ)
list_names syntax None = []
list_names syntax (Some list) = map (entry_name syntax) list.entries

abbrev contained_in : Result Syntax ReadError → List (List (List ℕ))
contained_in (Ok syntax) = map (λ added. list_names syntax added.item.contains) syntax.items
contained_in (Err e) = []

a_group_stands_once : contained_in (read (alone (codes "syn match A /x/ contains=B,@C,b,A,@c,B"))) ≡ (codes "B" ∷ codes "@C" ∷ codes "A" ∷ []) ∷ []
unfolding is_utf8 chars encode with_all_usual usual_groups
a_group_stands_once = refl

a_found_group_stands_once : contained_in (read (alone (codes "syn match A /x/ contains=Number,\\CT[oy].*,Number,Type,todo,\\CNumbe[r]"))) ≡ (codes "Number" ∷ codes "Type" ∷ codes "Typedef" ∷ codes "Todo" ∷ []) ∷ []
unfolding is_utf8 chars encode with_all_usual usual_groups is_same range_holds
a_found_group_stands_once = refl

a_pattern_doesnt_find_its_own_group : contained_in (read (alone (codes "syn match Zed /x/ contains=\\CZ.*\nsyn match Zoo /y/ contains=\\CZ.*"))) ≡ [] ∷ (codes "Zed" ∷ []) ∷ []
unfolding is_utf8 chars encode with_all_usual usual_groups is_same range_holds
a_pattern_doesnt_find_its_own_group = refl

the_last_list_counts : contained_in (read (alone (codes "syn match A /x/ contains=B contains=C,D"))) ≡ (codes "C" ∷ codes "D" ∷ []) ∷ []
unfolding is_utf8 chars encode with_all_usual usual_groups
the_last_list_counts = refl

-- the matchgroup and the `excludenl` of an item's patterns
abbrev group_name : Syntax → Option GroupId → List ℕ
group_name syntax None = []
group_name syntax (Some g) = name_of syntax.groups g

abbrev beside : Syntax → Pattern → List ℕ × Bool
beside syntax p = (group_name syntax p.matchgroup, p.excludenl)

abbrev patterns_of : ItemKind → List Pattern
patterns_of item_kind.Keyword = []
patterns_of (item_kind.Match p) = p ∷ []
patterns_of (item_kind.Region starts None ends) = starts ++ ends
patterns_of (item_kind.Region starts (Some skip) ends) = starts ++ skip ∷ ends

abbrev all_patterns : {A : Type 0} → (Syntax → Pattern → A) → Result Syntax ReadError → List (List A)
all_patterns f (Ok syntax) = map (λ added. map (f syntax) (patterns_of added.item.kind)) syntax.items
all_patterns f (Err e) = []

matchgroup_and_excludenl : all_patterns beside (read (alone (codes "syn region R start=/a/ matchgroup=Q start=/b/ skip=/s/ matchgroup=none start=/c/ excludenl end=/d/ matchgroup=Q end=/e/ matchgroup=r end=/f/")))
    ≡ (([], false) ∷ (codes "Q", false) ∷ ([], false) ∷ ([], false) ∷ ([], true) ∷ (codes "Q", true) ∷ ([], true) ∷ []) ∷ []
unfolding is_utf8 chars encode with_all_usual usual_groups
matchgroup_and_excludenl = refl

excludenl_behind_its_pattern : all_patterns beside (read (alone (codes "syn match A /x/ excludenl"))) ≡ (([], false) ∷ []) ∷ []
unfolding is_utf8 chars encode with_all_usual usual_groups
excludenl_behind_its_pattern = refl

-- where a match starts
abbrev from_start : ℤ → Option Offset
from_start by = Some (record { from_end = false; by = by })

leading_context : all_patterns (λ _ p. p.ms) (read (alone (codes "syn match A /x/lc=2\nsyn match A /x/lc=2,ms=s+1\nsyn match A /x/ms=s-1,lc=2\nsyn match A /x/me=e+1")))
    ≡ (from_start (pos 2) ∷ []) ∷ (from_start (pos 1) ∷ []) ∷ (from_start (negsuc 0) ∷ []) ∷ (None ∷ []) ∷ []
unfolding is_utf8 chars encode with_all_usual usual_groups
leading_context = refl

-- the causes of one command, from left to right
pattern_before_names : Refused (alone (codes "syn match A /\\(/ contains=a\\{x")) 1 (cause.Pattern 0 pattern.Unclosed)
unfolding is_utf8 chars encode with_all_usual usual_groups
pattern_before_names = refl

names_before_pattern : Refused (alone (codes "syn match A contains=ab\\) /\\(/")) 1 (cause.Pattern 2 pattern.UnopenedClose)
unfolding is_utf8 chars encode with_all_usual usual_groups
names_before_pattern = refl

brackets_before_length : Refused (alone (codes "syn keyword K a[b]c aaaaaaaaaaaaaaaaaaaaaaaaaaaaaaaaaaaaaaaaaaaaaaaaaaaaaaaaaaaaaaaaaaaaaaaaaaaaaaaaa")) 1 cause.BadBrackets
unfolding is_utf8 chars encode with_all_usual usual_groups
brackets_before_length = refl

eighty_are_no_more_than_eighty : Counts (alone (codes "syn keyword K aaaaaaaaaaaaaaaaaaaaaaaaaaaaaaaaaaaaaaaaaaaaaaaaaaaaaaaaaaaaaaaaaaaaaaaaaaaaaa[aa]")) 1 3 0
unfolding is_utf8 chars encode with_all_usual usual_groups
eighty_are_no_more_than_eighty = refl

words_before_what_they_hold : Refused (alone (codes "syn match A /\\(/ foo")) 1 cause.UnknownOption
unfolding is_utf8 chars encode with_all_usual usual_groups
words_before_what_they_hold = refl

unknown_names_are_not_made : Counts (alone (codes "syn clear A @B")) 0 0 0
unfolding is_utf8 chars encode with_all_usual usual_groups
unknown_names_are_not_made = refl

a_cluster_in_the_order_written : groups_in (read (alone (codes "syn cluster C add=A,B remove=A add=D,a\nsyn cluster C add=b,E\nsyn cluster D contains=A\nsyn clear @D"))) ≡ (codes "B" ∷ codes "D" ∷ codes "A" ∷ codes "E" ∷ []) ∷ [] ∷ []
unfolding is_utf8 chars encode with_all_usual usual_groups
a_cluster_in_the_order_written = refl
