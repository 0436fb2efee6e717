-- Worked rows of files that ask for others: small files, and what the rules make of them.
use Rattle.std.proofs.Common.{◌≡◌, ℕ, List, [], ◌∷◌, refl, true, false}
use Rattle.std.specs.Prelude.{Bool, Result, Ok, Err, codes, map}
use Rattle.std.specs.Str.{is_utf8, chars}
use lib.Utf8.{encode}
use Rattle.syn_base.specs.Outside.{FileMap}
use Rattle.hi_links.specs.UsualGroups.{usual_groups, with_all_usual}
use Rattle.syntax_set.specs.declared.added_item.AddedItem.{AddedItem}
use Rattle.syntax_set.specs.Groups.{name_of, group_numbered}
use Rattle.syn_words.specs.declared.cause.Cause.TheVariants as cause
use Rattle.syn_reader.specs.declared.syntax.ReadError.{ReadError}
use Rattle.syn_reader.specs.declared.syntax.ReadError.TheVariants as error
use Rattle.syn_reader.specs.declared.syntax.ReadOptions.{ReadOptions}
use Rattle.syn_reader.specs.declared.syntax.Syntax.{Syntax}
use Rattle.syn_reader.specs.SyntaxOf.{syntax_of, syntax_by, told_by, failing_at}

abbrev usual_options : ReadOptions
usual_options = record { folder = codes "."; assume_fromstart = false }

-- the file `s` with one or two more
abbrev two : List ℕ → List ℕ → FileMap
two s f = (codes "s", s) ∷ (codes "./f", f) ∷ []

abbrev three : List ℕ → List ℕ → List ℕ → FileMap
three s f g = (codes "s", s) ∷ (codes "./f", f) ∷ (codes "./g", g) ∷ []

abbrev read : FileMap → Result Syntax ReadError
read files = syntax_of files (codes "s") usual_options

-- what a test of each item answers
abbrev items_of : {X : Type 0} → (AddedItem → X) → Result Syntax ReadError → Result (List X) ReadError
items_of f (Ok syntax) = Ok (map f syntax.items)
items_of f (Err e) = Err e

-- the include numbers of the items, in the order in which they were added
abbrev numbers_in : FileMap → Result (List ℕ) ReadError
numbers_in files = items_of (λ added. added.item.include) (read files)

-- which of them ignore case
abbrev ignoring_in : FileMap → Result (List Bool) ReadError
ignoring_in files = items_of (λ added. added.item.ignore) (read files)

-- the names of the groups that each cluster has
abbrev groups_by : Result Syntax ReadError → Result (List (List (List ℕ))) ReadError
groups_by (Ok syntax) = Ok (map (λ list. map (λ g. name_of syntax.groups (group_numbered g)) list.groups) syntax.clusters.lists)
groups_by (Err e) = Err e

abbrev groups_in : FileMap → Result (List (List (List ℕ))) ReadError
groups_in files = groups_by (read files)

abbrev Fails : FileMap → ReadError → Type 0
Fails files e = numbers_in files ≡ Err e

fault_in_an_included_file : Fails (two (codes "syn include f") (codes "syn case ignore\nfoo")) (error.Refused (codes "./f") 2 cause.UnknownCommand)
unfolding is_utf8 chars encode with_all_usual usual_groups
fault_in_an_included_file = refl

bad_bytes_in_an_included_file : Fails (two (codes "syn include f") (65 ∷ 10 ∷ 255 ∷ [])) (error.Refused (codes "./f") 2 cause.BadUtf8)
unfolding is_utf8 chars encode with_all_usual usual_groups
bad_bytes_in_an_included_file = refl

absent_file_before_a_fault : Fails (two (codes "syn case match\nruntime g\nfoo") []) (error.Missing (codes "s") 2 (codes "./g"))
unfolding is_utf8 chars encode with_all_usual usual_groups
absent_file_before_a_fault = refl

fault_before_an_absent_file : Fails (two (codes "foo\nruntime g") []) (error.Refused (codes "s") 1 cause.UnknownCommand)
unfolding is_utf8 chars encode with_all_usual usual_groups
fault_before_an_absent_file = refl

fault_behind_an_include : Fails (two (codes "syn include f\nfoo") (codes "syn match A /a/")) (error.Refused (codes "s") 2 cause.UnknownCommand)
unfolding is_utf8 chars encode with_all_usual usual_groups
fault_behind_an_include = refl

absent_file_of_an_included_file : Fails (two (codes "syn include f") (codes "\nruntime g")) (error.Missing (codes "./f") 2 (codes "./g"))
unfolding is_utf8 chars encode with_all_usual usual_groups
absent_file_of_an_included_file = refl

failing_file : items_of (λ added. added.live) (syntax_by (failing_at 1 (told_by (two (codes "\nsyn include f") []))) (codes "s") usual_options) ≡ Err (error.FileFault (codes "s") 2 (codes "./f"))
unfolding is_utf8 chars encode with_all_usual usual_groups
failing_file = refl

failing_first_file : items_of (λ added. added.live) (syntax_by (failing_at 0 (told_by (two [] []))) (codes "s") usual_options) ≡ Err (error.FileFault (codes "s") 0 (codes "s"))
unfolding is_utf8 chars encode with_all_usual usual_groups
failing_first_file = refl

read_by_runtime : numbers_in (two (codes "runtime f") (codes "syn match A /a/")) ≡ Ok (0 ∷ [])
unfolding is_utf8 chars encode with_all_usual usual_groups
read_by_runtime = refl

items_have_the_number_of_their_include : numbers_in (two (codes "syn match R /r/\nsyn include f\nsyn match S /s/") (codes "syn match A /a/")) ≡ Ok (0 ∷ 1 ∷ 0 ∷ [])
unfolding is_utf8 chars encode with_all_usual usual_groups
items_have_the_number_of_their_include = refl

by_runtime_in_an_include : numbers_in (three (codes "syn include f") (codes "runtime g") (codes "syn match A /a/")) ≡ Ok (1 ∷ [])
unfolding is_utf8 chars encode with_all_usual usual_groups
by_runtime_in_an_include = refl

nested_includes_have_numbers_of_their_own :
    numbers_in (three (codes "syn include f\nsyn include g") (codes "syn match A /a/\nsyn include g\nsyn match B /b/") (codes "syn match C /c/")) ≡ Ok (1 ∷ 2 ∷ 1 ∷ 3 ∷ [])
unfolding is_utf8 chars encode with_all_usual usual_groups
nested_includes_have_numbers_of_their_own = refl

case_stays_as_the_file_left_it : ignoring_in (two (codes "syn include f\nsyn match A /a/") (codes "syn case ignore")) ≡ Ok (true ∷ [])
unfolding is_utf8 chars encode with_all_usual usual_groups
case_stays_as_the_file_left_it = refl

contained_items_join_no_cluster : groups_in (two (codes "syn include @C f") (codes "syn match A /a/ contained\nsyn match B /b/")) ≡ Ok ((codes "B" ∷ []) ∷ [])
unfolding is_utf8 chars encode with_all_usual usual_groups
contained_items_join_no_cluster = refl

nested_items_join_their_own_cluster :
    groups_in (three (codes "syn include @C f") (codes "syn match A /a/\nsyn include @D g") (codes "syn match B /b/")) ≡ Ok ((codes "A" ∷ []) ∷ (codes "B" ∷ []) ∷ [])
unfolding is_utf8 chars encode with_all_usual usual_groups
nested_items_join_their_own_cluster = refl

items_by_runtime_join_the_cluster :
    groups_in (three (codes "syn include @C f") (codes "runtime g") (codes "syn match A /a/")) ≡ Ok ((codes "A" ∷ []) ∷ [])
unfolding is_utf8 chars encode with_all_usual usual_groups
items_by_runtime_join_the_cluster = refl
