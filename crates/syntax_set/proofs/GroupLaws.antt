-- Groups are kept by their names in lower case: what is found there is the group of a name.
use Rattle.std.proofs.Common.{◌≡◌, ℕ, suc, add-zero, ◌+◌, Bool, true, false, cond, not, ltb, eqb, HashMap, List, [], ◌∷◌, ◌++◌, length, Option, Some, None, is_some, String, refl, ap, subst, sym, ◌∙◌, arith, length-append, if◌then◌else◌, position}
use Rattle.std.specs.declared.alloc.Global.{Global}
use Rattle.std.specs.HashMap.{get, get_by}
use Rattle.std.specs.List.{position_or_len}
use Rattle.std.specs.Map.{keys_of}
use Rattle.std.specs.Option.{option_map}
use Rattle.std.specs.Str.{bytes_eq, str_to_ascii_lowercase}
use Rattle.std.specs.String.{string_bytes, string_eq}
use Rattle.std.proofs.lemmas.Bool.Decides.{nat_tests}
use Rattle.std.proofs.lemmas.List.Folds.{position_or_len_push}
use Rattle.std.proofs.lemmas.List.Sums.{prefix_len-le-length}
use Rattle.std.proofs.lemmas.Slice.Eq.{bytes_eq-Decides}
use Rattle.indexmap.specs.IndexMap.{insert_entry}
use Rattle.indexmap.proofs.CallerLemmas.{insert_entry-new}
use Rattle.syn_base.specs.declared.places.GroupId.{GroupId}
use Rattle.syntax_set.specs.GroupEntries.{Entry, IsByLowerCase, names_of}
use Rattle.syntax_set.specs.Groups.{group_numbered, group_of, is_same_name, with_group}

-- the first name in lower case that is the one looked for
first_same : (lower : List ℕ) (entries : List Entry) → IsByLowerCase entries
    → position_or_len (λ key. bytes_eq lower (string_bytes key)) (keys_of entries)
    ≡ position_or_len (λ name. bytes_eq lower (str_to_ascii_lowercase name)) (names_of entries)
first_same lower [] by_lower_case = refl
first_same lower (entry ∷ entries) by_lower_case =
    λ j. cond (not (bytes_eq lower (by_lower_case.0 j))) (1 + first_same lower entries by_lower_case.1 j) 0

-- there are as many keys as names
pub same_length : (entries : List Entry) → length (keys_of entries) ≡ length (names_of entries)
same_length [] = refl
same_length (entry ∷ entries) = λ j. suc (same_length entries j)

-- what is found in lower case is the group of the name
pub found_group : (entries : List Entry) (lower name : List ℕ) (found : Option ℕ) → IsByLowerCase entries
    → lower ≡ str_to_ascii_lowercase name
    → found ≡ position (λ key. bytes_eq lower (string_bytes key)) (keys_of entries)
    → option_map group_numbered found ≡ group_of (names_of entries) name
found_group entries lower name found by_lower_case in_lower_case is_found =
    ap (option_map group_numbered)
    (is_found
    ∙ (λ j. cond (ltb (first_same lower entries by_lower_case j) (same_length entries j)) (Some (first_same lower entries by_lower_case j)) None)
    ∙ ap (λ query. position (λ name. bytes_eq query (str_to_ascii_lowercase name)) (names_of entries)) in_lower_case)

-- a further name in lower case
pub by_lower_case-push : (entries : List Entry) (key name : String Global) → IsByLowerCase entries
    → string_bytes key ≡ str_to_ascii_lowercase (string_bytes name) → IsByLowerCase (entries ++ (key, name) ∷ [])
by_lower_case-push [] key name by_lower_case same = (same, tt)
by_lower_case-push (entry ∷ entries) key name by_lower_case same =
    (by_lower_case.0, by_lower_case-push entries key name by_lower_case.1 same)

-- a further name
pub names_of-push : (entries : List Entry) (key name : String Global)
    → names_of (entries ++ (key, name) ∷ []) ≡ names_of entries ++ string_bytes name ∷ []
names_of-push [] key name = refl
names_of-push (entry ∷ entries) key name = λ j. string_bytes entry.1 ∷ names_of-push entries key name j

-- where nothing passes, the first place that does is the end
nothing_first : (p : List ℕ → Bool) (names : List (List ℕ)) (found : Bool)
    → ltb (position_or_len p names) (length names) ≡ found
    → option_map group_numbered (cond found (Some (position_or_len p names)) None) ≡ None
    → position_or_len p names ≡ length names
nothing_first p names true is_less none = cc
nothing_first p names false is_less none = grind (arith, nat_tests, prefix_len-le-length (λ name. not (p name)) names)

-- the end, with nothing added
at_the_end : (b : Bool) (n : ℕ) → cond b (n + 0) n ≡ n
at_the_end true n = add-zero n
at_the_end false n = refl

-- a new name is found at the end
pub group_of-push : (names : List (List ℕ)) (name : List ℕ) → group_of names name ≡ None
    → group_of (names ++ name ∷ []) name ≡ Some (group_numbered (length names))
group_of-push names name none =
    let p : List ℕ → Bool = is_same_name name in
    let at_end : position_or_len p names ≡ length names = nothing_first p names _ refl none in
    let same : p name ≡ true = (bytes_eq-Decides (str_to_ascii_lowercase name) (str_to_ascii_lowercase name)).1 refl in
    let pushed : position_or_len p (names ++ name ∷ []) ≡ length names =
    position_or_len_push p names name
    ∙ (λ j. cond (eqb (at_end j) (length names)) (length names + cond (same j) 0 1) (at_end j))
    ∙ at_the_end (eqb (length names) (length names)) (length names) in
    let within : ltb (length names) (length (names ++ name ∷ [])) ≡ true = grind (arith, nat_tests, length-append names (name ∷ [])) in
    (λ j. option_map group_numbered (cond (ltb (pushed j) (length (names ++ name ∷ []))) (Some (pushed j)) None))
    ∙ (λ j. option_map group_numbered (cond (within j) (Some (length names)) None))

-- the groups with a name that is there
pub with_group-known : (names : List (List ℕ)) (name : List ℕ) (g : GroupId) → group_of names name ≡ Some g
    → with_group names name ≡ names
with_group-known names name g known = λ j. if is_some (known j) then names else names ++ name ∷ []

-- the groups with a new name
pub with_group-new : (names : List (List ℕ)) (name : List ℕ) → group_of names name ≡ None
    → with_group names name ≡ names ++ name ∷ []
with_group-new names name new = λ j. if is_some (new j) then names else names ++ name ∷ []

module _ {S : Type 0} (m : HashMap (String Global) (String Global) S) (lower : String Global) where
  -- a name that isn't found has no entry
  absent : (query : List ℕ) → query ≡ string_bytes lower
      → false ≡ is_some (get_by (λ key. bytes_eq query (string_bytes key)) m) → get string_eq m lower ≡ None
  absent query same none =
      no_value _ (none ∙ ap (λ q. is_some (get_by (λ key. bytes_eq q (string_bytes key)) m)) same)
    where
      no_value : (found : Option (String Global)) → false ≡ is_some found → found ≡ None
      no_value None h = refl
      no_value (Some x) h = cc

  -- a new name goes last
  pub entry_pushed : (n : HashMap (String Global) (String Global) S) (written : String Global) (query : List ℕ) → query ≡ string_bytes lower
      → false ≡ is_some (get_by (λ key. bytes_eq query (string_bytes key)) m)
      → n.entries ≡ insert_entry string_eq m.entries lower written → n.entries ≡ m.entries ++ (lower, written) ∷ []
  entry_pushed n written query same none inserted =
      inserted ∙ insert_entry-new string_eq m lower written (absent query same none)

-- the names with a further entry
pub names_further : (before after : List Entry) (lower written : String Global) (names : List (List ℕ)) (name : List ℕ)
    → after ≡ before ++ (lower, written) ∷ [] → names_of before ≡ names → string_bytes written ≡ name
    → names_of after ≡ names ++ name ∷ []
names_further before after lower written names name pushed same is_written =
    ap names_of pushed ∙ names_of-push before lower written ∙ (λ j. same j ++ is_written j ∷ [])

-- what is kept, with a further entry
pub still_by_lower_case : (before after : List Entry) (lower written : String Global) (name : List ℕ)
    → after ≡ before ++ (lower, written) ∷ [] → IsByLowerCase before
    → string_bytes lower ≡ str_to_ascii_lowercase name → string_bytes written ≡ name → IsByLowerCase after
still_by_lower_case before after lower written name pushed by_lower_case in_lower_case is_written =
    subst IsByLowerCase (sym pushed)
    (by_lower_case-push before lower written by_lower_case (in_lower_case ∙ ap str_to_ascii_lowercase (sym is_written)))
