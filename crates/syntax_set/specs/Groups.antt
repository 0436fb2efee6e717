-- Highlight groups (Vim's help, :syn-define and :highlight): the list of their names as first written,
-- in order of definition. A group's number is its place in the list, from 0. A name stands for the group
-- whose name differs from it at most in the case of ASCII letters.
use Rattle.std.specs.Prelude.{◌≡◌, ℕ, Bool, List, [], ◌∷◌, ◌++◌, length, if◌then◌else◌, position, slice_get, unwrap_or, is_some}
use Rattle.std.specs.declared.option.Option.{Option}
use Rattle.std.specs.declared.option.Option.TheVariants.{None}
use Rattle.std.specs.Option.{option_map}
use Rattle.std.specs.Str.{bytes_eq, str_to_ascii_lowercase}
use Rattle.syn_base.specs.declared.places.GroupId.{GroupId}
use Rattle.syntax_set.specs.declared.set_error.SetError.{SetError}
use Rattle.syntax_set.specs.declared.set_error.SetError.TheVariants.{Memory, TooManyGroups, TooManyItems}

-- whether two names are one, case ignored
abbrev pub is_same_name : List ℕ → List ℕ → Bool
is_same_name one other = bytes_eq (str_to_ascii_lowercase one) (str_to_ascii_lowercase other)

-- the group of this number
abbrev pub group_numbered : ℕ → GroupId
group_numbered number = record { 0 = number }

-- the group that a name stands for
abbrev pub group_of : List (List ℕ) → List ℕ → Option GroupId
group_of names name = option_map group_numbered (position (is_same_name name) names)

-- the name of a group, empty where no group has its number
abbrev pub name_of : List (List ℕ) → GroupId → List ℕ
name_of names g = unwrap_or (slice_get names g.0) []

-- the groups with that of a name, which is made if it is new
abbrev pub with_group : List (List ℕ) → List ℕ → List (List ℕ)
with_group names name = if is_some (group_of names name) then names else names ++ name ∷ []

-- why a name was given no number
abbrev pub IsRefusedGroup : List (List ℕ) → List ℕ → SetError → Type 0
IsRefusedGroup names name TooManyItems = ⊥
IsRefusedGroup names name TooManyGroups = (group_of names name ≡ None) × (length names ≡ 20000)
IsRefusedGroup names name Memory = Unit {0}
