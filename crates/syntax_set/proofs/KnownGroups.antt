-- Groups as Vim numbers and names them.
use Rattle.std.proofs.Common.{◌≡◌, List, [], ◌∷◌, Some, None, refl}
use Rattle.std.specs.Prelude.{ℕ, codes}
use Rattle.syntax_set.specs.Groups.{group_numbered, group_of, name_of, with_group}

two_groups : List (List ℕ)
two_groups = codes "Comment" ∷ codes "myString" ∷ []

-- case is ignored
in_another_case : group_of two_groups (codes "MYstring") ≡ Some (group_numbered 1)
unfolding two_groups
in_another_case = refl

-- a part of a name is another name
part_of_a_name : group_of two_groups (codes "Comm") ≡ None
unfolding two_groups
part_of_a_name = refl

-- only ASCII letters have two cases
other_letters : group_of ((195 ∷ 137 ∷ []) ∷ []) (195 ∷ 169 ∷ []) ≡ None
other_letters = refl

-- a group keeps the name that it was first given
kept_name : name_of (with_group two_groups (codes "comment")) (group_numbered 0) ≡ codes "Comment"
unfolding two_groups
kept_name = refl

-- a new group comes last
new_group : with_group two_groups (codes "A") ≡ codes "Comment" ∷ codes "myString" ∷ codes "A" ∷ []
unfolding two_groups
new_group = refl

no_such_group : name_of two_groups (group_numbered 2) ≡ []
unfolding two_groups
no_such_group = refl
