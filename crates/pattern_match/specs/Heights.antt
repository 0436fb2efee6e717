-- What can be followed: items of nodes with sound numbers, up to a height.
use Rattle.std.specs.Prelude.{ℕ, ◌≤◌, ◌+◌, max, List, [], ◌∷◌}
use Rattle.pattern_items.specs.GroupNumbers.{IsOneToNine}
use Rattle.vim_pattern.specs.GroupNumbers.{HasNumbers}
use Rattle.vim_pattern.specs.Shape.{Shape, empty, one, seq, or, and, group, external, repeat, ahead, before, whole}
use Rattle.match_rules.specs.Ways.{Text, IsPlaceOf}
use Rattle.pattern_match.specs.declared.task.Task.{Task}
use Rattle.pattern_match.specs.declared.task.Task.TheVariants.{Visit, Count, Turn, AfterTurn, Look, Close, CloseExternal, Again}
use Rattle.pattern_match.specs.Steps.{shape_of}
use Rattle.pattern_match.specs.Ways.{Thread}

abbrev pub height : Shape → ℕ
height empty = 0
height (one a) = 0
height (seq a b) = max (height a) (height b) + 1
height (or a b) = max (height a) (height b) + 1
height (and a b) = max (height a) (height b) + 1
height (group part number) = height part + 1
height (external part number) = height part + 1
height (repeat part least most lazy) = height part + 1
height (ahead part negative) = height part + 1
height (before part negative limit) = height part + 1
height (whole part) = height part + 1

-- a count is as high as its node
abbrev pub height_of : Task → ℕ
height_of (Visit s) = height (shape_of s.now)
height_of (Count t) = height (shape_of t.part.now) + 1
height_of (Turn t) = height (shape_of t.part.now) + 1
height_of (AfterTurn t from) = height (shape_of t.part.now) + 1
height_of (Look l) = height (shape_of l.part.now) + 1
height_of (Close number from) = 0
height_of (CloseExternal number from) = 0
height_of (Again s cost) = height (shape_of s.now)

-- nothing is done before the second part of a choice: it stands first on a way that was put aside
abbrev pub IsNumbered : Task → Type 0
IsNumbered (Visit s) = HasNumbers (shape_of s.now)
IsNumbered (Count t) = HasNumbers (shape_of t.part.now)
IsNumbered (Turn t) = HasNumbers (shape_of t.part.now)
IsNumbered (AfterTurn t from) = HasNumbers (shape_of t.part.now)
IsNumbered (Look l) = HasNumbers (shape_of l.part.now)
IsNumbered (Close number from) = IsOneToNine number
IsNumbered (CloseExternal number from) = IsOneToNine number
IsNumbered (Again s cost) = ⊥

abbrev pub AreTasks : ℕ → List Task → Type 0
AreTasks n [] = Unit {0}
AreTasks n (item ∷ items) = (IsNumbered item × (height_of item ≤ n)) × AreTasks n items

-- ways that stand on the text, with no more to be done on them than nodes of a height
abbrev pub AreSound : Text → ℕ → List (Thread Task) → Type 0
AreSound text n [] = Unit {0}
AreSound text n (t ∷ threads) = (IsPlaceOf text t.way.at × AreTasks n t.todo) ×
    AreSound text n threads
