-- How a number of ticks grows with the characters that are left of a line, by a list of numbers.
use Rattle.std.specs.Prelude.{◌≡◌, ℕ, zero, suc, ◌+◌, ◌*◌, true, List, [], ◌∷◌}
use Rattle.vim_pattern.specs.Shape.{Shape}
use Rattle.pattern_needs.specs.LineCosts.{Cost, cost_of, nothing, stays}
use Rattle.pattern_needs.specs.declared.room.Room.{Room}

abbrev pub once : Cost
once left = 1

-- what something costs at all places together where fewer are left
abbrev pub fewer : Cost → Cost
fewer f zero = 0
fewer f (suc left) = f left + fewer f left

-- in how many ways so many can be chosen of those that are left
abbrev pub chosen : ℕ → Cost
chosen zero = once
chosen (suc k) = fewer (chosen k)

-- so many times what it costs, so many times what it costs at all places with fewer left, and so on
abbrev pub grown : List ℕ → Cost → Cost
grown [] f = nothing
grown (n ∷ more) f = λ left. n * f left + grown more (fewer f) left

-- the ticks of a part, and what follows each of its ways
abbrev pub total : Room → Cost → Cost
total room rest left = grown room.cost.by once left + grown room.ways.by rest left

-- a part stays in its line, and costs this
pub record IsRoomOf (node : Shape) (room : Room) : Type 0 where
  pub stay : stays node ≡ true
  pub same : total room ≡ cost_of node

-- a part, and another behind each of its ways
pub record IsRoomBehind (first : Room) (node : Shape) (room : Room) : Type 0 where
  pub stay : stays node ≡ true
  pub same : (f : Cost) → total room f ≡ total first (cost_of node f)

-- one part or another
pub record IsRoomEither (one : Room) (node : Shape) (room : Room) : Type 0 where
  pub stay : stays node ≡ true
  pub same : (f : Cost) (left : ℕ) → total room f left ≡ total one f left + cost_of node f left
