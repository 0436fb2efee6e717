-- What follows a node, by its length.
use Rattle.std.specs.Prelude.{ℕ, zero, suc}
use Rattle.pattern_match.specs.declared.sight.Rest.{Rest}
use Rattle.pattern_match.specs.declared.sight.Rest.TheVariants as rest

-- of how many parts it is
abbrev pub rests : Rest → ℕ
rests rest.End = zero
rests (rest.EndAt p) = zero
rests (rest.Then' s p r) = suc (rests r)
rests (rest.AfterTurn' t from p r) = suc (rests r)
rests (rest.Close' number from p r) = suc (rests r)
rests (rest.CloseExternal' number from p r) = suc (rests r)
