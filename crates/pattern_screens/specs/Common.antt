-- The names that the clauses of this crate cite, passed on from one place. Declares nothing.
pub use Rattle.match_rules.specs.Atoms.{has_keyword}
pub use Rattle.match_rules.specs.Collections.{class_in_set, collection_holds, part_holds}
pub use Rattle.match_rules.specs.Counts.{is_spent}
pub use Rattle.vim_pattern.specs.Shape.{bare}
pub use Rattle.pattern_screens.specs.Behind.{behind_cost, is_cheap_behind, is_within, piece_cost}
pub use Rattle.pattern_screens.specs.Bounds.{atom_ways, bound_of, chain_of, count_bound, failing_cost, first_bound, most_cost, one_turn_more, or_bound, then_bound, turn_bound}
pub use Rattle.pattern_screens.specs.Failing.{FailsPastFirst, fails, fails_at}
pub use Rattle.pattern_screens.specs.FailingLaw.{FailBefore, FailBehind, FailHere}
pub use Rattle.pattern_screens.specs.FirstAtoms.{first_atoms, first_cost, is_forced}
pub use Rattle.pattern_screens.specs.FirstLaw.{AreFirstSound, FitAsTold}
pub use Rattle.pattern_screens.specs.Following.{fails_after, takes_first, takes_leaf, takes_piece}
pub use Rattle.pattern_screens.specs.Keys.{AreNumbers, is_after_keyword, is_end, is_first, is_keyword, key_numbered, key_of, last_in, last_numbered, last_of, next_numbered, next_of}
pub use Rattle.pattern_screens.specs.Lined.{is_few, is_lined, is_lined_atom, most_turns, tries_first}
pub use Rattle.pattern_screens.specs.MayTake.{class_has_other, may_take, may_take_other, part_may_hold, takes_end}
pub use Rattle.pattern_screens.specs.PlainAtoms.{is_plain, plain_takes}
pub use Rattle.pattern_screens.specs.Rest.{rest_fails, rest_tree, second_of}
pub use Rattle.pattern_screens.specs.Rooms.{room_of, turns_room}
pub use Rattle.pattern_screens.specs.ScreenLaw.{AreSound, IsSoundAt, two_lines}
pub use Rattle.pattern_screens.specs.Screens.{both, in_turn, is_dead, is_futile, maybe, or_maybe, or_still, still, still_atom, still_look, still_of, then_still, turned, unless}
pub use Rattle.pattern_screens.specs.TwoLines.{AreWithin, length_before}
