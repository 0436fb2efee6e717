-- The names that most proofs of this crate cite, passed on from one place. Declares nothing.
pub use Rattle.std.proofs.Common.{Bool, List, [], add-one, ap, append-nil, arith, drop, false, get_or, inl, inr, length, length-append, refl, subst, suc, sym, true, zero, ℕ, ◌%◌, ◌*◌, ◌++◌, ◌+◌, ◌/◌, ◌<◌, ◌∙◌, ◌∷◌, ◌≡◌, ◌≤◌}
pub use Rattle.std.proofs.Math.Nat.{mul-le-mul_left, mul-le-mul_right, suc-mul}
pub use Rattle.std.proofs.lemmas.Bool.{and_cases, and_parts, both_ways, cases_eq, cases_lt, not-false, not-true, or_cases, or_parts}
pub use Rattle.std.proofs.lemmas.Bool.Decides.{nat_tests}
pub use Rattle.std.proofs.lemmas.Int.{ints}
pub use Rattle.std.proofs.lemmas.Option.{IfSome_then, none-some, same_Some, slice_get_within}
pub use Rattle.std.specs.List.{list_any}
pub use Rattle.std.specs.Prelude.{IfSome, None, Option, Some, codes, if◌then◌else◌, nat_eq, nat_le, nat_lt, not, pos, slice_get, ℤ, ◌&&◌, ◌-ℤ◌, ◌||◌, ◌≤ℤ◌}
pub use Rattle.char_class.specs.Classes.{class_holds, is_digit, is_printable}
pub use Rattle.char_class.specs.Folds.{is_same}
pub use Rattle.char_class.specs.declared.sets.Sets.{Sets}
pub use Rattle.match_rules.proofs.MarkLaws.{AllWays, AllWays-append, AllWays-followed, followed-append}
pub use Rattle.match_rules.specs.Atoms.{behind_if, behind_one, behind_one_or_end, character_at, fits, has_keyword, is_line_end, keyword_at, keyword_before, keyword_in, lines_looked, only_if, turned_round, way_behind}
pub use Rattle.match_rules.specs.Attempt.{Answer, answer_from, answer_of, attempt, for_tree, joined, lines_of, search}
pub use Rattle.match_rules.specs.Collections.{class_in_set, collection_holds, part_holds}
pub use Rattle.match_rules.specs.Counts.{after_turn, free_turns, in_order, is_spent, less_by, one_less, places_behind, turns}
pub use Rattle.match_rules.specs.Looks.{columns_back, ending_at, from_each, line_before, look, look_end, looking_at, starts_behind, tried_behind}
pub use Rattle.match_rules.specs.Marks.{Mark, Reach, Tick, first_way, followed, reach_if, ticks_first}
pub use Rattle.match_rules.specs.Visits.{behind_fit, noted, noted_external, tried, visits}
pub use Rattle.match_rules.specs.Ways.{Context, Text, Way, behind_character, behind_line_end, is_after, is_same_place, line_at, place, way_from}
pub use Rattle.pattern_items.specs.declared.atom.Atom.{Atom}
pub use Rattle.pattern_items.specs.declared.atom.Atom.TheVariants.{Any, Char, FileStart, Is, LineEnd, LineStart, LineStop, MatchStart, MatchStop, Set, WordStart, WordStop}
pub use Rattle.syn_base.specs.Looked.{greater, hull_of, lesser, one_line}
pub use Rattle.syn_base.specs.declared.looked.Looked.{Looked}
pub use Rattle.syn_base.specs.declared.places.Place.{Place}
pub use Rattle.vim_pattern.specs.Parted.{node_count}
pub use Rattle.vim_pattern.specs.Shape.{Shape, ahead, and, bare, before, empty, external, group, one, or, repeat, seq, whole}
pub use Rattle.vim_pattern.specs.Tree.{PatternTree}
pub use Rattle.pattern_screens.specs.Behind.{behind_cost, from_starts, is_cheap_behind, is_within}
pub use Rattle.pattern_screens.specs.Bounds.{atom_ways, bound_of, chain_of, failing_cost, first_bound, most_cost, one_way, or_bound, then_bound, turn_bound}
pub use Rattle.pattern_screens.specs.Failing.{fails, fails_at}
pub use Rattle.pattern_screens.specs.FailingLaw.{FailBefore, FailBehind, FailHere}
pub use Rattle.pattern_screens.specs.FirstAtoms.{both_lists, first_atoms, first_cost, is_forced, number_of, some_fits}
pub use Rattle.pattern_screens.specs.Following.{fails_after, is_line_start, takes_first, takes_leaf, takes_piece}
pub use Rattle.pattern_screens.specs.Keys.{AreNumbers, is_after_keyword, is_end, is_first, is_keyword, key_numbered, key_of, last_in, last_numbered, last_of, next_numbered, next_of, other_of}
pub use Rattle.pattern_screens.specs.Lined.{chain_cost, chain_ways, is_few, is_lined, is_lined_atom, most_turns, tries_first}
pub use Rattle.pattern_screens.specs.MayTake.{class_has_other, may_take, may_take_other, part_may_hold, takes_end}
pub use Rattle.pattern_screens.specs.PlainAtoms.{is_plain, plain_fits, plain_takes, takes}
pub use Rattle.pattern_screens.specs.Rest.{rest_fails, rest_tree, second_of}
pub use Rattle.pattern_screens.specs.Rooms.{both_rooms, counted_room, first_room, look_then, room_of, turns_room}
pub use Rattle.pattern_screens.specs.ScreenLaw.{AreSound, IsInVain, IsSoundAt, two_lines}
pub use Rattle.pattern_screens.specs.Screens.{both, in_turn, is_dead, is_futile, mapped, one_by_one, or_maybe, or_still, still, still_atom, still_count, still_look, still_of, then_still, turned, unless}
pub use Rattle.pattern_screens.specs.declared.bounds.Bound.{Bound}
pub use Rattle.pattern_screens.specs.declared.key.Key.{Key}
pub use Rattle.pattern_screens.specs.declared.still.Still.{Still}
