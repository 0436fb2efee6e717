-- The names that most proofs of this crate cite, passed on from one place. Declares nothing.
pub use Rattle.std.proofs.Common.{Bool, List, [], ap, arith, false, get_or, inl, inr, length, refl, reverse, subst, suc, sym, take, true, zero, ℕ, ◌+◌, ◌-◌, ◌<◌, ◌∙◌, ◌∷◌, ◌≡◌, ◌≤◌, ◌⊎◌, cond, ◌++◌, length-append, rules, below_more}
pub use Rattle.std.proofs.lemmas.Bool.Decides.{nat_tests}
pub use Rattle.std.proofs.lemmas.List.{reverse-append, take_more, reverse-reverse, take-append-le, take_all}
pub use Rattle.std.proofs.lemmas.List.Elements.{All-head, All-tail, All-push, All-more, All-weaker}
pub use Rattle.std.proofs.lemmas.List.Sums.{AllPass-from_list_all, list_all-from_AllPass}
pub use Rattle.std.proofs.lemmas.Option.{get_or_from_slice_get, slice_get_within}
pub use Rattle.std.proofs.lemmas.Result.{IfOk-weaker}
pub use Rattle.std.specs.List.{All, list_all}
pub use Rattle.std.specs.Prelude.{None, Option, Some, if◌then◌else◌, nat_eq, nat_lt, not, pos, slice_get, ◌&&◌, ◌||◌, is_none, is_some, ℤ, IfSome}
pub use Rattle.char_class.specs.declared.sets.Sets.{Sets}
pub use Rattle.match_rules.specs.Attempt.{attempt, ignores_case, Answer, answer_of, for_tree}
pub use Rattle.match_rules.specs.Ways.{Context, Text, line_at, is_after, Way, IsPlaceOf, behind_character, way_from}
pub use Rattle.paint_rules.proofs.PaintedLaws.{refusal_bind, goes_on, first_bind, refusal_first}
pub use Rattle.paint_rules.specs.EndInLine.{NoSkip, Search, Skip, SkipLine, SkipTo, end_at, end_from, end_in_line, end_made, ends_of, skip_at, skip_of, tried_at, skip_to, end_in_present}
pub use Rattle.paint_rules.specs.Frames.{Frame}
pub use Rattle.paint_rules.specs.ItemMatch.{columns_from, looks_at_end, columns}
pub use Rattle.paint_rules.specs.Offsets.{offset_place, later_place, earlier_place}
pub use Rattle.paint_rules.specs.Painted.{Done, Painted, Refused, done, first_found, looked_first, refusal_of, ◌>>=◌}
pub use Rattle.paint_rules.specs.Rules.{Cause, Matched, TooCostly, item_of, no_externals, place_at, within_budget, attempted}
pub use Rattle.paint_rules.specs.Syntax.{context_of, attempt_in}
pub use Rattle.paint_rules.specs.declared.RegionEnd.{RegionEnd}
pub use Rattle.paint_rules.specs.declared.Which.TheVariants.{Me, He, Re}
pub use Rattle.pattern_match.specs.Answers.{match_of}
pub use Rattle.pattern_match.specs.OnText.{IsToldOn}
pub use Rattle.pattern_match.specs.declared.answer.Attempt.{Attempt}
pub use Rattle.pattern_screens.specs.ScreenLaw.{IsInVain}
pub use Rattle.slots.specs.Entries.{IsIn, Has}
pub use Rattle.syn_base.proofs.HullLaws.{hull_assoc, hull_self, hull_comm}
pub use Rattle.syn_base.specs.Looked.{one_line, hull_of, lesser, greater}
pub use Rattle.syn_base.specs.declared.looked.Looked.{Looked}
pub use Rattle.syn_base.specs.declared.places.ItemId.{ItemId}
pub use Rattle.syn_base.specs.declared.places.Place.{Place}
pub use Rattle.syntax_set.specs.declared.added_item.AddedItem.{AddedItem}
pub use Rattle.syntax_set.specs.declared.item.ItemKind.{ItemKind}
pub use Rattle.syntax_set.specs.declared.item.ItemKind.TheVariants.{Region}
pub use Rattle.syntax_set.specs.declared.item.Pattern.{Pattern}
pub use Rattle.vim_pattern.specs.Tree.{PatternTree}
pub use Rattle.region_ends.specs.Attempts.{IsAttempted}
pub use Rattle.region_ends.specs.EndMemo.{KnownStands, IsKept}
pub use Rattle.region_ends.specs.Opening.{IsToldOf, begins_with, first_of, is_unopened, external_of, first_external, stands}
pub use Rattle.region_ends.specs.Passing.{IsPassedOver, IsWalk, ShutStands, are_shut, is_end_shut, is_shut_at, question_of, IsOfRegion, Question, are_shut_anyway, are_shut_by, is_cheap, is_shut, is_skip_shut}
pub use Rattle.region_ends.specs.Searches.{IsEnd, search_of}
pub use Rattle.region_ends.specs.Steps.{IsTried, search_in, seen, EndsBefore, GoesFurther, IsSkip}
pub use Rattle.region_ends.specs.Stretches.{HoldsLine, answer_at, left_from, found_from, GoesOn, IsFirst, IsSearched, ReachesEnd, TellsColumns, IsStep}
pub use Rattle.region_ends.specs.declared.opening.Opening.{Opening}
pub use Rattle.region_ends.specs.declared.opening.Opening.TheVariants.{With}
pub use Rattle.region_ends.specs.declared.passing.Walk.{Walk}
pub use Rattle.region_ends.specs.declared.searching.EndAnswer.{EndAnswer}
pub use Rattle.match_rules.specs.Atoms.{has_keyword, behind_if, behind_piece, behind_pieces, character, character_at, characters, last_line_of, lines_from, lines_looked, only_if}
pub use Rattle.paint_rules.specs.KeptEnd.{earlier_end, has_extend, has_keepend, is_start_area, limit_on, kept_end_over}
pub use Rattle.region_ends.specs.KeptEnd.{keep_none, kept_end, kept_end_of_first}
pub use Rattle.slots.proofs.EntryLaws.{all_still_in, all_still}
pub use Rattle.std.proofs.lemmas.Bool.{eqb-true, not-true, cases_lt}
