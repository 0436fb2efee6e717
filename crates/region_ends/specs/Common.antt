-- The names that the clauses of this crate cite, passed on from one place. Declares nothing.
pub use Rattle.match_rules.specs.Attempt.{ignores_case}
pub use Rattle.match_rules.specs.Ways.{IsPlaceOf, Text, line_at}
pub use Rattle.paint_rules.specs.Close.{is_region}
pub use Rattle.paint_rules.specs.EndInLine.{end_at, end_in_line, end_made, skip_at, tried_at}
pub use Rattle.paint_rules.specs.KeptEnd.{earlier_end, is_before, kept_end_over, limit_of, limit_on}
pub use Rattle.paint_rules.specs.Offsets.{earlier_place, later_place, moved_in_line, offset_from, offset_place, within_line}
pub use Rattle.paint_rules.specs.Painted.{first_found, looked_first}
pub use Rattle.paint_rules.specs.Rules.{item_of, no_externals}
pub use Rattle.paint_rules.specs.States.{Fits}
pub use Rattle.paint_rules.specs.Syntax.{attempt_by}
pub use Rattle.pattern_match.specs.OnText.{IsToldOn}
pub use Rattle.pattern_screens.specs.Keys.{key_of}
pub use Rattle.syntax_set.specs.Soundness.{AreSound, IsAdded}
pub use Rattle.syntax_set.specs.declared.added_item.AddedItem.{AddedItem}
pub use Rattle.vim_pattern.specs.Shape.{bare}
pub use Rattle.region_ends.specs.Attempts.{IsAttempted}
pub use Rattle.region_ends.specs.EndMemo.{EndMemoStands, IsKept, KnownStands, TellsOf}
pub use Rattle.region_ends.specs.KeptEnd.{keep_none, kept_end}
pub use Rattle.region_ends.specs.KeyAnswers.{AnswersStand, IsYes, IsYesAt}
pub use Rattle.region_ends.specs.Opening.{IsToldOf, begins_with, external_of, first_external, first_of, is_unopened, stands}
pub use Rattle.region_ends.specs.Passing.{IsOfRegion, IsPassedOver, IsRowOf, IsWalk, ShutStands, are_shut, are_shut_anyway, are_shut_by, is_cheap, is_end_shut, is_shut, is_shut_at, is_skip_shut, question_of}
pub use Rattle.region_ends.specs.Searches.{IsEnd, search_of}
pub use Rattle.region_ends.specs.Steps.{EndsBefore, GoesFurther, IsSkip, IsTried, MaySearch, SkipIs, search_in, seen, skip_from}
pub use Rattle.region_ends.specs.Stretches.{IsFirst, IsSearched, IsStep, TellsColumns, answer_at}
