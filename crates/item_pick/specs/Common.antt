-- The names that the clauses of this crate cite, passed on from one place. Declares nothing.
pub use Rattle.keyword_table.specs.Candidates.{candidates}
pub use Rattle.keyword_table.specs.ItemNumbers.{AreItemsBelow}
pub use Rattle.keyword_table.specs.Words.{has_at}
pub use Rattle.match_rules.specs.Ways.{Text, is_after, line_at}
pub use Rattle.paint_rules.specs.Close.{is_body, is_region}
pub use Rattle.paint_rules.specs.EndInLine.{end_in_line, for_ends}
pub use Rattle.paint_rules.specs.ItemMatch.{item_match, match_from, starts_at}
pub use Rattle.paint_rules.specs.Offsets.{within_line}
pub use Rattle.paint_rules.specs.Painted.{Painted, first_found, looked_first}
pub use Rattle.paint_rules.specs.Pick.{container_of, is_allowed, items_below, keyword_at, match_start, picked, picked_allowed, region_start, start_among, start_by, waits_on}
pub use Rattle.paint_rules.specs.Rules.{Cause, Rules, attempted, item_of, no_externals, place_at, same_item}
pub use Rattle.paint_rules.specs.States.{Fits, StateFits, WaitFits}
pub use Rattle.pattern_needs.specs.LineNeeds.{IsLineNeedOf}
pub use Rattle.pattern_screens.specs.ScreenLaw.{two_lines}
pub use Rattle.pattern_screens.specs.TwoLines.{AreWithin}
pub use Rattle.region_ends.specs.Attempts.{IsAttempted}
pub use Rattle.region_ends.specs.KeyAnswers.{AnswersStand}
pub use Rattle.region_ends.specs.Searches.{IsEnd, search_of}
pub use Rattle.state_stack.specs.TopFirst.{top_first}
pub use Rattle.syn_base.specs.Looked.{hull_of, one_line}
pub use Rattle.syn_base.specs.declared.places.ItemId.{ItemId}
pub use Rattle.syntax_set.specs.Soundness.{AreSound}
pub use Rattle.syntax_set.specs.declared.added_item.AddedItem.{AddedItem}
pub use Rattle.item_pick.specs.Attempts.{EndsBelow}
pub use Rattle.item_pick.specs.Columns.{Holds, may_start_at}
pub use Rattle.item_pick.specs.Firsts.{AreFirstsOf, IsAnchored, IsCheapWithin, IsReachOf, IsToldOfFirst, TakesFirst, first_asked, idles_before, is_asked, sits_by}
pub use Rattle.item_pick.specs.Marks.{AreMarks}
pub use Rattle.item_pick.specs.PartsSeen.{rules_by, rules_in}
pub use Rattle.item_pick.specs.Picks.{IsPicked}
pub use Rattle.item_pick.specs.Quiet.{IsEarlier, IsPassed, IsQuiet, item_numbered}
pub use Rattle.item_pick.specs.QuietPlaces.{IsQuietAt}
pub use Rattle.item_pick.specs.QuietUntil.{IsQuietUntil}
pub use Rattle.item_pick.specs.Runs.{Covers, IsWhole, TellsOf}
pub use Rattle.item_pick.specs.Screens.{HoldsLine, HoldsLines, IsLater, IsSettled, IsVainFrom}
pub use Rattle.item_pick.specs.Settled.{ArePassed, AreSettled, item_wanders, wanders}
pub use Rattle.item_pick.specs.Standing.{ChoiceFits, IsFirst, IsFirstOf, IsItem, IsKeyword, IsOwn, IsPlace, IsStartOf, has_one_start, is_clear}
pub use Rattle.item_pick.specs.Started.{IsOutcomeThere, IsStartThere, admits, here_at, here_of, is_free, seen_pick, seen_start, standing_at, start_at, start_if_free, start_pattern, starts_of}
pub use Rattle.item_pick.specs.Tables.{AreAdmitted, AreKnown, AreTablesOf, HasThose, IsBare, IsBarren, IsEnough, IsLastFree, IsListed, IsMissed, IsNear, IsNeededBy, IsNextAt, IsNextIn, IsNumberAt, IsWanted, Lacks, LineStands, ListStands, MemoryStands, RisesTo, RowStands, RunStands, StartCheaply, StartsCheaply, StaysOut, TablesStand, is_cheap, is_screened, stays_out}
pub use Rattle.item_pick.specs.Told.{EndsBefore, IsToldAfter, IsToldAs}
pub use Rattle.item_pick.specs.Tries.{HasNoStart, IsBeside, IsNotFrom, IsSeen, match_in}
pub use Rattle.item_pick.specs.Valid.{IsSound, MayAsk, MayBeAsked, MayPick}
pub use Rattle.item_pick.specs.Wordless.{AllStartByWord, HasNoKeyword, IsWordless, StartsByWord}
