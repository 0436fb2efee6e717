-- The names that most proofs of this crate cite, passed on from one place. Declares nothing.
pub use Rattle.std.proofs.Common.{Bool, List, None, Option, Some, [], ap, arith, below_more, false, get_or, inl, inr, length, refl, reverse, rules, slice_get, subst, suc, sym, take, true, zero, ℕ, ◌+◌, ◌-◌, ◌<◌, ◌∙◌, ◌∷◌, ◌≡◌, ◌≤◌, ◌⊎◌, ◌++◌, eqb→eq, of_calls}
pub use Rattle.std.proofs.Math.Seq.{take-length}
pub use Rattle.std.proofs.lemmas.Bool.{cases_lt}
pub use Rattle.std.proofs.lemmas.Bool.Decides.{nat_tests}
pub use Rattle.std.proofs.lemmas.List.{reverse-append, take_more}
pub use Rattle.std.proofs.lemmas.List.Elements.{All-append, All-cons, All-nil, All-filter, All-head, All-map, All-tail}
pub use Rattle.std.proofs.lemmas.Option.{get_or_from_slice_get, slice_get-get_or, slice_get_within}
pub use Rattle.std.proofs.lemmas.Result.{IfOk-weaker}
pub use Rattle.std.specs.List.{All, list_any, find, list_all}
pub use Rattle.std.specs.List.Sorted.{IsNonDecreasing}
pub use Rattle.std.specs.Option.{ForSome}
pub use Rattle.std.specs.Prelude.{Err, IfOk, IfSome, Ok, Result, nat_eq, nat_lt, not, option_map, pos, ◌&&◌, ◌+ℤ◌, ◌||◌, IsTrue, slice_index, is_none, drop, cond, ℤ}
pub use Rattle.char_class.specs.declared.sets.Sets.{Sets}
pub use Rattle.keyword_table.specs.Words.{begins_word}
pub use Rattle.match_rules.specs.Ways.{Text, line_at, place}
pub use Rattle.paint_rules.proofs.PaintedLaws.{goes_on, first_bind, first_none}
pub use Rattle.paint_rules.specs.Frames.{Frame}
pub use Rattle.paint_rules.specs.ItemMatch.{item_match, match_from, may_start, starts_at, looks_at_end, columns, columns_from}
pub use Rattle.paint_rules.specs.Lists.{is_allowed_in, is_in_list, is_next}
pub use Rattle.paint_rules.specs.Offsets.{within_line}
pub use Rattle.paint_rules.specs.Painted.{Done, Painted, Refused, done, first_found, looked_first, ◌>>=◌}
pub use Rattle.paint_rules.specs.Pick.{Picked, Starting, is_allowed, items_below, keyword_at, or_nothing, picked, start_by, match_start, region_start, Nothing, keyword_to, container_of, AWord, WordFound, Start, SkipOn, picked_allowed, start_among, waits_on}
pub use Rattle.paint_rules.specs.Rules.{Cause, Rules, item_of, no_added, no_externals, place_at, same_item, within_budget, Matched, attempted, this_line}
pub use Rattle.paint_rules.specs.Syntax.{context_of, attempt_by}
pub use Rattle.pattern_needs.specs.LineNeeds.{IsLineNeedOf, IsVainIn, AreHeld}
pub use Rattle.pattern_screens.specs.Behind.{is_cheap_behind}
pub use Rattle.pattern_screens.specs.Failing.{fails, fails_at}
pub use Rattle.pattern_screens.specs.Following.{fails_after, takes_first}
pub use Rattle.pattern_screens.specs.Keys.{key_numbered, key_of, is_first, last_of, AreNumbers}
pub use Rattle.pattern_screens.specs.Rest.{rest_fails}
pub use Rattle.pattern_screens.specs.ScreenLaw.{two_lines, lines_seen, IsInVain}
pub use Rattle.pattern_screens.specs.TwoLines.{AreWithin}
pub use Rattle.region_ends.specs.KeyAnswers.{AnswersStand}
pub use Rattle.slots.proofs.EntryLaws.{all_still}
pub use Rattle.slots.specs.Entries.{Has, IsAt}
pub use Rattle.syn_base.specs.Looked.{hull_of, one_line, lesser, greater}
pub use Rattle.syn_base.specs.declared.looked.Looked.{Looked}
pub use Rattle.syn_base.specs.declared.places.ItemId.{ItemId}
pub use Rattle.syn_base.specs.declared.places.Place.{Place}
pub use Rattle.syntax_set.specs.declared.added_item.AddedItem.{AddedItem}
pub use Rattle.syntax_set.specs.declared.item.Item.{Item}
pub use Rattle.syntax_set.specs.declared.item.ItemKind.{ItemKind}
pub use Rattle.syntax_set.specs.declared.item.ItemKind.TheVariants.{Keyword, Match, Region}
pub use Rattle.syntax_set.specs.declared.item.Pattern.{Pattern}
pub use Rattle.vim_pattern.specs.Tree.{PatternTree}
pub use Rattle.item_pick.specs.Attempts.{IsFutile, IsFutileBy, EndsBelow}
pub use Rattle.item_pick.specs.Columns.{may_start_at, Holds}
pub use Rattle.item_pick.specs.Firsts.{AreFirstsOf, IsAnchored, IsCheapWithin, IsReachOf, IsToldOfFirst, TakesFirst, first_asked, idles_before, is_asked, rest_asked, sits_by, some_idle, Asks, some_asked}
pub use Rattle.item_pick.specs.PartsSeen.{rules_by, rules_in}
pub use Rattle.item_pick.specs.Picks.{IsPicked}
pub use Rattle.item_pick.specs.Quiet.{IsEarlier, IsNextItem, IsPassed, IsQuiet, item_numbered}
pub use Rattle.item_pick.specs.QuietPlaces.{IsQuietAt}
pub use Rattle.item_pick.specs.Runs.{Covers, TellsOf, IsWhole}
pub use Rattle.item_pick.specs.Screens.{HoldsLine, HoldsLines, IsIdle, IsLater, IsSettled, IsVainFrom}
pub use Rattle.item_pick.specs.Settled.{item_wanders, ArePassed, AreSettled}
pub use Rattle.item_pick.specs.Standing.{IsFirst, IsItem, IsPatternOf, has_one_start, first_pattern, is_clear, ChoiceFits}
pub use Rattle.item_pick.specs.Started.{admits, here_at, is_free, standing_at, start_at, start_if_free, IsThere, no_pattern, starts_of, IsOutcomeThere, here_of, seen_pick}
pub use Rattle.item_pick.specs.Tables.{AreTablesOf, HasThose, IsBarren, IsLackedIn, IsMissed, IsNextAt, IsNextIn, IsNumberAt, IsWanted, Lacks, LineStands, ListStands, RisesTo, RowStands, RunStands, StaysOut, is_screened, stays_out, is_kind_screened, AreKnown}
pub use Rattle.item_pick.specs.Told.{IsStop, IsTold, IsToldAs}
pub use Rattle.item_pick.specs.Valid.{MayAsk, MayPick}
pub use Rattle.item_pick.specs.declared.choice.Choice.{Choice}
pub use Rattle.item_pick.specs.declared.firsts.Reach.{Reach}
pub use Rattle.item_pick.specs.declared.runs.Run.{Run}
pub use Rattle.item_pick.specs.declared.stop.Stop.{Stop}
pub use Rattle.item_pick.specs.declared.choice.Choice.TheVariants.{NoItem, ListOf}
pub use Rattle.item_pick.specs.declared.firsts.Question.{Question}
pub use Rattle.paint_rules.specs.Close.{is_region, is_body}
pub use Rattle.std.proofs.lemmas.List.Sorted.{IsNonDecreasingBy-push, IsPartitionedBy-ltb}
