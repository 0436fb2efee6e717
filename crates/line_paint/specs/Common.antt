-- The names that the clauses of this crate cite, passed on from one place. Declares nothing.
pub use Rattle.item_pick.specs.PartsSeen.{rules_in}
pub use Rattle.item_pick.specs.Picks.{IsPicked}
pub use Rattle.item_pick.specs.QuietUntil.{IsQuietUntil}
pub use Rattle.item_pick.specs.Starts.{IsStarting}
pub use Rattle.item_pick.specs.Tables.{TablesStand}
pub use Rattle.keyword_table.specs.ItemNumbers.{AreItemsBelow}
pub use Rattle.match_rules.specs.Ways.{line_at}
pub use Rattle.paint_rules.specs.Close.{close_once, closed, closing_of, container_goes_on, end_area_of, frames_after, goes_beyond, has_line_end, is_open, is_reached, is_region, is_region_body, is_region_body_on, line_end_counts, line_start, search_col, searched, waiting_after, with_end}
pub use Rattle.paint_rules.specs.EndInLine.{end_in_line, search_from}
pub use Rattle.paint_rules.specs.KeptEnd.{has_keepend, is_before}
pub use Rattle.paint_rules.specs.Line.{at_col, column, holds, is_clear, joined, painted_from, painted_line, turns}
pub use Rattle.paint_rules.specs.Offsets.{offset_place}
pub use Rattle.paint_rules.specs.Painted.{done, looked_first}
pub use Rattle.paint_rules.specs.Pick.{ARegion, area_frame, between, body_frame, body_from, body_high, body_with_end, match_frame, picked, pushed, started, started_at, word_frame}
pub use Rattle.paint_rules.specs.Rules.{Here, item_of, no_externals, place_at, same_group, this_line}
pub use Rattle.paint_rules.specs.States.{Fits, StateFits, WaitFits, spot_of, stale}
pub use Rattle.paint_rules.specs.declared.Spot.TheVariants.{At}
pub use Rattle.region_ends.specs.Searches.{IsEnd}
pub use Rattle.state_stack.specs.SameFrames.{SameEnds}
pub use Rattle.state_stack.specs.TopFirst.{top_first}
pub use Rattle.syn_base.specs.Looked.{moved_by, one_line}
pub use Rattle.syn_base.specs.SpansFit.{IsFromColumn}
pub use Rattle.syn_base.specs.declared.places.Span.{Span}
pub use Rattle.syntax_set.specs.Soundness.{AreSound}
pub use Rattle.line_paint.specs.Answers.{Gives}
pub use Rattle.line_paint.specs.Closing.{AnewComes, closing, closing_on}
pub use Rattle.line_paint.specs.Frames.{anew_if, below_if, line_end_if, line_start_of, plain_frame, rest_or, search_column, searched_from, searched_on, top_searched}
pub use Rattle.line_paint.specs.Kinds.{all_clear, is_so, none_keeps}
pub use Rattle.line_paint.specs.Leads.{IsAt, Leads, LeadsOn, Stands, standing_of}
pub use Rattle.line_paint.specs.Line.{ComesAs, LeadsAt, PaintedAs, Paints, at_of, painted_rest}
pub use Rattle.line_paint.specs.Painting.{here_in}
pub use Rattle.line_paint.specs.Quiet.{IsQuiet}
pub use Rattle.line_paint.specs.Spans.{chained, joined_run, span_of}
pub use Rattle.line_paint.specs.Standing.{FrameComes, FramesCome, MaySearch, frame_or, frames_or, items_of}
pub use Rattle.line_paint.specs.Starting.{start_one, start_two}
pub use Rattle.line_paint.specs.Stretches.{ShowsOver}
pub use Rattle.line_paint.specs.Turns.{LeadsNext, next_start, turn}
