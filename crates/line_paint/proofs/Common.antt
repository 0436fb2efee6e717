-- The names that most proofs of this crate cite, passed on from one place. Declares nothing.
pub use Rattle.std.proofs.Common.{Bool, List, [], ap, arith, drop, drop-cons, false, get_or, length, pos, refl, reverse, rules, subst, suc, sym, true, zero, ℕ, ◌+◌, ◌-◌, ◌<◌, ◌∙◌, ◌∷◌, ◌≡◌, ◌≤◌, ℤ, ◌+ℤ◌}
pub use Rattle.std.proofs.lemmas.Result.{err_from_is_err_and}
pub use Rattle.std.specs.Prelude.{None, Ok, Option, Result, Some, nat_eq, not, ◌&&◌, ◌||◌, Err, is_none, IfOk}
pub use Rattle.item_pick.specs.PartsSeen.{rules_in, rules_by}
pub use Rattle.item_pick.specs.QuietUntil.{IsQuietUntil}
pub use Rattle.paint_rules.proofs.PaintedLaws.{bind_assoc, goes_on, refusal_bind, first_none, refusal_first, refusal_then}
pub use Rattle.paint_rules.specs.Close.{anew_over_keepend, at_line_start, below_at_line_start, close_once, closed, closed_in, line_start, searched_anew, untouched}
pub use Rattle.paint_rules.specs.Frames.{Frame}
pub use Rattle.paint_rules.specs.KeptEnd.{has_extend, has_keepend}
pub use Rattle.paint_rules.specs.Line.{PaintedLine, Refusal, at_col, at_line_begin, column, joined, painted_after_look, painted_from, shown, state_of, turns, is_clear, holds, painted_line}
pub use Rattle.paint_rules.specs.Painted.{Done, Painted, Refused, done, looked_first, refusal_of, ◌>>=◌, looked_both}
pub use Rattle.paint_rules.specs.Pick.{Nothing, picked}
pub use Rattle.paint_rules.specs.Rules.{Cause, Here, Rules, item_of, place_at, this_line, same_group}
pub use Rattle.paint_rules.specs.States.{Fits}
pub use Rattle.paint_rules.specs.declared.Spot.TheVariants.{At}
pub use Rattle.state_stack.specs.TopFirst.{top_first}
pub use Rattle.syn_base.specs.Looked.{one_line, hull_of, moved_by}
pub use Rattle.syn_base.specs.SpansFit.{IsFromColumn}
pub use Rattle.syn_base.specs.declared.looked.Looked.{Looked}
pub use Rattle.syn_base.specs.declared.places.GroupId.{GroupId}
pub use Rattle.syn_base.specs.declared.places.ItemId.{ItemId}
pub use Rattle.syn_base.specs.declared.places.Place.{Place}
pub use Rattle.syn_base.specs.declared.places.Span.{Span}
pub use Rattle.line_paint.specs.Answers.{Stops, Comes, ComesOf}
pub use Rattle.line_paint.specs.Closing.{anew_or, AnewComes, closing_on}
pub use Rattle.line_paint.specs.Frames.{anew_if, below_if, top_searched, from_if, line_start_of, search_column, searched_from, searched_on, rest_or}
pub use Rattle.line_paint.specs.Leads.{IsAt, Stands, standing_of}
pub use Rattle.line_paint.specs.Line.{painted_rest, at_of, FailsAs}
pub use Rattle.line_paint.specs.Quiet.{IsQuiet}
pub use Rattle.line_paint.specs.Spans.{chained, front, joined_run, span_of}
pub use Rattle.line_paint.specs.Standing.{frames_or, items_of, FramesCome, FrameComes}
pub use Rattle.line_paint.specs.Stretches.{ShowsOver}
pub use Rattle.line_paint.specs.Turns.{Last, More, next_start, turn, Next, after_pick, next_of}
pub use Rattle.line_paint.specs.declared.answers.Stop.{Stop}
pub use Rattle.line_paint.specs.declared.spans.Spans.{Spans}
pub use Rattle.match_rules.specs.Ways.{Text}
