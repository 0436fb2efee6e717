-- Files that are too long, which a script names: what the files say of them, and their count.
use Rattle.std.proofs.Common.{◌≡◌, ◌⊎◌, inl, inr, ℕ, ◌≤◌, Bool, true, false, List, [], ◌++◌, length, ap, sym, subst, ◌∙◌}
use Rattle.std.specs.Prelude.{Option, Some, None, IfSome, Result, Ok, Err}
use Rattle.syn_base.specs.Causes.{Rose}
use Rattle.edit_script.specs.declared.commands.Entry.{Entry}
use Rattle.edit_script.specs.Entries.{entries_at_end, entries_of}
use Rattle.edit_script.specs.Kept.{Kept}
use Rattle.edit_session.specs.declared.commands.Harm.{Harm}
use Rattle.edit_session.specs.declared.reading.End.{End}
use Rattle.edit_session.specs.declared.reading.End.TheVariants.{Done, Refused, TooLong, Unread, Unfetched, Unwritten, Memory}
use Rattle.edit_session.specs.Ends.{CountsLongs, FilesChange, LongsRise, MeetsLongs, SinkChange, SourceChange, Takes, sink_change, source_change}
use Rattle.edit_session.specs.Painter.{Library}
use Rattle.edit_session.specs.Session.{Answer, Standing, most_bytes, script_session, session}
use Rattle.edit_session.specs.Steps.{Answers, AreCaused, HasRead, MeetsAsTold, ReachesEnd, StandsAt, TakesPieces, TakesScript, end_of, steps_change}
use Rattle.edit_session.proofs.EndLaws.{entries_over, entries_whole}
use Rattle.edit_session.proofs.ReadingLaws.{joined_at_end, takes_more}

-- ---- whether a command met one

-- where reading stopped in the pieces nothing is said of it
pub stopped_unmet : (U : Type 0) (library : Library) (s : Standing) (script : Option (List ℕ)) (met : Bool) (before after : Harm) (source : SourceChange) (files : FilesChange) (sink : SinkChange) (end : End) → TakesPieces before after source files sink (Err end) → MeetsAsTold {U = U} library s script met (Err end)
stopped_unmet U library s script met before after source files sink Done caused = tt
stopped_unmet U library s script met before after source files sink Refused caused = tt
stopped_unmet U library s script met before after source files sink TooLong caused = absurd caused.2
stopped_unmet U library s script met before after source files sink Unread caused = tt
stopped_unmet U library s script met before after source files sink (Unfetched line) caused = tt
stopped_unmet U library s script met before after source files sink Unwritten caused = tt
stopped_unmet U library s script met before after source files sink Memory caused = tt

-- behind the most bytes of a script
over_known : (library : Library) (s now : Standing) (bytes more : List ℕ) (left after : Option (List ℕ)) → Takes (bytes ++ more) left after → length bytes ≡ most_bytes → length more ≡ 1 → now ≡ (session library s (entries_of 0 bytes)).stands → IfSome left (λ all. (script_session library s all).stands.met_long ≡ now.met_long)
over_known library s now bytes more None after takes most one stands = tt
over_known library s now bytes more (Some all) after takes most one stands =
    ap (λ (es : List Entry). (session library s es).stands.met_long) (entries_over bytes more all after takes most one).1 ∙ ap (λ (t : Standing). t.met_long) (sym stands)

pub met_over : (U V : Type 0) (library : Library) (s now : Standing) (ended : Bool) (kept : Kept) (left left' left'' out out' : Option (List ℕ)) (f f' f'' g g' n n' : ℕ) (bytes : List ℕ) (end : End) → HasRead library s now kept (source_change left left' f f') (sink_change out out' g g') (steps_change n n') bytes → StandsAt ended (source_change left left' f f') bytes → ReachesEnd {U = V} ended left' left'' f' f'' (Err end) → MeetsAsTold {U = U} library s left now.met_long (Err end)
met_over U V library s now true kept left left' left'' out out' f f' f'' g g' n n' bytes end read at reached = absurd reached
met_over U V library s now false kept left left' left'' out out' f f' f'' g g' n n' bytes TooLong read at reached =
    over_known library s now bytes reached.0 left left'' (takes_more bytes reached.0 left left' left'' read.taken reached.2) at reached.1 read.stands
met_over U V library s now false kept left left' left'' out out' f f' f'' g g' n n' bytes Unread read at reached = tt
met_over U V library s now false kept left left' left'' out out' f f' f'' g g' n n' bytes Done read at reached = tt
met_over U V library s now false kept left left' left'' out out' f f' f'' g g' n n' bytes Refused read at reached = tt
met_over U V library s now false kept left left' left'' out out' f f' f'' g g' n n' bytes (Unfetched line) read at reached = tt
met_over U V library s now false kept left left' left'' out out' f f' f'' g g' n n' bytes Unwritten read at reached = tt
met_over U V library s now false kept left left' left'' out out' f f' f'' g g' n n' bytes Memory read at reached = tt

-- at the end of a script
whole_known : (library : Library) (s : Standing) (met : Bool) (bytes : List ℕ) (left after : Option (List ℕ)) → Takes bytes left after → IfSome after (λ rest. rest ≡ []) → length bytes ≤ most_bytes → (session library s (entries_at_end 0 bytes)).stands.met_long ≡ met → IfSome left (λ all. (script_session library s all).stands.met_long ≡ met)
whole_known library s met bytes None after takes ended few is = tt
whole_known library s met bytes (Some all) after takes ended few is =
    ap (λ (es : List Entry). (session library s es).stands.met_long) (entries_whole bytes all after takes ended few).1 ∙ is

met_by : (U : Type 0) (library : Library) (s now next : Standing) (kept : Kept) (left left' out out' out'' : Option (List ℕ)) (f f' g g' g'' n n' : ℕ) (bytes : List ℕ) (before after : Harm) (files : FilesChange) (result : Result U End) → HasRead library s now kept (source_change left left' f f') (sink_change out out' g g') (steps_change n n') bytes → IfSome left' (λ rest. rest ≡ []) → Answers library (session library now (entries_at_end kept.lines kept.bytes)) next (sink_change out' out'' g' g'') result → AreCaused before after files (sink_change out' out'' g' g'') result → MeetsAsTold library s left next.met_long result
met_by U library s now next kept left left' out out' out'' f f' g g' g'' n n' bytes before after files (Ok done) read ended answered caused =
    let joined = joined_at_end library s now kept (source_change left left' f f') (sink_change out out' g g') (steps_change n n') bytes read in
    whole_known library s next.met_long bytes left left' read.taken ended read.few
    (ap (λ (a : Answer). a.stands.met_long) joined ∙ ap (λ (t : Standing). t.met_long) (sym answered.1))
met_by U library s now next kept left left' out out' out'' f f' g g' g'' n n' bytes before after files (Err TooLong) read ended answered caused = absurd caused
met_by U library s now next kept left left' out out' out'' f f' g g' g'' n n' bytes before after files (Err Unread) read ended answered caused = tt
met_by U library s now next kept left left' out out' out'' f f' g g' g'' n n' bytes before after files (Err Done) read ended answered caused = tt
met_by U library s now next kept left left' out out' out'' f f' g g' g'' n n' bytes before after files (Err Refused) read ended answered caused = tt
met_by U library s now next kept left left' out out' out'' f f' g g' g'' n n' bytes before after files (Err (Unfetched line)) read ended answered caused = tt
met_by U library s now next kept left left' out out' out'' f f' g g' g'' n n' bytes before after files (Err Unwritten) read ended answered caused = tt
met_by U library s now next kept left left' out out' out'' f f' g g' g'' n n' bytes before after files (Err Memory) read ended answered caused = tt

pub met_whole : (U : Type 0) (library library' : Library) → library' ≡ library → (s now next : Standing) (kept : Kept) (left left' out out' out'' : Option (List ℕ)) (f f' g g' g'' n n' : ℕ) (bytes : List ℕ) (before after : Harm) (files : FilesChange) (result : Result U End) → HasRead library s now kept (source_change left left' f f') (sink_change out out' g g') (steps_change n n') bytes → IfSome left' (λ rest. rest ≡ []) → Answers library' (session library' now (entries_at_end kept.lines kept.bytes)) next (sink_change out' out'' g' g'') result → AreCaused before after files (sink_change out' out'' g' g'') result → MeetsAsTold library s left next.met_long result
met_whole U library library' same s now next kept left left' out out' out'' f f' g g' g'' n n' bytes before after files result read ended answered caused =
    let A : Library → Type 0 = λ q. Answers q (session q now (entries_at_end kept.lines kept.bytes)) next (sink_change out' out'' g' g'') result in
    met_by U library s now next kept left left' out out' out'' f f' g g' g'' n n' bytes before after files result read ended (subst A same answered) caused

-- ---- their count

rise_of : (library : Library) (s : Standing) (script : Option (List ℕ)) (before after : Harm) (files : FilesChange) → before.met_long ≡ false → IfSome script (λ bytes. (script_session library s bytes).stands.met_long ≡ after.met_long) → MeetsLongs before after files → LongsRise library s script files
rise_of library s None before after files none told longs = tt
rise_of library s (Some bytes) before after files none told longs = λ is. by (longs.met (sym told ∙ is))
  where
    by : (before.met_long ≡ true) ⊎ Rose files.longs files.longs_after → Rose files.longs files.longs_after
    by (inl is) = absurd (cc (is, none))
    by (inr rose) = rose

counted_by : (library : Library) (s : Standing) (script : Option (List ℕ)) (files : FilesChange) (refused : Bool) → LongsRise library s script files → CountsLongs library s script files (end_of refused)
counted_by library s script files true rise = rise
counted_by library s script files false rise = tt

-- a script that was read to its end
pub counted_whole : (U : Type 0) (library : Library) (s : Standing) (before after : Harm) (source : SourceChange) (files : FilesChange) (sink : SinkChange) (done : U) (end : End) → before.met_long ≡ false → MeetsAsTold library s source.before after.met_long (Ok done) → TakesScript before after source files sink (Ok done) → end ≡ end_of after.refused → CountsLongs library s source.before files end
counted_whole U library s before after source files sink done end none told takes is =
    let P : End → Type 0 = CountsLongs library s source.before files in
    subst P (sym is) (counted_by library s source.before files after.refused (rise_of library s source.before before after files none told takes.1.3))

-- or one that wasn't
pub counted_over : (U : Type 0) (library : Library) (s : Standing) (before after : Harm) (source : SourceChange) (files : FilesChange) (sink : SinkChange) (end : End) → before.met_long ≡ false → MeetsAsTold {U = U} library s source.before after.met_long (Err end) → TakesScript {U = U} before after source files sink (Err end) → CountsLongs library s source.before files end
counted_over U library s before after source files sink TooLong none told takes =
    rise_of library s source.before before after files none told takes.4
counted_over U library s before after source files sink Refused none told takes = absurd takes.1
counted_over U library s before after source files sink Done none told takes = tt
counted_over U library s before after source files sink Unread none told takes = tt
counted_over U library s before after source files sink (Unfetched line) none told takes = tt
counted_over U library s before after source files sink Unwritten none told takes = tt
counted_over U library s before after source files sink Memory none told takes = tt
