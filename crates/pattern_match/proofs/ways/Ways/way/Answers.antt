use Rattle.std.proofs.Common.{refl, sym, ap, ◌∙◌, subst, arith}
use Rattle.std.specs.Prelude.{reverse}
use Rattle.pattern_match.specs.Entries.{entries_from}
use Rattle.pattern_match.specs.Ways.{Ways, before_of, found_way}
use Rattle.pattern_match.proofs.NoteLaws.{noted_from, noted_from-at, HasNine, nine-notes, nine-earlier, on_top_of, on_top-note, on_top-end, nothing-on_top}
use Rattle.pattern_match.proofs.ways.Ways.way.Goals as goal

pub loop-at-init : goal.loop-at-init
loop-at-init g c =
    let old = c.self.inside in
    record {
      within = c.self.invariant.within.noted;
      nine = record { captures = refl; externals = refl };
      all = nothing-on_top old.here.at (noted_from old.notes.items old.here.noted) (nine-notes (entries_from before_of (reverse old.notes.items) old.here.noted))
          ∙ ap (λ (v : Ways g.row.T.Denot). v.here.way) c.self.view_is;
    }

pub loop-at-smaller : goal.loop-at-smaller
loop-at-smaller g c =
    (noted_from-at c.self.inside.notes.items c.loop-at.at c.index-entry.result.now c.self.invariant.chained c.self.invariant.numbered
    c.loop-at-test.true c.loop-at.invariant.within c.index-entry.ensures).0

pub loop-at-preserved : goal.loop-at-preserved
loop-at-preserved g c =
    let notes = c.self.inside.notes.items in
    let entry = c.index-entry.result.now in
    let way = found_way c.loop-at.way in
    let there = noted_from-at c.self.inside.notes.items c.loop-at.at c.index-entry.result.now c.self.invariant.chained c.self.invariant.numbered
    c.loop-at-test.true c.loop-at.invariant.within c.index-entry.ensures in
    let low = there.0 in
    let within = c.loop-at.invariant.within in
    let nine = c.loop-at.invariant.nine in
    record {
      within = omega arith;
      nine = subst HasNine (sym c.fill.ensures) (nine-earlier way entry.note nine);
      all = ap (λ w. on_top_of w (noted_from notes entry.before)) c.fill.ensures
          ∙ on_top-note way (noted_from notes entry.before) entry.note nine (nine-notes (entries_from before_of (reverse notes) entry.before))
          ∙ ap (on_top_of way) (sym there.2)
          ∙ c.loop-at.invariant.all;
    }

pub returns : goal.returns
returns g c =
    sym (on_top-end (found_way c.loop-at.way) c.self.inside.notes.items c.loop-at.at c.loop-at-test.false c.loop-at.invariant.nine) ∙ c.loop-at.invariant.all
