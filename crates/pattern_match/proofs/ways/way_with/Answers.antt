use Rattle.std.proofs.Common.{refl, sym, ap, ◌∙◌, subst, arith}
use Rattle.match_rules.specs.Ways.{way_from}
use Rattle.pattern_match.specs.Ways.{found_way, with_all}
use Rattle.pattern_match.proofs.NoteLaws.{HasNine, nine-earlier, on_top_of, on_top-nothing, nothing-on_top}
use Rattle.pattern_match.proofs.TakenNotes.{drop-all, nine-all, one-more}
use Rattle.pattern_match.proofs.ways.way_with.Goals as goal

pub loop-note-init : goal.loop-note-init
loop-note-init c = record {
  nine = record { captures = refl; externals = refl };
  all = λ p. nothing-on_top c.args.at (with_all c.args.notes.now (way_from p)) (nine-all c.args.notes.now p);
}

pub loop-note-preserved : goal.loop-note-preserved
loop-note-preserved c =
    let way = found_way c.loop-note.way in
    let nine = c.loop-note.invariant.nine in
    record {
      nine = subst HasNine (sym c.fill.ensures) (nine-earlier way _ nine);
      all = λ p.
          one-more way (found_way c.fill.new.self) c.args.notes.now c.loop-note.note-index _ p c.args.at c.fill.ensures c.loop-note-test.true nine (c.loop-note.invariant.all p);
    }

pub returns : goal.returns
returns c = λ p.
    let way = found_way c.loop-note.way in
    sym (on_top-nothing way c.loop-note.invariant.nine)
    ∙ ap (λ r. on_top_of way (with_all r (way_from p))) (sym (drop-all c.args.notes.now c.loop-note.note-index (omega arith)))
    ∙ c.loop-note.invariant.all p
