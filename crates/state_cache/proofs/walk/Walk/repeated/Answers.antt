use Rattle.std.proofs.Common.{arith, ap, subst, sym, ◌∙◌, ◌≡◌, ◌<◌, length, slice_get, Some, Ok}
use Rattle.paint_rules.specs.States.{State}
use Rattle.paint_reuse.specs.Kept.{line_note}
use Rattle.state_stack.specs.TopFirst.{top_first}
use Rattle.syn_base.specs.declared.looked.Looked.{Looked}
use Rattle.state_cache.specs.Repeats.{StandsAlso}
use Rattle.state_cache.proofs.RepeatLaws.{made_is, repeats}
use Rattle.state_cache.proofs.walk.Walk.repeated.Goals as goal

pub returns-then-same-clause-noted : goal.returns-then-same-clause-noted
returns-then-same-clause-noted g c r alike walks =
    let t = g.T.Lines.lines c.args.text.now in
    let j = c.in_ok-earlier.earlier in
    let k = c.args.line in
    let note = c.get-note.result.now in
    let notes = c.args.self.now.notes.0 in
    let state = top_first c.args.self.now.state in
    let there : slice_get notes j ≡ Some note = sym c.get-note.ensures in
    let own = made_is r t k notes state walks j note there in
    let on : j < length t = omega (arith, c.if-earlier-line.false, c.requires.present) in
    let also = subst (λ (l : Looked). StandsAlso t j k l) c.looked.ensures (c.stands_also.ensures c.if-stands_also.true) in
    let before : note.before ≡ state = sym c.state_before.ensures ∙ ap top_first (c.same.ensures.0 c.if-same.true) in
    subst (λ (s : State). line_note r t k s ≡ Ok note) before (repeats r alike t j k on note own also)
