use Rattle.std.proofs.Common.{◌≡◌, ◌<◌, ℕ, length, get_or, sym, ap, ◌∙◌, subst, arith}
use Rattle.std.specs.Prelude.{IsTrue}
use Rattle.std.proofs.lemmas.List.Elements.{All-more}
use Rattle.pattern_screens.specs.PlainAtoms.{plain_takes}
use Rattle.pattern_match.specs.Steps.{atom_of}
use Rattle.pattern_match.proofs.runs.characters_taken.Goals as goal

pub loop-c-preserved : goal.loop-c-preserved
loop-c-preserved c =
    let characters = c.args.characters.now in
    let count = c.loop-c.count in
    let taken = λ (d : ℕ). plain_takes c.args.sets.now c.args.ignore (atom_of c.args.test.now) d in
    let within : count < length characters = omega arith in
    let item = c.c-item.result in
    let read : item ≡ get_or characters count item = c.c-item.is ∙ ap (λ i. get_or characters i item) (sym c.loop-c.invariant.each) in
    let told = c.takes.ensures c.if-not-takes.false in
    record {
      each = omega arith;
      within = omega arith;
      plain = λ h. told.0;
      taken = All-more (λ d. IsTrue (taken d)) characters count item within c.loop-c.invariant.taken (subst (λ d. IsTrue (taken d)) read told.1);
    }
