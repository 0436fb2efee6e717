use Rattle.std.proofs.Common.{◌≡◌, ◌<◌, ◌≤◌, ℕ, All, false, length, get_or, arith, subst, sym, ◌∙◌}
use Rattle.std.proofs.lemmas.List.{take_all}
use Rattle.std.proofs.lemmas.List.Elements.{All-more}
use Rattle.char_class.specs.Folds.{is_same}
use Rattle.pattern_match.proofs.to_end.has.Goals as goal

pub loop-d-preserved : goal.loop-d-preserved
loop-d-preserved c =
    let other = λ (d : ℕ). is_same c.args.c d c.args.ignore ≡ false in
    let all = c.args.characters.now in
    let i = c.loop-d.d-index in
    let within : i < length all = omega arith in
    let read : c.d-item.result ≡ get_or all i c.d-item.result = c.d-item.is in
    All-more other all i c.d-item.result within c.loop-d.invariant
    (subst other read (sym c.is_one.ensures ∙ c.if-is_one.false))

pub returns : goal.returns
returns c = λ _.
    let all = c.args.characters.now in
    let past : length all ≤ c.loop-d.d-index = omega arith in
    subst (All (λ (d : ℕ). is_same c.args.c d c.args.ignore ≡ false)) (take_all c.loop-d.d-index all past) c.loop-d.invariant
