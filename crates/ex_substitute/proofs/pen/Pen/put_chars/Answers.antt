use Rattle.std.proofs.Common.{◌∙◌, ℕ, List, ap, sym}
use Rattle.std.proofs.lemmas.Result.{err_from_is_err_and}
use Rattle.ex_substitute.specs.declared.pen.Pen.{Pen}
use Rattle.ex_substitute.proofs.PenLaws.{overfull-by, plain-drawn}
use Rattle.ex_substitute.proofs.pen.Pen.put_chars.Goals as goal

pub returns-in_err-has_room : goal.returns-in_err-has_room
returns-in_err-has_room c =
    let p = err_from_is_err_and c.from_residual.result c.from_residual.ensures.1 in
    let h = c.in_err-has_room.ensures in
    rw (p.1, p.2) (h.0, overfull-by c.args.self.now c.args.chars.now h.1)

pub returns-then-is_none : goal.returns-then-is_none
returns-then-is_none c =
    ap (λ (l : List ℕ). let pen : Pen = record c.args.self.now { last = l } in pen) c.in_ok-extend_from_slice.ensures.ok
    ∙ sym (plain-drawn c.args.self.now c.args.chars.now (sym c.if-is_none.ensures))
