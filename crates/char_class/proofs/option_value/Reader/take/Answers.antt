use Rattle.std.proofs.Common.{refl, sym, ap, ◌∙◌}
use Rattle.std.specs.Result.{result_ok}
use Rattle.char_class.proofs.ReadingLaws.{resumed-longer, resumed-end}
use Rattle.char_class.proofs.option_value.Reader.take.Goals as goal
use Rattle.char_class.proofs.option_value.Reader.take.Goals.{then-ends_at+in_ok-part, else-ends_at+in_ok-self}

pub returns-clause-ok : goal.returns-clause-ok
returns-clause-ok c cs =
    elim c.if-ends_at.branch [
      | then-ends_at+in_ok-part w ↦
          let read = sym w.part.ensures ∙ w.ok_or.ensures.ok_part ∙ ap result_ok w.in_ok-part.was in
          rw (w.self-is, w.apply.ensures, w.new-self.ensures)
          (resumed-end c.args.self.now c.args.c cs w.in_ok-part.part _ (sym c.ends_at.ensures ∙ w.if-ends_at.true) read refl)
      | else-ends_at+in_ok-self w ↦
          let longer = sym w.with.ensures ∙ w.ok_or-else-ends_at.ensures.ok_part ∙ ap result_ok w.in_ok-self.was in
          rw w.self-is
          (resumed-longer c.args.self.now c.args.c cs w.in_ok-self.field-0 _ (sym c.ends_at.ensures ∙ w.if-ends_at.false) longer refl)
    ]
