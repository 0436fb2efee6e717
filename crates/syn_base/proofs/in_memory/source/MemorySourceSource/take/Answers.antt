use Rattle.std.proofs.Common.{◌≡◌, ◌-◌, ◌≤◌, length, ap, sym, arith}
use Rattle.std.specs.Prelude.{Some}
use Rattle.std.proofs.lemmas.Grind.{common_steps}
use Rattle.syn_base.proofs.OutsideLaws.{next_bytes, no_more}
use Rattle.syn_base.proofs.in_memory.source.MemorySourceSource.take.Goals as goal

pub returns-clause-answer : goal.returns-clause-answer
returns-clause-answer c =
    let within : c.min-count.result ≤ length c.self.inside.bytes - c.self.inside.at = grind (arith, common_steps) in (
      grind (arith, common_steps),
      rw (← c.self.view_is) (ap Some (sym (next_bytes c.self.inside.bytes c.copy_from_slice.new.self c.args.buf.now c.self.inside.at c.min-count.result (grind (arith, common_steps)) within))),
      λ none. let empty : length c.self.inside.bytes - c.self.inside.at ≡ 0 = grind (arith, common_steps) in no_more c.self.inside.bytes c.self.inside.at c.min-count.result empty,
    )
