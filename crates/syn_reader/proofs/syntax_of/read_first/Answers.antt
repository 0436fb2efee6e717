use Rattle.std.proofs.Common.{rules, subst, ◌∙◌}
use Rattle.syn_reader.specs.Follows.{Reads}
use Rattle.syn_reader.specs.SyntaxOf.{asked_within}
use Rattle.syn_reader.proofs.syntax_of.read_first.Goals as goal

pub returns : goal.returns
returns g c = record {
  kept = c.ask.ensures.kept;
  counts = c.ask.ensures.counts;
  answer = subst (λ own. Reads (g.F.Files.told c.args.files.now) c.args.progress.now.includes
      (λ fetch. asked_within 21 fetch c.args.options.now own 0 c.args.name.now c.args.progress.now) c.ask.new.progress c.ask.result)
      (c.as_slice.ensures ∙ c.in_ok-own.ensures) c.ask.ensures.answer;
  sound = c.ask.ensures.sound;
}
