use Rattle.std.proofs.Common.{drop, ap, ◌∙◌}
use Rattle.std.proofs.lemmas.List.{take_rest}
use Rattle.word_reader.proofs.RunLaws.{rest_is_past}
use Rattle.word_reader.proofs.words.split_run.Goals as goal

pub returns-clause-past : goal.returns-clause-past
returns-clause-past c =
    let text = c.args.text.now in
    take_rest text c.run_length-length.result ∙ ap (λ n. drop n text) c.run_length-length.ensures.length ∙ rest_is_past c.args.until text
