use Rattle.pattern_match.proofs.AnswerLaws.{answers-on}
use Rattle.pattern_match.proofs.programs.answers_stay_on_the_text.Goals as goal

pub returns : goal.returns
returns c trees = answers-on trees
