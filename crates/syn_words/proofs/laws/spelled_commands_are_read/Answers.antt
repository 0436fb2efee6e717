use Rattle.syn_words.proofs.SpelledFiles.{file_read}
use Rattle.syn_words.proofs.laws.spelled_commands_are_read.Goals as goal

pub returns : goal.returns
returns c = file_read
