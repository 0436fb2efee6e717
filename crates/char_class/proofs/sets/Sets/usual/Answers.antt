use Rattle.std.proofs.Common.{sym, ap, ◌∙◌}
use Rattle.char_class.specs.OptionValue.{set_of}
use Rattle.char_class.proofs.UsualValues.{words_are_ascii, file_names_are_ascii, words_are_read, file_names_are_read}
use Rattle.char_class.proofs.sets.Sets.usual.Goals as goal

pub known-requires : goal.known-requires
known-requires c = words_are_read

pub known-requires-3 : goal.known-requires-3
known-requires-3 c = file_names_are_read

pub returns-clause-ident : goal.returns-clause-ident
returns-clause-ident c = ap set_of (sym words_are_ascii) ∙ c.known.ensures

pub returns-clause-keyword : goal.returns-clause-keyword
returns-clause-keyword c = ap set_of (sym words_are_ascii) ∙ c.known-2.ensures

pub returns-clause-file : goal.returns-clause-file
returns-clause-file c = ap set_of (sym file_names_are_ascii) ∙ c.known-3.ensures
