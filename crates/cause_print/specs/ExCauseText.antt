-- What is told of a command by pattern that isn't read, or changes nothing. Places are printed from 1: of a character in the pattern
-- or in the string, or of a line and a column of the text.
use Rattle.std.specs.Prelude.{ℕ, ◌+◌, List, [], ◌++◌, codes, decimal}
use Rattle.ex_substitute.specs.declared.error.ExError.{ExError}
use Rattle.ex_substitute.specs.declared.error.ExError.TheVariants.{EmptyPattern, Pattern, BadReplacement, BadFlags, TooCostly, NoMatch, TooManyLines, LongLine, Memory}
use Rattle.cause_print.specs.CauseText.{pattern_fault}
use Rattle.cause_print.specs.PlaceWords.{place_words}

-- nothing is told of want of memory
abbrev pub ex_cause_text : ExError → List ℕ
ex_cause_text EmptyPattern = codes "empty pattern"
ex_cause_text (Pattern at cause) = codes "pattern: " ++ pattern_fault at cause
ex_cause_text (BadReplacement at) = codes "bad replacement at " ++ decimal (at + 1)
ex_cause_text BadFlags = codes "bad flags"
ex_cause_text (TooCostly place) = codes "pattern too costly " ++ place_words place.line place.col
ex_cause_text NoMatch = codes "no match"
ex_cause_text TooManyLines = codes "too many lines"
ex_cause_text LongLine = codes "line too long"
ex_cause_text Memory = []
