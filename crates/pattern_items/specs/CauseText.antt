-- How a cause is told, as bytes.
use Rattle.std.specs.Prelude.{ℕ, List, [], ◌++◌, codes, encode_utf8_all}
use Rattle.pattern_items.specs.declared.cause.PatternCause.{PatternCause}
use Rattle.pattern_items.specs.declared.cause.PatternCause.TheVariants.{Unclosed, UnopenedClose, DoubleCount, NothingToRepeat, BadCount, BadCode, BadRange, BadUnderscore, BadReference, EmptyOptional, TooManyGroups, ExternalHere, LeftOut, TooNested, TooLong}

abbrev pub label : PatternCause → List ℕ
label Unclosed = codes "unclosed"
label UnopenedClose = codes "close without open"
label DoubleCount = codes "count on a count"
label NothingToRepeat = codes "nothing to repeat"
label BadCount = codes "bad count"
label BadCode = codes "bad code"
label BadRange = codes "reversed range"
label BadUnderscore = codes "bad class after \\_"
label BadReference = codes "no such group"
label EmptyOptional = codes "empty optional list"
label TooManyGroups = codes "more than nine groups"
label ExternalHere = codes "external not allowed here"
label (LeftOut item) = codes "left out: "
label TooNested = codes "nested too deep"
label TooLong = codes "pattern too long"

-- the item that is left out stands behind its label, as in the pattern
abbrev pub item_of : PatternCause → List ℕ
item_of (LeftOut item) = item
item_of _ = []

abbrev pub cause_text : PatternCause → List ℕ
cause_text cause = label cause ++ encode_utf8_all (item_of cause)
