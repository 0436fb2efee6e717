-- What is told of a cause for which a syntax file is refused.
use Rattle.std.specs.Prelude.{ℕ, ◌+◌, List, [], ◌++◌, codes, decimal, encode_utf8_all}
use Rattle.pattern_items.specs.declared.cause.PatternCause.{PatternCause}
use Rattle.pattern_items.specs.CauseText.{cause_text}
use Rattle.syn_words.specs.declared.cause.Cause.{Cause}
use Rattle.syn_words.specs.declared.cause.Cause.TheVariants.{BadUtf8, UnknownCommand, UnknownSubcommand, NotInProfile, SyncMethod, GuardUnfinished, BadGroupName, ReservedName, MissingArgument, ExtraText, UnknownOption, OptionHere, BadList, NoPattern, NoDelimiter, BadOffset, TwoSkips, NoStart, NoEnd, TooLongWord, BadBrackets, BadOptionValue, BadStyle, BadFileName, TooLongFile, TooManyIncludes, TooDeepIncludes, TooManyItems, TooManyGroups, Pattern, CostlyNames}

-- the words for each cause
abbrev pub label : Cause → List ℕ
label BadUtf8 = codes "bad utf-8"
label UnknownCommand = codes "unknown command"
label UnknownSubcommand = codes "unknown syntax command"
label (NotInProfile word) = codes "not in this profile: "
label SyncMethod = codes "sync method"
label GuardUnfinished = codes "unfinished guard"
label BadGroupName = codes "bad group name"
label ReservedName = codes "reserved group name"
label MissingArgument = codes "argument missing"
label ExtraText = codes "text after the command"
label UnknownOption = codes "unknown option"
label OptionHere = codes "option not allowed here"
label BadList = codes "bad group list"
label NoPattern = codes "pattern missing"
label NoDelimiter = codes "pattern delimiter not found"
label BadOffset = codes "bad offset"
label TwoSkips = codes "second skip pattern"
label NoStart = codes "no start pattern"
label NoEnd = codes "no end pattern"
label TooLongWord = codes "keyword too long"
label BadBrackets = codes "bad brackets in keyword"
label BadOptionValue = codes "bad iskeyword value"
label BadStyle = codes "bad highlight value"
label BadFileName = codes "bad file name"
label (TooLongFile name) = codes "file too long"
label TooManyIncludes = codes "too many includes"
label TooDeepIncludes = codes "includes too deep"
label TooManyItems = codes "too many items"
label TooManyGroups = codes "too many groups"
label (Pattern at cause) = codes "pattern: "
label CostlyNames = codes "pattern of names too costly"

-- why a pattern has no tree, with the place of the offending character, which is printed from 1
abbrev pub pattern_fault : ℕ → PatternCause → List ℕ
pattern_fault at cause = cause_text cause ++ codes " at " ++ decimal (at + 1)

-- what stands behind the words: the refused word as written, or the pattern's fault
abbrev pub detail : Cause → List ℕ
detail (NotInProfile word) = encode_utf8_all word
detail (Pattern at cause) = pattern_fault at cause
detail _ = []

abbrev pub cause_bytes : Cause → List ℕ
cause_bytes cause = label cause ++ detail cause
