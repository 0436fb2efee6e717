use Rattle.item_pick.proofs.Common.{[], is_free}
use Rattle.item_pick.proofs.QuietPlaceLaws.{no_keyword}
use Rattle.item_pick.proofs.WordLaws.{wordless_none}
use Rattle.item_pick.proofs.quiet.has_no_word.Goals as goal

pub returns-then-wordless : goal.returns-then-wordless
returns-then-wordless c _ r choice line col wordless key = wordless_none r [] choice (wordless c.if-wordless.true) line col

pub returns : goal.returns
returns c e r choice line col wordless key = no_keyword r (is_free r [] choice) line col c.args.number key (c.is_after_keyword.ensures e)
