-- What a change leaves of a text.
use Rattle.std.specs.Prelude.{◌≡◌, ◌<◌, ◌≤◌, Bool, false, length}
use Rattle.chunk_list.specs.Replaced.{replaced}
use Rattle.match_rules.specs.Ways.{Text}
use Rattle.ex_substitute.specs.declared.change.Change.{Change}

-- the text with the new lines in place of the others
abbrev pub text_after : Text → Change → Text
text_after text c = replaced text c.a c.b c.new

-- It is a change of lines of the text and leaves a line; unless matches are counted alone, it leaves no more than a text has.
pub record FitsText (text : Text) (counted : Bool) (change : Change) : Type 0 where
  pub order : change.a ≤ change.b
  pub within : change.b ≤ length text
  pub some : 0 < length (text_after text change)
  pub few : counted ≡ false → length (text_after text change) ≤ 2000000
