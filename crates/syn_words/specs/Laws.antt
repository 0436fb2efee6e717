-- Laws of the definitions above.
use Rattle.std.specs.Prelude.{◌≡◌, List, None}
use Rattle.syn_words.specs.declared.what.What.{What}
use Rattle.syn_words.specs.FileCommands.{commands_of}
use Rattle.syn_words.specs.Spelled.{ArePlain, file_text, numbered}

-- plain commands, spelled a line each, are the commands of that file, each with its line's number
abbrev pub SpelledCommandsAreRead : Type 0
SpelledCommandsAreRead =
    (ws : List What) → ArePlain ws
    → commands_of (file_text ws) ≡ record { list = numbered 1 ws; fault = None }
