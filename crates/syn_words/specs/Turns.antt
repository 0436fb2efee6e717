-- Laws of the definitions that take a line word by word. Each goes on for a number of turns, as
-- many as its text has characters at the outset, and stops where they run out. They never run out
-- before the text does: wherever such a definition stands, with as many turns left as characters,
-- more turns change nothing. So the number of turns is no part of what it means.
use Rattle.std.specs.Prelude.{◌≡◌, ℕ, ◌≤◌, List, ◌∷◌, ◌++◌, length, Bool}
use Rattle.syntax_set.specs.declared.clusters.Change.{Change}
use Rattle.word_reader.specs.declared.offsets.Adjusts.{Adjusts}
use Rattle.word_reader.specs.Offsets.{offsets_after}
use Rattle.syn_words.specs.declared.file.Progress.{Progress}
use Rattle.syn_words.specs.declared.pieces.Seen.{Seen}
use Rattle.syn_words.specs.declared.what.ItemCommand.{ItemCommand}
use Rattle.syn_words.specs.declared.what.Named.{Named}
use Rattle.syn_words.specs.declared.what.NamedList.{NamedList}
use Rattle.syn_words.specs.declared.what.Piece.{Piece}
use Rattle.syn_words.specs.declared.what.StylePart.{StylePart}
use Rattle.syn_words.specs.Answers.{◌>>=◌}
use Rattle.syn_words.specs.Arguments.{value_start}
use Rattle.syn_words.specs.Clusters.{changes_after}
use Rattle.syn_words.specs.Commands.{cleared_after}
use Rattle.syn_words.specs.FileCommands.{line_after}
use Rattle.syn_words.specs.Lists.{list_value, names_after, no_names}
use Rattle.syn_words.specs.Pieces.{pieces_after}
use Rattle.syn_words.specs.Styles.{parts_after}

-- the commands of a line
abbrev pub MoreTurnsReadTheSameCommands : Type 0
MoreTurnsReadTheSameCommands =
    (p : Progress) (number : ℕ) (turns more text : List ℕ) → length text ≤ length turns
    → line_after p number (turns ++ more) text ≡ line_after p number turns text

-- the pieces of an item
abbrev pub MoreTurnsReadTheSamePieces : Type 0
MoreTurnsReadTheSamePieces =
    (kind : ItemCommand) (seen : Seen) (so_far : List Piece) (turns more text : List ℕ)
    → length text ≤ length turns
    → pieces_after kind seen so_far (turns ++ more) text ≡ pieces_after kind seen so_far turns text

-- the offsets of a pattern
abbrev pub MoreTurnsReadTheSameOffsets : Type 0
MoreTurnsReadTheSameOffsets =
    (a : Adjusts) (turns more text : List ℕ) → length text ≤ length turns
    → offsets_after a (turns ++ more) text ≡ offsets_after a turns text

-- the lists of a cluster
abbrev pub MoreTurnsReadTheSameChanges : Type 0
MoreTurnsReadTheSameChanges =
    (so_far : List (Change × NamedList)) (turns more text : List ℕ) → length text ≤ length turns
    → changes_after so_far (turns ++ more) text ≡ changes_after so_far turns text

-- the names that are cleared
abbrev pub MoreTurnsReadTheSameCleared : Type 0
MoreTurnsReadTheSameCleared =
    (so_far : List Named) (turns more text : List ℕ) → length text ≤ length turns
    → cleared_after so_far (turns ++ more) text ≡ cleared_after so_far turns text

-- the parts of a style
abbrev pub MoreTurnsReadTheSameParts : Type 0
MoreTurnsReadTheSameParts =
    (some : Bool) (so_far : List StylePart) (turns more text : List ℕ) → length text ≤ length turns
    → parts_after some so_far (turns ++ more) text ≡ parts_after some so_far turns text

-- the names of a list; it has a first turn, since its value begins with a character
abbrev pub MoreTurnsReadTheSameNames : Type 0
MoreTurnsReadTheSameNames =
    (may_be_special : Bool) (list : NamedList) (t : ℕ) (turns more text : List ℕ)
    → length text ≤ length (t ∷ turns)
    → names_after may_be_special list (t ∷ turns ++ more) text
    ≡ names_after may_be_special list (t ∷ turns) text

-- so the value of a list is the same with more turns
abbrev pub MoreTurnsReadTheSameList : Type 0
MoreTurnsReadTheSameList =
    (may_be_special : Bool) (more text : List ℕ)
    → (value_start text >>= λ start. names_after may_be_special no_names (start ++ more) start)
    ≡ list_value may_be_special text
