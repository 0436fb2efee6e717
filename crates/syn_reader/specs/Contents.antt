-- What the pieces of an item hold (Vim's help, :syn-arguments), from left to right: the words of a keyword, the tree of a
-- pattern, the groups of a pattern of names.
use Rattle.std.specs.Prelude.{ℕ, List, [], ◌∷◌, ◌++◌, Result, Ok}
use Rattle.vim_pattern.specs.Tree.{PatternTree}
use Rattle.syn_words.specs.declared.cause.Cause.{Cause}
use Rattle.syn_words.specs.declared.what.Piece.{Piece}
use Rattle.syn_words.specs.declared.what.Piece.TheVariants as piece
use Rattle.syn_reader.specs.declared.contents.Content.{Content}
use Rattle.syn_reader.specs.declared.contents.Content.TheVariants as content
use Rattle.syn_reader.specs.Answers.{◌>>=◌, each}
use Rattle.syn_reader.specs.Patterns.{pattern_read}
use Rattle.syn_reader.specs.NamedLists.{list_read}
use Rattle.syn_reader.specs.Abbreviations.{words_of}

-- a piece with the patterns that are known then
abbrev pub content_of : List (List ℕ) → List PatternTree → Piece → Result (Content × List PatternTree) Cause
content_of groups patterns (piece.Has flag) = Ok (content.Has flag, patterns)
content_of groups patterns (piece.Cchar c) = Ok (content.Cchar c, patterns)
content_of groups patterns (piece.Names field list) = list_read groups list >>= λ read. Ok (content.Names field read, patterns)
content_of groups patterns (piece.Matchgroup name) = Ok (content.Matchgroup name, patterns)
content_of groups patterns (piece.Quote role quoted) = pattern_read patterns role quoted >>= λ p. Ok (content.Quote role p.0, p.1)
content_of groups patterns (piece.Word text) = words_of text >>= λ words. Ok (content.Words words, patterns)

abbrev pub Contents : Type 0
Contents = List Content × List PatternTree

abbrev pub with_piece : List (List ℕ) → Contents → Piece → Result Contents Cause
with_piece groups so_far p = content_of groups so_far.1 p >>= λ read. Ok (so_far.0 ++ read.0 ∷ [], read.1)

-- all pieces, by the groups that are named before the command
abbrev pub contents_of : List (List ℕ) → List PatternTree → List Piece → Result Contents Cause
contents_of groups patterns pieces = each (with_piece groups) ([], patterns) pieces
