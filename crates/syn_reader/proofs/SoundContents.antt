-- What the pieces of a command hold is sound with the patterns that were added: each pattern of it is there.
use Rattle.std.proofs.Common.{◌≡◌, ℕ, List, [], ◌∷◌, ◌++◌, length, refl, sym, ap, subst, ◌∙◌, append_assoc, Ok}
use Rattle.std.proofs.lemmas.List.{append-nil}
use Rattle.std.specs.Prelude.{Result}
use Rattle.std.specs.List.{All}
use Rattle.std.proofs.lemmas.List.Elements.{All-nil, All-push, All-weaker}
use Rattle.vim_pattern.specs.Tree.{PatternTree}
use Rattle.syntax_set.specs.Soundness.{IsAdded}
use Rattle.syntax_set.proofs.SoundLaws.{added-more, added-last}
use Rattle.syn_words.specs.declared.cause.Cause.{Cause}
use Rattle.syn_words.specs.declared.what.Piece.{Piece}
use Rattle.syn_words.specs.declared.what.Piece.TheVariants as piece
use Rattle.syn_words.specs.declared.what.Role.{Role}
use Rattle.syn_words.specs.declared.what.Quoted.{Quoted}
use Rattle.syn_reader.specs.declared.contents.Content.{Content}
use Rattle.syn_reader.specs.declared.contents.Content.TheVariants as content
use Rattle.syn_reader.specs.Answers.{◌>>=◌}
use Rattle.syn_reader.specs.Patterns.{tree_at, use_of, pattern_of, pattern_read}
use Rattle.syn_reader.specs.NamedLists.{list_read}
use Rattle.syn_reader.specs.Abbreviations.{words_of}
use Rattle.syn_reader.specs.Contents.{Contents, content_of, with_piece, contents_of}
use Rattle.syn_reader.proofs.Behind.{same_value, both_went, each_keeps}

-- the pattern of a piece was added
abbrev pub IsSoundContent : List PatternTree → Content → Type 0
IsSoundContent trees (content.Quote role pattern) = IsAdded trees pattern
IsSoundContent trees other = Unit {0}

pub content-more : (trees more : List PatternTree) (c : Content) → IsSoundContent trees c → IsSoundContent (trees ++ more) c
content-more trees more (content.Has flag) h = tt
content-more trees more (content.Cchar c) h = tt
content-more trees more (content.Names field list) h = tt
content-more trees more (content.Matchgroup name) h = tt
content-more trees more (content.Quote role pattern) h = added-more trees more pattern h
content-more trees more (content.Words words) h = tt

-- the trees that a step leaves begin with those before it
pub record Grows (before after : List PatternTree) : Type 0 where
  pub more : List PatternTree
  pub whole : after ≡ before ++ more

pub grows-not : (trees : List PatternTree) → Grows trees trees
grows-not trees = record { more = []; whole = sym (append-nil trees) }

pub grows-further : (one two three : List PatternTree) → Grows one two → Grows two three → Grows one three
grows-further one two three g h = record { more = g.more ++ h.more; whole = h.whole ∙ ap (λ l. l ++ h.more) g.whole ∙ append_assoc one g.more h.more }

-- a piece, and the trees then
record IsSoundPiece (before : List PatternTree) (read : Content × List PatternTree) : Type 0 where
  grows : Grows before read.1
  sound : IsSoundContent read.1 read.0

unchanged : (trees : List PatternTree) (c : Content) (read : Content × List PatternTree) → IsSoundContent trees c → ◌≡◌ {A = Result (Content × List PatternTree) Cause} (Ok (c, trees)) (Ok read) → IsSoundPiece trees read
unchanged trees c read h e = subst (IsSoundPiece trees) (same_value (c, trees) read e) (record { grows = grows-not trees; sound = h })

quoted : (trees : List PatternTree) (role : Role) (q : Quoted) (read : Content × List PatternTree) → (pattern_read trees role q >>= λ p. Ok (content.Quote role p.0, p.1)) ≡ Ok read → IsSoundPiece trees read
quoted trees role q read h =
    both_went (pattern_read trees role q) (λ p. Ok (content.Quote role p.0, p.1)) read h
    (λ p one last.
    both_went (tree_at q.text (use_of role)) (λ tree. Ok (pattern_of (length trees) tree q, trees ++ tree ∷ [])) p one
    (λ tree found made.
    let e : (content.Quote role p.0, p.1) ≡ read = same_value (content.Quote role p.0, p.1) read last in
    let f : (pattern_of (length trees) tree q, trees ++ tree ∷ []) ≡ p = same_value (pattern_of (length trees) tree q, trees ++ tree ∷ []) p made in
    subst (IsSoundPiece trees) e
    (subst (λ p. IsSoundPiece trees (content.Quote role p.0, p.1)) f
    (record { grows = record { more = tree ∷ []; whole = refl }; sound = added-last trees tree }))))

piece_sound : (groups : List (List ℕ)) (trees : List PatternTree) (p : Piece) (read : Content × List PatternTree) → content_of groups trees p ≡ Ok read → IsSoundPiece trees read
piece_sound groups trees (piece.Has flag) read h = unchanged trees (content.Has flag) read tt h
piece_sound groups trees (piece.Cchar c) read h = unchanged trees (content.Cchar c) read tt h
piece_sound groups trees (piece.Names field list) read h =
    both_went (list_read groups list) (λ l. Ok (content.Names field l, trees)) read h (λ l one last. unchanged trees (content.Names field l) read tt last)
piece_sound groups trees (piece.Matchgroup name) read h = unchanged trees (content.Matchgroup name) read tt h
piece_sound groups trees (piece.Quote role q) read h = quoted trees role q read h
piece_sound groups trees (piece.Word text) read h =
    both_went (words_of text) (λ words. Ok (content.Words words, trees)) read h (λ words one last. unchanged trees (content.Words words) read tt last)

-- pieces, and the trees then
pub record AreSoundContents (before : List PatternTree) (read : Contents) : Type 0 where
  pub grows : Grows before read.1
  pub sound : All (IsSoundContent read.1) read.0

one_more : (groups : List (List ℕ)) (before : List PatternTree) (so_far : Contents) (p : Piece) (read : Contents) → with_piece groups so_far p ≡ Ok read → AreSoundContents before so_far → AreSoundContents before read
one_more groups before so_far p read h known =
    both_went (content_of groups so_far.1 p) (λ r. Ok (so_far.0 ++ r.0 ∷ [], r.1)) read h
    (λ r one last.
    let new = piece_sound groups so_far.1 p r one in
    subst (AreSoundContents before) (same_value (so_far.0 ++ r.0 ∷ [], r.1) read last)
    (record {
      grows = grows-further before so_far.1 r.1 known.grows new.grows;
      sound = All-push (IsSoundContent r.1) so_far.0 r.0
          (subst (λ l. All (IsSoundContent l) so_far.0) (sym new.grows.whole)
          (All-weaker (IsSoundContent so_far.1) (IsSoundContent (so_far.1 ++ new.grows.more)) (content-more so_far.1 new.grows.more) so_far.0 known.sound))
          new.sound;
    }))

pub contents_sound : (groups : List (List ℕ)) (trees : List PatternTree) (pieces : List Piece) (read : Contents) → contents_of groups trees pieces ≡ Ok read → AreSoundContents trees read
contents_sound groups trees pieces read h =
    each_keeps (with_piece groups) (AreSoundContents trees) (one_more groups trees) pieces ([], trees) read h
    (record { grows = grows-not trees; sound = All-nil (IsSoundContent trees) })
