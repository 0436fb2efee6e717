-- Notes of which some are exchanged.
use Rattle.std.proofs.Common.{◌≡◌, ℕ, List, [], ◌∷◌, ◌++◌, take, drop, set, length, length-set, refl, ◌∙◌}
use Rattle.std.specs.List.{All}
use Rattle.std.proofs.lemmas.List.Elements.{All-append, All-drop, All-head, All-set, All-tail, All-take}
use Rattle.paint_reuse.specs.Kept.{KeptNote}
use Rattle.paint_reuse.specs.Work.{put_in}
use Rattle.state_cache.specs.declared.edit.Patch.{Patch}
use Rattle.state_cache.specs.Edits.{patched}

pub patched_push : (notes : List KeptNote) (ps : List Patch) (p : Patch) → patched notes (ps ++ p ∷ []) ≡ set (patched notes ps) p.line p.note
patched_push notes [] p = refl
patched_push notes (q ∷ ps) p = patched_push (set notes q.line q.note) ps p

pub length-patched : (notes : List KeptNote) (ps : List Patch) → length (patched notes ps) ≡ length notes
length-patched notes [] = refl
length-patched notes (q ∷ ps) = length-patched (set notes q.line q.note) ps ∙ length-set notes q.line q.note

-- what holds of all notes and of the exchanged ones
pub all_patched : (P : KeptNote → Type 0) (notes : List KeptNote) (ps : List Patch) → All P notes → All (λ (p : Patch). P p.note) ps → All P (patched notes ps)
all_patched P notes [] h f = h
all_patched P notes (q ∷ ps) h f =
    all_patched P (set notes q.line q.note) ps (All-set P notes q.line q.note (All-head (λ (p : Patch). P p.note) q ps f) h) (All-tail (λ (p : Patch). P p.note) q ps f)

pub all_put_in : (P : KeptNote → Type 0) (notes : List KeptNote) (a b : ℕ) (fresh : List KeptNote) → All P notes → All P fresh → All P (put_in notes a b fresh)
all_put_in P notes a b fresh h f = All-append P (take a notes ++ fresh) (drop b notes) (All-append P (take a notes) fresh (All-take P a notes h) f) (All-drop P b notes h)
