-- The views of lines, one after the other.
use Rattle.std.proofs.Common.{◌≡◌, ℕ, zero, suc, ◌+◌, List, [], ◌∷◌, ◌++◌, length, drop, refl, sym, ap, ◌∙◌, arith}
use Rattle.std.specs.Prelude.{Option, Some, map, slice_get}
use Rattle.std.proofs.lemmas.List.{append_assoc}
use Rattle.syn_base.specs.declared.places.GroupId.{GroupId}
use Rattle.syn_base.specs.declared.places.Span.{Span}
use Rattle.syntax_set.specs.declared.added_item.AddedItem.{AddedItem}
use Rattle.conceal_view.specs.declared.marks.Mark.{Mark}
use Rattle.conceal_view.specs.Cells.{SeenLine}
use Rattle.conceal_view.specs.Seeing.{blocks_by}
use Rattle.conceal_view.specs.View.{AreNumbered, Blocks, block_at, seen_line, seen_lines, view_of}
use Rattle.conceal_view.proofs.BlockLaws.{blocks_found}

from_place : {A : Type 0} → (xs : List A) (k : ℕ) (x : A) → Some x ≡ slice_get xs k → drop k xs ≡ x ∷ drop (suc k) xs
from_place [] k x e = cc
from_place (y ∷ xs) zero x e = let same : y ≡ x = cc in ap (λ z. z ∷ xs) same
from_place (y ∷ xs) (suc k) x e = from_place xs k x e

module _ (blocks : Blocks) (cover : GroupId) (lines : List (List ℕ)) (painting : List (List Span)) where
  pub one_line_more : (k : ℕ) (chars : List ℕ) (spans : List Span) (seen : List SeenLine) → Some chars ≡ slice_get lines k → Some spans ≡ slice_get painting k →
      seen ++ seen_lines blocks cover (drop k lines) (drop k painting) ≡ seen_lines blocks cover lines painting →
      (seen ++ seen_line blocks cover chars spans ∷ []) ++ seen_lines blocks cover (drop (k + 1) lines) (drop (k + 1) painting) ≡ seen_lines blocks cover lines painting
  one_line_more k chars spans seen at spanned so_far =
      let more : k + 1 ≡ suc k = omega arith in
      append_assoc seen (seen_line blocks cover chars spans ∷ []) (seen_lines blocks cover (drop (k + 1) lines) (drop (k + 1) painting))
      ∙ ap (λ n. seen ++ seen_line blocks cover chars spans ∷ seen_lines blocks cover (drop n lines) (drop n painting)) more
      ∙ ap (λ xs. seen ++ seen_lines blocks cover xs (spans ∷ drop (suc k) painting)) (sym (from_place lines k chars at))
      ∙ ap (λ ss. seen ++ seen_lines blocks cover (drop k lines) ss) (sym (from_place painting k spans spanned))
      ∙ so_far

-- there are as many views as lines where there are as many lists of spans
pub as_many_views : (blocks : Blocks) (cover : GroupId) (lines : List (List ℕ)) (painting : List (List Span)) → length painting ≡ length lines →
    length (seen_lines blocks cover lines painting) ≡ length lines
as_many_views blocks cover [] painting e = refl
as_many_views blocks cover (line ∷ lines) [] e = absurd (omega arith)
as_many_views blocks cover (line ∷ lines) (spans ∷ painting) e = ap (λ n. suc n) (as_many_views blocks cover lines painting (omega (arith, e)))

-- a view by what stands in place of each mark's blocks is the view by the marks
pub view_by_marks : (items : List AddedItem) (marks : List Mark) (cover : GroupId) (level : ℕ) (lines : List (List ℕ)) (painting : List (List Span)) (puts : List (Option ℕ)) →
    AreNumbered 20000 marks → puts ≡ map (block_at items level) marks →
    seen_lines (blocks_by puts) cover lines painting ≡ view_of items marks cover level lines painting
view_by_marks items marks cover level lines painting puts numbered e =
    ap (λ ps. seen_lines (blocks_by ps) cover lines painting) e
    ∙ (λ j. seen_lines (λ g. blocks_found (block_at items level) marks numbered g j) cover lines painting)
