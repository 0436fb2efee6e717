-- What is seen of runs of one group, or of none.
use Rattle.std.proofs.Common.{◌≡◌, ℕ, ◌<◌, Bool, true, false, List, [], ◌∷◌, ◌++◌, length, refl, sym, ap, ◌∙◌, arith}
use Rattle.std.specs.Prelude.{nat_eq, Option, Some, None}
use Rattle.std.proofs.lemmas.Bool.Decides.{nat_tests}
use Rattle.std.proofs.lemmas.List.Sums.{fold-append}
use Rattle.syn_base.specs.declared.places.GroupId.{GroupId}
use Rattle.conceal_view.specs.Cells.{Cell, SeenLine, with_cell}
use Rattle.conceal_view.specs.Seeing.{cell_of, put_behind, run_of, with_cells}
use Rattle.conceal_view.specs.View.{Blocks, block_of, put_cells, seen_from, shows_same}

shows_itself : (group : Option GroupId) → shows_same group group ≡ true
shows_itself None = refl
shows_itself (Some g) = same g.0
  where
    same : (n : ℕ) → nat_eq n n ≡ true
    same n = grind (arith, nat_tests)

module _ (blocks : Blocks) (cover : GroupId) where
  -- what isn't concealed is seen as it is
  pub sees_plain : (group before : Option GroupId) (x : ℕ) (xs : List ℕ) (cells : List Cell) → block_of blocks group ≡ None →
      seen_from blocks cover before (run_of group (x ∷ xs) ++ cells) ≡ run_of group (x ∷ xs) ++ seen_from blocks cover group cells
  sees_plain group before x [] cells plain =
      ap (λ block. elim block as (λ _. List Cell) [
        | None ↦ cell_of group x ∷ []
        | Some put ↦ elim (shows_same before group) [ true ↦ [] | false ↦ put_cells cover put ]
      ] ++ seen_from blocks cover group cells) plain
  sees_plain group before x (y ∷ xs) cells plain =
      ap (λ block. elim block as (λ _. List Cell) [
        | None ↦ cell_of group x ∷ []
        | Some put ↦ elim (shows_same before group) [ true ↦ [] | false ↦ put_cells cover put ]
      ] ++ seen_from blocks cover group (run_of group (y ∷ xs) ++ cells)) plain
      ∙ ap (λ seen. cell_of group x ∷ seen) (sees_plain group group y xs cells plain)

  begins : (group before : Option GroupId) (put : Option ℕ) (same : Bool) (x : ℕ) (cells : List Cell) → block_of blocks group ≡ Some put →
      shows_same before group ≡ same →
      seen_from blocks cover before (cell_of group x ∷ cells)
      ≡ elim same as (λ _. List Cell) [ true ↦ [] | false ↦ put_cells cover put ] ++ seen_from blocks cover group cells
  begins group before put same x cells block e =
      ap (λ block. elim block as (λ _. List Cell) [
        | None ↦ cell_of group x ∷ []
        | Some put ↦ elim (shows_same before group) [ true ↦ [] | false ↦ put_cells cover put ]
      ] ++ seen_from blocks cover group cells) block
      ∙ ap (λ same. elim same as (λ _. List Cell) [ true ↦ [] | false ↦ put_cells cover put ] ++ seen_from blocks cover group cells) e

  -- nothing more is seen of a block that has begun
  goes_on : (group : Option GroupId) (put : Option ℕ) (xs : List ℕ) (cells : List Cell) → block_of blocks group ≡ Some put →
      seen_from blocks cover group (run_of group xs ++ cells) ≡ seen_from blocks cover group cells
  goes_on group put [] cells block = refl
  goes_on group put (x ∷ xs) cells block =
      begins group group put true x (run_of group xs ++ cells) block (shows_itself group)
      ∙ goes_on group put xs cells block

  pub sees_block : (group before : Option GroupId) (put : Option ℕ) (same : Bool) (x : ℕ) (xs : List ℕ) (cells : List Cell) →
      block_of blocks group ≡ Some put → shows_same before group ≡ same →
      seen_from blocks cover before (run_of group (x ∷ xs) ++ cells)
      ≡ elim same as (λ _. List Cell) [ true ↦ [] | false ↦ put_cells cover put ] ++ seen_from blocks cover group cells
  sees_block group before put same x xs cells block e =
      begins group before put same x (run_of group xs ++ cells) block e
      ∙ ap (λ seen. elim same as (λ _. List Cell) [ true ↦ [] | false ↦ put_cells cover put ] ++ seen) (goes_on group put xs cells block)

  -- with what was seen before
  pub sees_plain_behind : (line : SeenLine) (group before : Option GroupId) (xs : List ℕ) (cells : List Cell) → block_of blocks group ≡ None → 0 < length xs →
      with_cells (with_cells line (run_of group xs)) (seen_from blocks cover group cells)
      ≡ with_cells line (seen_from blocks cover before (run_of group xs ++ cells))
  sees_plain_behind line group before [] cells plain some = absurd (omega arith)
  sees_plain_behind line group before (x ∷ xs) cells plain some =
      sym (fold-append with_cell line (run_of group (x ∷ xs)) (seen_from blocks cover group cells))
      ∙ ap (λ seen. with_cells line seen) (sym (sees_plain group before x xs cells plain))

  same_put : (same : Bool) (put : Option ℕ) → put_cells cover (put_behind same put) ≡ elim same as (λ _. List Cell) [ true ↦ [] | false ↦ put_cells cover put ]
  same_put true put = refl
  same_put false put = refl

  pub sees_block_behind : (line : SeenLine) (group before : Option GroupId) (put : Option ℕ) (xs : List ℕ) (cells : List Cell) → block_of blocks group ≡ Some put → 0 < length xs →
      with_cells (with_cells line (put_cells cover (put_behind (shows_same before group) put))) (seen_from blocks cover group cells)
      ≡ with_cells line (seen_from blocks cover before (run_of group xs ++ cells))
  sees_block_behind line group before put [] cells block some = absurd (omega arith)
  sees_block_behind line group before put (x ∷ xs) cells block some =
      sym (fold-append with_cell line (put_cells cover (put_behind (shows_same before group) put)) (seen_from blocks cover group cells))
      ∙ ap (λ seen. with_cells line (seen ++ seen_from blocks cover group cells)) (same_put (shows_same before group) put)
      ∙ ap (λ seen. with_cells line seen) (sym (sees_block group before put (shows_same before group) x xs cells block refl))
