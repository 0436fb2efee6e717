-- The fold over the items of a text gives the grammar's tree, or the fault.
use Rattle.std.proofs.Common.{◌≡◌, ◌≤◌, ◌<◌, ℕ, List, length, ap, sym, ◌∙◌, subst, inl, inr, ◌⊎◌, ◌↔◌}
use Rattle.std.proofs.lemmas.Bool.{lt-ltb, le-ltb}
use Rattle.std.specs.Prelude.{Result, Ok, Err, if◌then◌else◌}
use Rattle.pattern_items.specs.declared.cause.PatternCause.TheVariants.{TooLong}
use Rattle.pattern_items.specs.declared.item.PatternUse.{PatternUse}
use Rattle.pattern_items.specs.Place.{Item, items_of}
use Rattle.vim_pattern.specs.Tree.{PatternTree}
use Rattle.vim_pattern.specs.Shape.{Shape}
use Rattle.vim_pattern.specs.Fault.{Fault, fault_at, IsFault}
use Rattle.vim_pattern.specs.Pattern.{IsTreeOf, HasFault, IsSummaryOf}
use Rattle.vim_pattern.specs.Read.{read, start}
use Rattle.vim_pattern.specs.TreeOf.{tree_of, tree_by, tree_with}
use Rattle.vim_pattern.proofs.Complete.{tree_reads}
use Rattle.vim_pattern.proofs.Faults.{Answers, read_answers, not_both}
use Rattle.vim_pattern.proofs.OneFault.{one_fault}
use Rattle.vim_pattern.proofs.TextLaws.{tree_or_fault}

-- a tree is known by its nodes and its summary
summed : (items : List Item) (tree : PatternTree) → IsSummaryOf items tree → tree_with items tree.node ≡ tree
summed items tree h =
    λ i. record {
      node = tree.node;
      case = sym h.case i;
      groups = sym h.groups i;
      externals = sym h.externals i;
      moves_start = sym h.moves_start i;
      line_end = sym h.line_end i;
    }

abbrev by_length : List ℕ → PatternUse → Result PatternTree Fault
by_length text usage = tree_by (items_of usage text) (read (items_of usage text) start)

short : (text : List ℕ) (usage : PatternUse) → length text ≤ 4000 → tree_of text usage ≡ by_length text usage
short text usage few = ap (λ long. if long then Err (fault_at 4000 TooLong) else by_length text usage) (le-ltb 4000 (length text) few)

long : (text : List ℕ) (usage : PatternUse) → 4000 < length text → tree_of text usage ≡ Err (fault_at 4000 TooLong)
long text usage many = ap (λ b. if b then Err (fault_at 4000 TooLong) else by_length text usage) (lt-ltb 4000 (length text) many)

-- the fault of items is the one that the fold finds
fault_read : (items : List Item) (fault : Fault) (r : Result Shape Fault) → IsFault items fault → Answers items r → r ≡ Err fault
fault_read items fault (Ok t) h a = absurd (not_both h t a)
fault_read items fault (Err f) h a = ap Err (one_fault a h)

tree_found : (text : List ℕ) (usage : PatternUse) (tree : PatternTree) → IsTreeOf text usage tree → tree_of text usage ≡ Ok tree
tree_found text usage tree h =
    short text usage h.short
    ∙ ap (tree_by (items_of usage text)) (tree_reads (items_of usage text) tree.node h.nodes)
    ∙ ap Ok (summed (items_of usage text) tree h.summary)

fault_found : (text : List ℕ) (usage : PatternUse) (fault : Fault) → HasFault text usage fault → tree_of text usage ≡ Err fault
fault_found text usage fault (inl h) = long text usage h.0 ∙ ap Err (sym h.1)
fault_found text usage fault (inr h) =
    short text usage h.0 ∙ ap (tree_by (items_of usage text)) (fault_read (items_of usage text) fault (read (items_of usage text) start) h.1 (read_answers (items_of usage text)))

abbrev Either : List ℕ → PatternUse → Type 0
Either text usage = ((t : PatternTree) × IsTreeOf text usage t) ⊎ ((f : Fault) × HasFault text usage f)

is_tree : (text : List ℕ) (usage : PatternUse) (tree : PatternTree) → Either text usage → tree_of text usage ≡ Ok tree → IsTreeOf text usage tree
is_tree text usage tree (inl h) e =
    let same : Ok h.0 ≡ Ok tree = sym (tree_found text usage h.0 h.1) ∙ e in
    let tree_is : h.0 ≡ tree = cc in
    subst (λ t. IsTreeOf text usage t) tree_is h.1
is_tree text usage tree (inr h) e = let same : Err h.0 ≡ Ok tree = sym (fault_found text usage h.0 h.1) ∙ e in absurd (cc)

is_fault : (text : List ℕ) (usage : PatternUse) (fault : Fault) → Either text usage → tree_of text usage ≡ Err fault → HasFault text usage fault
is_fault text usage fault (inl h) e = let same : Ok h.0 ≡ Err fault = sym (tree_found text usage h.0 h.1) ∙ e in absurd (cc)
is_fault text usage fault (inr h) e =
    let same : Err h.0 ≡ Err fault = sym (fault_found text usage h.0 h.1) ∙ e in
    let fault_is : h.0 ≡ fault = cc in
    subst (λ f. HasFault text usage f) fault_is h.1

pub trees : (text : List ℕ) (usage : PatternUse) (tree : PatternTree) → (tree_of text usage ≡ Ok tree) ↔ IsTreeOf text usage tree
trees text usage tree = (is_tree text usage tree (tree_or_fault text usage), tree_found text usage tree)

pub faults : (text : List ℕ) (usage : PatternUse) (fault : Fault) → (tree_of text usage ≡ Err fault) ↔ HasFault text usage fault
faults text usage fault = (is_fault text usage fault (tree_or_fault text usage), fault_found text usage fault)
