-- The tree that the grammar gives a text is the one that reading gives it.
use Rattle.std.proofs.Common.{◌≡◌, ◌≤◌, ◌<◌, ℕ, List, length, ap, sym, ◌∙◌, arith, inl, inr, true, false}
use Rattle.std.proofs.lemmas.Bool.Decides.{nat_tests}
use Rattle.std.specs.Prelude.{Result, Ok, Err, nat_lt, if◌then◌else◌}
use Rattle.pattern_items.specs.declared.cause.PatternCause.{PatternCause}
use Rattle.pattern_items.specs.declared.cause.PatternCause.TheVariants.{TooLong}
use Rattle.pattern_items.specs.declared.item.PatternUse.{PatternUse}
use Rattle.pattern_items.specs.Place.{Item, items_of}
use Rattle.vim_pattern.specs.Tree.{PatternTree}
use Rattle.vim_pattern.specs.Shape.{Shape}
use Rattle.vim_pattern.specs.Fault.{Fault, fault_at, IsFault}
use Rattle.vim_pattern.specs.Pattern.{IsTreeOf, HasFault, IsSummaryOf}
use Rattle.vim_pattern.specs.Read.{read, start}
use Rattle.vim_pattern.proofs.Complete.{tree_reads}
use Rattle.vim_pattern.proofs.Faults.{Answers, read_answers, not_both}
use Rattle.vim_pattern.proofs.OneFault.{one_fault}
use Rattle.syn_words.specs.declared.cause.Cause.TheVariants as cause
use Rattle.syn_reader.specs.Patterns.{tree_of, tree_by, tree_with, tree_at, or_cause}

short_text : (n : ℕ) → n ≤ 4000 → nat_lt 4000 n ≡ false
short_text n few = grind (arith, nat_tests)

long_text : (n : ℕ) → 4000 < n → nat_lt 4000 n ≡ true
long_text n many = grind (arith, nat_tests)

-- a tree is known by its nodes and its summary
summed : (items : List Item) (tree : PatternTree) → IsSummaryOf items tree → tree_with items tree.node ≡ tree
summed items tree h =
    λ i. record {
      node = tree.node;
      case = sym h.case i;
      groups = sym h.groups i;
      externals = sym h.externals i;
      moves_start = sym h.moves_start i;
      line_end = sym h.line_end i;
    }

by_items : (text : List ℕ) (usage : PatternUse) → length text ≤ 4000 → tree_of text usage ≡ tree_by (items_of usage text) (read (items_of usage text) start)
by_items text usage few = ap (λ long. if long then Err (fault_at 4000 TooLong) else tree_by (items_of usage text) (read (items_of usage text) start)) (short_text (length text) few)

pub tree_is_read : (text : List ℕ) (usage : PatternUse) (tree : PatternTree) → IsTreeOf text usage tree → tree_at text usage ≡ Ok tree
tree_is_read text usage tree h =
    ap or_cause (by_items text usage h.short
    ∙ ap (tree_by (items_of usage text)) (tree_reads (items_of usage text) tree.node h.nodes)
    ∙ ap Ok (summed (items_of usage text) tree h.summary))

-- the fault of items is the one that reading finds
fault_read : (items : List Item) (fault : Fault) (r : Result Shape Fault) → IsFault items fault → Answers items r → r ≡ Err fault
fault_read items fault (Ok t) h a = absurd (not_both h t a)
fault_read items fault (Err f) h a = ap Err (one_fault a h)

pub fault_is_read : (text : List ℕ) (usage : PatternUse) (at : ℕ) (c : PatternCause) → HasFault text usage (fault_at at c) → tree_at text usage ≡ Err (cause.Pattern at c)
fault_is_read text usage at c (inl h) =
    ap or_cause (ap (λ long. if long then Err (fault_at 4000 TooLong) else tree_by (items_of usage text) (read (items_of usage text) start)) (long_text (length text) h.0)
    ∙ ap Err (sym h.1))
fault_is_read text usage at c (inr h) =
    ap or_cause (by_items text usage h.0
    ∙ ap (tree_by (items_of usage text)) (fault_read (items_of usage text) (fault_at at c) (read (items_of usage text) start) h.1 (read_answers (items_of usage text))))
