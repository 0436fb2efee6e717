-- The tree of a pattern text for a use, and its fault.
use Rattle.std.specs.Prelude.{◌≡◌, ℕ, ◌<◌, ◌≤◌, ◌⊎◌, List, length, Bool, true, false, Option, Some, None, if◌then◌else◌, count_by}
use Rattle.std.specs.List.{list_any}
use Rattle.pattern_items.specs.declared.atom.Atom.{Atom as AnyAtom}
use Rattle.pattern_items.specs.declared.atom.Atom.TheVariants.{MatchStart, LineStop}
use Rattle.pattern_items.specs.declared.cause.PatternCause.TheVariants as cause
use Rattle.pattern_items.specs.declared.item.PatternUse.{PatternUse}
use Rattle.pattern_items.specs.declared.item.Sign.{Sign}
use Rattle.pattern_items.specs.declared.item.Sign.TheVariants.{Atom, Quiet}
use Rattle.pattern_items.specs.Place.{Item, items_of, is_counted, is_external}
use Rattle.vim_pattern.specs.Tree.{PatternTree}
use Rattle.vim_pattern.specs.Grammar.{IsTree}
use Rattle.vim_pattern.specs.Fault.{Fault, fault_at, IsFault}

abbrev pub asks : Bool → Option Bool → Bool
asks true (Some true) = true
asks true (Some false) = false
asks false (Some true) = false
asks false (Some false) = true
asks ignore None = false

-- whether an item asks that case be ignored, or that it be not
abbrev pub asks_case : Bool → Sign → Bool
asks_case ignore (Quiet o) = asks ignore o
asks_case ignore _ = false

-- `\c` wins over `\C`, wherever they stand
abbrev pub case_by : Bool → Bool → Option Bool
case_by ignored heeded = if ignored then Some true else if heeded then Some false else None

abbrev pub case_of : List Item → Option Bool
case_of is = case_by (list_any (λ i. asks_case true i.sign) is) (list_any (λ i. asks_case false i.sign) is)

abbrev pub is_match_start : AnyAtom → Bool
is_match_start MatchStart = true
is_match_start _ = false

abbrev pub is_line_stop : AnyAtom → Bool
is_line_stop LineStop = true
is_line_stop _ = false

abbrev pub sets_match_start : Sign → Bool
sets_match_start (Atom a) = is_match_start a
sets_match_start _ = false

abbrev pub holds_line_stop : Sign → Bool
holds_line_stop (Atom a) = is_line_stop a
holds_line_stop _ = false

-- what a tree says of its items beside its nodes
pub record IsSummaryOf (is : List Item) (tree : PatternTree) : Type 0 where
  pub case : tree.case ≡ case_of is
  pub groups : tree.groups ≡ count_by (λ i. is_counted i.sign) is
  pub externals : tree.externals ≡ count_by (λ i. is_external i.sign) is
  pub moves_start : tree.moves_start ≡ list_any (λ i. sets_match_start i.sign) is
  pub line_end : tree.line_end ≡ list_any (λ i. holds_line_stop i.sign) is

-- the tree of a text: at most 4,000 characters, whose items have these nodes and this summary
pub record IsTreeOf (text : List ℕ) (usage : PatternUse) (tree : PatternTree) : Type 0 where
  pub short : length text ≤ 4000
  pub nodes : IsTree (items_of usage text) tree.node
  pub summary : IsSummaryOf (items_of usage text) tree

-- a text that is too long has no other fault, and its first character too many is the offending one
abbrev pub HasFault : List ℕ → PatternUse → Fault → Type 0
HasFault text usage f = ((4000 < length text) × (f ≡ fault_at 4000 cause.TooLong)) ⊎ ((length text ≤ 4000) × IsFault (items_of usage text) f)
