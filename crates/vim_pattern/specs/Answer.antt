-- What the reader may answer.
use Rattle.std.specs.Prelude.{ℕ, List}
use Rattle.pattern_items.specs.declared.item.PatternUse.{PatternUse}
use Rattle.vim_pattern.specs.declared.error.PatternError.{PatternError}
use Rattle.vim_pattern.specs.declared.error.PatternError.TheVariants.{At, Memory}
use Rattle.vim_pattern.specs.Tree.{PatternTree}
use Rattle.vim_pattern.specs.Fault.{fault_at}
use Rattle.vim_pattern.specs.Pattern.{IsTreeOf, HasFault}

-- the fault of a text is told, or memory ran out
abbrev pub TellsFault : List ℕ → PatternUse → PatternError → Type 0
TellsFault text usage (At n c) = HasFault text usage (fault_at n c)
TellsFault text usage Memory = Unit {0}

-- a fault is told of a text without a tree alone
abbrev pub HasNoTree : List ℕ → PatternUse → PatternError → Type 0
HasNoTree text usage (At n c) = (tree : PatternTree) → IsTreeOf text usage tree → ⊥
HasNoTree text usage Memory = Unit {0}
