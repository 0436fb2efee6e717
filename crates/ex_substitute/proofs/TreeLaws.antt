-- The tree or the fault of a pattern's text, as the cause against a command.
use Rattle.std.proofs.Common.{◌≡◌, ◌==◌, ℕ, List, [], ◌∷◌, length, false, ap, refl, ◌∙◌}
use Rattle.std.specs.Prelude.{Ok, Err}
use Rattle.pattern_items.specs.declared.cause.PatternCause.{PatternCause}
use Rattle.pattern_items.specs.declared.item.PatternUse.TheVariants.{Match}
use Rattle.vim_pattern.specs.Tree.{PatternTree}
use Rattle.vim_pattern.specs.Fault.{fault_at}
use Rattle.vim_pattern.specs.Pattern.{IsTreeOf, HasFault}
use Rattle.vim_pattern.specs.TreeOf.{tree_of, TreesAreRead, FaultsAreRead}
use Rattle.ex_substitute.specs.declared.error.ExError.TheVariants.{Pattern}
use Rattle.ex_substitute.specs.Commands.{pattern_of, or_cause}

some-pattern : (text : List ℕ) → (length text == 0) ≡ false → pattern_of text ≡ or_cause (tree_of text Match)
some-pattern [] e = absurd (cc)
some-pattern (c ∷ cs) e = refl

pub tree-read : TreesAreRead → (text : List ℕ) (tree : PatternTree) → (length text == 0) ≡ false → IsTreeOf text Match tree → pattern_of text ≡ Ok tree
tree-read law text tree some h = some-pattern text some ∙ ap or_cause ((law text Match tree).1 h)

pub fault-read : FaultsAreRead → (text : List ℕ) (at : ℕ) (cause : PatternCause) → (length text == 0) ≡ false → HasFault text Match (fault_at at cause) → pattern_of text ≡ Err (Pattern at cause)
fault-read law text at cause some h = some-pattern text some ∙ ap or_cause ((law text Match (fault_at at cause)).1 h)
