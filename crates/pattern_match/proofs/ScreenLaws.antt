-- Screens of parts, and what a failing screen says of an attempt.
use Rattle.std.proofs.Common.{◌≡◌, ℕ, Bool, true, false, List, refl, sym, ap, subst}
use Rattle.std.specs.Prelude.{Option, Some, None, ◌||◌, slice_get}
use Rattle.std.specs.List.{list_any}
use Rattle.std.proofs.lemmas.List.Folds.{list_any-append}
use Rattle.char_class.specs.declared.sets.Sets.{Sets}
use Rattle.pattern_items.specs.declared.atom.Atom.{Atom}
use Rattle.vim_pattern.specs.Shape.{Shape, or}
use Rattle.vim_pattern.specs.Tree.{PatternTree}
use Rattle.match_rules.specs.Attempt.{ignores_case}
use Rattle.pattern_screens.specs.PlainAtoms.{plain_fits}
use Rattle.pattern_screens.specs.FirstAtoms.{both_lists, first_atoms, first_passes, some_fits}
use Rattle.pattern_screens.proofs.FirstScreens.{first-law}
use Rattle.pattern_match.specs.declared.context.Context.{Context}
use Rattle.pattern_match.specs.Contexts.{context_in}
use Rattle.pattern_match.specs.Fates.{choice}
use Rattle.pattern_match.specs.Screens.{IsVainAt, passes_at}
use Rattle.pattern_match.proofs.FateLaws.{choice_first_atoms}

or-true : (b : Bool) → true ≡ (b || true)
or-true true = refl
or-true false = refl

lists-pass : (sets : Sets) (ignore : Bool) (next : Option ℕ) (a b : Option (List Atom)) →
    some_fits sets ignore next (both_lists a b) ≡ (some_fits sets ignore next a || some_fits sets ignore next b)
lists-pass sets ignore next None b = refl
lists-pass sets ignore next (Some a) None = or-true (list_any (plain_fits sets ignore next) a)
lists-pass sets ignore next (Some a) (Some b) = list_any-append (plain_fits sets ignore next) a b

-- a choice passes where one of its branches does
pub or_passes : (sets : Sets) (ignore : Bool) (next : Option ℕ) (a b : Shape) →
    first_passes sets ignore next (or a b) ≡ (first_passes sets ignore next a || first_passes sets ignore next b)
or_passes sets ignore next a b = lists-pass sets ignore next (first_atoms a) (first_atoms b)

-- neither part of a choice that tries no atom has a first one
pub choice_passes : (sets : Sets) (ignore : Bool) (next : Option ℕ) (a b : Shape) →
    true ≡ first_passes sets ignore next (choice a b)
choice_passes sets ignore next a b =
    ap (some_fits sets ignore next) (sym (choice_first_atoms a b))

-- where the screen fails, the attempt is in vain
pub vain_at : (tree : PatternTree) (c : Context) (line : List ℕ) (col : ℕ) →
    passes_at tree c.sets.now c.ignore line col ≡ false → IsVainAt tree c line col
vain_at tree c line col e text number is =
    first-law tree (context_in text c) number col
    (subst (λ l. first_passes c.sets.now (ignores_case tree c.ignore) (slice_get l col) tree.node ≡ false) (sym is) e)
