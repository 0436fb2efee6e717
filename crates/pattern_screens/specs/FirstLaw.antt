-- Where none of the first atoms fits, an attempt has no way, each of its ticks is one of them, and
-- it looks at its line alone.
use Rattle.std.specs.Prelude.{◌≡◌, ℕ, true, false, slice_get}
use Rattle.pattern_items.specs.declared.atom.Atom.{Atom}
use Rattle.vim_pattern.specs.Tree.{PatternTree}
use Rattle.match_rules.specs.Ways.{Context, Way, place, line_at, behind_character}
use Rattle.match_rules.specs.Atoms.{character_at, fits, only_if}
use Rattle.match_rules.specs.Attempt.{attempt, ignores_case}
use Rattle.pattern_screens.specs.PlainAtoms.{is_plain, plain_fits}
use Rattle.pattern_screens.specs.FirstAtoms.{first_passes, first_cost}
use Rattle.pattern_screens.specs.ScreenLaw.{IsInVain}

-- such an atom leads where the rules of matching say, behind the character where it takes it
abbrev pub FitAsTold : Type 0
FitAsTold =
    (x : Context) (w : Way) (a : Atom) → is_plain a ≡ true →
    fits x w a
    ≡ only_if (plain_fits x.sets x.ignore (character_at x.text w.at) a) (behind_character w.at)

abbrev pub AreFirstSound : Type 0
AreFirstSound =
    (tree : PatternTree) (x : Context) (line col : ℕ) →
    first_passes x.sets (ignores_case tree x.ignore) (slice_get (line_at x.text line) col) tree.node
    ≡ false →
    IsInVain (place line col) (first_cost tree.node) false (attempt tree x (place line col))
