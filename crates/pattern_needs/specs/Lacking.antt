-- Lines that lack what a pattern needs.
use Rattle.std.specs.Prelude.{◌≡◌, ℕ, Bool, true, ◌&&◌, nat_le, List, Some, length}
use Rattle.char_class.specs.declared.sets.Sets.{Sets}
use Rattle.pattern_items.specs.declared.atom.Atom.{Atom}
use Rattle.vim_pattern.specs.Tree.{PatternTree}
use Rattle.match_rules.specs.Attempt.{ignores_case}
use Rattle.pattern_needs.specs.LineCosts.{is_cheap_in}
use Rattle.pattern_needs.specs.Needs.{lacks, needed}

-- what is looked for, by which sets and whether case is ignored, and in lines of how many characters at
-- most
pub record Need : Type 0 where
  pub sets : Sets
  pub ignore : Bool
  pub atoms : List Atom
  pub most : ℕ

-- a pattern needs it, and in such lines costs no more than a budget
pub record IsNeedOf (sets : Sets) (ignore : Bool) (budget : ℕ) (tree : PatternTree) (need : Need) : Type 0
  where
    pub by_sets : need.sets ≡ sets
    pub by_case : need.ignore ≡ ignores_case tree ignore
    pub atoms : needed tree.node ≡ Some need.atoms
    pub cheap : is_cheap_in need.most budget tree ≡ true

-- the line isn't too long, and lacks it from a column on
abbrev pub is_lacked : Need → List ℕ → ℕ → Bool
is_lacked need line col =
    nat_le (length line) need.most && lacks need.sets need.ignore line col need.atoms
