-- What a match of a pattern may begin with, as far as its first atoms tell, and what may stand second in it.
use Rattle.std.specs.Prelude.{◌≡◌, ◌<◌, ℕ, nat_le, nat_lt, ◌||◌, not, Bool, true, false, Option, Some, None, IfSome}
use Rattle.char_class.specs.Bits.{has_code}
use Rattle.char_class.specs.declared.codes.Codes.{Codes}
use Rattle.vim_pattern.specs.Tree.{PatternTree}
use Rattle.match_rules.specs.Attempt.{ignores_case}
use Rattle.pattern_screens.specs.declared.key.Last.{Last}
use Rattle.pattern_screens.specs.declared.key.Last.TheVariants.{Keyword, Other}
use Rattle.pattern_screens.specs.declared.key.Next.TheVariants.{Code}
use Rattle.pattern_screens.specs.FirstAtoms.{first_cost, first_passes}
use Rattle.pattern_screens.specs.Following.{fails_after, takes_first}
use Rattle.pattern_screens.specs.Keys.{key_numbered}
use Rattle.pattern_match.specs.declared.context.Context.{Context}
use Rattle.pattern_needs.specs.Lacking.{IsNeedOf, Need}
use Rattle.ex_substitute.specs.declared.begins.Begins.{Begins}

-- a pattern, what it is tried with beside a text, and the most that one attempt may cost
pub record Setting : Type 0 where
  pub tree : PatternTree
  pub context : Context
  pub budget : ℕ

-- an attempt that the pattern's screen doesn't let through is within the budget
abbrev pub is_screened : PatternTree → ℕ → Bool
is_screened tree budget = nat_le (first_cost tree.node) budget

-- the screen lets an attempt through where this character stands, or none
abbrev pub screen_passes : PatternTree → Context → Option ℕ → Bool
screen_passes tree c next = first_passes c.sets.now (ignores_case tree c.ignore) next tree.node

-- an attempt has to be made there
abbrev pub may_begin : Setting → Option ℕ → Bool
may_begin s next = not (is_screened s.tree s.budget) || screen_passes s.tree s.context next

-- the characters below 256 with which a match may begin
abbrev pub AreCodes : Setting → Codes → Type 0
AreCodes s codes = (c : ℕ) → c < 256 → has_code codes c ≡ may_begin s (Some c)

-- ---- what may stand second

-- a match begins with one character, at a line's first column and behind it
pub record BeginsWithOne (tree : PatternTree) : Type 0 where
  pub first : takes_first false tree.node ≡ true
  pub later : takes_first true tree.node ≡ true

-- an attempt is known to fail one column before a character that has such a one before it
abbrev pub FailsBefore : Setting → Last → ℕ → Type 0
FailsBefore s last c =
    (number : ℕ) × (key_numbered number ≡ record { next = Code c; last = last })
    × (fails_after s.context.sets.now s.budget s.context.ignore number s.tree ≡ true)

-- so whatever it has before it, and a match begins with one character
pub record IsNoSecond (s : Setting) (c : ℕ) : Type 0 where
  pub begins : BeginsWithOne s.tree
  pub behind_keyword : FailsBefore s Keyword c
  pub behind_other : FailsBefore s Other c

-- a character below 256 that isn't among these is none
abbrev pub AreSeconds : Setting → Codes → Type 0
AreSeconds s codes = (c : ℕ) → c < 256 → has_code codes c ≡ false → IsNoSecond s c

-- this may stand second, or nothing
abbrev pub may_follow : Codes → Option ℕ → Bool
may_follow codes None = true
may_follow codes (Some c) = not (nat_lt c 256) || has_code codes c

-- ---- what is kept of all that

pub record AreBegins (s : Setting) (begins : Begins) : Type 0 where
  pub codes : AreCodes s begins.codes
  pub seconds : AreSeconds s begins.seconds
  pub at_end : begins.at_end ≡ may_begin s None
  pub is_screened : begins.is_screened ≡ is_screened s.tree s.budget

-- what a line must hold, where that is known
abbrev pub AreNeeds : Setting → Option Need → Type 0
AreNeeds s needs =
    IfSome needs (IsNeedOf s.context.sets.now s.context.ignore s.budget s.tree)
