-- A command's text: a letter and a slash, a pattern, and behind a second slash what the letter asks for: a string and flags,
-- or the letter `d`. What is wrong is told of the pattern first, then of the string, then of the rest.
use Rattle.std.specs.Prelude.{◌≡◌, ℕ, nat_eq, ◌&&◌, length, drop, get_or, Bool, true, false, List, [], ◌∷◌, ◌⊎◌, Option, Some, None, Result, Ok, Err, if◌then◌else◌}
use Rattle.pattern_items.specs.declared.item.PatternUse.TheVariants.{Match}
use Rattle.vim_pattern.specs.Tree.{PatternTree}
use Rattle.vim_pattern.specs.Fault.{Fault}
use Rattle.vim_pattern.specs.TreeOf.{tree_of}
use Rattle.word_reader.specs.Delimited.{delimited}
use Rattle.ex_substitute.specs.declared.command.Action.{Action}
use Rattle.ex_substitute.specs.declared.command.Action.TheVariants.{Substitute, Delete}
use Rattle.ex_substitute.specs.declared.error.ExError.{ExError}
use Rattle.ex_substitute.specs.declared.error.ExError.TheVariants.{EmptyPattern, Pattern, BadFlags}
use Rattle.ex_substitute.specs.declared.flags.Flags.{Flags}
use Rattle.ex_substitute.specs.Answers.{◌>>=◌}
use Rattle.ex_substitute.specs.Flags.{flags_of}
use Rattle.ex_substitute.specs.Strings.{string_of}

-- a command that was read: its pattern, whether case is ignored where that says nothing of it, and what is done
pub record Command : Type 0 where
  pub tree : PatternTree
  pub ignore : Bool
  pub action : Action

-- it begins with `s/`, `g/` or `v/`
pub record BeginsCommand (text : List ℕ) : Type 0 where
  pub letter : (get_or text 0 0 ≡ 115) ⊎ ((get_or text 0 0 ≡ 103) ⊎ (get_or text 0 0 ≡ 118))
  pub slash : get_or text 1 0 ≡ 47

-- the pattern, whether a slash ends it, and what is left behind that
pub record Parts : Type 0 where
  pub pattern : List ℕ
  pub is_closed : Bool
  pub rest : List ℕ

abbrev pub parted : List ℕ → Parts
parted text = elim (delimited 47 text) [
  | None ↦ record { pattern = text; is_closed = false; rest = [] }
  | Some found ↦ record { pattern = found.0; is_closed = true; rest = found.1 }
]

abbrev pub or_cause : Result PatternTree Fault → Result PatternTree ExError
or_cause (Ok tree) = Ok tree
or_cause (Err fault) = Err (Pattern fault.at fault.cause)

abbrev pub pattern_of : List ℕ → Result PatternTree ExError
pattern_of [] = Err EmptyPattern
pattern_of (c ∷ cs) = or_cause (tree_of (c ∷ cs) Match)

-- whether case is ignored, and what is done
abbrev pub Order : Type 0
Order = Bool × Action

abbrev pub or_bad : Option Flags → Result Flags ExError
or_bad None = Err BadFlags
or_bad (Some flags) = Ok flags

abbrev pub substitution : List ℕ → Result Order ExError
substitution text = do
  string ← string_of text
  flags ← or_bad (flags_of string.1)
  Ok (flags.ignore, Substitute string.0 flags.all flags.count_only)

-- the letter `d`, and nothing behind it
abbrev pub is_d : List ℕ → Bool
is_d [] = false
is_d (c ∷ cs) = nat_eq c 100 && nat_eq (length cs) 0

-- `others` says that it takes the lines without a match
abbrev pub deletion : Bool → List ℕ → Result Order ExError
deletion others text = if is_d text then Ok (false, Delete others) else Err BadFlags

abbrev pub order_by : ℕ → List ℕ → Result Order ExError
order_by letter text = if nat_eq letter 115 then substitution text else deletion (nat_eq letter 118) text

-- what the letter asks for, behind the slash that ends the pattern
abbrev pub order_of : ℕ → Bool → List ℕ → Result Order ExError
order_of letter is_closed text = if is_closed then order_by letter text else Err BadFlags

-- the command of a letter and the text behind its slash
abbrev pub command_by : ℕ → List ℕ → Result Command ExError
command_by letter text = do
  tree ← pattern_of (parted text).pattern
  order ← order_of letter (parted text).is_closed (parted text).rest
  Ok (record { tree = tree; ignore = order.0; action = order.1 })

-- the command of a text, or the first cause against it
abbrev pub command_of : List ℕ → Result Command ExError
command_of text = command_by (get_or text 0 0) (drop 2 text)
