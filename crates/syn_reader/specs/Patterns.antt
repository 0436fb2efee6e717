-- The patterns of items (Vim's help, :syn-pattern), each with its tree, or with the fault of its text.
use Rattle.std.specs.Prelude.{ℕ, nat_eq, min, List, [], ◌∷◌, ◌++◌, length, Option, Some, None, false, if◌then◌else◌, Result, Ok, Err, pos}
use Rattle.pattern_items.specs.declared.item.PatternUse.{PatternUse}
use Rattle.pattern_items.specs.declared.item.PatternUse.TheVariants as usage
use Rattle.vim_pattern.specs.Tree.{PatternTree}
use Rattle.vim_pattern.specs.Fault.{Fault}
pub use Rattle.vim_pattern.specs.TreeOf.{tree_with, tree_by, tree_of}
use Rattle.syntax_set.specs.declared.item.Offset.{Offset}
use Rattle.syntax_set.specs.declared.item.Pattern.{Pattern}
use Rattle.syn_words.specs.declared.cause.Cause.{Cause}
use Rattle.syn_words.specs.declared.cause.Cause.TheVariants as cause
use Rattle.syn_words.specs.declared.what.Role.{Role}
use Rattle.syn_words.specs.declared.what.Role.TheVariants as role
use Rattle.syn_words.specs.declared.what.Quoted.{Quoted}
use Rattle.syn_reader.specs.Answers.{◌>>=◌}

abbrev pub or_cause : {A : Type 0} → Result A Fault → Result A Cause
or_cause (Ok x) = Ok x
or_cause (Err fault) = Err (cause.Pattern fault.at fault.cause)

-- the tree of a text, or the cause of its refusal
abbrev pub tree_at : List ℕ → PatternUse → Result PatternTree Cause
tree_at text use_ = or_cause (tree_of text use_)

abbrev pub use_of : Role → PatternUse
use_of role.Match = usage.Match
use_of role.Start = usage.Start
use_of role.Skip = usage.SkipOrEnd
use_of role.End = usage.SkipOrEnd

-- so many characters behind the start; `lc` is at most 65,535
abbrev pub behind_start : ℕ → Option Offset
behind_start lc = if nat_eq lc 0 then None else Some (record { from_end = false; by = pos (min lc 65535) })

-- `lc` sets `ms`, unless that is given
abbrev pub match_start : Option Offset → ℕ → Option Offset
match_start (Some ms) lc = Some ms
match_start None lc = behind_start lc

-- the pattern of this number
abbrev pub pattern_of : ℕ → PatternTree → Quoted → Pattern
pattern_of number tree quoted = record {
  id = record { 0 = number };
  tree = tree;
  ms = match_start quoted.ms quoted.lc;
  me = quoted.me;
  hs = quoted.hs;
  he = quoted.he;
  rs = quoted.rs;
  re = quoted.re;
  lc = quoted.lc;
  matchgroup = None;
  excludenl = false;
}

-- a pattern is read and put behind those that there are
abbrev pub pattern_read : List PatternTree → Role → Quoted → Result (Pattern × List PatternTree) Cause
pattern_read patterns r quoted = do
  tree ← tree_at quoted.text (use_of r)
  Ok (pattern_of (length patterns) tree quoted, patterns ++ tree ∷ [])
