-- Patterns of names (Vim's help, :syn-contains): one stands for the groups whose whole name it matches, case ignored unless
-- it says otherwise.
use Rattle.std.specs.Prelude.{ℕ, suc, nat_lt, Bool, true, false, List, [], ◌∷◌, ◌++◌, is_some, replicate, if◌then◌else◌, Result, Ok, Err, chars}
use Rattle.syn_base.specs.declared.places.GroupId.{GroupId}
use Rattle.pattern_items.specs.declared.atom.Atom.TheVariants.{FileStop}
use Rattle.pattern_items.specs.declared.item.PatternUse.TheVariants.{Names}
use Rattle.vim_pattern.specs.Tree.{PatternTree}
use Rattle.vim_pattern.specs.Shape.{seq, one}
use Rattle.match_rules.specs.Ways.{Context, place}
use Rattle.match_rules.specs.Attempt.{Answer, attempt}
use Rattle.pattern_match.specs.declared.answer.Attempt.{Attempt}
use Rattle.pattern_match.specs.declared.answer.Attempt.TheVariants.{Found, Absent, TooCostly}
use Rattle.syntax_set.specs.Groups.{group_numbered}
use Rattle.syn_words.specs.declared.cause.Cause.{Cause}
use Rattle.syn_words.specs.declared.cause.Cause.TheVariants.{CostlyNames}
use Rattle.syn_reader.specs.Answers.{◌>>=◌}
use Rattle.syn_reader.specs.Patterns.{tree_at}
use Rattle.syn_reader.specs.UsualSets.{usual_sets}

-- a pattern that matches up to the end of the text
abbrev pub to_the_end : PatternTree → PatternTree
to_the_end tree = record tree { node = seq tree.node (one FileStop) }

-- a text of one line
abbrev pub name_context : List ℕ → Context
name_context name = record { text = name ∷ []; ignore = true; sets = usual_sets; externals = replicate 9 [] }

abbrev pub name_answer : PatternTree → List ℕ → Answer
name_answer whole name = attempt whole (name_context name) (place 0 0)

-- whether there is a way, within a budget of 1,000,000 ticks
abbrev pub is_matched : Answer → Result Bool Cause
is_matched answer = if nat_lt 1000000 answer.cost then Err CostlyNames else Ok (is_some answer.way)

-- what an attempt tells of that
abbrev pub is_found : Attempt → Result Bool Cause
is_found (Found match looked) = Ok true
is_found (Absent looked) = Ok false
is_found TooCostly = Err CostlyNames

abbrev pub has_name : PatternTree → List ℕ → Result Bool Cause
has_name whole name = is_matched (name_answer whole name)

abbrev pub with_if : List GroupId → ℕ → Bool → List GroupId
with_if found number matched = if matched then found ++ group_numbered number ∷ [] else found

-- the groups so far, with that of this number and name if a whole pattern stands for it
abbrev pub with_tried : PatternTree → List GroupId → ℕ → List ℕ → Result (List GroupId) Cause
with_tried whole found number name = has_name whole (chars name) >>= λ matched. Ok (with_if found number matched)

-- the groups from this number on that a whole pattern stands for, behind those so far
abbrev pub matching_after : PatternTree → List GroupId → ℕ → List (List ℕ) → Result (List GroupId) Cause
matching_after whole found number [] = Ok found
matching_after whole found number (name ∷ names) = do
  more ← with_tried whole found number name
  matching_after whole more (suc number) names

-- the groups of these names that a pattern stands for
abbrev pub matching : List (List ℕ) → List ℕ → Result (List GroupId) Cause
matching groups text = do
  tree ← tree_at text Names
  matching_after (to_the_end tree) [] 0 groups
