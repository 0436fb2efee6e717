-- What one attempt at a name says of the rule for patterns of names.
use Rattle.std.proofs.Common.{◌≡◌, ◌<◌, ℕ, suc, List, [], length, drop, ap, sym, ◌∙◌}
use Rattle.std.proofs.Math.Seq.{drop-cons}
use Rattle.std.proofs.lemmas.Option.{unwrap_or-slice_get}
use Rattle.std.specs.Prelude.{Result, Ok}
use Rattle.syn_base.specs.declared.places.GroupId.{GroupId}
use Rattle.pattern_items.specs.declared.item.PatternUse.TheVariants.{Names}
use Rattle.vim_pattern.specs.Tree.{PatternTree}
use Rattle.syntax_set.specs.Groups.{group_numbered, name_of}
use Rattle.syn_words.specs.declared.cause.Cause.{Cause}
use Rattle.syn_reader.specs.declared.refusal.Refusal.{Refusal}
use Rattle.syn_reader.specs.declared.refusal.Refusal.TheVariants.{Fault, Memory}
use Rattle.syn_reader.specs.Answers.{◌>>=◌, FailsAs}
use Rattle.syn_reader.specs.Patterns.{tree_at}
use Rattle.syn_reader.specs.PatternsOfNames.{to_the_end, with_tried, matching_after, matching}

step : (whole : PatternTree) (found : List GroupId) (names : List (List ℕ)) (n : ℕ) → n < length names
    → matching_after whole found n (drop n names)
    ≡ (with_tried whole found n (name_of names (group_numbered n)) >>= λ more. matching_after whole more (suc n) (drop (suc n) names))
step whole found names n within =
    ap (matching_after whole found n) (drop-cons names n [] within)
    ∙ ap (λ name. with_tried whole found n name >>= λ more. matching_after whole more (suc n) (drop (suc n) names)) (sym (unwrap_or-slice_get names n []))

-- one group more is tried
pub one_tried : (whole : PatternTree) (found more : List GroupId) (names : List (List ℕ)) (n : ℕ) (all : Result (List GroupId) Cause) → n < length names
    → matching_after whole found n (drop n names) ≡ all → with_tried whole found n (name_of names (group_numbered n)) ≡ Ok more
    → matching_after whole more (suc n) (drop (suc n) names) ≡ all
one_tried whole found more names n all within h k =
    ap (λ r. r >>= λ fs. matching_after whole fs (suc n) (drop (suc n) names)) (sym k) ∙ sym (step whole found names n within) ∙ h

-- the first that is refused ends all
pub one_refused : (whole : PatternTree) (found : List GroupId) (names : List (List ℕ)) (n : ℕ) (all : Result (List GroupId) Cause) (e : Refusal) → n < length names
    → matching_after whole found n (drop n names) ≡ all → FailsAs e (with_tried whole found n (name_of names (group_numbered n))) → FailsAs e all
one_refused whole found names n all (Fault c) within h k =
    sym h ∙ step whole found names n within ∙ ap (λ r. r >>= λ fs. matching_after whole fs (suc n) (drop (suc n) names)) k
one_refused whole found names n all Memory within h k = tt

-- all groups, where the tree of the text is known
pub matched_by : (groups : List (List ℕ)) (text : List ℕ) (tree whole : PatternTree) → tree_at text Names ≡ Ok tree → whole ≡ to_the_end tree
    → matching_after whole [] 0 groups ≡ matching groups text
matched_by groups text tree whole h k =
    ap (λ w. matching_after w [] 0 groups) k ∙ ap (λ r. r >>= λ t. matching_after (to_the_end t) [] 0 groups) (sym h)
