-- What the laws on items say of texts: one tree or one fault, and never both.
use Rattle.std.proofs.Common.{◌≡◌, ℕ, List, ◌⊎◌, inl, inr, ◌<◌, ◌≤◌, length, refl, sym, ◌∙◌, arith, Ok, Err, subst}
use Rattle.std.specs.Prelude.{Result, IfOk, IfErr, count_by}
use Rattle.std.specs.List.{list_any}
use Rattle.std.proofs.lemmas.Bool.{cases_lt}
use Rattle.pattern_items.specs.declared.cause.PatternCause.TheVariants as cause
use Rattle.pattern_items.specs.declared.item.PatternUse.{PatternUse}
use Rattle.pattern_items.specs.Place.{Item, items_of, is_counted, is_external}
use Rattle.vim_pattern.specs.declared.error.PatternError.{PatternError}
use Rattle.vim_pattern.specs.declared.error.PatternError.TheVariants.{At, Memory}
use Rattle.vim_pattern.specs.Shape.{Shape}
use Rattle.vim_pattern.specs.Tree.{PatternTree}
use Rattle.vim_pattern.specs.Grammar.{IsTree}
use Rattle.vim_pattern.specs.Fault.{Fault, fault_at, IsFault}
use Rattle.vim_pattern.specs.Pattern.{IsSummaryOf, IsTreeOf, HasFault, case_of, sets_match_start, holds_line_stop}
use Rattle.vim_pattern.specs.Answer.{TellsFault, HasNoTree}
use Rattle.vim_pattern.specs.Read.{read, start}
use Rattle.vim_pattern.specs.Built.{GivesTree}
use Rattle.vim_pattern.proofs.Faults as faults
use Rattle.vim_pattern.proofs.Faults.{Answers, read_answers}
use Rattle.vim_pattern.proofs.OneFault as one

-- a tree is known by its nodes and its summary
same_tree : (is : List Item) (t u : PatternTree) → t.node ≡ u.node → IsSummaryOf is t → IsSummaryOf is u → t ≡ u
same_tree is t u e h k =
    let case : t.case ≡ u.case = h.case ∙ sym k.case in
    let groups : t.groups ≡ u.groups = h.groups ∙ sym k.groups in
    let externals : t.externals ≡ u.externals = h.externals ∙ sym k.externals in
    let moves : t.moves_start ≡ u.moves_start = h.moves_start ∙ sym k.moves_start in
    let ends : t.line_end ≡ u.line_end = h.line_end ∙ sym k.line_end in
    λ i. record { node = e i; case = case i; groups = groups i; externals = externals i; moves_start = moves i; line_end = ends i }

pub one_tree : (text : List ℕ) (usage : PatternUse) (t u : PatternTree) → IsTreeOf text usage t → IsTreeOf text usage u → t ≡ u
one_tree text usage t u h k = same_tree (items_of usage text) t u (faults.one_tree (items_of usage text) t.node u.node h.nodes k.nodes) h.summary k.summary

pub one_fault : (text : List ℕ) (usage : PatternUse) (f g : Fault) → HasFault text usage f → HasFault text usage g → f ≡ g
one_fault text usage f g (inl h) (inl k) = h.1 ∙ sym k.1
one_fault text usage f g (inl h) (inr k) = absurd (let a : 4000 < length text = h.0 in let b : length text ≤ 4000 = k.0 in omega arith)
one_fault text usage f g (inr h) (inl k) = absurd (let a : 4000 < length text = k.0 in let b : length text ≤ 4000 = h.0 in omega arith)
one_fault text usage f g (inr h) (inr k) = one.one_fault h.1 k.1

pub not_both : (text : List ℕ) (usage : PatternUse) (t : PatternTree) (f : Fault) → IsTreeOf text usage t → HasFault text usage f → ⊥
not_both text usage t f h (inl k) = let a : length text ≤ 4000 = h.short in let b : 4000 < length text = k.0 in omega arith
not_both text usage t f h (inr k) = faults.not_both k.1 t.node h.nodes

-- the tree with these nodes and the items' summary
abbrev pub summarized : List Item → Shape → PatternTree
summarized is t = record {
  node = t;
  case = case_of is;
  groups = count_by (λ i. is_counted i.sign) is;
  externals = count_by (λ i. is_external i.sign) is;
  moves_start = list_any (λ i. sets_match_start i.sign) is;
  line_end = list_any (λ i. holds_line_stop i.sign) is;
}

short : (text : List ℕ) (usage : PatternUse) → length text ≤ 4000 → ((t : Shape) × IsTree (items_of usage text) t) ⊎ ((f : Fault) × IsFault (items_of usage text) f) →
    ((t : PatternTree) × IsTreeOf text usage t) ⊎ ((f : Fault) × HasFault text usage f)
short text usage few (inl h) = inl (
  summarized (items_of usage text) h.0,
  record {
    short = few;
    nodes = h.1;
    summary = record { case = refl; groups = refl; externals = refl; moves_start = refl; line_end = refl };
  },
)
short text usage few (inr h) = inr (h.0, inr (few, h.1))

by_length : (text : List ℕ) (usage : PatternUse) → (4000 < length text) ⊎ (length text ≤ 4000) → ((t : PatternTree) × IsTreeOf text usage t) ⊎ ((f : Fault) × HasFault text usage f)
by_length text usage (inl long) = inr (fault_at 4000 cause.TooLong, inl (long, refl))
by_length text usage (inr few) = short text usage few (one.tree_or_fault (items_of usage text))

pub tree_or_fault : (text : List ℕ) (usage : PatternUse) → ((t : PatternTree) × IsTreeOf text usage t) ⊎ ((f : Fault) × HasFault text usage f)
tree_or_fault text usage = by_length text usage (cases_lt 4000 (length text))

-- What a reading of the items gives is the text's tree or its fault.

pub gives_tree : (text : List ℕ) (usage : PatternUse) (r : Result PatternTree PatternError) → length text ≤ 4000 → GivesTree (items_of usage text) r (read (items_of usage text) start) →
    IfOk r (λ t. IsTreeOf text usage t)
gives_tree text usage (Ok t) few h = record { short = few; nodes = subst (λ v. Answers (items_of usage text) v) h.0 (read_answers (items_of usage text)); summary = h.1 }
gives_tree text usage (Err e) few h = tt

pub gives_fault : (text : List ℕ) (usage : PatternUse) (r : Result PatternTree PatternError) → length text ≤ 4000 → GivesTree (items_of usage text) r (read (items_of usage text) start) →
    IfErr r (λ e. TellsFault text usage e)
gives_fault text usage (Ok t) few h = tt
gives_fault text usage (Err (At n c)) few h = inr (few, subst (λ v. Answers (items_of usage text) v) h (read_answers (items_of usage text)))
gives_fault text usage (Err Memory) few h = tt

pub no_tree_of : (text : List ℕ) (usage : PatternUse) (e : PatternError) → TellsFault text usage e → HasNoTree text usage e
no_tree_of text usage (At n c) h = λ t k. not_both text usage t (fault_at n c) k h
no_tree_of text usage Memory h = tt

pub no_tree : (text : List ℕ) (usage : PatternUse) (r : Result PatternTree PatternError) → IfErr r (λ e. TellsFault text usage e) → IfErr r (λ e. HasNoTree text usage e)
no_tree text usage (Ok t) h = tt
no_tree text usage (Err e) h = no_tree_of text usage e h
