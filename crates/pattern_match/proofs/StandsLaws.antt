-- A node in place of another, under the same parts.
use Rattle.std.proofs.Common.{◌≡◌, false, List, [], ◌∷◌, ◌++◌, refl, ap, subst, ◌∙◌}
use Rattle.std.specs.Prelude.{None, if◌then◌else◌}
use Rattle.vim_pattern.specs.declared.parted.Pair.{Pair}
use Rattle.vim_pattern.specs.declared.parted.Pair.TheVariants as pair
use Rattle.vim_pattern.specs.declared.parted.Wrap.{Wrap}
use Rattle.vim_pattern.specs.declared.parted.Wrap.TheVariants as wrap
use Rattle.vim_pattern.specs.Parted.{paired, wrapped}
use Rattle.vim_pattern.specs.Shape.{Shape, seq, or, and}
use Rattle.match_rules.specs.Ways.{Context}
use Rattle.match_rules.specs.Marks.{followed, ticks_first, first_way, reach_if}
use Rattle.match_rules.specs.Counts.{turns}
use Rattle.match_rules.specs.Looks.{look, tried_behind}
use Rattle.match_rules.specs.Visits.{visits, noted, noted_external}
use Rattle.pattern_screens.specs.FirstAtoms.{both_lists, first_atoms, is_forced}
use Rattle.pattern_match.specs.declared.ready.Above.{Above}
use Rattle.pattern_match.specs.declared.ready.Above.TheVariants as above
use Rattle.pattern_match.specs.LastParts.{over, all_over}
use Rattle.pattern_match.specs.Steps.{shape_of}
use Rattle.pattern_match.specs.StandsFor.{StandsFor}
use Rattle.pattern_match.proofs.LastPartLaws.{over_last}

pub stands_itself : (s : Shape) → StandsFor s s
stands_itself s = record { same = λ x w. refl; numbers = λ h. h; first = refl }

pub stands_through : (r s t : Shape) → StandsFor r s → StandsFor s t → StandsFor r t
stands_through r s t h k = record {
  same = λ x w. h.same x w ∙ k.same x w;
  numbers = λ n. h.numbers (k.numbers n);
  first = h.first ∙ k.first;
}

-- ---- first parts

module _ (a b t : Shape) (h : StandsFor a b) where
  first_of_seq : StandsFor (seq a t) (seq b t)
  first_of_seq = record {
    same = λ x w. ap (λ m. followed m (visits x t)) (h.same x w);
    numbers = λ n. (h.numbers n.0, n.1);
    first = h.first;
  }

  first_of_or : StandsFor (or a t) (or b t)
  first_of_or = record {
    same = λ x w. ap (λ m. m ++ visits x t w) (h.same x w);
    numbers = λ n. (h.numbers n.0, n.1);
    first = ap (λ o. both_lists o (first_atoms t)) h.first;
  }

  first_of_and : StandsFor (and a t) (and b t)
  first_of_and = record {
    same = λ x w. ap (λ m. followed (look false w m) (visits x t)) (h.same x w);
    numbers = λ n. (h.numbers n.0, n.1);
    first = refl;
  }

  pub first_of_pair : (pair : Pair) → StandsFor (paired pair a t) (paired pair b t)
  first_of_pair pair.Seq = first_of_seq
  first_of_pair pair.Or = first_of_or
  first_of_pair pair.And = first_of_and

pub stands_same : (s t : Shape) → s ≡ t → StandsFor s t
stands_same s t e = subst (StandsFor s) e (stands_itself s)

-- a node whose first part was made ready
pub opened_two : (pair : Pair) (made a b node : Shape) → StandsFor made a → paired pair a b ≡ node → StandsFor (paired pair made b) node
opened_two pair made a b node h e = subst (StandsFor (paired pair made b)) e (first_of_pair made a b h pair)

-- ---- last parts

module _ (s t : Shape) (h : StandsFor s t) where
  visits-same : (x : Context) → visits x s ≡ visits x t
  visits-same x = λ i w. h.same x w i

  pub last_of_pair : (pair : Pair) (a : Shape) → StandsFor (paired pair a s) (paired pair a t)
  last_of_pair pair.Seq a = record {
    same = λ x w. ap (λ f. followed (visits x a w) f) (visits-same x);
    numbers = λ n. (n.0, h.numbers n.1);
    first = refl;
  }
  last_of_pair pair.Or a = record {
    same = λ x w. ap (λ m. visits x a w ++ m) (h.same x w);
    numbers = λ n. (n.0, h.numbers n.1);
    first = ap (both_lists (first_atoms a)) h.first;
  }
  last_of_pair pair.And a = record {
    same = λ x w. ap (λ f. followed (look false w (visits x a w)) f) (visits-same x);
    numbers = λ n. (n.0, h.numbers n.1);
    first = refl;
  }

  pub under_stands : (wrap : Wrap) → StandsFor (wrapped wrap s) (wrapped wrap t)
  under_stands (wrap.Group number) = record {
    same = λ x w. ap (λ m. followed m (noted number w.at)) (h.same x w);
    numbers = λ n. (n.0, h.numbers n.1);
    first = h.first;
  }
  under_stands (wrap.External number) = record {
    same = λ x w. ap (λ m. followed m (noted_external number w.at)) (h.same x w);
    numbers = λ n. (n.0, h.numbers n.1);
    first = h.first;
  }
  under_stands (wrap.Repeat least most lazy) = record {
    same = λ x w. ap (λ f. turns x.text f lazy least most w) (visits-same x);
    numbers = h.numbers;
    first = ap (λ o. if is_forced least most then o else None) h.first;
  }
  under_stands (wrap.Ahead negative) = record {
    same = λ x w. ap (look negative w) (h.same x w);
    numbers = h.numbers;
    first = refl;
  }
  under_stands (wrap.Before negative limit) = record {
    same = λ x w. ap (λ f. look negative w (tried_behind x.text f limit w)) (visits-same x);
    numbers = h.numbers;
    first = refl;
  }
  under_stands wrap.Whole = record {
    same = λ x w. ap (λ m. ticks_first m ++ reach_if (first_way m)) (h.same x w);
    numbers = h.numbers;
    first = refl;
  }

  pub over_stands : (a : Above) → StandsFor (over a s) (over a t)
  over_stands (above.Two pair a) = last_of_pair pair (shape_of a.step)
  over_stands (above.One wrap) = under_stands wrap

pub all_over_stands : (all : List Above) (s t : Shape) → StandsFor s t →
    StandsFor (all_over all s) (all_over all t)
all_over_stands [] s t h = h
all_over_stands (a ∷ below) s t h =
    over_stands (all_over below s) (all_over below t) (all_over_stands below s t h) a

-- one part less at the lower end: what stands for it with the node below goes on for the whole
pub stands_lower : (all : List Above) (a : Above) (s t node : Shape) → StandsFor s (over a t) →
    StandsFor (all_over (all ++ (a ∷ [])) t) node → StandsFor (all_over all s) node
stands_lower all a s t node h k =
    stands_through (all_over all s) (all_over all (over a t)) node
    (all_over_stands all s (over a t) h) (rw (over_last all a t) at k)

-- one part more at the lower end
pub stands_all : (all : List Above) (a : Above) (t node top : Shape) → StandsFor (over a t) node →
    StandsFor (all_over all node) top → StandsFor (all_over (all ++ (a ∷ [])) t) top
stands_all all a t node top h k =
    stands_through (all_over (all ++ (a ∷ [])) t) (all_over all node) top
    (rw (over_last all a t) (all_over_stands all (over a t) node h)) k

-- a leaf at the lower end
pub stands_leaf : (all : List Above) (made leaf node top : Shape) →
    StandsFor made (all_over all leaf) → StandsFor leaf node → StandsFor (all_over all node) top →
    StandsFor made top
stands_leaf all made leaf node top h k l =
    stands_through made (all_over all leaf) top h
    (stands_through (all_over all leaf) (all_over all node) top (all_over_stands all leaf node k) l)
