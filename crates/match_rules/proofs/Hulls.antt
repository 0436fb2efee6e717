-- Hulls of lines, moved and covered.
use Rattle.std.proofs.Common.{◌≡◌, ap, ◌∙◌, arith}
use Rattle.std.specs.Prelude.{ℤ, ◌+ℤ◌, ◌≤ℤ◌}
use Rattle.std.proofs.lemmas.Int.{ints}
use Rattle.syn_base.specs.declared.looked.Looked.{Looked}
use Rattle.syn_base.specs.Looked.{hull_of, moved_by, one_line}
use Rattle.syn_base.proofs.HullLaws.{either_left, either_right, hull_moved}
use Rattle.match_rules.proofs.Sides.{Two, AgreesOver}

pub low_least : (a b : Looked) → ((hull_of a b).low ≤ℤ a.low) × ((hull_of a b).low ≤ℤ b.low)
low_least a b = (grind (arith, ints), grind (arith, ints))

pub high_most : (a b : Looked) → (a.high ≤ℤ (hull_of a b).high) × (b.high ≤ℤ (hull_of a b).high)
high_most a b = (grind (arith, ints), grind (arith, ints))

-- a line, moved, is one line
pub one_line-moved : (a b d : ℤ) → b ≡ a +ℤ d → one_line b ≡ moved_by (one_line a) d
one_line-moved a b d h = ap one_line h

-- the hull of two ranges that are moved alike
pub hull-both : (a b a' b' : Looked) (d : ℤ) → a' ≡ moved_by a d → b' ≡ moved_by b d →
    hull_of a' b' ≡ moved_by (hull_of a b) d
hull-both a b a' b' d h k =
    ap (λ l. hull_of l b') h ∙ (ap (λ l. hull_of (moved_by a d) l) k ∙ hull_moved a b d)

-- texts that agree on a hull agree on both its parts
pub hull-parts : (two : Two) (a b : Looked) → AgreesOver two (hull_of a b) →
    AgreesOver two a × AgreesOver two b
hull-parts two a b ok =
    let l = low_least a b in
    let h = high_most a b in (
      record {
        unmoved = λ k. ok.unmoved (either_left a.numbered b.numbered k);
        each_line = λ k x y. ok.each_line k (omega (arith, ints, l.0))
            (omega (arith, ints, h.0));
      },
      record {
        unmoved = λ k. ok.unmoved (either_right a.numbered b.numbered k);
        each_line = λ k x y. ok.each_line k (omega (arith, ints, l.1))
            (omega (arith, ints, h.1));
      },
    )
