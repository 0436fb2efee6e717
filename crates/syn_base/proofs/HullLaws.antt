-- The hull of two ranges of lines: in any order, in any grouping, and once alone.
use Rattle.std.proofs.Common.{◌≡◌, Bool, true, false, refl, ap, ◌∙◌, sym, arith}
use Rattle.std.specs.Prelude.{ℤ, ◌+ℤ◌, ◌||◌}
use Rattle.std.proofs.lemmas.Int.{ints}
use Rattle.std.proofs.Math.Bool.{or_assoc, or_comm, or_self}
use Rattle.syn_base.specs.declared.looked.Looked.{Looked}
use Rattle.syn_base.specs.Looked.{greater, hull_of, lesser, moved_by}

lesser_comm : (a b : ℤ) → lesser a b ≡ lesser b a
lesser_comm a b = grind (arith, ints)

greater_comm : (a b : ℤ) → greater a b ≡ greater b a
greater_comm a b = grind (arith, ints)

lesser_assoc : (a b c : ℤ) → lesser (lesser a b) c ≡ lesser a (lesser b c)
lesser_assoc a b c = grind (arith, ints)

greater_assoc : (a b c : ℤ) → greater (greater a b) c ≡ greater a (greater b c)
greater_assoc a b c = grind (arith, ints)

lesser_self : (a : ℤ) → lesser a a ≡ a
lesser_self a = grind (arith, ints)

greater_self : (a : ℤ) → greater a a ≡ a
greater_self a = grind (arith, ints)

lesser_moved : (a b by : ℤ) → lesser (a +ℤ by) (b +ℤ by) ≡ lesser a b +ℤ by
lesser_moved a b by = grind (arith, ints)

greater_moved : (a b by : ℤ) → greater (a +ℤ by) (b +ℤ by) ≡ greater a b +ℤ by
greater_moved a b by = grind (arith, ints)

pub hull_comm : (a b : Looked) → hull_of a b ≡ hull_of b a
hull_comm a b = λ i. record {
  low = lesser_comm a.low b.low i;
  high = greater_comm a.high b.high i;
  numbered = or_comm a.numbered b.numbered i;
}

pub hull_assoc : (a b c : Looked) → hull_of (hull_of a b) c ≡ hull_of a (hull_of b c)
hull_assoc a b c = λ i. record {
  low = lesser_assoc a.low b.low c.low i;
  high = greater_assoc a.high b.high c.high i;
  numbered = or_assoc a.numbered b.numbered c.numbered i;
}

pub hull_self : (a : Looked) → hull_of a a ≡ a
hull_self a = λ i. record {
  low = lesser_self a.low i;
  high = greater_self a.high i;
  numbered = or_self a.numbered i;
}

-- what was taken in once is taken in
pub hull_again : (a b : Looked) → hull_of (hull_of a b) b ≡ hull_of a b
hull_again a b = hull_assoc a b b ∙ ap (hull_of a) (hull_self b)

-- two hulls with the same range are the hull of both with that range
pub hull_twice : (a b m : Looked) → hull_of (hull_of a m) (hull_of b m) ≡ hull_of (hull_of a b) m
hull_twice a b m =
    hull_assoc a m (hull_of b m)
    ∙ ap (hull_of a) (hull_comm m (hull_of b m) ∙ hull_again b m)
    ∙ sym (hull_assoc a b m)

pub hull_moved : (a b : Looked) (by : ℤ) →
    hull_of (moved_by a by) (moved_by b by) ≡ moved_by (hull_of a b) by
hull_moved a b by = λ i. record {
  low = lesser_moved a.low b.low by i;
  high = greater_moved a.high b.high by i;
  numbered = a.numbered || b.numbered;
}

-- a number that one of both looked at
pub either_left : (a b : Bool) → a ≡ true → (a || b) ≡ true
either_left true b h = refl
either_left false b h = absurd (cc)

pub either_right : (a b : Bool) → b ≡ true → (a || b) ≡ true
either_right true b h = refl
either_right false b h = h
