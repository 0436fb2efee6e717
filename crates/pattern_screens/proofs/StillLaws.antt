-- What is known part by part is what is known of the whole.
use Rattle.pattern_screens.proofs.Common.{◌≡◌, Bool, true, false, refl, ap, Option, Some, None, ◌&&◌, if◌then◌else◌, Still, then_still, or_still, mapped, both, in_turn}
use Rattle.std.proofs.Math.Bool.{and_assoc, or_assoc}

then-assoc : (a b c : Still) → then_still (then_still a b) c ≡ then_still a (then_still b c)
then-assoc a b c = λ i. record { reaches = and_assoc a.reaches b.reaches c.reaches i; surely = and_assoc a.surely b.surely c.surely i }

or-still-assoc : (a b c : Still) → or_still (or_still a b) c ≡ or_still a (or_still b c)
or-still-assoc a b c = λ i. record { reaches = or_assoc a.reaches b.reaches c.reaches i; surely = or_assoc a.surely b.surely c.surely i }

turn-by : (s a : Still) (o : Option Still) (p q : Bool) → p ≡ true →
    (if (p && q) then mapped (then_still (then_still s a)) o else Some (then_still s a)) ≡ (if p then mapped (then_still s) (if q then mapped (then_still a) o else Some a) else Some s)
turn-by s a None true true e = refl
turn-by s a (Some b) true true e = ap (λ t. Some t) (then-assoc s a b)
turn-by s a o true false e = refl
turn-by s a o false q e = absurd (cc)

-- one part more that is known, of a sequence
pub turn-in-turn : (s a : Still) (o : Option Still) → s.reaches ≡ true → in_turn (then_still s a) o ≡ in_turn s (in_turn a o)
turn-in-turn s a o e = turn-by s a o s.reaches a.reaches e

-- and of a choice
pub either-or : (s a : Still) (o : Option Still) → both or_still (Some (or_still s a)) o ≡ both or_still (Some s) (both or_still (Some a) o)
either-or s a None = refl
either-or s a (Some b) = ap (λ t. Some t) (or-still-assoc s a b)

pub ruleset turns = (turn-in-turn)

pub ruleset eithers = (either-or)
