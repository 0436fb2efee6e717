-- What is known piece by piece, and branch by branch, is what is known of the whole.
use Rattle.std.proofs.Common.{◌≡◌, ◌++◌, ℕ, Bool, true, false, List, [], ◌∷◌, refl, sym, ap, ◌∙◌}
use Rattle.std.specs.Prelude.{Option, Some, None, ◌&&◌, ◌||◌, not, if◌then◌else◌}
use Rattle.std.specs.List.{list_any}
use Rattle.char_class.specs.declared.sets.Sets.{Sets}
use Rattle.pattern_items.specs.declared.atom.Atom.{Atom}
use Rattle.pattern_screens.specs.FirstAtoms.{both_lists}
use Rattle.pattern_screens.specs.PlainAtoms.{plain_takes}
use Rattle.pattern_needs.specs.Asking.{asked_of, both_asked, comes_first, either_asked, rather_asked}
use Rattle.pattern_needs.specs.Needs.{are_characters, is_character, rather}
use Rattle.pattern_needs.specs.declared.asked.Asked.{Asked}

or-assoc : (a b c : Bool) → ((a || b) || c) ≡ (a || (b || c))
or-assoc true b c = refl
or-assoc false b c = refl

and-assoc : (a b c : Bool) → ((a && b) && c) ≡ (a && (b && c))
and-assoc true b c = refl
and-assoc false b c = refl

any-both : (f : Atom → Bool) (a b : List Atom) → list_any f (a ++ b) ≡ (list_any f a || list_any f b)
any-both f [] b = refl
any-both f (x ∷ a) b = ap (λ t. f x || t) (any-both f a b) ∙ sym (or-assoc (f x) (list_any f a) (list_any f b))

characters-both : (a b : List Atom) → are_characters (a ++ b) ≡ (are_characters a && are_characters b)
characters-both [] b = refl
characters-both (x ∷ a) b = ap (λ t. is_character x && t) (characters-both a b) ∙ sym (and-assoc (is_character x) (are_characters a) (are_characters b))

-- ---- one atom

single : (b : Bool) → (b || false) ≡ b
single true = refl
single false = refl

sole : (b : Bool) → (b && true) ≡ b
sole true = refl
sole false = refl

pub asked-one : (sets : Sets) (ignore : Bool) (c : ℕ) (a : Atom) (takes characters : Bool) → takes ≡ plain_takes sets ignore a c → characters ≡ is_character a →
    Some (record { takes = takes; characters = characters }) ≡ asked_of sets ignore c (Some (a ∷ []))
asked-one sets ignore c a takes characters h k = λ i. Some (record {
  takes = (h ∙ sym (single (plain_takes sets ignore a c))) i;
  characters = (k ∙ sym (sole (is_character a))) i;
})

-- ---- two parts

module _ (sets : Sets) (ignore : Bool) (c : ℕ) where
  abbrev Of : Option (List Atom) → Option Asked
  Of o = asked_of sets ignore c o

  if-rarer : (a b : List Atom) (t : Bool) → Of (Some (if t then a else b)) ≡ (if t then Of (Some a) else Of (Some b))
  if-rarer a b true = refl
  if-rarer a b false = refl

  pub asked-rather : (o r : Option (List Atom)) → Of (rather o r) ≡ rather_asked (Of o) (Of r)
  asked-rather None r = refl
  asked-rather (Some a) None = refl
  asked-rather (Some a) (Some b) = if-rarer a b (are_characters a && not (are_characters b))

  pub asked-both : (o r : Option (List Atom)) → Of (both_lists o r) ≡ either_asked (Of o) (Of r)
  asked-both None r = refl
  asked-both (Some a) None = refl
  asked-both (Some a) (Some b) = λ i. Some (record {
    takes = any-both (λ d. plain_takes sets ignore d c) a b i;
    characters = characters-both a b i;
  })

-- ---- piece by piece

abbrev told : Bool → Bool → Asked
told takes characters = record { takes = takes; characters = characters }

two-and-none : (s t p q : Bool) → rather_asked (rather_asked (Some (told s p)) (Some (told t q))) None ≡ rather_asked (Some (told s p)) (Some (told t q))
two-and-none s t true true = refl
two-and-none s t true false = refl
two-and-none s t false true = refl
two-and-none s t false false = refl

three : (s t u p q r : Bool) → rather_asked (rather_asked (Some (told s p)) (Some (told t q))) (Some (told u r)) ≡ rather_asked (Some (told s p)) (rather_asked (Some (told t q)) (Some (told u r)))
three s t u true true true = refl
three s t u true true false = refl
three s t u true false true = refl
three s t u true false false = refl
three s t u false true true = refl
three s t u false true false = refl
three s t u false false true = refl
three s t u false false false = refl

rather-assoc : (k a b : Option Asked) → rather_asked (rather_asked k a) b ≡ rather_asked k (rather_asked a b)
rather-assoc None a b = refl
rather-assoc (Some k) None b = refl
rather-assoc (Some k) (Some a) None = two-and-none k.takes a.takes k.characters a.characters
rather-assoc (Some k) (Some a) (Some b) = three k.takes a.takes b.takes k.characters a.characters b.characters

pub piece-more : (sets : Sets) (ignore : Bool) (c : ℕ) (known : Option Asked) (o r : Option (List Atom)) →
    rather_asked (rather_asked known (asked_of sets ignore c o)) (asked_of sets ignore c r) ≡ rather_asked known (asked_of sets ignore c (rather o r))
piece-more sets ignore c known o r =
    rather-assoc known (asked_of sets ignore c o) (asked_of sets ignore c r) ∙ ap (rather_asked known) (sym (asked-rather sets ignore c o r))

-- ---- the better of two

pub first-kept : (sets : Sets) (ignore : Bool) (c : ℕ) (o r : Option (List Atom)) → comes_first (asked_of sets ignore c o) (asked_of sets ignore c r) ≡ true → o ≡ rather o r
first-kept sets ignore c None r e = absurd (cc)
first-kept sets ignore c (Some a) None e = refl
first-kept sets ignore c (Some a) (Some b) e = ap (λ t. Some (if t then a else b)) (sym e)

pub second-kept : (sets : Sets) (ignore : Bool) (c : ℕ) (o r : Option (List Atom)) → comes_first (asked_of sets ignore c o) (asked_of sets ignore c r) ≡ false → r ≡ rather o r
second-kept sets ignore c None r e = refl
second-kept sets ignore c (Some a) None e = absurd (cc)
second-kept sets ignore c (Some a) (Some b) e = ap (λ t. Some (if t then a else b)) (sym e)

-- ---- branch by branch

either-assoc : (k a : Asked) (o : Option Asked) → either_asked (Some (both_asked k a)) o ≡ either_asked (Some k) (either_asked (Some a) o)
either-assoc k a None = refl
either-assoc k a (Some b) = λ i. Some (record { takes = or-assoc k.takes a.takes b.takes i; characters = and-assoc k.characters a.characters b.characters i })

pub branch-more : (sets : Sets) (ignore : Bool) (c : ℕ) (known a : Asked) (o r : Option (List Atom)) → asked_of sets ignore c o ≡ Some a →
    either_asked (Some (both_asked known a)) (asked_of sets ignore c r) ≡ either_asked (Some known) (asked_of sets ignore c (both_lists o r))
branch-more sets ignore c known a o r e =
    either-assoc known a (asked_of sets ignore c r)
    ∙ ap (either_asked (Some known)) (ap (λ t. either_asked t (asked_of sets ignore c r)) (sym e) ∙ sym (asked-both sets ignore c o r))

pub branch-none : (sets : Sets) (ignore : Bool) (c : ℕ) (known : Asked) (o r : Option (List Atom)) → asked_of sets ignore c o ≡ None →
    either_asked (Some known) (asked_of sets ignore c (both_lists o r)) ≡ None
branch-none sets ignore c known o r e =
    ap (either_asked (Some known)) (asked-both sets ignore c o r ∙ ap (λ t. either_asked t (asked_of sets ignore c r)) e)

pub branch-first : (sets : Sets) (ignore : Bool) (c : ℕ) (a : Asked) (o r : Option (List Atom)) → asked_of sets ignore c o ≡ Some a →
    either_asked (Some a) (asked_of sets ignore c r) ≡ asked_of sets ignore c (both_lists o r)
branch-first sets ignore c a o r e = ap (λ t. either_asked t (asked_of sets ignore c r)) (sym e) ∙ sym (asked-both sets ignore c o r)

pub branch-unknown : (sets : Sets) (ignore : Bool) (c : ℕ) (o r : Option (List Atom)) → asked_of sets ignore c o ≡ None →
    asked_of sets ignore c (both_lists o r) ≡ None
branch-unknown sets ignore c o r e = asked-both sets ignore c o r ∙ ap (λ t. either_asked t (asked_of sets ignore c r)) e

pub ruleset askings = (asked-one, asked-rather, asked-both, branch-first, branch-unknown)

pub ruleset choices = (first-kept, second-kept)

pub ruleset pieces = (piece-more)

pub ruleset branches = (branch-more, branch-none)
