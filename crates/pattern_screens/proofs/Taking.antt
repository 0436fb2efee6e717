-- An atom that may not take what stands at a column doesn't take the character there.
use Rattle.pattern_screens.proofs.Common.{◌≡◌, ℕ, ◌≤◌, Bool, true, false, List, [], ◌∷◌, refl, sym, ap, ◌∙◌, arith, Option, Some, None, ◌||◌, ◌&&◌, not, nat_le, nat_lt, if◌then◌else◌, list_any, or_parts, nat_tests, class_holds, is_digit, is_printable, Sets, Atom, Char, Is, Set, turned_round, class_in_set, part_holds, plain_takes, takes, next_of, other_of, class_has_other, part_may_hold, may_take_other, takes_end, may_take}
use Rattle.char_class.specs.CharSet.{set_has}
use Rattle.char_class.specs.Folds.{is_same, range_holds}
use Rattle.syn_base.specs.declared.class.Class.{Class}
use Rattle.syn_base.specs.declared.class.Class.TheVariants.{Alpha, Lower, Upper, Ident, Keyword, File, Print, IdentNoDigit, KeywordNoDigit, FileNoDigit, PrintNoDigit}
use Rattle.pattern_items.specs.declared.atom.SetPart.{SetPart}
use Rattle.pattern_items.specs.declared.atom.SetPart.TheVariants.{Range, Of}
use Rattle.pattern_screens.specs.declared.key.Next.TheVariants as next

-- ---- characters from 256 on

same-sets : (a b : List ℕ) (c : ℕ) → 256 ≤ c → set_has a c ≡ set_has b c
unfolding set_has
same-sets a b c h = let z : nat_lt c 256 ≡ false = grind (arith, nat_tests) in rw z refl

no-digit : (b : Bool) (c : ℕ) → 256 ≤ c → (b && not (is_digit c)) ≡ b
no-digit true c h = grind (arith, nat_tests)
no-digit false c h = refl

all-printed : (c : ℕ) → 256 ≤ c → is_printable c ≡ true
all-printed c h = grind (arith, nat_tests)

other-class : (class : Class) (c : ℕ) (sets : Sets) → 256 ≤ c → class_holds class c sets ≡ class_has_other class (class_holds Keyword c sets)
other-class Ident c sets h = same-sets sets.ident sets.keyword c h
other-class Keyword c sets h = refl
other-class File c sets h = same-sets sets.file sets.keyword c h
other-class Print c sets h = all-printed c h
other-class IdentNoDigit c sets h = no-digit (set_has sets.ident c) c h ∙ same-sets sets.ident sets.keyword c h
other-class KeywordNoDigit c sets h = no-digit (set_has sets.keyword c) c h
other-class FileNoDigit c sets h = no-digit (set_has sets.file c) c h ∙ same-sets sets.file sets.keyword c h
other-class PrintNoDigit c sets h = no-digit (is_printable c) c h ∙ all-printed c h
other-class _ c sets h = grind (arith, nat_tests)

other-in-set : (class : Class) (c : ℕ) (sets : Sets) (ignore : Bool) → 256 ≤ c → class_in_set class c sets ignore ≡ class_has_other class (class_holds Keyword c sets)
other-in-set Lower c sets true h = other-class Alpha c sets h
other-in-set Upper c sets true h = other-class Alpha c sets h
other-in-set class c sets ignore h = other-class class c sets h

low-range : (low high c : ℕ) (ignore : Bool) → 256 ≤ c → (ignore || nat_le 256 high) ≡ false → range_holds low high c ignore ≡ false
unfolding range_holds
low-range low high c true h e = absurd (cc)
low-range low high c false h e = grind (arith, nat_tests, e)

part-not : (part : SetPart) (c : ℕ) (sets : Sets) (ignore : Bool) → 256 ≤ c → part_may_hold (class_holds Keyword c sets) ignore part ≡ false → part_holds part c sets ignore ≡ false
part-not (Range low high) c sets ignore h e = low-range low high c ignore h e
part-not (Of class) c sets ignore h e = other-in-set class c sets ignore h ∙ e
part-not _ c sets ignore h e = grind (arith, nat_tests)

parts-not : (parts : List SetPart) (c : ℕ) (sets : Sets) (ignore : Bool) → 256 ≤ c → list_any (part_may_hold (class_holds Keyword c sets) ignore) parts ≡ false → list_any (λ part. part_holds part c sets ignore) parts ≡ false
parts-not [] c sets ignore h e = refl
parts-not (part ∷ parts) c sets ignore h e =
    let k = or_parts (part_may_hold (class_holds Keyword c sets) ignore part) (list_any (part_may_hold (class_holds Keyword c sets) ignore) parts) e in
    λ i. part-not part c sets ignore h k.0 i || parts-not parts c sets ignore h k.1 i

low-character : (d c : ℕ) (ignore : Bool) → 256 ≤ c → (ignore || nat_le 256 d) ≡ false → is_same d c ignore ≡ false
unfolding is_same
low-character d c true h e = absurd (cc)
low-character d c false h e = grind (arith, nat_tests, e)

collection-not : (negative any : Bool) → negative ≡ false → any ≡ false → (if negative then not any else any) ≡ false
collection-not true any e h = absurd (cc)
collection-not false any e h = h

other-not : (sets : Sets) (ignore : Bool) (a : Atom) (c : ℕ) → 256 ≤ c → may_take_other (class_holds Keyword c sets) ignore a ≡ false → plain_takes sets ignore a c ≡ false
other-not sets ignore (Char d) c h e = low-character d c ignore h e
other-not sets ignore (Is class negative with_end) c h e = ap (turned_round negative) (other-class class c sets h) ∙ e
other-not sets ignore (Set ranges) c h e =
    let k = or_parts ranges.not (list_any (part_may_hold (class_holds Keyword c sets) ignore) ranges.parts) e in
    collection-not ranges.not (list_any (λ part. part_holds part c sets ignore) ranges.parts) k.0 (parts-not ranges.parts c sets ignore h k.1)
other-not sets ignore _ c h e = absurd (cc)

-- ---- what stands at a column

by-other : (sets : Sets) (ignore : Bool) (a : Atom) (keyword : Bool) → may_take sets ignore a (other_of keyword) ≡ may_take_other keyword ignore a
by-other sets ignore a true = refl
by-other sets ignore a false = refl

some-not : (sets : Sets) (ignore : Bool) (a : Atom) (c : ℕ) (low : Bool) → nat_lt c 256 ≡ low → may_take sets ignore a (next_of sets (Some c)) ≡ false → plain_takes sets ignore a c ≡ false
some-not sets ignore a c true is e = let k : next_of sets (Some c) ≡ next.Code c = rw is refl in ap (may_take sets ignore a) (sym k) ∙ e
some-not sets ignore a c false is e =
    let k : next_of sets (Some c) ≡ other_of (class_holds Keyword c sets) = rw is refl in
    other-not sets ignore a c (grind (arith, nat_tests, is)) (sym (by-other sets ignore a (class_holds Keyword c sets)) ∙ ap (may_take sets ignore a) (sym k) ∙ e)

pub not-taken : (sets : Sets) (ignore : Bool) (a : Atom) (o : Option ℕ) → may_take sets ignore a (next_of sets o) ≡ false → takes (takes_end a) (plain_takes sets ignore a) o ≡ false
not-taken sets ignore a None e = e
not-taken sets ignore a (Some c) e = some-not sets ignore a c (nat_lt c 256) refl e
