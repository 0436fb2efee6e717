-- The spelling of items agrees with the table of the levels.
use Rattle.std.proofs.Common.{◌≡◌, ℕ, ◌+◌, ◌≤◌, List, [], ◌∷◌, Bool, true, false, None, refl, ap, ◌∙◌, arith}
use Rattle.std.specs.Prelude.{nat_eq, nat_le, cond, codes}
use Rattle.std.specs.List.{list_any, AllByRecursion}
use Rattle.std.proofs.lemmas.Bool.{or_parts, or_from, cond-false, and_parts, leb-true, eqb-false, false_from_ne_true}
use Rattle.pattern_items.specs.declared.atom.Atom.TheVariants.{Char}
use Rattle.pattern_items.specs.declared.item.Level.{Level}
use Rattle.pattern_items.specs.declared.item.Level.TheVariants.{VeryNo, No, Usual, Very}
use Rattle.pattern_items.specs.declared.item.Spelled.{Spelled}
use Rattle.pattern_items.specs.Letters.{class_of, opposite_of, opposite_atom, class_or, class_atom}
use Rattle.pattern_items.specs.Spelling as spelling
use Rattle.pattern_items.specs.Spelling.{rank, bare_from, is_bare_item, atom, is_number, control, control_or, letter, operator, plain_atom, first_some, magic_item, or_letter, or_character}
use Rattle.pattern_items.specs.LevelTable.{IsRowSpelled, magic_items, IsLetterSpelled, letters, is_one_of, bare_at, letter_characters, AreOthersSpelled}

pub rows_spelled : (first : Bool) (level : Level) (more : List ℕ) → AllByRecursion (IsRowSpelled first level more) magic_items
rows_spelled first VeryNo more = (record { item = refl; other = refl }, (record { item = refl; other = refl }, (record { item = refl; other = refl }, (record { item = refl; other = refl }, (record { item = refl; other = refl }, (record { item = refl; other = refl }, (record { item = refl; other = refl }, (record { item = refl; other = refl }, (record { item = refl; other = refl }, (record { item = refl; other = refl }, (record { item = refl; other = refl }, (record { item = refl; other = refl }, (record { item = refl; other = refl }, (record { item = refl; other = refl }, (record { item = refl; other = refl }, (record { item = refl; other = refl }, (record { item = refl; other = refl }, (record { item = refl; other = refl }, tt))))))))))))))))))
rows_spelled first No more = (record { item = refl; other = refl }, (record { item = refl; other = refl }, (record { item = refl; other = refl }, (record { item = refl; other = refl }, (record { item = refl; other = refl }, (record { item = refl; other = refl }, (record { item = refl; other = refl }, (record { item = refl; other = refl }, (record { item = refl; other = refl }, (record { item = refl; other = refl }, (record { item = refl; other = refl }, (record { item = refl; other = refl }, (record { item = refl; other = refl }, (record { item = refl; other = refl }, (record { item = refl; other = refl }, (record { item = refl; other = refl }, (record { item = refl; other = refl }, (record { item = refl; other = refl }, tt))))))))))))))))))
rows_spelled first Usual more = (record { item = refl; other = refl }, (record { item = refl; other = refl }, (record { item = refl; other = refl }, (record { item = refl; other = refl }, (record { item = refl; other = refl }, (record { item = refl; other = refl }, (record { item = refl; other = refl }, (record { item = refl; other = refl }, (record { item = refl; other = refl }, (record { item = refl; other = refl }, (record { item = refl; other = refl }, (record { item = refl; other = refl }, (record { item = refl; other = refl }, (record { item = refl; other = refl }, (record { item = refl; other = refl }, (record { item = refl; other = refl }, (record { item = refl; other = refl }, (record { item = refl; other = refl }, tt))))))))))))))))))
rows_spelled first Very more = (record { item = refl; other = refl }, (record { item = refl; other = refl }, (record { item = refl; other = refl }, (record { item = refl; other = refl }, (record { item = refl; other = refl }, (record { item = refl; other = refl }, (record { item = refl; other = refl }, (record { item = refl; other = refl }, (record { item = refl; other = refl }, (record { item = refl; other = refl }, (record { item = refl; other = refl }, (record { item = refl; other = refl }, (record { item = refl; other = refl }, (record { item = refl; other = refl }, (record { item = refl; other = refl }, (record { item = refl; other = refl }, (record { item = refl; other = refl }, (record { item = refl; other = refl }, tt))))))))))))))))))

pub letters_spelled : (first : Bool) (level : Level) (more : List ℕ) → AllByRecursion (IsLetterSpelled first level more) letters
letters_spelled first VeryNo more = (record { item = refl }, (record { item = refl }, (record { item = refl }, (record { item = refl }, (record { item = refl }, (record { item = refl }, (record { item = refl }, (record { item = refl }, (record { item = refl }, (record { item = refl }, (record { item = refl }, (record { item = refl }, (record { item = refl }, (record { item = refl }, (record { item = refl }, (record { item = refl }, (record { item = refl }, (record { item = refl }, (record { item = refl }, (record { item = refl }, (record { item = refl }, (record { item = refl }, (record { item = refl }, (record { item = refl }, (record { item = refl }, (record { item = refl }, (record { item = refl }, (record { item = refl }, (record { item = refl }, (record { item = refl }, (record { item = refl }, (record { item = refl }, (record { item = refl }, (record { item = refl }, (record { item = refl }, (record { item = refl }, (record { item = refl }, (record { item = refl }, (record { item = refl }, (record { item = refl }, (record { item = refl }, (record { item = refl }, (record { item = refl }, (record { item = refl }, (record { item = refl }, (record { item = refl }, (record { item = refl }, (record { item = refl }, (record { item = refl }, tt)))))))))))))))))))))))))))))))))))))))))))))))))
letters_spelled first No more = (record { item = refl }, (record { item = refl }, (record { item = refl }, (record { item = refl }, (record { item = refl }, (record { item = refl }, (record { item = refl }, (record { item = refl }, (record { item = refl }, (record { item = refl }, (record { item = refl }, (record { item = refl }, (record { item = refl }, (record { item = refl }, (record { item = refl }, (record { item = refl }, (record { item = refl }, (record { item = refl }, (record { item = refl }, (record { item = refl }, (record { item = refl }, (record { item = refl }, (record { item = refl }, (record { item = refl }, (record { item = refl }, (record { item = refl }, (record { item = refl }, (record { item = refl }, (record { item = refl }, (record { item = refl }, (record { item = refl }, (record { item = refl }, (record { item = refl }, (record { item = refl }, (record { item = refl }, (record { item = refl }, (record { item = refl }, (record { item = refl }, (record { item = refl }, (record { item = refl }, (record { item = refl }, (record { item = refl }, (record { item = refl }, (record { item = refl }, (record { item = refl }, (record { item = refl }, (record { item = refl }, (record { item = refl }, (record { item = refl }, tt)))))))))))))))))))))))))))))))))))))))))))))))))
letters_spelled first Usual more = (record { item = refl }, (record { item = refl }, (record { item = refl }, (record { item = refl }, (record { item = refl }, (record { item = refl }, (record { item = refl }, (record { item = refl }, (record { item = refl }, (record { item = refl }, (record { item = refl }, (record { item = refl }, (record { item = refl }, (record { item = refl }, (record { item = refl }, (record { item = refl }, (record { item = refl }, (record { item = refl }, (record { item = refl }, (record { item = refl }, (record { item = refl }, (record { item = refl }, (record { item = refl }, (record { item = refl }, (record { item = refl }, (record { item = refl }, (record { item = refl }, (record { item = refl }, (record { item = refl }, (record { item = refl }, (record { item = refl }, (record { item = refl }, (record { item = refl }, (record { item = refl }, (record { item = refl }, (record { item = refl }, (record { item = refl }, (record { item = refl }, (record { item = refl }, (record { item = refl }, (record { item = refl }, (record { item = refl }, (record { item = refl }, (record { item = refl }, (record { item = refl }, (record { item = refl }, (record { item = refl }, (record { item = refl }, (record { item = refl }, tt)))))))))))))))))))))))))))))))))))))))))))))))))
letters_spelled first Very more = (record { item = refl }, (record { item = refl }, (record { item = refl }, (record { item = refl }, (record { item = refl }, (record { item = refl }, (record { item = refl }, (record { item = refl }, (record { item = refl }, (record { item = refl }, (record { item = refl }, (record { item = refl }, (record { item = refl }, (record { item = refl }, (record { item = refl }, (record { item = refl }, (record { item = refl }, (record { item = refl }, (record { item = refl }, (record { item = refl }, (record { item = refl }, (record { item = refl }, (record { item = refl }, (record { item = refl }, (record { item = refl }, (record { item = refl }, (record { item = refl }, (record { item = refl }, (record { item = refl }, (record { item = refl }, (record { item = refl }, (record { item = refl }, (record { item = refl }, (record { item = refl }, (record { item = refl }, (record { item = refl }, (record { item = refl }, (record { item = refl }, (record { item = refl }, (record { item = refl }, (record { item = refl }, (record { item = refl }, (record { item = refl }, (record { item = refl }, (record { item = refl }, (record { item = refl }, (record { item = refl }, (record { item = refl }, (record { item = refl }, tt)))))))))))))))))))))))))))))))))))))))))))))))))

-- Other characters.

-- a character that is none of these is not each of them
none_of : (c : ℕ) (all : List ℕ) → list_any (λ d. nat_eq c d) all ≡ false → AllByRecursion (λ d. nat_eq c d ≡ false) all
none_of c [] e = tt
none_of c (d ∷ ds) e = let h = or_parts (nat_eq c d) (list_any (λ k. nat_eq c k) ds) e in (h.0, none_of c ds h.1)

-- what is bare from no lower rank on isn't an item
at_none : (a b d : Bool) → nat_le (cond a 1 (cond b 2 (cond d 3 4))) 0 ≡ false
at_none true b d = refl
at_none false true d = refl
at_none false false true = refl
at_none false false false = refl

at_few : (a b d : Bool) → a ≡ false → nat_le (cond a 1 (cond b 2 (cond d 3 4))) 1 ≡ false
at_few true b d e = cc
at_few false true d e = refl
at_few false false true e = refl
at_few false false false e = refl

at_some : (a b d : Bool) → a ≡ false → b ≡ false → nat_le (cond a 1 (cond b 2 (cond d 3 4))) 2 ≡ false
at_some true b d e f = cc
at_some false true d e f = cc
at_some false false true e f = refl
at_some false false false e f = refl

at_all : (a b d : Bool) → a ≡ false → b ≡ false → d ≡ false → nat_le (cond a 1 (cond b 2 (cond d 3 4))) 3 ≡ false
at_all true b d e f g = cc
at_all false true d e f g = cc
at_all false false true e f g = cc
at_all false false false e f g = refl

not_bare : (level : Level) (c : ℕ) → is_one_of c (bare_at level) ≡ false → is_bare_item level c ≡ false
not_bare VeryNo c e = at_none _ _ _
not_bare No c e = let h = none_of c (bare_at No) e in at_few _ _ _ (or_from _ _ h.0 h.1.0)
not_bare Usual c e = let h = none_of c (bare_at Usual) e in at_some _ _ _ (or_from _ _ h.0 h.1.0) (or_from _ _ (or_from _ _ (or_from _ _ h.1.1.0 h.1.1.1.0) h.1.1.1.1.0) h.1.1.1.1.1.0)
not_bare Very c e = let h = none_of c (bare_at Very) e in at_all _ _ _ (or_from _ _ h.0 h.1.0) (or_from _ _ (or_from _ _ (or_from _ _ h.1.1.0 h.1.1.1.0) h.1.1.1.1.0) h.1.1.1.1.1.0)
    (or_from _ _ (or_from _ _ (or_from _ _ (or_from _ _ (or_from _ _ (or_from _ _ (or_from _ _ (or_from _ _ (or_from _ _ (or_from _ _ (or_from _ _ h.1.1.1.1.1.1.0 h.1.1.1.1.1.1.1.0) h.1.1.1.1.1.1.1.1.0) h.1.1.1.1.1.1.1.1.1.0) h.1.1.1.1.1.1.1.1.1.1.0) h.1.1.1.1.1.1.1.1.1.1.1.0) h.1.1.1.1.1.1.1.1.1.1.1.1.0) h.1.1.1.1.1.1.1.1.1.1.1.1.1.0) h.1.1.1.1.1.1.1.1.1.1.1.1.1.1.0) h.1.1.1.1.1.1.1.1.1.1.1.1.1.1.1.0) h.1.1.1.1.1.1.1.1.1.1.1.1.1.1.1.1.0) h.1.1.1.1.1.1.1.1.1.1.1.1.1.1.1.1.1.0)

other_bare : (first : Bool) (level : Level) (more : List ℕ) (c : ℕ) → is_one_of c (codes "\\]") ≡ false → is_one_of c (bare_at level) ≡ false → spelling.spelling first level (c ∷ more) ≡ atom (Char c) 1
other_bare first level more c e f =
    let h = none_of c (codes "\\]") e in
    cond-false _ _ _ h.0 ∙ cond-false _ _ _ h.1.0 ∙ cond-false _ _ _ (not_bare level c f)

no_atom : (first : Bool) (c : ℕ) (more : List ℕ) → is_one_of c (bare_at Very) ≡ false → plain_atom first 2 c more ≡ None
no_atom first c more e =
    let h = none_of c (bare_at Very) e in
    cond-false _ _ _ h.1.1.0
    ∙ cond-false _ _ _ h.0
    ∙ cond-false _ _ _ h.1.0
    ∙ cond-false _ _ _ h.1.1.1.0
    ∙ cond-false _ _ _ h.1.1.1.1.1.1.1.1.1.1.1.1.1.1.1.1.0
    ∙ cond-false _ _ _ h.1.1.1.1.1.1.1.1.1.1.1.1.1.1.1.1.1.0
    ∙ cond-false _ _ _ h.1.1.1.1.1.0
    ∙ cond-false _ _ _ h.1.1.1.1.1.1.1.1.1.1.1.1.1.1.1.0

no_operator : (c : ℕ) (more : List ℕ) → is_one_of c (bare_at Very) ≡ false → operator 2 c more ≡ None
no_operator c more e =
    let h = none_of c (bare_at Very) e in
    cond-false _ _ _ h.1.1.1.1.0
    ∙ cond-false _ _ _ h.1.1.1.1.1.1.1.1.1.1.0
    ∙ cond-false _ _ _ (or_from _ _ h.1.1.1.1.1.1.1.1.1.1.1.0 h.1.1.1.1.1.1.1.1.1.1.1.1.0)
    ∙ cond-false _ _ _ h.1.1.1.1.1.1.1.1.1.1.1.1.1.0
    ∙ cond-false _ _ _ h.1.1.1.1.1.1.1.1.1.1.1.1.1.1.0
    ∙ cond-false _ _ _ h.1.1.1.1.1.1.0
    ∙ cond-false _ _ _ h.1.1.1.1.1.1.1.0
    ∙ cond-false _ _ _ h.1.1.1.1.1.1.1.1.0
    ∙ cond-false _ _ _ h.1.1.1.1.1.1.1.1.1.0

next : (n c : ℕ) → n ≤ c → (c ≡ n → ⊥) → n + 1 ≤ c
next n c h ne = omega arith

no_number : (c : ℕ) → is_one_of c letter_characters ≡ false → is_number c ≡ false
no_number c e =
    let k = none_of c letter_characters e in
    false_from_ne_true (is_number c) (λ t.
    let p = and_parts (nat_le 49 c) (nat_le c 57) t in
    let low = leb-true 49 c p.0 in
    let high = leb-true c 57 p.1 in
    let a1 : 50 ≤ c = (let ne : c ≡ 49 → ⊥ = eqb-false c 49 (k.1.1.1.1.1.1.1.1.1.1.0) in next 49 c low ne) in
    let a2 : 51 ≤ c = (let ne : c ≡ 50 → ⊥ = eqb-false c 50 (k.1.1.1.1.1.1.1.1.1.1.1.0) in next 50 c a1 ne) in
    let a3 : 52 ≤ c = (let ne : c ≡ 51 → ⊥ = eqb-false c 51 (k.1.1.1.1.1.1.1.1.1.1.1.1.0) in next 51 c a2 ne) in
    let a4 : 53 ≤ c = (let ne : c ≡ 52 → ⊥ = eqb-false c 52 (k.1.1.1.1.1.1.1.1.1.1.1.1.1.0) in next 52 c a3 ne) in
    let a5 : 54 ≤ c = (let ne : c ≡ 53 → ⊥ = eqb-false c 53 (k.1.1.1.1.1.1.1.1.1.1.1.1.1.1.0) in next 53 c a4 ne) in
    let a6 : 55 ≤ c = (let ne : c ≡ 54 → ⊥ = eqb-false c 54 (k.1.1.1.1.1.1.1.1.1.1.1.1.1.1.1.0) in next 54 c a5 ne) in
    let a7 : 56 ≤ c = (let ne : c ≡ 55 → ⊥ = eqb-false c 55 (k.1.1.1.1.1.1.1.1.1.1.1.1.1.1.1.1.0) in next 55 c a6 ne) in
    let a8 : 57 ≤ c = (let ne : c ≡ 56 → ⊥ = eqb-false c 56 (k.1.1.1.1.1.1.1.1.1.1.1.1.1.1.1.1.1.0) in next 56 c a7 ne) in
    let a9 : 58 ≤ c = (let ne : c ≡ 57 → ⊥ = eqb-false c 57 (k.1.1.1.1.1.1.1.1.1.1.1.1.1.1.1.1.1.1.0) in next 57 c a8 ne) in
    (let far : 58 ≤ c = a9 in omega arith))

no_class : (c : ℕ) → is_one_of c letter_characters ≡ false → class_atom false c ≡ None
no_class c e =
    let k = none_of c letter_characters e in
    let of : class_of c ≡ None = cond-false _ _ _ k.1.1.1.1.1.1.1.1.1.1.1.1.1.1.1.1.1.1.1.0
    ∙ cond-false _ _ _ k.1.1.1.1.1.1.1.1.1.1.1.1.1.1.1.1.1.1.1.1.0
    ∙ cond-false _ _ _ k.1.1.1.1.1.1.1.1.1.1.1.1.1.1.1.1.1.1.1.1.1.0
    ∙ cond-false _ _ _ k.1.1.1.1.1.1.1.1.1.1.1.1.1.1.1.1.1.1.1.1.1.1.0
    ∙ cond-false _ _ _ k.1.1.1.1.1.1.1.1.1.1.1.1.1.1.1.1.1.1.1.1.1.1.1.0
    ∙ cond-false _ _ _ k.1.1.1.1.1.1.1.1.1.1.1.1.1.1.1.1.1.1.1.1.1.1.1.1.0
    ∙ cond-false _ _ _ k.1.1.1.1.1.1.1.1.1.1.1.1.1.1.1.1.1.1.1.1.1.1.1.1.1.0
    ∙ cond-false _ _ _ k.1.1.1.1.1.1.1.1.1.1.1.1.1.1.1.1.1.1.1.1.1.1.1.1.1.1.0
    ∙ cond-false _ _ _ k.1.1.1.1.1.1.1.1.1.1.1.1.1.1.1.1.1.1.1.1.1.1.1.1.1.1.1.0
    ∙ cond-false _ _ _ k.1.1.1.1.1.1.1.1.1.1.1.1.1.1.1.1.1.1.1.1.1.1.1.1.1.1.1.1.0
    ∙ cond-false _ _ _ k.1.1.1.1.1.1.1.1.1.1.1.1.1.1.1.1.1.1.1.1.1.1.1.1.1.1.1.1.1.0
    ∙ cond-false _ _ _ k.1.1.1.1.1.1.1.1.1.1.1.1.1.1.1.1.1.1.1.1.1.1.1.1.1.1.1.1.1.1.0
    ∙ cond-false _ _ _ k.1.1.1.1.1.1.1.1.1.1.1.1.1.1.1.1.1.1.1.1.1.1.1.1.1.1.1.1.1.1.1.0
    ∙ cond-false _ _ _ k.1.1.1.1.1.1.1.1.1.1.1.1.1.1.1.1.1.1.1.1.1.1.1.1.1.1.1.1.1.1.1.1.0
    ∙ cond-false _ _ _ k.1.1.1.1.1.1.1.1.1.1.1.1.1.1.1.1.1.1.1.1.1.1.1.1.1.1.1.1.1.1.1.1.1.0
    ∙ cond-false _ _ _ k.1.1.1.1.1.1.1.1.1.1.1.1.1.1.1.1.1.1.1.1.1.1.1.1.1.1.1.1.1.1.1.1.1.1.0
    ∙ cond-false _ _ _ k.1.1.1.1.1.1.1.1.1.1.1.1.1.1.1.1.1.1.1.1.1.1.1.1.1.1.1.1.1.1.1.1.1.1.1.0 in
    let opposite : opposite_of c ≡ None = cond-false _ _ _ k.1.1.1.1.1.1.1.1.1.1.1.1.1.1.1.1.1.1.1.1.1.1.1.1.1.1.1.1.1.1.1.1.1.1.1.1.0
    ∙ cond-false _ _ _ k.1.1.1.1.1.1.1.1.1.1.1.1.1.1.1.1.1.1.1.1.1.1.1.1.1.1.1.1.1.1.1.1.1.1.1.1.1.0
    ∙ cond-false _ _ _ k.1.1.1.1.1.1.1.1.1.1.1.1.1.1.1.1.1.1.1.1.1.1.1.1.1.1.1.1.1.1.1.1.1.1.1.1.1.1.0
    ∙ cond-false _ _ _ k.1.1.1.1.1.1.1.1.1.1.1.1.1.1.1.1.1.1.1.1.1.1.1.1.1.1.1.1.1.1.1.1.1.1.1.1.1.1.1.0
    ∙ cond-false _ _ _ k.1.1.1.1.1.1.1.1.1.1.1.1.1.1.1.1.1.1.1.1.1.1.1.1.1.1.1.1.1.1.1.1.1.1.1.1.1.1.1.1.0
    ∙ cond-false _ _ _ k.1.1.1.1.1.1.1.1.1.1.1.1.1.1.1.1.1.1.1.1.1.1.1.1.1.1.1.1.1.1.1.1.1.1.1.1.1.1.1.1.1.0
    ∙ cond-false _ _ _ k.1.1.1.1.1.1.1.1.1.1.1.1.1.1.1.1.1.1.1.1.1.1.1.1.1.1.1.1.1.1.1.1.1.1.1.1.1.1.1.1.1.1.0
    ∙ cond-false _ _ _ k.1.1.1.1.1.1.1.1.1.1.1.1.1.1.1.1.1.1.1.1.1.1.1.1.1.1.1.1.1.1.1.1.1.1.1.1.1.1.1.1.1.1.1.0
    ∙ cond-false _ _ _ k.1.1.1.1.1.1.1.1.1.1.1.1.1.1.1.1.1.1.1.1.1.1.1.1.1.1.1.1.1.1.1.1.1.1.1.1.1.1.1.1.1.1.1.1.0 in
    ap (λ o. class_or false c o) of ∙ ap (λ o. opposite_atom false o) opposite

no_control : (c : ℕ) → is_one_of c letter_characters ≡ false → control c ≡ None
no_control c e =
    let k = none_of c letter_characters e in
    cond-false _ _ _ k.1.1.1.1.1.1.1.1.1.1.1.1.1.1.1.1.1.1.1.1.1.1.1.1.1.1.1.1.1.1.1.1.1.1.1.1.1.1.1.1.1.1.1.1.1.0
    ∙ cond-false _ _ _ k.1.1.1.1.1.1.1.1.1.1.1.1.1.1.1.1.1.1.1.1.1.1.1.1.1.1.1.1.1.1.1.1.1.1.1.1.1.1.1.1.1.1.1.1.1.1.0
    ∙ cond-false _ _ _ k.1.1.1.1.1.1.1.1.1.1.1.1.1.1.1.1.1.1.1.1.1.1.1.1.1.1.1.1.1.1.1.1.1.1.1.1.1.1.1.1.1.1.1.1.1.1.1.0
    ∙ cond-false _ _ _ k.1.1.1.1.1.1.1.1.1.1.1.1.1.1.1.1.1.1.1.1.1.1.1.1.1.1.1.1.1.1.1.1.1.1.1.1.1.1.1.1.1.1.1.1.1.1.1.1.0

other_letter : (c : ℕ) (more : List ℕ) → is_one_of c letter_characters ≡ false → letter c more ≡ atom (Char c) 2
other_letter c more e =
    let k = none_of c letter_characters e in
    cond-false _ _ _ k.0
    ∙ cond-false _ _ _ k.1.0
    ∙ cond-false _ _ _ k.1.1.0
    ∙ cond-false _ _ _ k.1.1.1.0
    ∙ cond-false _ _ _ k.1.1.1.1.0
    ∙ cond-false _ _ _ k.1.1.1.1.1.0
    ∙ cond-false _ _ _ k.1.1.1.1.1.1.0
    ∙ cond-false _ _ _ k.1.1.1.1.1.1.1.0
    ∙ cond-false _ _ _ k.1.1.1.1.1.1.1.1.0
    ∙ cond-false _ _ _ k.1.1.1.1.1.1.1.1.1.0
    ∙ cond-false _ _ _ (no_number c e)
    ∙ ap (λ o. spelling.class_or c o) (no_class c e) ∙ ap (λ o. control_or c o) (no_control c e)

-- of two ways that say the same
one_way : (b : Bool) (s t : Spelled) → t ≡ s → cond b s t ≡ s
one_way true s t e = refl
one_way false s t e = e

other_escaped : (first : Bool) (level : Level) (more : List ℕ) (c : ℕ) → is_one_of c (bare_at Very) ≡ false → is_one_of c letter_characters ≡ false → spelling.spelling first level (92 ∷ c ∷ more) ≡ atom (Char c) 2
other_escaped first level more c e f =
    one_way (is_bare_item level c) (atom (Char c) 2) (or_letter c more (magic_item first 2 c more))
    ((λ i. or_letter c more (first_some (no_atom first c more e i) (no_operator c more e i))) ∙ other_letter c more f)

pub others_spelled : (first : Bool) (level : Level) (more : List ℕ) → AreOthersSpelled first level more
others_spelled first level more = record {
  bare = other_bare first level more;
  escaped = other_escaped first level more;
  square = refl;
  last_backslash = refl;
}
