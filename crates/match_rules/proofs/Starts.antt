-- Where a look behind starts: at its place first, and then at others.
use Rattle.std.proofs.Common.{◌≡◌, ℕ, zero, suc, ◌+◌, ◌<◌, ◌≤◌, false, List, [], ◌∷◌, ◌++◌, length, take, refl, ap, ◌∙◌, arith}
use Rattle.std.specs.Prelude.{pos, ◌-ℤ◌}
use Rattle.std.proofs.lemmas.Bool.Decides.{nat_tests}
use Rattle.syn_base.specs.declared.places.Place.{Place}
use Rattle.syn_base.specs.Looked.{one_line}
use Rattle.pattern_items.specs.declared.item.Behind.{Behind}
use Rattle.pattern_items.specs.declared.item.Behind.TheVariants.{Any, Most}
use Rattle.match_rules.specs.Ways.{Text, Way, line_at, place, is_same_place, IsPlaceOf}
use Rattle.match_rules.specs.Marks.{Mark}
use Rattle.match_rules.specs.Looks.{columns_back, line_before, starts_behind, from_each, ending_at, looking_at, tried_behind}
use Rattle.match_rules.proofs.SameMarks.{ending_at-append}

-- what holds of each place
abbrev pub Each : (Place → Type 0) → List Place → Type 0
Each P [] = Unit {0}
Each P (p ∷ ps) = P p × Each P ps

Each-append : (P : Place → Type 0) (ps qs : List Place) → Each P ps → Each P qs → Each P (ps ++ qs)
Each-append P [] qs h k = k
Each-append P (p ∷ ps) qs h k = (h.0, Each-append P ps qs h.1 k)

Each-take : (P : Place → Type 0) (n : ℕ) (ps : List Place) → Each P ps → Each P (take n ps)
Each-take P zero ps h = tt
Each-take P (suc n) [] h = tt
Each-take P (suc n) (p ∷ ps) h = (h.0, Each-take P n ps h.1)

-- the columns before one
abbrev pub columns_before : ℕ → ℕ → List Place
columns_before line zero = []
columns_before line (suc col) = columns_back line col

-- the other starts
abbrev pub other_starts : Text → Behind → Place → List Place
other_starts text Any p = columns_before p.line p.col ++ line_before text p.line
other_starts text (Most limit) p = take limit (columns_before p.line p.col ++ line_before text p.line)

columns_back-first : (line col : ℕ) → columns_back line col ≡ place line col ∷ columns_before line col
columns_back-first line zero = refl
columns_back-first line (suc col) = refl

pub starts-first : (text : Text) (limit : Behind) (p : Place) → starts_behind text limit p ≡ p ∷ other_starts text limit p
starts-first text Any p = ap (λ ps. ps ++ line_before text p.line) (columns_back-first p.line p.col)
starts-first text (Most limit) p =
    let e : limit + 1 ≡ suc limit = omega arith in
    rw (columns_back-first p.line p.col, e) refl

columns_back-each : (P : Place → Type 0) (line col : ℕ) → ((c : ℕ) → c ≤ col → P (place line c)) → Each P (columns_back line col)
columns_back-each P line zero h = (h 0 (omega arith), tt)
columns_back-each P line (suc col) h = (h (suc col) (omega arith), columns_back-each P line col (λ c k. h c (omega arith)))

columns_before-each : (P : Place → Type 0) (line col : ℕ) → ((c : ℕ) → c < col → P (place line c)) → Each P (columns_before line col)
columns_before-each P line zero h = tt
columns_before-each P line (suc col) h = columns_back-each P line col (λ c k. h c (omega arith))

line_before-each : (P : Place → Type 0) (text : Text) (line : ℕ) → ((l c : ℕ) → line ≡ suc l → c ≤ length (line_at text l) → P (place l c)) → Each P (line_before text line)
line_before-each P text zero h = tt
line_before-each P text (suc l) h = columns_back-each P l (length (line_at text l)) (λ c k. h l c refl k)

-- they are places of the text, and none is the place itself
abbrev pub IsElsewhere : Text → Place → Place → Type 0
IsElsewhere text p q = IsPlaceOf text q × (is_same_place q p ≡ false)

in_line : (text : Text) (p : Place) (c : ℕ) → IsPlaceOf text p → c < p.col → IsElsewhere text p (place p.line c)
in_line text p c h k = (record { line = h.line; col = omega (arith, h.col) }, grind (arith, nat_tests))

in_line_before : (text : Text) (p : Place) (l c : ℕ) → IsPlaceOf text p → p.line ≡ suc l → c ≤ length (line_at text l) → IsElsewhere text p (place l c)
in_line_before text p l c h e k = (record { line = omega (arith, h.line); col = k }, grind (arith, nat_tests))

both-elsewhere : (text : Text) (p : Place) → IsPlaceOf text p → Each (IsElsewhere text p) (columns_before p.line p.col ++ line_before text p.line)
both-elsewhere text p h =
    Each-append (IsElsewhere text p) (columns_before p.line p.col) (line_before text p.line)
    (columns_before-each (IsElsewhere text p) p.line p.col (λ c k. in_line text p c h k))
    (line_before-each (IsElsewhere text p) text p.line (λ l c e k. in_line_before text p l c h e k))

pub others-elsewhere : (text : Text) (limit : Behind) (p : Place) → IsPlaceOf text p → Each (IsElsewhere text p) (other_starts text limit p)
others-elsewhere text Any p h = both-elsewhere text p h
others-elsewhere text (Most limit) p h = Each-take (IsElsewhere text p) limit (columns_before p.line p.col ++ line_before text p.line) (both-elsewhere text p h)

-- the part from the place itself, and then from the others
pub tried_behind-split : (text : Text) (part : Way → List Mark) (limit : Behind) (w : Way) →
    tried_behind text part limit w ≡ looking_at (one_line (pos w.at.line -ℤ pos 1)) (ending_at w.at (part w) ++ ending_at w.at (from_each part w (other_starts text limit w.at)))
tried_behind-split text part limit w =
    ap (λ ps. looking_at (one_line (pos w.at.line -ℤ pos 1)) (ending_at w.at (from_each part w ps))) (starts-first text limit w.at)
    ∙ ap (looking_at (one_line (pos w.at.line -ℤ pos 1))) (ending_at-append w.at (part w) (from_each part w (other_starts text limit w.at)))
