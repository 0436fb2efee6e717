-- Places before a place.
use Rattle.std.proofs.Common.{◌≡◌, ◌≢◌, ℕ, zero, suc, ◌+◌, ◌-◌, ◌<◌, ◌⊎◌, inl, inr, Bool, true, false, [], ◌∷◌, ◌++◌, length, refl, ap, arith, add-one}
use Rattle.syn_base.specs.declared.places.Place.{Place}
use Rattle.pattern_items.specs.declared.item.Behind.{Behind}
use Rattle.pattern_items.specs.declared.item.Behind.TheVariants.{Any, Most}
use Rattle.match_rules.specs.Ways.{Text, place, line_at}
use Rattle.match_rules.specs.Looks.{columns_back, line_before, within}
use Rattle.pattern_match.specs.Starts.{before_too, columns_before, places_before}

pub within-none : (limit : Behind) → within limit [] ≡ []
within-none Any = refl
within-none (Most n) = rw add-one refl

columns-first : (line col : ℕ) → columns_back line col ≡ place line col ∷ columns_before line col
columns-first line zero = refl
columns-first line (suc col) = refl

-- a place comes first, and then those before it
pub places-first : (text : Text) (done : Bool) (p : Place) → columns_back p.line p.col ++ before_too text done p.line ≡ p ∷ places_before text done p
places-first text done p = ap (λ r. r ++ before_too text done p.line) (columns-first p.line p.col)

pub within-most : (text : Text) (done : Bool) (limit : ℕ) (p : Place) → limit ≢ 0 → within (Most limit) (columns_back p.line p.col ++ before_too text done p.line) ≡ p ∷ within (Most (limit - 1)) (places_before text done p)
within-most text done limit p h =
    let e : limit - 1 + 1 ≡ limit = omega arith in
    rw (places-first text done p, e, add-one) refl

columns-back : (line col : ℕ) → 0 < col → columns_before line col ≡ columns_back line (col - 1)
columns-back line zero h = absurd (omega arith)
columns-back line (suc col) h = let e : suc col - 1 ≡ col = omega arith in rw e refl

pub back_in_line : (text : Text) (done : Bool) (p : Place) → 0 < p.col → places_before text done p ≡ columns_back p.line (p.col - 1) ++ before_too text done p.line
back_in_line text done p h = ap (λ r. r ++ before_too text done p.line) (columns-back p.line p.col h)

line_back : (text : Text) (line : ℕ) → 0 < line → line_before text line ≡ columns_back (line - 1) (length (line_at text (line - 1)))
line_back text zero h = absurd (omega arith)
line_back text (suc line) h = let e : suc line - 1 ≡ line = omega arith in rw e refl

pub back_a_line : (text : Text) (done : Bool) (p : Place) → p.col ≡ 0 → 0 < p.line → done ≡ false → places_before text done p ≡ columns_back (p.line - 1) (length (line_at text (p.line - 1)))
back_a_line text done p c l d = rw (c, d) (line_back text p.line l)

pub back_nowhere : (text : Text) (done : Bool) (p : Place) → p.col ≡ 0 → (p.line ≡ 0) ⊎ (done ≡ true) → places_before text done p ≡ []
back_nowhere text done p c (inl l) = rw (c, l) (none done)
  where
    none : (done : Bool) → before_too text done 0 ≡ []
    none true = refl
    none false = refl
back_nowhere text done p c (inr d) = rw (c, d) refl
