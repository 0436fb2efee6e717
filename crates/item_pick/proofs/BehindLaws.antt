-- What a look behind that is known to fail means for an item.
use Rattle.item_pick.proofs.Common.{◌≡◌, refl, arith, ℕ, ◌≤◌, Bool, true, false, length, nat_lt, nat_tests, Looked, hull_of, Place, ItemId, PatternTree, Text, line_at, Pattern, Rules, item_of, no_externals, place_at, within_budget, is_cheap_behind, key_numbered, key_of, rest_fails, two_lines, AreWithin, IsFutileBy, may_start_at, IsToldOfFirst, rest_asked, IsVainFrom, IsFirst, IsCheapWithin, IsNumberAt}
use Rattle.item_pick.proofs.MatchLaws.{match_absent}

-- an attempt that finds nothing gives nothing, and its lines are looked at
pub futile_vain : (r : Rules) (t : Text) (i : ItemId) (pattern : Pattern) (p : Place) (c : ℕ) (lines : Looked) → may_start_at pattern (length (line_at t p.line)) p.col c ≡ true →
    IsFutileBy (r.attempt t pattern.tree (item_of r.items i).ignore no_externals (place_at p.line c)) r.budget lines → IsVainFrom r t p i pattern lines c
futile_vain r t i pattern p c lines may futile k =
    let a = r.attempt t pattern.tree (item_of r.items i).ignore no_externals (place_at p.line c) in
    let e : nat_lt r.budget a.cost ≡ false = grind (arith, nat_tests, futile.1) in
    match_absent r t i pattern p c k (hull_of k lines) may (rw (within_budget, e, futile.0, futile.2) refl)

-- the law of looks behind
abbrev pub IsBehindLaw : Rules → Type 0
IsBehindLaw r =
    (tree : PatternTree) (t : Text) (ignore : Bool) (most l c number : ℕ) → c ≤ length (line_at t l) → AreWithin most t l → key_numbered number ≡ key_of r.sets (line_at t l) c →
    rest_fails r.sets ignore number tree ≡ true → is_cheap_behind r.budget most tree ≡ true → IsFutileBy (r.attempt t tree ignore no_externals (place_at l c)) r.budget (two_lines l)

pub vain_behind : (r : Rules) → IsBehindLaw r → (t : Text) (i : ItemId) (pattern : Pattern) (p : Place) (most col number : ℕ) → may_start_at pattern (length (line_at t p.line)) p.col col ≡ true → IsFirst r i pattern → AreWithin most t p.line → IsNumberAt r (line_at t p.line) col number → IsToldOfFirst rest_asked r number i → IsCheapWithin r i most →
    IsVainFrom r t p i pattern (two_lines p.line) col
vain_behind r law t i pattern p most col number may first few key fails cheap =
    futile_vain r t i pattern p col (two_lines p.line) may (law pattern.tree t (item_of r.items i).ignore most p.line col number key.0 few key.1 (fails pattern first) (cheap pattern first))
