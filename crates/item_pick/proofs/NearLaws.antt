-- Items that don't start where what follows their look behind fails.
use Rattle.item_pick.proofs.Common.{◌≡◌, ◌∙◌, refl, sym, ap, subst, ℕ, Bool, true, false, length, Some, None, not, is_none, Looked, ItemId, Text, line_at, Pattern, Done, looked_first, Rules, item_of, place_at, match_from, AreWithin, may_start_at, IsCheapWithin, IsToldOfFirst, rest_asked, two_lines, HoldsLines, IsIdle, IsVainFrom, IsFirst, IsNumberAt, has_one_start, ◌||◌, Option}
use Rattle.item_pick.specs.Settled.{wanders}
use Rattle.item_pick.specs.Tables.{IsNearBy}
use Rattle.syntax_set.specs.declared.item.Offset.{Offset}
use Rattle.item_pick.proofs.BehindLaws.{IsBehindLaw, vain_behind}
use Rattle.item_pick.proofs.MatchLaws.{no_start}
use Rattle.item_pick.proofs.TableLaws.{here_by, one_first, only_first}

stays : (moves : Bool) (ms : Option Offset) → (moves || not (is_none ms)) ≡ false → (not moves ≡ true) × (is_none ms ≡ true)
stays true ms e = absurd (cc)
stays false None e = (refl, refl)
stays false (Some o) e = absurd (cc)

-- where a line and the one before have so many characters together, and an item starts by one pattern, which
-- doesn't wander
module _ (r : Rules) (law : IsBehindLaw r) (t : Text) (l most : ℕ) (i : ItemId) (pattern : Pattern) (first : IsFirst r i pattern)
    (one : has_one_start (item_of r.items i).kind ≡ true) (sits : wanders pattern ≡ false) (few : AreWithin most t l) (cheap : IsCheapWithin r i most) where
  module _ (k : Looked) (held : HoldsLines k (two_lines l)) (at number : ℕ) (key : IsNumberAt r (line_at t l) at number) (told : IsToldOfFirst rest_asked r number i) (c : ℕ) where
    own_idle : (b : Bool) → may_start_at pattern (length (line_at t l)) at c ≡ b → IsIdle (match_from r t i pattern (place_at l at)) k c
    own_idle false e = ap (looked_first (Some k)) (no_start r t i pattern (place_at l at) c e)
    own_idle true e =
        let stay = stays pattern.tree.moves_start pattern.ms sits in
        let here : c ≡ at = here_by (length (line_at t l)) at c pattern.tree.moves_start pattern.ms stay.0 stay.1 e in
        let vain : IsVainFrom r t (place_at l at) i pattern (two_lines l) c =
        vain_behind r law t i pattern (place_at l at) most c number e first few (subst (λ n. IsNumberAt r (line_at t l) n number) (sym here) key) told cheap in
        vain k ∙ ap (λ (x : Looked). Done None (Some x)) held

  pub near_by : IsNearBy r t l i
  near_by k held at number floor key told _ other its c from within =
      let own : IsFirst r i other = only_first (item_of r.items i).kind one other its in
      subst (λ (q : Pattern). IsIdle (match_from r t i q (place_at l at)) k c) (one_first r i pattern other first own)
      (own_idle k held at number key told c (may_start_at pattern (length (line_at t l)) at c) refl)
