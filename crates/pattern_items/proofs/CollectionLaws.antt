-- One character, one member, one piece.
use Rattle.std.proofs.Common.{◌≡◌, ℕ, zero, suc, ◌+◌, drop, List, [], ◌∷◌, ◌++◌, Bool, true, false, Some, None, refl, ap, sym, append_assoc, ◌∙◌, arith}
use Rattle.std.specs.Prelude.{Option, nat_eq, cond}
use Rattle.pattern_items.specs.declared.collection.Member.{Member}
use Rattle.pattern_items.specs.declared.collection.Found.{Found}
use Rattle.pattern_items.specs.declared.collection.Piece.{Piece}
use Rattle.pattern_items.specs.declared.collection.Piece.TheVariants.{Other}
use Rattle.pattern_items.specs.Collection.{taken_along, closing, member_at, members_from, range_at, with_rest, range, is_hyphen, pieces}

closing_skip : (k n : ℕ) (cs : List ℕ) → closing k n cs ≡ closing 0 (n + k) (drop k cs)
closing_skip zero n [] = refl
closing_skip zero n (c ∷ cs) = ap (λ m. closing 0 m (c ∷ cs)) (let e : n ≡ n + 0 = omega arith in e)
closing_skip (suc k) n [] = refl
closing_skip (suc k) n (c ∷ cs) = closing_skip k (n + 1) cs ∙ ap (λ m. closing 0 m (drop k cs)) (let e : n + 1 + k ≡ n + suc k = omega arith in e)

closing_cases : (b : Bool) (k n : ℕ) (cs : List ℕ) →
    elim b [ true ↦ Some (n + 1) | false ↦ closing k (n + 1) cs ] ≡ cond b (Some (n + 1)) (closing 0 (n + (1 + k)) (drop k cs))
closing_cases true k n cs = refl
closing_cases false k n cs = closing_skip k (n + 1) cs ∙ ap (λ m. closing 0 m (drop k cs)) (let e : n + 1 + k ≡ n + (1 + k) = omega arith in e)

pub closing_step : (n c : ℕ) (cs : List ℕ) → closing 0 n (c ∷ cs) ≡ cond (nat_eq c 93) (Some (n + 1)) (closing 0 (n + (1 + taken_along c cs)) (drop (taken_along c cs) cs))
closing_step n c cs = closing_cases (nat_eq c 93) (taken_along c cs) n cs

members_skip : (k : ℕ) (plain : Bool) (cs : List ℕ) → members_from k plain cs ≡ members_from 0 plain (drop k cs)
members_skip zero plain cs = refl
members_skip (suc k) plain [] = refl
members_skip (suc k) plain (c ∷ cs) = members_skip k plain cs

pub members_step : (plain : Bool) (c : ℕ) (cs : List ℕ) →
    members_from 0 plain (c ∷ cs) ≡ (member_at plain c cs).member ∷ members_from 0 (member_at plain c cs).plain_next (drop (member_at plain c cs).more cs)
members_step plain c cs = ap (λ ms. (member_at plain c cs).member ∷ ms) (members_skip (member_at plain c cs).more (member_at plain c cs).plain_next cs)

abbrev pub pieces_with : Member → List Member → Option (Piece × List Member) → List Piece
pieces_with m ms None = Other m ∷ pieces ms
pieces_with m ms (Some p) = p.0 ∷ pieces p.1

range_here : (m h n : Member) (ms : List Member) (b : Bool) (o : Option Piece) →
    elim (cond b (with_rest ms o) None) [ Some p ↦ p.0 ∷ pieces ms | None ↦ Other m ∷ pieces (h ∷ n ∷ ms) ] ≡ pieces_with m (h ∷ n ∷ ms) (cond b (with_rest ms o) None)
range_here m h n ms true None = refl
range_here m h n ms true (Some p) = refl
range_here m h n ms false o = refl

pub pieces_step : (m : Member) (ms : List Member) → pieces (m ∷ ms) ≡ pieces_with m ms (range_at m ms)
pieces_step m [] = refl
pieces_step m (h ∷ []) = refl
pieces_step m (h ∷ n ∷ ms) = range_here m h n ms (is_hyphen h) (range m n)

-- one member more, as a loop has it
pub members_next : (all new : List Member) (plain : Bool) (c : ℕ) (cs text rest : List ℕ) (m : Found) (whole : List Member) → text ≡ c ∷ cs → m ≡ member_at plain c cs →
    new ≡ all ++ (m.member ∷ []) → rest ≡ drop m.more cs → all ++ members_from 0 plain text ≡ whole → new ++ members_from 0 m.plain_next rest ≡ whole
members_next all new plain c cs text rest m whole et em en er h =
    ap (λ l. l ++ members_from 0 m.plain_next rest) en ∙ append_assoc all (m.member ∷ []) (members_from 0 m.plain_next rest)
    ∙ ap (λ t. all ++ (m.member ∷ members_from 0 m.plain_next t)) er ∙ (λ i. all ++ ((em i).member ∷ members_from 0 (em i).plain_next (drop (em i).more cs)))
    ∙ ap (λ l. all ++ l) (sym (members_step plain c cs)) ∙ ap (λ t. all ++ members_from 0 plain t) (sym et) ∙ h
