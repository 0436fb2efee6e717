-- The turns of offsets never run out before their text does, and what is left behind a pattern.
use Rattle.std.proofs.Common.{◌≡◌, ℕ, suc, ◌≤◌, Bool, true, false, List, [], ◌∷◌, ◌++◌, length}
use Rattle.std.proofs.Common.{refl, arith, cond}
use Rattle.std.specs.Prelude.{Option, Some, None, Err, nat_eq, ◌+◌, ◌-◌, ◌&&◌, if◌then◌else◌, codes}
use Rattle.std.specs.Prelude.{pos}
use Rattle.text_scan.specs.Characters.{is_digit}
use Rattle.text_scan.specs.Numbers.{Digits, digits, digits_after, with_digit}
use Rattle.syntax_set.specs.declared.item.Offset.{Offset}
use Rattle.word_reader.specs.declared.offsets.Adjusts.{Adjusts}
use Rattle.word_reader.specs.Delimited.{can_delimit, delimited, delimited_after, first_scan}
use Rattle.word_reader.specs.Delimited.{may_close, scan_next}
use Rattle.word_reader.specs.Offsets.{adjust_at, adjust_behind, backwards, edge_at, edge_or}
use Rattle.word_reader.specs.Offsets.{forwards, leads, moved, moves, no_adjusts, number, number_of}
use Rattle.word_reader.specs.Offsets.{offset, offsets, offsets_after, place, signed, with_adjust}
use Rattle.word_reader.specs.Words.{begins, behind_first, ends_word, strip}
use Rattle.syn_words.specs.declared.cause.Cause.TheVariants.{NoPattern}
use Rattle.syn_words.specs.Quoted.{quoted, quoted_from, with_offsets}
use Rattle.syn_words.specs.Turns.{MoreTurnsReadTheSameOffsets}
use Rattle.syn_words.proofs.LeftLaws.{Leaves, begun_left, first_left, left_if}
use Rattle.syn_words.proofs.WordLaws.{same_by}

-- what is left of an answer, if there is one, has no more than so many characters
abbrev LeavesSome : {A : Type 0} → ℕ → Option (A × List ℕ) → Type 0
LeavesSome n None = Unit {0}
LeavesSome n (Some p) = length p.1 ≤ n

abbrev LeavesRest : ℕ → Option (List ℕ) → Type 0
LeavesRest n None = Unit {0}
LeavesRest n (Some rest) = length rest ≤ n

some_if : {A : Type 0} (n : ℕ) (b : Bool) (x y : Option (A × List ℕ))
    → (b ≡ true → LeavesSome n x) → (b ≡ false → LeavesSome n y) → LeavesSome n (cond b x y)
some_if n true x y p q = p refl
some_if n false x y p q = q refl

rest_if : (n : ℕ) (b : Bool) (x y : Option (List ℕ)) → LeavesRest n x → LeavesRest n y
    → LeavesRest n (cond b x y)
rest_if n true x y p q = p
rest_if n false x y p q = q

-- Numbers.

digits_if : (n : ℕ) (b : Bool) (x y : Digits) → length x.rest ≤ n → length y.rest ≤ n
    → length (elim b as (λ z. Digits) [ true ↦ x | false ↦ y ]).rest ≤ n
digits_if n true x y p q = p
digits_if n false x y p q = q

digits_left : (n : ℕ) (value : Option ℕ) (count : ℕ) (text : List ℕ) → length text ≤ n
    → length (digits_after value count text).rest ≤ n
digits_left n value count [] most = most
digits_left n value count (c ∷ cs) most =
    digits_if n (is_digit c) (digits_after (with_digit value (c - 48)) (count + 1) cs)
    (record { value = value; count = count; rest = c ∷ cs })
    (digits_left n (with_digit value (c - 48)) (count + 1) cs (omega (arith, most))) most

number_by : (n : ℕ) (value : Option ℕ) (rest : List ℕ) → length rest ≤ n
    → LeavesSome n (number_of value rest)
number_by n None rest most = tt
number_by n (Some k) rest most = most

number_left : (n : ℕ) (text : List ℕ) → length text ≤ n → LeavesSome n (number text)
number_left n text most =
    some_if n (nat_eq (digits text).count 0) None (number_of (digits text).value (digits text).rest)
    (λ is. tt)
    (λ is. number_by n (digits text).value (digits text).rest (digits_left n (Some 0) 0 text most))

forwards_left : (n : ℕ) (b : Bool) (o : Option (ℕ × List ℕ)) → LeavesSome n o
    → LeavesSome n (forwards b o)
forwards_left n b None most = tt
forwards_left n b (Some p) most = most

backwards_left : (n : ℕ) (b : Bool) (o : Option (ℕ × List ℕ)) → LeavesSome n o
    → LeavesSome n (backwards b o)
backwards_left n b None most = tt
backwards_left n b (Some p) most = most

-- Offsets.

signed_left : (n : ℕ) (b : Bool) (text : List ℕ) → length text ≤ n → LeavesSome n (signed b text)
signed_left n b [] most = most
signed_left n b (c ∷ cs) most =
    let fewer : length cs ≤ n = omega (arith, most) in
    some_if n (nat_eq c 43) (forwards b (number cs))
    (if nat_eq c 45 then backwards b (number cs) else Some (offset b (pos 0), c ∷ cs))
    (λ is. forwards_left n b (number cs) (number_left n cs fewer))
    (λ is. some_if n (nat_eq c 45) (backwards b (number cs)) (Some (offset b (pos 0), c ∷ cs))
    (λ so. backwards_left n b (number cs) (number_left n cs fewer)) (λ so. most))

place_left : (n : ℕ) (text : List ℕ) → length text ≤ n → LeavesSome n (place text)
place_left n [] most = tt
place_left n (c ∷ cs) most =
    let fewer : length cs ≤ n = omega (arith, most) in
    some_if n (nat_eq c 115) (signed false cs) (if nat_eq c 101 then signed true cs else None)
    (λ is. signed_left n false cs fewer)
    (λ is. some_if n (nat_eq c 101) (signed true cs) None (λ so. signed_left n true cs fewer)
    (λ so. tt))

strip_left : (n : ℕ) (word text : List ℕ) → length text ≤ n → LeavesRest n (strip word text)
strip_left n [] text most = most
strip_left n (w ∷ ws) [] most = tt
strip_left n (w ∷ ws) (c ∷ cs) most =
    rest_if n (nat_eq c w) (strip ws cs) None (strip_left n ws cs (omega (arith, most))) tt

edge_left : (n : ℕ) (o : Option (List ℕ)) (edge : _) (others : Option (_ × List ℕ))
    → LeavesRest n o → LeavesSome n others → LeavesSome n (edge_or o edge others)
edge_left n None edge others rest most = most
edge_left n (Some text) edge others rest most = rest

edge_at_left : (n : ℕ) (text : List ℕ) → length text ≤ n → LeavesSome n (edge_at text)
edge_at_left n text most =
    edge_left n (strip (codes "ms=") text) _ _ (strip_left n (codes "ms=") text most)
    (edge_left n (strip (codes "me=") text) _ _ (strip_left n (codes "me=") text most)
    (edge_left n (strip (codes "hs=") text) _ _ (strip_left n (codes "hs=") text most)
    (edge_left n (strip (codes "he=") text) _ _ (strip_left n (codes "he=") text most)
    (edge_left n (strip (codes "rs=") text) _ _ (strip_left n (codes "rs=") text most)
    (edge_left n (strip (codes "re=") text) _ None (strip_left n (codes "re=") text most) tt)))))

moves_left : (n : ℕ) (edge : _) (o : Option (Offset × List ℕ)) → LeavesSome n o
    → LeavesSome n (moves edge o)
moves_left n edge None most = tt
moves_left n edge (Some p) most = most

moved_left : (n : ℕ) (o : Option (_ × List ℕ)) → LeavesSome n o → LeavesSome n (moved o)
moved_left n None most = tt
moved_left n (Some p) most = moves_left n p.0 (place p.1) (place_left n p.1 most)

leads_left : (n : ℕ) (o : Option (ℕ × List ℕ)) → LeavesSome n o → LeavesSome n (leads o)
leads_left n None most = tt
leads_left n (Some p) most = most

behind_left : (n : ℕ) (o : Option (List ℕ)) (text : List ℕ) → LeavesRest n o → length text ≤ n
    → LeavesSome n (adjust_behind o text)
behind_left n None text rest most = moved_left n (edge_at text) (edge_at_left n text most)
behind_left n (Some after) text rest most = leads_left n (number after) (number_left n after rest)

adjust_left : (n : ℕ) (text : List ℕ) → length text ≤ n → LeavesSome n (adjust_at text)
adjust_left n text most =
    behind_left n (strip (codes "lc=") text) text (strip_left n (codes "lc=") text most) most

-- All offsets.

-- behind one offset, by what it is
abbrev further : {J : Type 0} → (J → Adjusts) → List ℕ → J × List ℕ → Option (Adjusts × List ℕ)
further adjusted turns p =
    if ends_word p.1 then Some (adjusted p.0, p.1)
    else if begins 44 p.1 then offsets_after (adjusted p.0) turns (behind_first p.1) else None

abbrev further_by : {J : Type 0} → (J → Adjusts) → List ℕ → Option (J × List ℕ)
    → Option (Adjusts × List ℕ)
further_by adjusted turns None = None
further_by adjusted turns (Some p) = further adjusted turns p

abbrev LeavesAll : ℕ → List ℕ → Type 0
LeavesAll n turns =
    (a : Adjusts) (text : List ℕ) → length text ≤ n → LeavesSome n (offsets_after a turns text)

further_left : {J : Type 0} (n : ℕ) (adjusted : J → Adjusts) (turns : List ℕ)
    (o : Option (J × List ℕ))
    → LeavesSome n o → LeavesAll n turns → LeavesSome n (further_by adjusted turns o)
further_left n adjusted turns None most later = tt
further_left n adjusted turns (Some p) most later =
    let first = first_left p.1 in
    some_if n (ends_word p.1) (Some (adjusted p.0, p.1))
    (if begins 44 p.1 then offsets_after (adjusted p.0) turns (behind_first p.1) else None)
    (λ is. most)
    (λ is. some_if n (begins 44 p.1) (offsets_after (adjusted p.0) turns (behind_first p.1)) None
    (λ so. later (adjusted p.0) (behind_first p.1) (omega (arith, first, most)))
    (λ so. tt))

after_left : (n : ℕ) (turns : List ℕ) → LeavesAll n turns
after_left n [] a text most = tt
after_left n (t ∷ turns) a text most =
    further_left n (with_adjust a) turns (adjust_at text) (adjust_left n text most)
    (after_left n turns)

offsets_left : (n : ℕ) (text : List ℕ) → length text ≤ n → LeavesSome n (offsets text)
offsets_left n text most =
    some_if n (ends_word text) (Some (no_adjusts, text)) (offsets_after no_adjusts text text)
    (λ is. most) (λ is. after_left n text no_adjusts text most)

abbrev SameTurns : List ℕ → List ℕ → Type 0
SameTurns turns more =
    (a : Adjusts) (text : List ℕ) → length text ≤ length turns
    → offsets_after a (turns ++ more) text ≡ offsets_after a turns text

further_same : {J : Type 0} (adjusted : J → Adjusts) (turns more : List ℕ) (o : Option (J × List ℕ))
    → LeavesSome (suc (length turns)) o → SameTurns turns more
    → further_by adjusted (turns ++ more) o ≡ further_by adjusted turns o
further_same adjusted turns more None most later = refl
further_same adjusted turns more (Some p) most later =
    same_by (ends_word p.1) (Some (adjusted p.0, p.1))
    (if begins 44 p.1 then offsets_after (adjusted p.0) (turns ++ more) (behind_first p.1)
    else None)
    (Some (adjusted p.0, p.1))
    (if begins 44 p.1 then offsets_after (adjusted p.0) turns (behind_first p.1) else None)
    (λ is. refl)
    (λ is. same_by (begins 44 p.1)
    (offsets_after (adjusted p.0) (turns ++ more) (behind_first p.1)) None
    (offsets_after (adjusted p.0) turns (behind_first p.1)) None
    (λ so. later (adjusted p.0) (behind_first p.1) (begun_left (length turns) 44 p.1 so most))
    (λ so. refl))

offsets_same : (turns more : List ℕ) → SameTurns turns more
offsets_same [] [] a text enough = refl
offsets_same [] (m ∷ more) a [] enough = refl
offsets_same [] (m ∷ more) a (c ∷ cs) enough = absurd (omega (arith, enough))
offsets_same (t ∷ turns) more a text enough =
    further_same (with_adjust a) turns more (adjust_at text)
    (adjust_left (suc (length turns)) text enough)
    (offsets_same turns more)

pub offsets_turns : MoreTurnsReadTheSameOffsets
offsets_turns a turns more text enough = offsets_same turns more a text enough

-- A pattern between its delimiters.

delimited_left : (n d : ℕ) (scan : _) (so_far text : List ℕ) → length text ≤ n
    → LeavesSome n (delimited_after d scan so_far text)
delimited_left n d scan so_far [] most = tt
delimited_left n d scan so_far (c ∷ cs) most =
    let fewer : length cs ≤ n = omega (arith, most) in
    some_if n (may_close scan.next && nat_eq c d) (Some (so_far, cs))
    (delimited_after d (scan_next scan c (c ∷ cs)) (so_far ++ c ∷ []) cs)
    (λ is. fewer)
    (λ is. delimited_left n d (scan_next scan c (c ∷ cs)) (so_far ++ c ∷ []) cs fewer)

with_left : (n : ℕ) (text : List ℕ) (o : Option (Adjusts × List ℕ)) → LeavesSome n o
    → Leaves n (with_offsets text o)
with_left n text None most = tt
with_left n text (Some p) most = most

from_left : (n : ℕ) (o : Option (List ℕ × List ℕ)) → LeavesSome n o → Leaves n (quoted_from o)
from_left n None most = tt
from_left n (Some p) most = with_left n p.0 (offsets p.1) (offsets_left n p.1 most)

-- a pattern takes a character at least
pub quoted_left : (n : ℕ) (text : List ℕ) → length text ≤ suc n → Leaves n (quoted text)
quoted_left n [] most = tt
quoted_left n (c ∷ cs) most =
    left_if n (can_delimit c) (quoted_from (delimited c cs)) (Err NoPattern)
    (λ is. from_left n (delimited c cs) (delimited_left n c first_scan [] cs (omega (arith, most))))
    (λ is. tt)
