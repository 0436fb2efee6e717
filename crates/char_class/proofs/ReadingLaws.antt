-- Laws of reading a value character by character: what stands for the characters read so far means
-- with each further one what it meant before.
use Rattle.std.proofs.Common.{◌≡◌, inl, inr, ℕ, suc, ◌+◌, ◌-◌, ◌*◌, ◌<◌, ◌≤◌, Bool, true, false, eqb, List, [], ◌∷◌, length, get_or, drop, refl, sym, ap, ◌∙◌, arith, add-zero}
use Rattle.std.specs.Prelude.{Option, Some, None, MatchOption, Result, Ok, Err}
use Rattle.std.specs.Option.{option_map}
use Rattle.std.proofs.lemmas.List.{at_drop_more}
use Rattle.std.proofs.lemmas.Bool.{cases_Bool, cases_lt}
use Rattle.std.proofs.lemmas.Bool.Decides.{nat_tests}
use Rattle.char_class.specs.Classes.{is_digit}
use Rattle.char_class.specs.OptionValue.{Where, set_of, number_from, valid_code, code_of, before_dash, behind_dash, codes_between, range_to, members_of, next_place, ends_part, pieces_from, parts_of, or_bad, with_first, with_part, set_with}
use Rattle.char_class.specs.SoFar.{resumed, nothing_read, code_with, range_with, members_with, part_with, as_part, place_in, longer_number, longer_code, longer_part}
use Rattle.char_class.specs.declared.option_value.Members.{Members}
use Rattle.char_class.specs.declared.option_value.Part.{Part}
use Rattle.char_class.specs.declared.option_value.CodeSoFar.{CodeSoFar}
use Rattle.char_class.specs.declared.option_value.CodeSoFar.TheVariants.{Nothing, Number, Character}
use Rattle.char_class.specs.declared.option_value.PartSoFar.{PartSoFar}
use Rattle.char_class.specs.declared.option_value.Reader.{Reader}
use Rattle.char_class.specs.declared.option_value.BadOption.{BadOption}

pub resumed-start : (cs : List ℕ) → resumed (record { set = []; part = nothing_read; start = 0; at = 0 }) cs ≡ set_of cs
unfolding set_of
resumed-start cs = refl

-- ---- numbers

number_from-grows : (m : ℕ) (cs : List ℕ) → m ≤ number_from m cs
number_from-grows m [] = omega arith
number_from-grows m (c ∷ cs) =
    let more = number_from-grows (m * 10 + (c - 48)) cs in
    omega arith

no_code : (n : ℕ) → 255 < n → valid_code n ≡ None
no_code n above = grind (arith, nat_tests)

no_code_from : (m : ℕ) (cs : List ℕ) → 255 < m → valid_code (number_from m cs) ≡ None
no_code_from m cs above =
    let more = number_from-grows m cs in
    no_code (number_from m cs) (omega arith)

-- a number that stopped at the greatest one of 16 bits is no code, nor is the one that it stands for
valid_code-longer : (n c : ℕ) (cs : List ℕ) → valid_code (number_from (longer_number n c) cs) ≡ valid_code (number_from (n * 10 + (c - 48)) cs)
valid_code-longer n c cs =
    elim (cases_lt 65535 (n * 10 + (c - 48))) [
      | inl above ↦ no_code_from (longer_number n c) cs (omega arith) ∙ sym (no_code_from (n * 10 + (c - 48)) cs (omega arith))
      | inr within ↦
          let same : longer_number n c ≡ n * 10 + (c - 48) = omega arith in
          ap (λ m. valid_code (number_from m cs)) same
    ]

-- ---- codes

abbrev code_after : Option CodeSoFar → List ℕ → Option ℕ
code_after None cs = None
code_after (Some code) cs = code_with code cs

code_after-longer : (code : CodeSoFar) (c : ℕ) (cs : List ℕ) → code_after (longer_code code c) cs ≡ code_with code (c ∷ cs)
code_after-longer Nothing c cs =
    elim (cases_Bool (is_digit c)) [ inl e ↦ rw e refl | inr e ↦ rw e refl ]
code_after-longer (Number n) c cs =
    elim (cases_Bool (is_digit c)) [
      | inl e ↦ rw (e, valid_code-longer n c cs) refl
      | inr e ↦ rw e refl
    ]
code_after-longer (Character d) c cs = refl

-- ---- ranges

range_to-none : (behind : Option (List ℕ)) → range_to None behind ≡ None
range_to-none None = refl
range_to-none (Some cs) = refl

codes_between-none : (first : Option ℕ) → codes_between first None ≡ None
codes_between-none None = refl
codes_between-none (Some n) = refl

abbrev range_after : Option CodeSoFar → List ℕ → Option Members
range_after None cs = None
range_after (Some code) cs = range_with code cs

range_after-longer : (code : CodeSoFar) (c : ℕ) (cs : List ℕ) → eqb c 45 ≡ false → range_after (longer_code code c) cs ≡ range_with code (c ∷ cs)
range_after-longer code c cs e =
    rw (e, ← code_after-longer code c (before_dash cs))
    (elim (longer_code code c) as (λ o. range_after o cs ≡ range_to (code_after o (before_dash cs)) (behind_dash cs))
    [ None ↦ sym (range_to-none (behind_dash cs)) | Some next ↦ refl ])

range_with-dash : (code : CodeSoFar) (c : ℕ) (cs : List ℕ) → eqb c 45 ≡ true → range_with code (c ∷ cs) ≡ codes_between (code_with code []) (code_of cs)
range_with-dash code c cs e = rw e refl

-- ---- the first character of what a part names

members_of-digit : (c : ℕ) (cs : List ℕ) → is_digit c ≡ true → members_of (c ∷ cs) ≡ members_with (Number (c - 48)) None cs
members_of-digit c [] e =
    let no_at : eqb c 64 ≡ false = grind (arith, nat_tests) in
    let no_comma : eqb c 44 ≡ false = grind (arith, nat_tests) in
    rw (no_at, no_comma, e) refl
members_of-digit c (d ∷ cs) e = rw e refl

members_of-character : (c : ℕ) (cs : List ℕ) → is_digit c ≡ false → members_of (c ∷ cs) ≡ members_with (Character c) None cs
members_of-character c [] e =
    elim (cases_Bool (eqb c 64)) [
      | inl at ↦ rw at refl
      | inr no_at ↦ elim (cases_Bool (eqb c 44)) [
        | inl comma ↦ rw (no_at, comma) refl
        | inr no_comma ↦ rw (no_at, no_comma, e) refl
      ]
    ]
members_of-character c (d ∷ cs) e = rw e refl

-- ---- parts

-- what stands for a part with one more character means with any further ones what the part meant with
-- all of them; where there is none, the part has no reading however it goes on
abbrev pub IsLonger : PartSoFar → ℕ → Option PartSoFar → Type 0
IsLonger part c longer =
    MatchOption longer ((cs : List ℕ) → part_with part (c ∷ cs) ≡ None)
    (λ next. ((cs : List ℕ) → part_with next cs ≡ part_with part (c ∷ cs)) × (place_in next ≡ next_place (place_in part) c))

-- the first character behind a `^`
first_behind_caret : (c : ℕ) → IsLonger (record { taken_out = true; first = Nothing; last = None }) c (longer_part (record { taken_out = true; first = Nothing; last = None }) c)
first_behind_caret c =
    elim (cases_Bool (eqb c 94)) [
      | inl caret ↦ elim (cases_Bool (is_digit c)) [
        | inl e ↦ rw (caret, e) (λ cs. rw (members_of-digit c cs e) refl, refl)
        | inr e ↦ rw (caret, e) (λ cs. rw (members_of-character c cs e) refl, refl)
      ]
      | inr other ↦ elim (cases_Bool (is_digit c)) [
        | inl e ↦ rw (other, e) (λ cs. rw (members_of-digit c cs e) refl, refl)
        | inr e ↦ rw (other, e) (λ cs. rw (members_of-character c cs e) refl, refl)
      ]
    ]

first_of_part : (c : ℕ) → IsLonger nothing_read c (longer_part nothing_read c)
first_of_part c =
    elim (cases_Bool (eqb c 94)) [
      | inl caret ↦ rw caret (λ cs. refl, refl)
      | inr other ↦ elim (cases_Bool (is_digit c)) [
        | inl e ↦ rw (other, e) (λ cs. rw (members_of-digit c cs e) refl, refl)
        | inr e ↦ rw (other, e) (λ cs. rw (members_of-character c cs e) refl, refl)
      ]
    ]

more_of_number : (t : Bool) (n c : ℕ) → IsLonger (record { taken_out = t; first = Number n; last = None }) c (longer_part (record { taken_out = t; first = Number n; last = None }) c)
more_of_number t n c =
    elim (cases_Bool (eqb c 45)) [
      | inl dash ↦ rw dash (λ cs. refl, refl)
      | inr other ↦ elim (cases_Bool (is_digit c)) [
        | inl e ↦ rw (other, e) (λ cs. ap (option_map (as_part t)) (rw (other, e) at (range_after-longer (Number n) c cs other)), refl)
        | inr e ↦ rw (other, e) (λ cs. ap (option_map (as_part t)) (sym (rw (other, e) at (range_after-longer (Number n) c cs other))))
      ]
    ]

more_of_character : (t : Bool) (d c : ℕ) → IsLonger (record { taken_out = t; first = Character d; last = None }) c (longer_part (record { taken_out = t; first = Character d; last = None }) c)
more_of_character t d c =
    elim (cases_Bool (eqb c 45)) [
      | inl dash ↦ rw dash (λ cs. refl, refl)
      | inr other ↦ rw other (λ cs. ap (option_map (as_part t)) (sym (rw other at (range_after-longer (Character d) c cs other))))
    ]

-- behind the dash
last_after : (t : Bool) (first last : CodeSoFar) (c : ℕ) (longer : Option CodeSoFar) → ((cs : List ℕ) → code_after longer cs ≡ code_with last (c ∷ cs)) → (members : (l : CodeSoFar) (cs : List ℕ) → members_with first (Some l) cs ≡ codes_between (code_with first []) (code_with l cs)) → IsLonger (record { taken_out = t; first = first; last = Some last }) c (option_map (λ l. record { taken_out = t; first = first; last = Some l }) longer)
last_after t first last c None law members = λ cs.
    rw members (ap (option_map (as_part t)) (ap (codes_between (code_with first [])) (sym (law cs)) ∙ codes_between-none (code_with first [])))
last_after t first last c (Some next) law members =
    (λ cs. ap (option_map (as_part t)) (members next cs ∙ ap (codes_between (code_with first [])) (law cs) ∙ sym (members last (c ∷ cs))), refl)

members_with-last : (first l : CodeSoFar) (cs : List ℕ) → members_with first (Some l) cs ≡ codes_between (code_with first []) (code_with l cs)
members_with-last Nothing l cs = refl
members_with-last (Number n) l cs = refl
members_with-last (Character c) l cs = refl

longer_of : (t : Bool) (first : CodeSoFar) (last : Option CodeSoFar) (c : ℕ) → IsLonger (record { taken_out = t; first = first; last = last }) c (longer_part (record { taken_out = t; first = first; last = last }) c)
longer_of true Nothing None c = first_behind_caret c
longer_of false Nothing None c = first_of_part c
longer_of t (Number n) None c = more_of_number t n c
longer_of t (Character d) None c = more_of_character t d c
longer_of t first (Some last) c = last_after t first last c (longer_code last c) (code_after-longer last c) (members_with-last first)

pub IsLonger-longer_part : (part : PartSoFar) (c : ℕ) → IsLonger part c (longer_part part c)
IsLonger-longer_part part c = longer_of part.taken_out part.first part.last c

-- ---- a value

abbrev is_end : PartSoFar → ℕ → Bool
is_end part c = ends_part (place_in part) c

set_with-with_first : (set : List ℕ) (part : Part) (parts : Result (List Part) BadOption) → set_with set (with_first part parts) ≡ set_with (with_part set part) parts
set_with-with_first set part (Ok parts) = refl
set_with-with_first set part (Err bad) = refl

-- a comma ends a part that can be read
pub resumed-end : (reader : Reader) (c : ℕ) (cs : List ℕ) (part : Part) (next : Reader) → is_end reader.part c ≡ true → part_with reader.part [] ≡ Some part → next ≡ record { set = with_part reader.set part; part = nothing_read; start = reader.at + 1; at = reader.at + 1 } → resumed next cs ≡ resumed reader (c ∷ cs)
resumed-end reader c cs part next ends read e =
    rw (e, ends, read, add-zero) (sym (set_with-with_first reader.set part _))

-- a comma ends a part that cannot be read
pub resumed-bad_end : (reader : Reader) (c : ℕ) (cs : List ℕ) → is_end reader.part c ≡ true → part_with reader.part [] ≡ None → resumed reader (c ∷ cs) ≡ Err (record { at = reader.start })
resumed-bad_end reader c cs ends read = rw (ends, read) refl

-- what a value has behind a part that goes on, where its next character stands at this place
abbrev resumed_at : Reader → PartSoFar → Where → List ℕ → Result (List ℕ) BadOption
resumed_at reader part place cs =
    let pieces = pieces_from place cs in
    let further = parts_of (reader.at + 1 + length pieces.first + 1) pieces.further in
    set_with reader.set (or_bad reader.start (part_with part pieces.first) further)

resumed_at-place : (reader : Reader) (part : PartSoFar) (p q : Where) (cs : List ℕ) → p ≡ q → resumed_at reader part p cs ≡ resumed_at reader part q cs
resumed_at-place reader part p q cs e = ap (λ place. resumed_at reader part place cs) e

-- a part goes on
pub resumed-longer : (reader : Reader) (c : ℕ) (cs : List ℕ) (part : PartSoFar) (next : Reader) → is_end reader.part c ≡ false → longer_part reader.part c ≡ Some part → next ≡ record { set = reader.set; part = part; start = reader.start; at = reader.at + 1 } → resumed next cs ≡ resumed reader (c ∷ cs)
resumed-longer reader c cs part next goes_on longer e =
    let law = rw longer at (IsLonger-longer_part reader.part c) in
    let pieces = pieces_from (next_place (place_in reader.part) c) cs in
    let place : reader.at + 1 + length pieces.first + 1 ≡ reader.at + suc (length pieces.first) + 1 = omega arith in
    rw (e, goes_on) (resumed_at-place reader part (place_in part) (next_place (place_in reader.part) c) cs law.1
    ∙ rw (law.0 pieces.first, place) refl)

pub resumed-bad : (reader : Reader) (c : ℕ) (cs : List ℕ) → is_end reader.part c ≡ false → longer_part reader.part c ≡ None → resumed reader (c ∷ cs) ≡ Err (record { at = reader.start })
resumed-bad reader c cs goes_on longer =
    let law = rw longer at (IsLonger-longer_part reader.part c) in
    rw (goes_on, law (pieces_from (next_place (place_in reader.part) c) cs).first) refl

-- the character at n is the first one of what is left
pub resumed-here : (reader : Reader) (cs : List ℕ) (n c : ℕ) → (n < length cs) × (c ≡ get_or cs n c) → reader.at ≡ n → resumed reader (drop reader.at cs) ≡ resumed reader (c ∷ drop (n + 1) cs)
resumed-here reader cs n c here at =
    ap (λ i. resumed reader (drop i cs)) at
    ∙ at_drop_more (resumed reader) cs n c here.0
    ∙ ap (λ x. resumed reader (x ∷ drop (n + 1) cs)) (sym here.1)
