-- What the reading of a value means: its pieces with commas between are the text, and of a code the
-- last part that names it decides.
use Rattle.std.proofs.Common.{◌≡◌, ℕ, ◌<◌, Bool, true, cond, not, inl, inr, List, [], ◌∷◌, ◌++◌, refl, sym, ap, ◌∙◌, eqb-true}
use Rattle.std.specs.Prelude.{fold}
use Rattle.std.proofs.lemmas.Bool.{cases_Bool}
use Rattle.char_class.specs.CharSet.{is_member}
use Rattle.char_class.specs.OptionValue.{Where, start, behind_caret, inside, ends_part, next_place, pieces_from, is_named, with_part}
use Rattle.char_class.specs.declared.option_value.Part.{Part}
use Rattle.char_class.proofs.SetLaws.{is_member-set_where}

-- ---- pieces

-- pieces with commas between
abbrev pub joined : List ℕ → List (List ℕ) → List ℕ
joined first [] = first
joined first (second ∷ further) = first ++ (44 ∷ joined second further)

joined-front : (c : ℕ) (first : List ℕ) (further : List (List ℕ)) → joined (c ∷ first) further ≡ c ∷ joined first further
joined-front c first [] = refl
joined-front c first (second ∷ further) = refl

-- what ends a part is a comma
comma_ends : (place : Where) (c : ℕ) → ends_part place c ≡ true → c ≡ 44
comma_ends start c ends = absurd (cc)
comma_ends behind_caret c ends = absurd (cc)
comma_ends inside c ends = eqb-true c 44 ends

pub joined-pieces_from : (place : Where) (cs : List ℕ) → joined (pieces_from place cs).first (pieces_from place cs).further ≡ cs
joined-pieces_from place [] = refl
joined-pieces_from place (c ∷ cs) =
    elim (cases_Bool (ends_part place c)) [
      | inl ends ↦
          rw ends (ap (λ d. d ∷ joined (pieces_from start cs).first (pieces_from start cs).further) (sym (comma_ends place c ends))
          ∙ ap (λ rest. c ∷ rest) (joined-pieces_from start cs))
      | inr goes_on ↦
          let next = next_place place c in
          rw goes_on (joined-front c (pieces_from next cs).first (pieces_from next cs).further
          ∙ ap (λ rest. c ∷ rest) (joined-pieces_from next cs))
    ]

-- ---- parts

-- whether a code is in a set after parts, where it was in it before or not
abbrev pub is_member_after : Bool → List Part → ℕ → Bool
is_member_after before [] c = before
is_member_after before (part ∷ parts) c =
    is_member_after (cond (is_named part.members c) (not part.taken_out) before) parts c

is_member-with_part : (set : List ℕ) (part : Part) (c : ℕ) → c < 256 → is_member (with_part set part) c ≡ cond (is_named part.members c) (not part.taken_out) (is_member set c)
unfolding with_part
is_member-with_part set part c within = is_member-set_where _ c within

pub is_member-fold : (set : List ℕ) (parts : List Part) (c : ℕ) → c < 256 → is_member (fold with_part set parts) c ≡ is_member_after (is_member set c) parts c
is_member-fold set [] c within = refl
is_member-fold set (part ∷ parts) c within =
    is_member-fold (with_part set part) parts c within
    ∙ ap (λ before. is_member_after before parts c) (is_member-with_part set part c within)
