-- Counts (Vim's help, pattern-multi-items). Below the least count a turn is forced; from there on a
-- greedy count tries another turn before it stops, and a lazy one stops first. A turn that took nothing
-- is no turn: from the least count on its way is dropped, and below it, it stands for all that are left.
use Rattle.std.specs.Prelude.{ℕ, zero, suc, ◌+◌, ◌-◌, Bool, true, false, nat_eq, List, [], ◌∷◌, ◌++◌, Option, Some, None, length, drop, sum_by}
use Rattle.syn_base.specs.declared.places.Place.{Place}
use Rattle.match_rules.specs.Ways.{Text, Way, is_after}
use Rattle.match_rules.specs.Marks.{Mark, Reach, followed}

-- the places of a text behind a place: no count takes more turns that take something
abbrev pub places_behind : Text → Place → ℕ
places_behind text p = sum_by (λ line. length line + 1) (drop p.line text) - p.col

-- another turn and the stop, in the order of the count
abbrev pub in_order : Bool → List Mark → List Mark → List Mark
in_order true more stop = stop ++ more
in_order false more stop = more ++ stop

-- how many turns are still allowed, after one and after several
abbrev pub one_less : Option ℕ → Option ℕ
one_less None = None
one_less (Some most) = Some (most - 1)

abbrev pub less_by : Option ℕ → ℕ → Option ℕ
less_by None turns = None
less_by (Some most) turns = Some (most - turns)

abbrev pub is_spent : Option ℕ → Bool
is_spent None = false
is_spent (Some most) = nat_eq most 0

-- the turns from the least count on, where `most` more are allowed
abbrev pub free_turns : (Way → List Mark) → Bool → ℕ → Option ℕ → Way → List Mark
free_turns part lazy zero most w = Reach w ∷ []
free_turns part lazy (suc left) most w =
    elim (is_spent most) [
      | true ↦ Reach w ∷ []
      | false ↦ in_order lazy (followed (part w)
          (λ v. elim (is_after v.at w.at)
          [ true ↦ free_turns part lazy left (one_less most) v | false ↦ [] ])) (Reach w ∷ [])
    ]

abbrev pub unforced : Text → (Way → List Mark) → Bool → Option ℕ → Way → List Mark
unforced text part lazy most w = free_turns part lazy (suc (places_behind text w.at)) most w

-- the turns where `least` are still forced and `most` allowed
abbrev pub turns : Text → (Way → List Mark) → Bool → ℕ → Option ℕ → Way → List Mark
turns text part lazy zero most w = unforced text part lazy most w
turns text part lazy (suc least) most w =
    elim (is_spent most) [
      | true ↦ Reach w ∷ []
      | false ↦ followed (part w) (λ v. elim (is_after v.at w.at) [
        | true ↦ turns text part lazy least (one_less most) v
        | false ↦ unforced text part lazy (less_by most (suc least)) v
      ])
    ]

-- ---- a count is its own next turn and the rest (a law: `a_count_is_its_next_turn`)

-- from the way that a turn from a place has reached
abbrev pub after_turn : Text → (Way → List Mark) → Bool → ℕ → Option ℕ → Place → Way → List Mark
after_turn text part lazy zero most from v =
    elim (is_after v.at from) [ true ↦ turns text part lazy zero (one_less most) v | false ↦ [] ]
after_turn text part lazy (suc least) most from v =
    elim (is_after v.at from) [
      | true ↦ turns text part lazy least (one_less most) v
      | false ↦ turns text part lazy zero (less_by most (suc least)) v
    ]

abbrev pub or_stop : ℕ → Bool → List Mark → Way → List Mark
or_stop zero lazy more w = in_order lazy more (Reach w ∷ [])
or_stop (suc least) lazy more w = more

abbrev pub next_turn : Text → (Way → List Mark) → Bool → ℕ → Option ℕ → Way → List Mark
next_turn text part lazy least most w =
    elim (is_spent most) [
      | true ↦ Reach w ∷ []
      | false ↦ or_stop least lazy (followed (part w) (after_turn text part lazy least most w.at)) w
    ]
