-- A part that needs what a line lacks has no way in that line.
use Rattle.std.proofs.Common.{◌≡◌, ℕ, ◌≤◌, Bool, true, false, List, [], ◌∷◌, ◌++◌, refl, sym, ap, ◌∙◌, arith, subst, inl, inr, ◌⊎◌}
use Rattle.std.specs.Prelude.{Option, Some, None, ◌&&◌, not, slice_get, if◌then◌else◌}
use Rattle.std.proofs.lemmas.Bool.{and_parts, or_parts}
use Rattle.std.proofs.lemmas.Bool.Decides.{nat_tests}
use Rattle.std.proofs.lemmas.Option.{same_Some, none-some}
use Rattle.pattern_items.specs.declared.atom.Atom.{Atom}
use Rattle.vim_pattern.specs.Shape.{Shape, empty, one, seq, or, and, group, external, repeat, ahead, before, whole}
use Rattle.match_rules.specs.Ways.{Context, Way, line_at, behind_character}
use Rattle.match_rules.specs.Atoms.{character_at, lines_looked, only_if}
use Rattle.match_rules.specs.Counts.{after_turn}
use Rattle.match_rules.specs.Looks.{look, look_end}
use Rattle.match_rules.specs.Marks.{Mark, Tick, first_way, followed, reach_if, ticks_first}
use Rattle.match_rules.specs.Visits.{behind_fit, noted, noted_external, visits}
use Rattle.match_rules.proofs.MarkLaws.{AllWays}
use Rattle.match_rules.proofs.TurnLaws.{turns-forced}
use Rattle.pattern_screens.specs.FirstAtoms.{is_forced}
use Rattle.pattern_screens.specs.PlainAtoms.{is_plain, plain_fits, plain_takes}
use Rattle.pattern_screens.proofs.FirstScreens.{any-append, cond-some, fits-told, forced-parts, lists-are}
use Rattle.pattern_screens.proofs.Bounded.{ended-ways, first-none, followed-none, followed-ways, ways-append, ways_of}
use Rattle.pattern_needs.specs.LineCosts.{stays}
use Rattle.pattern_needs.specs.Needs.{are_characters, needed, rather, some_takes}
use Rattle.pattern_needs.proofs.LineParts.{IsFrom, look-stays, ways-from}

-- ---- marks without a way

abbrev pub HasNone : List Mark → Type 0
HasNone marks = ways_of marks ≡ 0

pub none-followed : (a : List Mark) (f : Way → List Mark) → HasNone a → HasNone (followed a f)
none-followed a f h = ap ways_of (followed-none a f h) ∙ h

pub none-after : (P : Way → Type 0) (a : List Mark) (f : Way → List Mark) → AllWays P a → ((v : Way) → P v → HasNone (f v)) → HasNone (followed a f)
none-after P a f h k = omega (arith, followed-ways P 0 a f h (λ v p. omega (arith, k v p)))

none-looked : (w : Way) (marks : List Mark) → HasNone marks → HasNone (look false w marks)
none-looked w marks h = ended-ways (look_end false w) marks None (first-none marks h)

none-whole : (marks : List Mark) → HasNone marks → HasNone (ticks_first marks ++ reach_if (first_way marks))
none-whole marks h = ended-ways reach_if marks None (first-none marks h)

-- ---- which list is needed

rather-is : (o r : Option (List Atom)) (atoms : List Atom) → rather o r ≡ Some atoms → (o ≡ Some atoms) ⊎ (r ≡ Some atoms)
rather-is None r atoms e = inr e
rather-is (Some a) None atoms e = inl e
rather-is (Some a) (Some b) atoms e =
    elim (are_characters a && not (are_characters b)) as (λ t. Some (if t then a else b) ≡ Some atoms → (Some a ≡ Some atoms) ⊎ (Some b ≡ Some atoms)) [
      | true ↦ λ k. inl k
      | false ↦ λ k. inr k
    ] e

not-if : (negative : Bool) (o : Option (List Atom)) (atoms : List Atom) → (if negative then None else o) ≡ Some atoms → (negative ≡ false) × (o ≡ Some atoms)
not-if true o atoms e = absurd (none-some atoms e)
not-if false o atoms e = (refl, e)

-- ---- one atom

module _ (x : Context) (line from : ℕ) where
  -- no character from the column on is taken by one of these
  abbrev pub Lacks : List Atom → Type 0
  Lacks atoms = (i c : ℕ) → from ≤ i → slice_get (line_at x.text line) i ≡ Some c → some_takes x.sets x.ignore atoms c ≡ false

  lacks-one : (a : Atom) → Lacks (a ∷ []) → (col : ℕ) → from ≤ col → (o : Option ℕ) → slice_get (line_at x.text line) col ≡ o → plain_fits x.sets x.ignore o a ≡ false
  lacks-one a h col later None e = refl
  lacks-one a h col later (Some c) e = (or_parts (plain_takes x.sets x.ignore a c) false (h col c later e)).0

  one-none : (a : Atom) → is_plain a ≡ true → Lacks (a ∷ []) → (w : Way) → IsFrom x line from w.at → HasNone (visits x (one a) w)
  one-none a plain h w at =
      let here : slice_get (line_at x.text line) w.at.col ≡ character_at x.text w.at = ap (λ (l : ℕ). slice_get (line_at x.text l) w.at.col) (sym at.on) in
      let fails : plain_fits x.sets x.ignore (character_at x.text w.at) a ≡ false = lacks-one a h w.at.col at.from (character_at x.text w.at) here in
      ap (λ o. ways_of (Tick (lines_looked x w a) ∷ behind_fit w a o)) (fits-told x w a plain ∙ ap (λ b. only_if b (behind_character w.at)) fails)

  -- ---- parts

  abbrev Needing : Shape → Type 0
  Needing node =
      stays node ≡ true → (atoms : List Atom) → needed node ≡ Some atoms → Lacks atoms → (w : Way) → IsFrom x line from w.at → HasNone (visits x node w)

  seq-none : (a b : Shape) → Needing a → Needing b → Needing (seq a b)
  seq-none a b h k e atoms n lack w at =
      let t = and_parts (stays a) (stays b) e in
      elim (rather-is (needed a) (needed b) atoms n) [
        | inl first ↦ none-followed (visits x a w) (visits x b) (h t.0 atoms first lack w at)
        | inr second ↦ none-after (λ v. IsFrom x line from v.at) (visits x a w) (visits x b) (ways-from x line from a t.0 w at) (λ v i. k t.1 atoms second lack v i)
      ]

  or-none : (a b : Shape) → Needing a → Needing b → Needing (or a b)
  or-none a b h k e atoms n lack w at =
      let t = and_parts (stays a) (stays b) e in
      let l = lists-are (needed a) (needed b) atoms n in
      let both : (i c : ℕ) → from ≤ i → slice_get (line_at x.text line) i ≡ Some c → (some_takes x.sets x.ignore l.0 c ≡ false) × (some_takes x.sets x.ignore l.1.0 c ≡ false) = λ i c later is.
      any-append (λ a. plain_takes x.sets x.ignore a c) l.0 l.1.0 (subst (λ r. some_takes x.sets x.ignore r c ≡ false) (sym l.1.1.2) (lack i c later is)) in
      let one : HasNone (visits x a w) = h t.0 l.0 l.1.1.0 (λ i c later is. (both i c later is).0) w at in
      let other : HasNone (visits x b w) = k t.1 l.1.0 l.1.1.1 (λ i c later is. (both i c later is).1) w at in
      ways-append (visits x a w) (visits x b w) ∙ omega (arith, one, other)

  and-none : (a b : Shape) → Needing a → Needing b → Needing (and a b)
  and-none a b h k e atoms n lack w at =
      let t = and_parts (stays a) (stays b) e in
      elim (rather-is (needed a) (needed b) atoms n) [
        | inl first ↦ none-followed (look false w (visits x a w)) (visits x b) (none-looked w (visits x a w) (h t.0 atoms first lack w at))
        | inr second ↦ none-after (λ v. IsFrom x line from v.at) (look false w (visits x a w)) (visits x b) (look-stays (IsFrom x line from) w (visits x a w) at) (λ v i. k t.1 atoms second lack v i)
      ]

  pub none-lacking : (node : Shape) → Needing node
  none-lacking empty e atoms n lack w at = absurd (none-some atoms n)
  none-lacking (one a) e atoms n lack w at =
      let t = cond-some (is_plain a) (Some (a ∷ [])) atoms n in
      one-none a t.0 (subst Lacks (sym (same_Some (a ∷ []) atoms t.1)) lack) w at
  none-lacking (seq a b) e atoms n lack w at = seq-none a b (none-lacking a) (none-lacking b) e atoms n lack w at
  none-lacking (or a b) e atoms n lack w at = or-none a b (none-lacking a) (none-lacking b) e atoms n lack w at
  none-lacking (and a b) e atoms n lack w at = and-none a b (none-lacking a) (none-lacking b) e atoms n lack w at
  none-lacking (group part number) e atoms n lack w at = none-followed (visits x part w) (noted number w.at) (none-lacking part e atoms n lack w at)
  none-lacking (external part number) e atoms n lack w at = none-followed (visits x part w) (noted_external number w.at) (none-lacking part e atoms n lack w at)
  none-lacking (repeat part least count lazy) e atoms n lack w at =
      let c = cond-some (is_forced least count) (needed part) atoms n in
      let forced = forced-parts least count c.0 in
      ap ways_of (turns-forced x.text (visits x part) lazy least count w forced.1 (grind (arith, nat_tests, forced.0)))
      ∙ none-followed (visits x part w) (after_turn x.text (visits x part) lazy least count w.at) (none-lacking part e atoms c.1 lack w at)
  none-lacking (ahead part negative) e atoms n lack w at =
      let c = not-if negative (needed part) atoms n in
      subst (λ (b : Bool). HasNone (look b w (visits x part w))) (sym c.0) (none-looked w (visits x part w) (none-lacking part e atoms c.1 lack w at))
  none-lacking (before part negative limit) e atoms n lack w at = absurd (none-some atoms n)
  none-lacking (whole part) e atoms n lack w at =
      none-whole (visits x part w) (none-lacking part e atoms n lack w at)
