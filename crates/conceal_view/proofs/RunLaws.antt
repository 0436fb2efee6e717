-- Runs of one group that are put behind a line.
use Rattle.std.proofs.Common.{◌≡◌, ℕ, zero, suc, ◌+◌, ◌<◌, Bool, true, false, List, [], ◌∷◌, ◌++◌, length, refl, sym, ap, ◌∙◌, arith, set, get_or}
use Rattle.std.specs.Prelude.{◌&&◌, nat_eq, Some, None, slice_get}
use Rattle.std.proofs.lemmas.Bool.Decides.{nat_tests}
use Rattle.std.proofs.lemmas.List.{append_assoc, append-nil, length-append}
use Rattle.syn_base.specs.declared.places.GroupId.{GroupId}
use Rattle.syn_base.specs.declared.places.Span.{Span}
use Rattle.conceal_view.specs.Cells.{SeenLine, goes_on, with_run}
use Rattle.conceal_view.specs.Seeing.{run_of, with_cells, last_goes_on}

same_as_itself : (n : ℕ) → nat_eq n n ≡ true
same_as_itself n = grind (arith, nat_tests)

-- a run goes on with what was put before it
on_from_itself : (first last : ℕ) (g : GroupId) → goes_on (record { first = first; last = last; group = g }) (suc last) g ≡ true
on_from_itself first last g = ap (λ b. b && nat_eq g.0 g.0) (same_as_itself (suc last)) ∙ same_as_itself g.0

on_from_other : (span : Span) (first last : ℕ) (g : GroupId) → goes_on span first g ≡ true → goes_on (record span { last = last }) (suc last) g ≡ true
on_from_other span first last g on =
    ap (λ b. b && nat_eq span.group.0 g.0) (same_as_itself (suc last)) ∙ second _ _ on
  where
    second : (a b : Bool) → (a && b) ≡ true → b ≡ true
    second true b e = e
    second false true e = refl
    second false false e = e

abbrev pub behind_last : Bool → Span → ℕ → ℕ → GroupId → List Span
behind_last on span first last g =
    elim on [
      | true ↦ record span { last = last } ∷ []
      | false ↦ span ∷ record { first = first; last = last; group = g } ∷ []
    ]

pub run_behind : (span : Span) (first last : ℕ) (g : GroupId) (on : Bool) → goes_on span first g ≡ on →
    with_run (span ∷ []) first last g ≡ behind_last on span first last g
run_behind span first last g on e = ap (λ b. behind_last b span first last g) e

-- two runs of one group, one behind the other, are one
one_behind : (span : Span) (first last end : ℕ) (g : GroupId) (on : Bool) → goes_on span first g ≡ on →
    with_run (with_run (span ∷ []) first last g) (suc last) end g ≡ with_run (span ∷ []) first end g
one_behind span first last end g true e =
    ap (λ spans. with_run spans (suc last) end g) (run_behind span first last g true e)
    ∙ run_behind (record span { last = last }) (suc last) end g true (on_from_other span first last g e)
    ∙ sym (run_behind span first end g true e)
one_behind span first last end g false e =
    ap (λ spans. with_run spans (suc last) end g) (run_behind span first last g false e)
    ∙ ap (λ spans. span ∷ spans) (run_behind (record { first = first; last = last; group = g }) (suc last) end g true (on_from_itself first last g))
    ∙ sym (run_behind span first end g false e)

-- spans in front of some don't matter where there are some
past_front : (span next : Span) (spans more : List Span) (first last end : ℕ) (g : GroupId) →
    with_run (with_run (span ∷ next ∷ spans) first last g) (suc last) end g
    ≡ span ∷ with_run (with_run (next ∷ spans) first last g) (suc last) end g
past_front span next [] more first last end g = by_cases (goes_on next first g) refl
  where
    by_cases : (on : Bool) → goes_on next first g ≡ on →
        with_run (span ∷ with_run (next ∷ []) first last g) (suc last) end g
        ≡ span ∷ with_run (with_run (next ∷ []) first last g) (suc last) end g
    by_cases true e =
        ap (λ spans. with_run (span ∷ spans) (suc last) end g) (run_behind next first last g true e)
        ∙ sym (ap (λ spans. span ∷ with_run spans (suc last) end g) (run_behind next first last g true e))
    by_cases false e =
        ap (λ spans. with_run (span ∷ spans) (suc last) end g) (run_behind next first last g false e)
        ∙ sym (ap (λ spans. span ∷ with_run spans (suc last) end g) (run_behind next first last g false e))
past_front span next (more ∷ spans) _ first last end g = refl

pub runs_join : (spans : List Span) (first last end : ℕ) (g : GroupId) →
    with_run (with_run spans first last g) (suc last) end g ≡ with_run spans first end g
runs_join [] first last end g =
    run_behind (record { first = first; last = last; group = g }) (suc last) end g true (on_from_itself first last g)
runs_join (span ∷ []) first last end g = one_behind span first last end g (goes_on span first g) refl
runs_join (span ∷ next ∷ spans) first last end g =
    past_front span next spans [] first last end g
    ∙ ap (λ spans. span ∷ spans) (runs_join (next ∷ spans) first last end g)

-- characters that show none have no span
pub no_span : (line : SeenLine) (xs : List ℕ) → with_cells line (run_of None xs) ≡ record line { chars = line.chars ++ xs }
no_span line [] = ap (λ chars. record line { chars = chars }) (sym (append-nil line.chars))
no_span line (x ∷ xs) =
    no_span (record line { chars = line.chars ++ x ∷ [] }) xs
    ∙ ap (λ chars. record line { chars = chars }) (append_assoc line.chars (x ∷ []) xs)

-- a run goes on with the characters behind it
run_on : (chars : List ℕ) (spans : List Span) (first last : ℕ) (g : GroupId) (xs : List ℕ) → length chars ≡ suc last →
    with_cells (record { chars = chars; spans = with_run spans first last g }) (run_of (Some g) xs)
    ≡ record { chars = chars ++ xs; spans = with_run spans first (last + length xs) g }
run_on chars spans first last g [] e =
    ap (λ cs. record { chars = cs; spans = with_run spans first last g }) (sym (append-nil chars))
    ∙ ap (λ n. record { chars = chars ++ []; spans = with_run spans first n g }) (omega arith)
run_on chars spans first last g (x ∷ xs) e =
    ap (λ n. with_cells (record { chars = chars ++ x ∷ []; spans = with_run (with_run spans first last g) n n g }) (run_of (Some g) xs)) e
    ∙ ap (λ ss. with_cells (record { chars = chars ++ x ∷ []; spans = ss }) (run_of (Some g) xs)) (runs_join spans first last (suc last) g)
    ∙ run_on (chars ++ x ∷ []) spans first (suc last) g xs (length-append chars (x ∷ []) ∙ omega (arith, e))
    ∙ ap (λ cs. record { chars = cs; spans = with_run spans first (suc last + length xs) g }) (append_assoc chars (x ∷ []) xs)
    ∙ ap (λ n. record { chars = chars ++ x ∷ xs; spans = with_run spans first n g }) (omega arith)

-- a run of one group has one span
pub one_span : (line : SeenLine) (g : GroupId) (x : ℕ) (xs : List ℕ) →
    with_cells line (run_of (Some g) (x ∷ xs))
    ≡ record { chars = line.chars ++ x ∷ xs; spans = with_run line.spans (length line.chars) (length line.chars + length xs) g }
one_span line g x xs =
    run_on (line.chars ++ x ∷ []) line.spans (length line.chars) (length line.chars) g xs (length-append line.chars (x ∷ []) ∙ omega arith)
    ∙ ap (λ cs. record { chars = cs; spans = with_run line.spans (length line.chars) (length line.chars + length xs) g }) (append_assoc line.chars (x ∷ []) xs)

pub one_span_to : (line : SeenLine) (g : GroupId) (xs : List ℕ) (last : ℕ) → suc last ≡ length line.chars + length xs → 0 < length xs →
    with_cells line (run_of (Some g) xs)
    ≡ record { chars = line.chars ++ xs; spans = with_run line.spans (length line.chars) last g }
one_span_to line g [] last e some = absurd (omega arith)
one_span_to line g (x ∷ xs) last e some =
    one_span line g x xs
    ∙ ap (λ n. record { chars = line.chars ++ x ∷ xs; spans = with_run line.spans (length line.chars) n g }) (omega arith)

-- The last of some spans

pub by_last : (spans : List Span) (k first : ℕ) (g : GroupId) (span : Span) → suc k ≡ length spans → slice_get spans k ≡ Some span →
    last_goes_on spans first g ≡ goes_on span first g
by_last [] k first g span n e = absurd (omega arith)
by_last (one ∷ []) zero first g span n e = let same : one ≡ span = cc in ap (λ s. goes_on s first g) same
by_last (one ∷ []) (suc k) first g span n e = absurd (omega arith)
by_last (one ∷ next ∷ spans) zero first g span n e = absurd (omega arith)
by_last (one ∷ next ∷ spans) (suc k) first g span n e = by_last (next ∷ spans) k first g span (omega arith) e

pub none_last : (spans : List Span) (first : ℕ) (g : GroupId) → length spans ≡ 0 → last_goes_on spans first g ≡ false
none_last [] first g e = refl
none_last (one ∷ spans) first g e = absurd (omega arith)

-- where a run goes on with the last span, that one gets another end
pub run_joins : (spans : List Span) (k first last : ℕ) (g : GroupId) (d : Span) → suc k ≡ length spans → last_goes_on spans first g ≡ true →
    set spans k (record (get_or spans k d) { last = last }) ≡ with_run spans first last g
run_joins [] k first last g d n e = absurd (omega arith)
run_joins (one ∷ []) zero first last g d n e = sym (run_behind one first last g true e)
run_joins (one ∷ []) (suc k) first last g d n e = absurd (omega arith)
run_joins (one ∷ next ∷ spans) zero first last g d n e = absurd (omega arith)
run_joins (one ∷ next ∷ spans) (suc k) first last g d n e = ap (λ spans. one ∷ spans) (run_joins (next ∷ spans) k first last g d (omega arith) e)

pub run_begins : (spans : List Span) (first last : ℕ) (g : GroupId) → last_goes_on spans first g ≡ false →
    spans ++ record { first = first; last = last; group = g } ∷ [] ≡ with_run spans first last g
run_begins [] first last g e = refl
run_begins (one ∷ []) first last g e = sym (run_behind one first last g false e)
run_begins (one ∷ next ∷ spans) first last g e = ap (λ spans. one ∷ spans) (run_begins (next ∷ spans) first last g e)

pub some_there : (n : ℕ) → false ≡ nat_eq n 0 → 0 < n
some_there zero e = cc
some_there (suc n) e = omega arith
