-- The spans of a line that is made character by character are its longest runs of one same group.
use Rattle.std.proofs.Common.{◌≡◌, ℕ, zero, suc, ◌+◌, ◌<◌, ◌≤◌, Bool, true, false, List, [], ◌∷◌, ◌++◌, length, refl, sym, ap, subst, ◌∙◌, inl, inr, arith}
use Rattle.std.specs.Prelude.{◌&&◌, not, nat_eq, nat_lt, Option, Some, None, map, slice_get}
use Rattle.std.proofs.lemmas.Bool.{cases_lt, le-ltb}
use Rattle.std.proofs.lemmas.Bool.Decides.{nat_tests}
use Rattle.std.proofs.lemmas.List.{append_assoc, append-nil, length-append, length-map, map-append}
use Rattle.std.proofs.lemmas.Option.{slice_get_within}
use Rattle.syn_base.specs.SpansFit.{IsFromColumn}
use Rattle.syn_base.specs.declared.places.GroupId.{GroupId}
use Rattle.syn_base.specs.declared.places.Span.{Span}
use Rattle.conceal_view.specs.Cells.{Cell, SeenLine, goes_on, group_at, has_column, line_of, no_characters, same_group, with_cell, with_run}
use Rattle.conceal_view.specs.Laws.{AreMaximal, SpansAreTheLongestRuns}
use Rattle.conceal_view.specs.Seeing.{with_cells}
use Rattle.conceal_view.proofs.CellLaws.{by_holding, holds, holds_no_more, holds_not}
use Rattle.conceal_view.proofs.FitLaws.{cell_fits, goes_on_next}
use Rattle.conceal_view.proofs.RunLaws.{run_behind}

same_as_itself : (n : ℕ) → nat_eq n n ≡ true
same_as_itself n = grind (arith, nat_tests)

-- No span goes on in the next one

abbrev Maximal : List Span → Type 0
Maximal [] = Unit {0}
Maximal (span ∷ []) = Unit {0}
Maximal (span ∷ next ∷ spans) = (next.first ≡ suc span.last → next.group ≡ span.group → ⊥) × Maximal (next ∷ spans)

apart_where_not_on : (span : Span) (first : ℕ) (g : GroupId) → goes_on span first g ≡ false → first ≡ suc span.last → g ≡ span.group → ⊥
apart_where_not_on span first g off e same =
    let on : goes_on span first g ≡ true =
    ap (λ n. nat_eq n (suc span.last) && same_group span.group g) e
    ∙ ap (λ b. b && same_group span.group g) (same_as_itself (suc span.last))
    ∙ ap (λ (h : GroupId). same_group span.group h) same
    ∙ same_as_itself span.group.0 in
    cc

run_maximal : (spans : List Span) (first last : ℕ) (g : GroupId) → Maximal spans → Maximal (with_run spans first last g)
run_maximal [] first last g m = tt
run_maximal (span ∷ []) first last g m = by_on (goes_on span first g) refl
  where
    by_on : (on : Bool) → goes_on span first g ≡ on → Maximal (with_run (span ∷ []) first last g)
    by_on true e = subst Maximal (sym (run_behind span first last g true e)) tt
    by_on false e = subst Maximal (sym (run_behind span first last g false e)) (apart_where_not_on span first g e, tt)
run_maximal (span ∷ next ∷ []) first last g m = by_on (goes_on next first g) refl
  where
    by_on : (on : Bool) → goes_on next first g ≡ on → Maximal (span ∷ with_run (next ∷ []) first last g)
    by_on true e = subst (λ (ss : List Span). Maximal (span ∷ ss)) (sym (run_behind next first last g true e)) (m.0, tt)
    by_on false e = subst (λ (ss : List Span). Maximal (span ∷ ss)) (sym (run_behind next first last g false e)) (m.0, (apart_where_not_on next first g e, tt))
run_maximal (span ∷ next ∷ more ∷ spans) first last g m = (m.0, run_maximal (next ∷ more ∷ spans) first last g m.1)

by_place : (spans : List Span) → Maximal spans → AreMaximal spans
by_place [] m i span next e f = cc
by_place (one ∷ []) m zero span next e f = cc
by_place (one ∷ []) m (suc i) span next e f = cc
by_place (one ∷ other ∷ spans) m zero span next e f =
    let same : one ≡ span = cc in
    let alike : other ≡ next = cc in
    λ touch group. m.0 (ap (λ (s : Span). s.first) alike ∙ touch ∙ ap (λ (s : Span). suc s.last) (sym same)) (ap (λ (s : Span). s.group) alike ∙ group ∙ ap (λ (s : Span). s.group) (sym same))
by_place (one ∷ other ∷ spans) m (suc i) span next e f = by_place (other ∷ spans) m.1 i span next e f

-- The group of each character

past_end : (spans : List Span) (column end c : ℕ) → IsFromColumn column end spans → end ≤ c → group_at spans c ≡ None
past_end [] column end c fit le = refl
past_end (span ∷ spans) column end c fit le =
    by_holding span spans c false (holds_no_more span c (omega (arith, fit.2)))
    ∙ past_end spans (span.last + 1) end c fit.3 le

either_way : (span : Span) (spans others : List Span) (c : ℕ) → group_at spans c ≡ group_at others c → group_at (span ∷ spans) c ≡ group_at (span ∷ others) c
either_way span spans others c e = ap (λ rest. elim (has_column span c) as (λ _. Option GroupId) [ true ↦ Some span.group | false ↦ rest ]) e

not_yet : (first : ℕ) (g : GroupId) (c : ℕ) → c < first → group_at (record { first = first; last = first; group = g } ∷ []) c ≡ None
not_yet first g c lt = by_holding (record { first = first; last = first; group = g }) [] c false (holds_not (record { first = first; last = first; group = g }) c lt)

run_keeps : (spans : List Span) (column first : ℕ) (g : GroupId) (c : ℕ) → IsFromColumn column first spans → c < first →
    group_at (with_run spans first first g) c ≡ group_at spans c
run_keeps [] column first g c fit lt = not_yet first g c lt
run_keeps (span ∷ []) column first g c fit lt = by_on (goes_on span first g) refl
  where
    by_on : (on : Bool) → goes_on span first g ≡ on → group_at (with_run (span ∷ []) first first g) c ≡ group_at (span ∷ []) c
    by_on true e =
        ap (λ ss. group_at ss c) (run_behind span first first g true e)
        ∙ ap (λ b. elim (not (nat_lt c span.first) && not b) as (λ _. Option GroupId) [ true ↦ Some span.group | false ↦ None ])
        (le-ltb first c (omega arith) ∙ sym (le-ltb span.last c (omega (arith, goes_on_next span first g e))))
    by_on false e =
        ap (λ ss. group_at ss c) (run_behind span first first g false e)
        ∙ either_way span (record { first = first; last = first; group = g } ∷ []) [] c (not_yet first g c lt)
run_keeps (span ∷ next ∷ spans) column first g c fit lt =
    either_way span (with_run (next ∷ spans) first first g) (next ∷ spans) c (run_keeps (next ∷ spans) (span.last + 1) first g c fit.3 lt)

second_of_both : (a b : Bool) → (a && b) ≡ true → b ≡ true
second_of_both true b e = e
second_of_both false true e = refl
second_of_both false false e = e

same_group_is : (g h : GroupId) → same_group g h ≡ true → g ≡ h
same_group_is g h e =
    let number : g.0 ≡ h.0 = equal e in
    λ j. record { 0 = number j }
  where
    equal : nat_eq g.0 h.0 ≡ true → g.0 ≡ h.0
    equal f = grind (arith, nat_tests)

itself : (first : ℕ) (g : GroupId) → group_at (record { first = first; last = first; group = g } ∷ []) first ≡ Some g
itself first g = by_holding (record { first = first; last = first; group = g }) [] first true (holds (record { first = first; last = first; group = g }) first (omega arith) (omega arith))

run_shows : (spans : List Span) (column first : ℕ) (g : GroupId) → IsFromColumn column first spans →
    group_at (with_run spans first first g) first ≡ Some g
run_shows [] column first g fit = itself first g
run_shows (span ∷ []) column first g fit = by_on (goes_on span first g) refl
  where
    by_on : (on : Bool) → goes_on span first g ≡ on → group_at (with_run (span ∷ []) first first g) first ≡ Some g
    by_on true e =
        ap (λ ss. group_at ss first) (run_behind span first first g true e)
        ∙ by_holding (record span { last = first }) [] first true (holds (record span { last = first }) first (omega (arith, fit.1, fit.2)) (omega arith))
        ∙ ap Some (same_group_is span.group g (second_of_both (nat_eq first (suc span.last)) (same_group span.group g) e))
    by_on false e =
        ap (λ ss. group_at ss first) (run_behind span first first g false e)
        ∙ by_holding span (record { first = first; last = first; group = g } ∷ []) first false (holds_no_more span first fit.2)
        ∙ itself first g
run_shows (span ∷ next ∷ spans) column first g fit =
    by_holding span (with_run (next ∷ spans) first first g) first false (holds_no_more span first fit.2)
    ∙ run_shows (next ∷ spans) (span.last + 1) first g fit.3

-- One character more

in_front : (cells : List Cell) (last : Cell) (c : ℕ) → c < length cells → slice_get (cells ++ last ∷ []) c ≡ slice_get cells c
in_front [] last c lt = absurd (omega arith)
in_front (cell ∷ cells) last zero lt = refl
in_front (cell ∷ cells) last (suc c) lt = in_front cells last c (omega (arith, lt))

at_end : (cells : List Cell) (last : Cell) (c : ℕ) → c ≡ length cells → slice_get (cells ++ last ∷ []) c ≡ Some last
at_end [] last zero e = refl
at_end [] last (suc c) e = absurd (omega arith)
at_end (cell ∷ cells) last zero e = absurd (omega arith)
at_end (cell ∷ cells) last (suc c) e = at_end cells last c (omega (arith, e))

record Shown (cells : List Cell) (line : SeenLine) : Type 0 where
  chars : line.chars ≡ map (λ (cell : Cell). cell.char) cells
  fit : IsFromColumn 0 (length line.chars) line.spans
  maximal : Maximal line.spans
  shows : (c : ℕ) (cell : Cell) → slice_get cells c ≡ Some cell → group_at line.spans c ≡ cell.group

as_many : (cells : List Cell) (line : SeenLine) → Shown cells line → length line.chars ≡ length cells
as_many cells line s = ap length s.chars ∙ length-map cells (λ (cell : Cell). cell.char)

maximal_still : (line : SeenLine) (x : ℕ) (group : Option GroupId) → Maximal line.spans → Maximal (with_cell line (record { char = x; group = group })).spans
maximal_still line x None m = m
maximal_still line x (Some g) m = run_maximal line.spans (length line.chars) (length line.chars) g m

keeps : (line : SeenLine) (x : ℕ) (group : Option GroupId) (c : ℕ) → IsFromColumn 0 (length line.chars) line.spans → c < length line.chars →
    group_at (with_cell line (record { char = x; group = group })).spans c ≡ group_at line.spans c
keeps line x None c fit lt = refl
keeps line x (Some g) c fit lt = run_keeps line.spans 0 (length line.chars) g c fit lt

shows_last : (line : SeenLine) (x : ℕ) (group : Option GroupId) → IsFromColumn 0 (length line.chars) line.spans →
    group_at (with_cell line (record { char = x; group = group })).spans (length line.chars) ≡ group
shows_last line x None fit = past_end line.spans 0 (length line.chars) (length line.chars) fit (omega arith)
shows_last line x (Some g) fit = run_shows line.spans 0 (length line.chars) g fit

one_more : (cells : List Cell) (line : SeenLine) (last : Cell) → Shown cells line → Shown (cells ++ last ∷ []) (with_cell line last)
one_more cells line last s = record {
  chars = ap (λ xs. xs ++ last.char ∷ []) s.chars ∙ sym (map-append (λ (cell : Cell). cell.char) cells (last ∷ []));
  fit = cell_fits line last.char last.group s.fit;
  maximal = maximal_still line last.char last.group s.maximal;
  shows = λ c cell e. elim (cases_lt c (length cells)) [
    | inl lt ↦
        keeps line last.char last.group c s.fit (omega (arith, lt, as_many cells line s))
        ∙ s.shows c cell (sym (in_front cells last c lt) ∙ e)
    | inr le ↦
        let within : c < length (cells ++ last ∷ []) = slice_get_within (cells ++ last ∷ []) c cell e in
        let here : c ≡ length cells = omega (arith, le, within, length-append cells (last ∷ [])) in
        let found : Some last ≡ Some cell = sym (at_end cells last c here) ∙ e in
        let same : last ≡ cell = cc in
        ap (λ n. group_at (with_cell line last).spans n) (here ∙ sym (as_many cells line s))
        ∙ shows_last line last.char last.group s.fit
        ∙ ap (λ (one : Cell). one.group) same
  ];
}

all_more : (cells : List Cell) (line : SeenLine) (more : List Cell) → Shown cells line → Shown (cells ++ more) (with_cells line more)
all_more cells line [] s = subst (λ (cs : List Cell). Shown cs line) (sym (append-nil cells)) s
all_more cells line (cell ∷ more) s =
    subst (λ (cs : List Cell). Shown cs (with_cells (with_cell line cell) more)) (append_assoc cells (cell ∷ []) more)
    (all_more (cells ++ cell ∷ []) (with_cell line cell) more (one_more cells line cell s))

pub spans_are_the_longest_runs : SpansAreTheLongestRuns
spans_are_the_longest_runs cells =
    let s = all_more [] no_characters cells (record { chars = refl; fit = omega arith; maximal = tt; shows = λ c cell e. cc }) in
    record { chars = s.chars; fit = s.fit; maximal = by_place (line_of cells).spans s.maximal; shows = s.shows }
