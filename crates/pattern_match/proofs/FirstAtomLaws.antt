-- An attempt whose first atom doesn't fit tries nothing more.
use Rattle.std.proofs.Common.{◌≡◌, inl, inr, ℕ, zero, suc, Bool, true, false, List, [], ◌∷◌, cond, not, ltb, refl, ap, subst, ◌∙◌, arith}
use Rattle.std.specs.Prelude.{Option, Some, None}
use Rattle.std.proofs.lemmas.Bool.{cases_Bool, lt-ltb}
use Rattle.syn_base.specs.declared.looked.Looked.{Looked}
use Rattle.pattern_items.specs.declared.atom.Atom.{Atom}
use Rattle.pattern_items.specs.GroupNumbers.{HasNumber}
use Rattle.vim_pattern.specs.GroupNumbers.{HasNumbers}
use Rattle.vim_pattern.specs.Shape.{Shape, empty, one, seq, or, and, group, external, repeat, ahead, before, whole}
use Rattle.match_rules.specs.Ways.{Context, Way, is_after}
use Rattle.match_rules.specs.Atoms.{fits, lines_looked}
use Rattle.match_rules.specs.Marks.{Mark, Tick, Reach, followed}
use Rattle.match_rules.specs.Counts.{is_spent, turns, unforced, one_less, less_by}
use Rattle.match_rules.specs.Visits.{visits, noted, noted_external, behind_fit}
use Rattle.pattern_match.specs.FirstAtom.{first_atom, is_forced}

one_tick : (x : Context) (w : Way) (a b : Atom) → Some b ≡ Some a → fits x w a ≡ None → visits x (one b) w ≡ Tick (lines_looked x w a) ∷ []
one_tick x w a b is fails =
    let same : b ≡ a = cc in
    ap (λ c. visits x (one c) w) same ∙ ap (λ o. Tick (lines_looked x w a) ∷ behind_fit w a o) fails

pub is_forced-more : (least : ℕ) (most : Option ℕ) (spent : Bool) → is_spent most ≡ spent → is_forced (suc least) most ≡ not spent
is_forced-more least most spent e =
    let some : ltb 0 (suc least) ≡ true = lt-ltb 0 (suc least) (omega arith) in
    rw (some, e) refl

none_or_some : (a : Atom) → None ≡ Some a → ⊥
none_or_some a e = cc

other : (b : Bool) (m n : List Mark) → b ≡ false → elim b as (λ _. List Mark) [ true ↦ m | false ↦ n ] ≡ n
other true m n e = absurd (cc)
other false m n e = refl

-- a forced turn that doesn't fit ends the count
turns-forced : (x : Context) (part : Shape) (least : ℕ) (most : Option ℕ) (lazy : Bool) (w : Way) (looked : Looked) → is_spent most ≡ false → visits x part w ≡ Tick looked ∷ [] → turns x.text (visits x part) lazy (suc least) most w ≡ Tick looked ∷ []
turns-forced x part least most lazy w looked unspent is =
    let next = λ (v : Way). elim (is_after v.at w.at) as (λ _. List Mark) [
      | true ↦ turns x.text (visits x part) lazy least (one_less most) v
      | false ↦ unforced x.text (visits x part) lazy (less_by most (suc least)) v
    ] in
    other (is_spent most) (Reach w ∷ []) (followed (visits x part w) next) unspent ∙ ap (λ marks. followed marks next) is

pub first_atom-fails : (x : Context) (s : Shape) (w : Way) (a : Atom) → first_atom s ≡ Some a → fits x w a ≡ None → visits x s w ≡ Tick (lines_looked x w a) ∷ []
first_atom-fails x empty w a is fails = absurd (cc)
first_atom-fails x (one b) w a is fails = one_tick x w a b is fails
first_atom-fails x (seq s t) w a is fails = ap (λ marks. followed marks (visits x t)) (first_atom-fails x s w a is fails)
first_atom-fails x (or s t) w a is fails = absurd (cc)
first_atom-fails x (and s t) w a is fails = absurd (cc)
first_atom-fails x (group s number) w a is fails = ap (λ marks. followed marks (noted number w.at)) (first_atom-fails x s w a is fails)
first_atom-fails x (external s number) w a is fails = ap (λ marks. followed marks (noted_external number w.at)) (first_atom-fails x s w a is fails)
first_atom-fails x (repeat s zero most lazy) w a is fails = absurd (cc)
first_atom-fails x (repeat s (suc least) most lazy) w a is fails =
    elim (cases_Bool (is_spent most)) [
      | inl spent ↦ absurd (none_or_some a (subst (λ b. cond b (first_atom s) None ≡ Some a) (is_forced-more least most true spent) is))
      | inr unspent ↦
          let first : first_atom s ≡ Some a = subst (λ b. cond b (first_atom s) None ≡ Some a) (is_forced-more least most false unspent) is in
          turns-forced x s least most lazy w (lines_looked x w a) unspent (first_atom-fails x s w a first fails)
    ]
first_atom-fails x (ahead s negative) w a is fails = absurd (cc)
first_atom-fails x (before s negative limit) w a is fails = absurd (cc)
first_atom-fails x (whole s) w a is fails = absurd (cc)

-- its number is one of the node's
pub first_atom-number : (s : Shape) (a : Atom) → first_atom s ≡ Some a → HasNumbers s → HasNumber a
first_atom-number empty a is numbers = absurd (cc)
first_atom-number (one b) a is numbers = let same : b ≡ a = cc in subst (λ c. HasNumber c) same numbers
first_atom-number (seq s t) a is numbers = first_atom-number s a is numbers.0
first_atom-number (or s t) a is numbers = absurd (cc)
first_atom-number (and s t) a is numbers = absurd (cc)
first_atom-number (group s number) a is numbers = first_atom-number s a is numbers.1
first_atom-number (external s number) a is numbers = first_atom-number s a is numbers.1
first_atom-number (repeat s least most lazy) a is numbers =
    elim (cases_Bool (is_forced least most)) [
      | inl forced ↦ first_atom-number s a (subst (λ b. cond b (first_atom s) None ≡ Some a) forced is) numbers
      | inr unforced ↦ absurd (none_or_some a (subst (λ b. cond b (first_atom s) None ≡ Some a) unforced is))
    ]
first_atom-number (ahead s negative) a is numbers = absurd (cc)
first_atom-number (before s negative limit) a is numbers = absurd (cc)
first_atom-number (whole s) a is numbers = absurd (cc)
