-- One element exchanged in its chunk: the list then, and where its chunks end.
use Rattle.std.proofs.Common.{arith, sym, ap, ◌∙◌, ◌≡◌, ◌<◌, ◌≤◌, ◌+◌, ◌-◌, ℕ, zero, suc, get_or, List, [], ◌∷◌, ◌++◌, take, set, length, length-append, length-set, refl}
use Rattle.std.specs.Prelude.{Some, slice_get}
use Rattle.std.proofs.lemmas.List.{set-append_left, set-append_right}
use Rattle.std.proofs.lemmas.Option.{slice_get_read}
use Rattle.chunk_list.specs.Flat.{Holds, ends_from, even_of, flat, start_in}
use Rattle.chunk_list.proofs.EndLaws.{found, stand_of, start_is}
use Rattle.chunk_list.proofs.EvenLaws.{even_set}

flat_set : {X : Type 0} (cs : List (List X)) (i at within : ℕ) (c : List X) (x : X) → slice_get cs i ≡ Some c → at ≡ length (flat (take i cs)) + within → within < length c → flat (set cs i (set c within x)) ≡ set (flat cs) at x
flat_set [] i at within c x is place inside = absurd cc
flat_set {X} (d ∷ cs) zero at within c x is place inside =
    let same : c ≡ d = cc in
    let e : within ≡ at = omega arith in
    sym (set-append_left c (flat cs) within x inside) ∙ ap (λ (l : List X). set (l ++ flat cs) within x) same ∙ ap (λ (n : ℕ). set (d ++ flat cs) n x) e
flat_set {X} (d ∷ cs) (suc i) at within c x is place inside =
    let n = length-append d (flat (take i cs)) in
    let low : length d ≤ at = omega (arith, place, n) in
    let rest : flat (set cs i (set c within x)) ≡ set (flat cs) (at - length d) x = flat_set cs i (at - length d) within c x is (omega (arith, place, n)) inside in
    ap (λ (l : List X). d ++ l) rest ∙ sym (set-append_right d (flat cs) (length d) at x refl low)

ends_set : {X : Type 0} (cs : List (List X)) (s i : ℕ) (c e : List X) → slice_get cs i ≡ Some c → length e ≡ length c → ends_from s (set cs i e) ≡ ends_from s cs
ends_set [] s i c e is same = absurd cc
ends_set {X} (d ∷ cs) s zero c e is same =
    let own : c ≡ d = cc in
    let n : length e ≡ length d = same ∙ ap length own in
    ap (λ (n : ℕ). (s + n) ∷ ends_from (s + n) cs) n
ends_set (d ∷ cs) s (suc i) c e is same = ap (λ (l : List ℕ). (s + length d) ∷ l) (ends_set cs (s + length d) i c e is same)

-- the list with the element exchanged, as code finds its chunk
pub record Exchanged {X : Type 0} (cs : List (List X)) (ends : List ℕ) (at j : ℕ) (x : X) (own : List X) : Type 0 where
  pub list : flat (set cs j own) ≡ set (flat cs) at x
  pub ends_are : ends ≡ ends_from 0 (set cs j own)
  pub even_is : even_of (set cs j own) ≡ even_of cs

pub exchanged : {X : Type 0} (cs : List (List X)) (ends : List ℕ) (at j start : ℕ) (c own : List X) (x : X) → ends ≡ ends_from 0 cs → Holds ends at j → start ≡ start_in ends j → c ≡ get_or cs j c → own ≡ set c (at - start) x → Exchanged cs ends at j x own
exchanged {X} cs ends at j start c own x are holds begins here is =
    let stand = stand_of cs ends at j are holds in
    let chunk : slice_get cs j ≡ Some c = slice_get_read cs (length cs) j c refl stand.inside here in
    let s : start ≡ length (flat (take j cs)) = begins ∙ ap (λ (e : List ℕ). start_in e j) are ∙ start_is cs j (omega (arith, stand.inside)) in
    let place : at ≡ length (flat (take j cs)) + (at - start) = omega (arith, stand.from, s) in
    let within = (found cs ends at j start c are holds begins here).within in
    record {
      list = ap (λ (l : List X). flat (set cs j l)) is ∙ flat_set cs j at (at - start) c x chunk place within;
      ends_are = are ∙ sym (ends_set cs 0 j c own chunk (ap length is ∙ length-set c (at - start) x));
      even_is = even_set cs j c own chunk (ap length is ∙ length-set c (at - start) x);
    }
