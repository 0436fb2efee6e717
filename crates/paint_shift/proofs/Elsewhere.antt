-- A line painted elsewhere is painted alike, said of texts.
use Rattle.std.proofs.Common.{◌≡◌, ◌<◌, ◌+◌, ℕ, suc, List, length, refl, sym, ap, ◌∙◌, subst, arith}
use Rattle.std.specs.Prelude.{Option, Some, None, ℤ, pos, negsuc, ◌+ℤ◌, ◌-ℤ◌}
use Rattle.std.specs.Option.{option_map}
use Rattle.std.proofs.lemmas.Int.{ints}
use Rattle.char_class.specs.declared.sets.Sets.{Sets}
use Rattle.syn_base.specs.Agreement.{Agree}
use Rattle.syn_base.specs.Looked.{moved_by}
use Rattle.syn_base.specs.declared.looked.Looked.{Looked}
use Rattle.keyword_table.specs.declared.table.Definition.{Definition}
use Rattle.match_rules.specs.Ways.{Text}
use Rattle.syntax_set.specs.ClusterTable.{ClusterList}
use Rattle.syntax_set.specs.declared.added_item.AddedItem.{AddedItem}
use Rattle.paint_rules.specs.Line.{painted_line}
use Rattle.paint_rules.specs.Painted.{Painted, Done, Refused}
use Rattle.paint_rules.specs.Syntax.{rules_of}
use Rattle.paint_rules.specs.States.{State}
use Rattle.paint_shift.specs.Elsewhere.{looked_of, moved, AgreeOn, line_in, LinesArePaintedAlike}
use Rattle.paint_shift.proofs.Shift.{Two, shift, AgreesOn, moved_looked, Follows}
use Rattle.paint_shift.proofs.Attempts.{two_texts, attempts_are_local}
use Rattle.paint_shift.proofs.LineLaws.{painted_line_same}

module _ (two : Two) (by : ℤ) (far : shift two ≡ by) where
  agrees_on : (k : Option Looked) → AgreeOn two.one two.other by k → AgreesOn two k
  agrees_on None ok = tt
  agrees_on (Some l) ok = subst (λ by. Agree two.one two.other by l) (sym far) ok

  looked_moved : (k : Option Looked) → moved_looked two k ≡ option_map (λ l. moved_by l by) k
  looked_moved None = refl
  looked_moved (Some l) = ap (λ by. Some (moved_by l by)) far

  alike : {E A : Type 0} (p q : Painted E A) → Follows two (λ a b. b ≡ a) p q →
      AgreeOn two.one two.other by (looked_of p) → q ≡ moved by p
  alike (Done a k) q follows ok =
      let r = follows (agrees_on k ok) in
      r.1 ∙ (ap (λ b. Done b (moved_looked two k)) r.2 ∙ ap (λ k. Done a k) (looked_moved k))
  alike (Refused c k) q follows ok =
      follows (agrees_on k ok) ∙ ap (λ k. Refused c k) (looked_moved k)

module _ (items : List AddedItem) (lists : List ClusterList) (keywords : List Definition)
    (sets : Sets) (budget : ℕ) (t u : Text) where
  at_shift : (ahead back : ℕ) (by : ℤ) → pos ahead -ℤ pos back ≡ by → (k j : ℕ) (before : State) →
      pos j ≡ pos k +ℤ by → k < length t →
      AgreeOn t u by
      (looked_of (painted_line
      (line_in (rules_of items lists keywords sets budget) t k) before)) →
      painted_line (line_in (rules_of items lists keywords sets budget) u j) before
      ≡ moved by (painted_line (line_in (rules_of items lists keywords sets budget) t k) before)
  at_shift ahead back by far k j before line on ok =
      let two = two_texts items lists keywords sets budget t u ahead back in
      let m : j + back ≡ k + ahead = omega (arith, ints, line, far) in
      let same = painted_line_same two
      (attempts_are_local items lists keywords sets budget t u ahead back) k j on m before in
      alike two by far
      (painted_line (line_in (rules_of items lists keywords sets budget) t k) before)
      (painted_line
      (line_in (rules_of items lists keywords sets budget) u j) before) same.follows ok

ahead_of : (n : ℕ) → pos n -ℤ pos 0 ≡ pos n
ahead_of n = omega (arith, ints)

back_by : (n : ℕ) → pos 0 -ℤ pos (suc n) ≡ negsuc n
back_by n = omega (arith, ints)

pub lines_are_painted_alike : LinesArePaintedAlike
lines_are_painted_alike items lists keywords sets budget t u (pos n) k j before =
    at_shift items lists keywords sets budget t u n 0 (pos n) (ahead_of n) k j before
lines_are_painted_alike items lists keywords sets budget t u (negsuc n) k j before =
    at_shift items lists keywords sets budget t u 0 (suc n) (negsuc n) (back_by n) k j before
