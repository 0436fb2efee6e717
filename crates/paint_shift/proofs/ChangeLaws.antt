-- After a change of some lines, the old and the new text agree on lines that all lie before it, and
-- on lines that all lie behind it.
use Rattle.std.proofs.Common.{◌≡◌, ◌<◌, ◌≤◌, ◌+◌, ◌-◌, ℕ, arith, Bool, true, false, List, [], ◌++◌}
use Rattle.std.proofs.Common.{length, take, drop, get_or, refl, sym, ap, ◌∙◌, subst, length-append}
use Rattle.std.proofs.Common.{length-drop}
use Rattle.std.specs.Prelude.{Option, Some, None, ℤ, pos, negsuc, ◌+ℤ◌, ◌-ℤ◌, ◌≤ℤ◌, ◌<ℤ◌, nat_lt}
use Rattle.std.specs.Prelude.{slice_get}
use Rattle.std.specs.Option.{option_map}
use Rattle.std.proofs.lemmas.Int.{ints}
use Rattle.std.proofs.lemmas.Bool.Decides.{nat_tests}
use Rattle.std.proofs.lemmas.List.{length-take-le, get_or-take, get_or-drop, get_or-append-add}
use Rattle.std.proofs.lemmas.Option.{slice_get-get_or, slice_get_past}
use Rattle.std.proofs.Math.ListN.{get_or-append}
use Rattle.char_class.specs.declared.sets.Sets.{Sets}
use Rattle.syn_base.specs.Agreement.{AgreeAt, Agree, seen_at, or_behind}
use Rattle.syn_base.specs.Looked.{moved_by}
use Rattle.syn_base.specs.declared.looked.Looked.{Looked}
use Rattle.keyword_table.specs.declared.table.Definition.{Definition}
use Rattle.match_rules.specs.Ways.{Text}
use Rattle.syntax_set.specs.ClusterTable.{ClusterList}
use Rattle.syntax_set.specs.declared.added_item.AddedItem.{AddedItem}
use Rattle.paint_rules.specs.Line.{painted_line}
use Rattle.paint_rules.specs.Painted.{Painted, Done, Refused}
use Rattle.paint_rules.specs.Rules.{Rules}
use Rattle.paint_rules.specs.States.{State}
use Rattle.paint_rules.specs.Syntax.{rules_of}
use Rattle.paint_shift.specs.AboutLine.{LooksAbout}
use Rattle.paint_shift.specs.Elsewhere.{looked_of, moved, AgreeOn, line_in}
use Rattle.paint_shift.specs.Change.{replaced, AreBefore, AreFrom, KeepsNumber, ChangesLeaveOtherLines}
use Rattle.paint_shift.proofs.AboutLine.{paintings_look_about}
use Rattle.paint_shift.proofs.Elsewhere.{lines_are_painted_alike}

same_slice : (t u : Text) (k j : ℕ) → k < length t → j < length u → get_or u j [] ≡ get_or t k [] →
    slice_get u j ≡ slice_get t k
same_slice t u k j on there e =
    slice_get-get_or u j [] there
    ∙ (ap (λ (l : List ℕ). Some l) e ∙ sym (slice_get-get_or t k [] on))

unmoved : (a : ℤ) → a +ℤ pos 0 ≡ a
unmoved a = grind (arith, ints)

moved_nowhere : {E A : Type 0} (p : Painted E A) → moved (pos 0) p ≡ p
moved_nowhere (Done a k) = ap (λ k. Done a k) (looked_nowhere k)
  where
    looked_nowhere : (k : Option Looked) → option_map (λ l. moved_by l (pos 0)) k ≡ k
    looked_nowhere None = refl
    looked_nowhere (Some l) =
        λ i. Some (record l { low = unmoved l.low i; high = unmoved l.high i })
moved_nowhere (Refused c k) = ap (λ k. Refused c k) (looked_nowhere k)
  where
    looked_nowhere : (k : Option Looked) → option_map (λ l. moved_by l (pos 0)) k ≡ k
    looked_nowhere None = refl
    looked_nowhere (Some l) =
        λ i. Some (record l { low = unmoved l.low i; high = unmoved l.high i })

module _ (t : Text) (first end : ℕ) (new : List (List ℕ)) (order : first ≤ end)
    (inside : end ≤ length t) where
  abbrev u : Text
  u = replaced t first end new

  front : length (take first t) ≡ first
  front = length-take-le first t (omega arith)

  count : length u ≡ first + (length new + (length t - end))
  count = length-append (take first t) (new ++ drop end t)
      ∙ (ap (λ n. n + length (new ++ drop end t)) front
      ∙ ap (λ n. first + n)
      (length-append new (drop end t) ∙ ap (λ n. length new + n) (length-drop end t)))

  before_same : (n : ℕ) → n < first → slice_get u n ≡ slice_get t n
  before_same n less =
      let near : n < length (take first t) = omega (arith, front, less) in
      same_slice t u n n (omega arith) (omega (arith, count))
      (get_or-append (take first t) (new ++ drop end t) [] n near ∙ get_or-take first t n [] less)

  behind_get : (n : ℕ) → end ≤ n → get_or u (first + (length new + (n - end))) [] ≡ get_or t n []
  behind_get n h =
      let back : end + (n - end) ≡ n = omega arith in
      ap (λ m. get_or u (m + (length new + (n - end))) []) (sym front)
      ∙ (get_or-append-add (take first t) (new ++ drop end t) (length new + (n - end)) []
      ∙ (get_or-append-add new (drop end t) (n - end) []
      ∙ (get_or-drop end t (n - end) [] ∙ ap (λ m. get_or t m []) back)))

  behind_by : (n : ℕ) → end ≤ n → (v : Bool) → nat_lt n (length t) ≡ v →
      slice_get u (first + (length new + (n - end))) ≡ slice_get t n
  behind_by n h true e =
      let on : n < length t = grind (arith, nat_tests) in
      same_slice t u n (first + (length new + (n - end))) on (omega (arith, count, on))
      (behind_get n h)
  behind_by n h false e =
      let past : length t ≤ n = grind (arith, nat_tests) in
      slice_get_past u (first + (length new + (n - end))) (omega (arith, count, past))
      ∙ sym (slice_get_past t n past)

  -- before the change
  at_before : (l : ℤ) → negsuc 0 ≤ℤ l → l <ℤ pos first → AgreeAt t u (pos 0) l
  at_before (pos n) low high =
      let less : n < first = omega (arith, ints, high) in
      record {
        from_before_first = omega (arith, ints);
        to_behind_last = omega (arith, ints, count, less);
        same = ap (seen_at u) (unmoved (pos n)) ∙ ap or_behind (before_same n less);
      }
  at_before (negsuc n) low high = record {
    from_before_first = omega (arith, ints, low);
    to_behind_last = omega (arith, ints);
    same = ap (seen_at u) (unmoved (negsuc n));
  }

  -- and behind it
  at_behind : (l : ℤ) → pos end ≤ℤ l → l ≤ℤ pos (length t) →
      AgreeAt t u (pos (first + length new) -ℤ pos end) l
  at_behind (pos n) low high =
      let from : end ≤ n = omega (arith, ints, low) in
      let to : n ≤ length t = omega (arith, ints, high) in
      let there : pos n +ℤ (pos (first + length new) -ℤ pos end)
      ≡ pos (first + (length new + (n - end))) = omega (arith, ints, from) in
      record {
        from_before_first = omega (arith, ints, there);
        to_behind_last = omega (arith, ints, there, count, to, from);
        same = ap (seen_at u) there ∙ ap or_behind (behind_by n from (nat_lt n (length t)) refl);
      }
  at_behind (negsuc n) low high = absurd (omega (arith, ints, low))

  module _ (items : List AddedItem) (lists : List ClusterList) (keywords : List Definition)
      (sets : Sets) (budget : ℕ) (before : State) (k : ℕ) (on : k < length t) where
    abbrev r : Rules
    r = rules_of items lists keywords sets budget

    about : LooksAbout t k (looked_of (painted_line (line_in r t k) before))
    about = paintings_look_about items lists keywords sets budget t k before on

    pub stays_before : AreBefore first (looked_of (painted_line (line_in r t k) before)) →
        painted_line (line_in r u k) before ≡ painted_line (line_in r t k) before
    stays_before h =
        let a = about in
        let high : a.lines.high <ℤ pos first = subst (AreBefore first) a.are h in
        let agree : Agree t u (pos 0) a.lines = record {
          unmoved = λ n. refl;
          each_line = λ l from to. at_before l
              (let low = a.about.from_before_first in omega (arith, ints, low, from))
              (omega (arith, ints, to, high));
        } in
        lines_are_painted_alike items lists keywords sets budget t u (pos 0) k k before
        (sym (unmoved (pos k))) on (subst (AgreeOn t u (pos 0)) (sym a.are) agree)
        ∙ moved_nowhere (painted_line (line_in r t k) before)

    pub stays_behind : (now : ℕ) → now + end ≡ k + (first + length new) →
        AreFrom end (looked_of (painted_line (line_in r t k) before)) →
        KeepsNumber k now (looked_of (painted_line (line_in r t k) before)) →
        painted_line (line_in r u now) before
        ≡ moved (pos (first + length new) -ℤ pos end) (painted_line (line_in r t k) before)
    stays_behind now there h keeps =
        let a = about in
        let low : pos end ≤ℤ a.lines.low = subst (AreFrom end) a.are h in
        let own : KeepsNumber k now (Some a.lines) = subst (KeepsNumber k now) a.are keeps in
        let line : pos now ≡ pos k +ℤ (pos (first + length new) -ℤ pos end) =
        omega (arith, ints, there) in
        let agree : Agree t u (pos (first + length new) -ℤ pos end) a.lines = record {
          unmoved = λ n. let same : now ≡ k = own n in omega (arith, ints, there, same);
          each_line = λ l from to. at_behind l (omega (arith, ints, from, low))
              (let high = a.about.to_behind_last in omega (arith, ints, high, to));
        } in
        lines_are_painted_alike items lists keywords sets budget t u
        (pos (first + length new) -ℤ pos end) k now before line on
        (subst (AgreeOn t u (pos (first + length new) -ℤ pos end)) (sym a.are) agree)

pub changes_leave_other_lines : ChangesLeaveOtherLines
changes_leave_other_lines items lists keywords sets budget t first end new before order inside =
    record {
      lines_before =
          λ k on h.
          stays_before t first end new order inside items lists keywords sets budget before k on h;
      lines_behind =
          λ k now on there h keeps.
          stays_behind t first end new order inside items lists keywords sets budget before k on now
          there h keeps;
    }
