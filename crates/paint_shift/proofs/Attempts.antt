-- The attempts of a syntax's rules are local: the law of the rules of matching, as painting asks
-- it.
use Rattle.std.proofs.Common.{◌≡◌, ◌≤◌, ◌+◌, ℕ, Bool, List, length, refl, ap, arith}
use Rattle.std.specs.Prelude.{Option, Some, None, option_map}
use Rattle.std.proofs.lemmas.Int.{ints}
use Rattle.char_class.specs.declared.sets.Sets.{Sets}
use Rattle.syn_base.specs.declared.places.Place.{Place}
use Rattle.keyword_table.specs.declared.table.Definition.{Definition}
use Rattle.syntax_set.specs.ClusterTable.{ClusterList}
use Rattle.syntax_set.specs.declared.added_item.AddedItem.{AddedItem}
use Rattle.match_rules.specs.Ways.{Text, Way, Context, line_at}
use Rattle.match_rules.specs.Attempt.{attempt}
use Rattle.match_rules.specs.Locality.{IsMoved as IsFurther, IsMovedMatch as IsMovedWayMatch}
use Rattle.match_rules.specs.Locality.{IsMovedWay}
use Rattle.match_rules.proofs.LocalAnswer.{law}
use Rattle.pattern_match.specs.Answers.{match_of}
use Rattle.paint_rules.specs.Syntax.{context_of, attempt_by, rules_of}
use Rattle.paint_shift.proofs.Shift.{Two, IsMoved, shift, OnBoth, IsMovedMatch, AttemptsAreLocal}
use Rattle.paint_shift.proofs.AlikeLaws.{same_line}

module _ (two : Two) where
  further : (p q : Place) → IsMoved two p q → IsFurther (shift two) p q
  further p q m = let h : q.line + two.back ≡ p.line + two.ahead = m.line in
      record { line = omega (arith, ints, h); col = m.col }

  near : (p q : Place) → IsFurther (shift two) p q → IsMoved two p q
  near p q m = let h = m.line in record { line = omega (arith, ints, h); col = m.col }

  module _ (sets : Sets) (ignore : Bool) (externals : List (List ℕ)) (p q : Place) where
    abbrev x : Context
    x = context_of sets two.one ignore externals

    abbrev y : Context
    y = context_of sets two.other ignore externals

    matched : (w v : Way) → IsMovedWayMatch x y (shift two) p q w v →
        IsMovedMatch two (match_of two.one p w) (match_of two.other q v)
    matched w v m =
        let from = near (match_of two.one p w).from (match_of two.other q v).from m.from in
        record {
          from = from;
          from_line = same_line two (match_of two.one p w).from.line
              (match_of two.other q v).from.line from.line m.from_line;
          to = near (match_of two.one p w).to (match_of two.other q v).to m.to;
          externals = m.externals;
        }

    found_moved : (o r : Option Way) → IsMovedWay x y (shift two) p q o r →
        OnBoth (IsMovedMatch two) (option_map (match_of two.one p) o)
        (option_map (match_of two.other q) r)
    found_moved None None m = tt
    found_moved (Some w) (Some v) m = matched w v m
    found_moved None (Some v) m = absurd m
    found_moved (Some w) None m = absurd m

module _ (items : List AddedItem) (lists : List ClusterList) (keywords : List Definition)
    (sets : Sets) (budget : ℕ) (t u : Text) (ahead back : ℕ) where
  abbrev pub two_texts : Two
  two_texts = record {
    rules = rules_of items lists keywords sets budget;
    one = t;
    other = u;
    ahead = ahead;
    back = back;
  }

  pub attempts_are_local : AttemptsAreLocal two_texts
  unfolding attempt_by
  attempts_are_local tree ignore externals p q h within m agrees =
      let there : q.col ≤ length (line_at u q.line) =
      (let e : length (line_at u q.line) ≡ length (line_at t p.line) =
      ap length h.same.chars in let f : q.col ≡ p.col = m.col in
      omega (arith, e, f, within)) in
      let moved = law tree (context_of sets t ignore externals)
      (context_of sets u ignore externals) (shift two_texts) p q
      (record { ignore = refl; sets = refl; externals = refl }) (further two_texts p q m)
      (record { line = (let on = h.on in omega (arith, on)); col = within })
      (record { line = (let on = h.there in omega (arith, on)); col = there }) agrees in
      record {
        cost = moved.cost;
        looked = moved.looked;
        found = found_moved two_texts sets ignore externals p q
            (attempt tree (context_of sets t ignore externals) p).way
            (attempt tree (context_of sets u ignore externals) q).way moved.way;
      }
