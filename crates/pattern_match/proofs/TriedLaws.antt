-- What an atom that is a text answers, by how far its pieces stand.
use Rattle.std.proofs.Common.{◌≡◌, ℕ, Bool, true, false, List, refl, sym, ap, ◌∙◌}
use Rattle.std.specs.Prelude.{Option, IfSome}
use Rattle.syn_base.specs.declared.places.Place.{Place}
use Rattle.match_rules.specs.Ways.{Context, Text, IsPlaceOf}
use Rattle.match_rules.specs.Atoms.{Piece, lines_from, only_if}
use Rattle.pattern_match.specs.declared.atoms.Tried.{Tried}
use Rattle.pattern_match.specs.declared.step.Test.{Test}
use Rattle.pattern_match.specs.declared.step.Test.TheVariants as test
use Rattle.pattern_match.specs.declared.walks.Walked.{Walked}
use Rattle.pattern_match.specs.Glance.{asks_for_group}
use Rattle.pattern_match.specs.Steps.{atom_of}
use Rattle.pattern_match.specs.Tried.{IsTriedOver}
use Rattle.pattern_match.specs.Walks.{walked}
use Rattle.pattern_match.proofs.WalkLaws.{behind_pieces-walked, last_line_of-walked}

within-only_if : (text : Text) (whole : Bool) (p : Place) (o : Option Place) → IsPlaceOf text p → o ≡ only_if whole p → IfSome o (IsPlaceOf text)
within-only_if text true p o within e = rw e within
within-only_if text false p o within e = rw e tt

pub IsTriedOver-walked : (x : Context) (pieces : List Piece) (p : Place) (w : Walked) (t : Tried) → w ≡ walked x pieces p → IsPlaceOf x.text w.at → t.place ≡ only_if w.whole w.at → t.looked ≡ lines_from p.line w.at.line → IsTriedOver x pieces p t
IsTriedOver-walked x pieces p w t is within place looked = record {
  place = place ∙ ap (λ v. only_if v.whole v.at) is ∙ sym (behind_pieces-walked x pieces p);
  looked = looked ∙ ap (λ v. lines_from p.line v.at.line) is ∙ ap (λ l. lines_from p.line l) (sym (last_line_of-walked x pieces p));
  within = within-only_if x.text w.whole w.at t.place within place;
}

-- an atom that is no reference asks for no group
pub asks_for_none : (t : Test) → ((n : ℕ) → t ≡ test.Ref n → ⊥) → ((n : ℕ) → t ≡ test.ExternalRef n → ⊥) → asks_for_group (atom_of t) ≡ false
asks_for_none (test.Char c) h k = refl
asks_for_none (test.Any takes_end) h k = refl
asks_for_none (test.Is class negative takes_end) h k = refl
asks_for_none (test.Set collection) h k = refl
asks_for_none test.LineEnd h k = refl
asks_for_none test.LineStart h k = refl
asks_for_none test.LineStop h k = refl
asks_for_none test.WordStart h k = refl
asks_for_none test.WordStop h k = refl
asks_for_none test.FileStart h k = refl
asks_for_none test.FileStop h k = refl
asks_for_none test.MatchStart h k = refl
asks_for_none test.MatchStop h k = refl
asks_for_none (test.LineNumber how number) h k = refl
asks_for_none (test.Ref n) h k = absurd (h n refl)
asks_for_none (test.ExternalRef n) h k = absurd (k n refl)
