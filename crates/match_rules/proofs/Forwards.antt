-- An atom leads to its place, or further on.
use Rattle.std.proofs.Common.{◌≡◌, ℕ, Bool, true, false, List, [], ◌∷◌, arith}
use Rattle.std.specs.Prelude.{Option, Some, None, ◌&&◌, if◌then◌else◌}
use Rattle.std.proofs.lemmas.Bool.Decides.{nat_tests}
use Rattle.syn_base.specs.declared.places.Place.{Place}
use Rattle.pattern_items.specs.declared.atom.Atom.{Atom}
use Rattle.pattern_items.specs.declared.atom.Atom.TheVariants.{Char, Any, Is, Set, LineEnd, LineStart, LineStop, WordStart, WordStop, FileStart, FileStop, MatchStart, MatchStop, LineNumber, Ref, ExternalRef}
use Rattle.match_rules.specs.Ways.{Text, Context, Way, is_after, behind_character, behind_line_end}
use Rattle.match_rules.specs.Atoms.{character_at, is_line_end, only_if, behind_if, behind_one, behind_one_or_end, Piece, character, line_end, behind_piece, behind_pieces, group_text, external_text, fits}
use Rattle.match_rules.proofs.Walks.{IsForwards}

pub stays : (p : Place) → IsForwards p p
stays p = record { line = omega arith; col = λ e. omega arith }

pub further_on : (p q r : Place) → IsForwards p q → IsForwards q r → IsForwards p r
further_on p q r h k = record {
  line = omega (arith, h.line, k.line);
  col = λ e.
      let a : p.line ≡ q.line = omega (arith, h.line, k.line) in
      let b : q.line ≡ r.line = omega (arith, h.line, k.line) in
      omega (arith, h.col a, k.col b);
}

-- what comes no sooner isn't before
pub in_order : (p q : Place) → IsForwards p q → is_after p q ≡ false
in_order p q h = grind (arith, nat_tests, h.line, h.col)

past_character : (p : Place) → IsForwards p (behind_character p)
past_character p = record { line = omega arith; col = λ e. omega arith }

past_line_end : (p : Place) → IsForwards p (behind_line_end p)
past_line_end p = record { line = omega arith; col = λ e. absurd (omega arith) }

abbrev pub IsForwardsOrNone : Place → Option Place → Type 0
IsForwardsOrNone p None = Unit {0}
IsForwardsOrNone p (Some q) = IsForwards p q

only_if-forwards : (p : Place) (b : Bool) (q : Place) → IsForwards p q →
    IsForwardsOrNone p (only_if b q)
only_if-forwards p true q h = h
only_if-forwards p false q h = tt

behind_if-forwards : (test : ℕ → Bool) (o : Option ℕ) (p : Place) →
    IsForwardsOrNone p (behind_if test o p)
behind_if-forwards test None p = tt
behind_if-forwards test (Some c) p = only_if-forwards p (test c) (behind_character p)
    (past_character p)

by_end-forwards : (text : Text) (test : ℕ → Bool) (p : Place) (b : Bool) →
    IsForwardsOrNone p (if b then Some (behind_line_end p) else behind_one text test p)
by_end-forwards text test p true = past_line_end p
by_end-forwards text test p false = behind_if-forwards test (character_at text p) p

behind_one_or_end-forwards : (text : Text) (takes_end : Bool) (test : ℕ → Bool) (p : Place) →
    IsForwardsOrNone p (behind_one_or_end text takes_end test p)
behind_one_or_end-forwards text takes_end test p =
    by_end-forwards text test p (takes_end && is_line_end text p)

behind_piece-forwards : (x : Context) (piece : Piece) (p : Place) →
    IsForwardsOrNone p (behind_piece x piece p)
behind_piece-forwards x (character c) p = behind_if-forwards _ (character_at x.text p) p
behind_piece-forwards x line_end p =
    only_if-forwards p (is_line_end x.text p) (behind_line_end p) (past_line_end p)

or_further : (p q : Place) (o : Option Place) → IsForwards p q → IsForwardsOrNone q o →
    IsForwardsOrNone p o
or_further p q None h k = tt
or_further p q (Some r) h k = further_on p q r h k

behind_pieces-forwards : (x : Context) (pieces : List Piece) (p : Place) →
    IsForwardsOrNone p (behind_pieces x pieces p)
behind_pieces-forwards x [] p = stays p
behind_pieces-forwards x (piece ∷ pieces) p =
    elim (behind_piece x piece p) as (λ o. IsForwardsOrNone p o →
    IsForwardsOrNone p (elim o as (λ _. Option Place)
    [ None ↦ None | Some q ↦ behind_pieces x pieces q ])) [
      | None ↦ λ _. tt
      | Some q ↦ λ k. or_further p q (behind_pieces x pieces q) k
          (behind_pieces-forwards x pieces q)
    ] (behind_piece-forwards x piece p)

pub fits-forwards : (x : Context) (w : Way) (a : Atom) → IsForwardsOrNone w.at (fits x w a)
fits-forwards x w (Char c) = behind_if-forwards _ (character_at x.text w.at) w.at
fits-forwards x w (Any takes_end) = behind_one_or_end-forwards x.text takes_end (λ _. true) w.at
fits-forwards x w (Is class negative takes_end) = behind_one_or_end-forwards x.text takes_end _ w.at
fits-forwards x w (Set ranges) = behind_one_or_end-forwards x.text ranges.line_end _ w.at
fits-forwards x w LineEnd =
    only_if-forwards w.at (is_line_end x.text w.at) (behind_line_end w.at) (past_line_end w.at)
fits-forwards x w LineStart = only_if-forwards w.at _ w.at (stays w.at)
fits-forwards x w LineStop = only_if-forwards w.at _ w.at (stays w.at)
fits-forwards x w WordStart = only_if-forwards w.at _ w.at (stays w.at)
fits-forwards x w WordStop = only_if-forwards w.at _ w.at (stays w.at)
fits-forwards x w FileStart = only_if-forwards w.at _ w.at (stays w.at)
fits-forwards x w FileStop = only_if-forwards w.at _ w.at (stays w.at)
fits-forwards x w MatchStart = stays w.at
fits-forwards x w MatchStop = stays w.at
fits-forwards x w (LineNumber how number) = only_if-forwards w.at _ w.at (stays w.at)
fits-forwards x w (Ref number) = behind_pieces-forwards x (group_text x w number) w.at
fits-forwards x w (ExternalRef number) = behind_pieces-forwards x (external_text x number) w.at
