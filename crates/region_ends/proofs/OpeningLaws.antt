-- An end that begins with the text of an external gives nothing where another character stands than
-- the first of that text.
use Rattle.region_ends.proofs.Common.{◌≡◌, ◌∙◌, ◌⊎◌, inl, inr, refl, sym, ap, subst, arith, ℕ, Bool, true, false, List, [], ◌∷◌, Option, Some, None, pos, nat_eq, not, get_or, slice_get, ◌-◌, nat_tests, Looked, Place, one_line, hull_self, PatternTree, Context, attempt, ignores_case, IsInVain, Pattern, Opening, With, IsToldOf, begins_with, first_of, is_unopened, cond, behind_character, way_from, behind_if, behind_piece, behind_pieces, character, character_at, characters, last_line_of, lines_from, lines_looked, only_if, answer_of, for_tree, external_of, first_external, stands}
use Rattle.std.proofs.Math.Bool.{beq}
use Rattle.char_class.specs.Folds.{is_same}
use Rattle.pattern_items.specs.declared.atom.Atom.{Atom}
use Rattle.pattern_items.specs.declared.atom.Atom.TheVariants as atom
use Rattle.vim_pattern.specs.Shape.{Shape, empty, one, seq, or, and, group, external, repeat, ahead, before, whole}
use Rattle.match_rules.specs.Marks.{Mark, Tick}
use Rattle.match_rules.specs.Visits.{visits}
use Rattle.pattern_match.specs.FirstAtom.{first_atom}
use Rattle.pattern_match.proofs.FirstAtomLaws.{first_atom-fails}
use Rattle.region_ends.specs.declared.opening.Opening.TheVariants.{Nothing, Unknown}

-- ---- the first atom

refers : (a : Atom) (number : ℕ) → external_of a ≡ Some number → Some a ≡ Some (atom.ExternalRef number)
refers (atom.ExternalRef n) number e = let same : n ≡ number = cc in ap (λ n. Some (atom.ExternalRef n)) same
refers (atom.Char c) number e = absurd (cc)
refers (atom.Any b) number e = absurd (cc)
refers (atom.Is class negative b) number e = absurd (cc)
refers (atom.Set ranges) number e = absurd (cc)
refers atom.LineEnd number e = absurd (cc)
refers atom.LineStart number e = absurd (cc)
refers atom.LineStop number e = absurd (cc)
refers atom.WordStart number e = absurd (cc)
refers atom.WordStop number e = absurd (cc)
refers atom.FileStart number e = absurd (cc)
refers atom.FileStop number e = absurd (cc)
refers atom.MatchStart number e = absurd (cc)
refers atom.MatchStop number e = absurd (cc)
refers (atom.LineNumber how n) number e = absurd (cc)
refers (atom.Ref n) number e = absurd (cc)

first_is : (s : Shape) (number : ℕ) → first_external s ≡ Some number → first_atom s ≡ Some (atom.ExternalRef number)
first_is empty number e = absurd (cc)
first_is (one a) number e = refers a number e
first_is (seq s t) number e = first_is s number e
first_is (or s t) number e = absurd (cc)
first_is (and s t) number e = absurd (cc)
first_is (group s n) number e = first_is s number e
first_is (external s n) number e = absurd (cc)
first_is (repeat s least most lazy) number e = absurd (cc)
first_is (ahead s negative) number e = absurd (cc)
first_is (before s negative limit) number e = absurd (cc)
first_is (whole s) number e = absurd (cc)

-- ---- its text doesn't stand there

-- another character stands where the text would begin, or none
abbrev pub differs : Option ℕ → Bool → Option ℕ → Bool
differs None ignore next = false
differs (Some c) ignore next = not (stands c ignore next)

only_not : (b : Bool) (p : Place) → not b ≡ true → only_if b p ≡ None
only_not true p e = absurd (cc)
only_not false p e = refl

first_piece : (ignore : Bool) (c : ℕ) (next : Option ℕ) (p : Place) → not (stands c ignore next) ≡ true → behind_if (λ d. is_same c d ignore) next p ≡ None
first_piece ignore c None p e = refl
first_piece ignore c (Some d) p e = only_not (is_same c d ignore) (behind_character p) e

module _ (x : Context) (p : Place) where
  no_text : (text : List ℕ) → differs (slice_get text 0) x.ignore (character_at x.text p) ≡ true → (behind_pieces x (characters text) p ≡ None) × (last_line_of x (characters text) p ≡ p.line)
  no_text [] e = absurd (cc)
  no_text (c ∷ cs) e =
      let none : behind_piece x (character c) p ≡ None = first_piece x.ignore c (character_at x.text p) p e in (
        ap (λ (o : Option Place). elim o as (λ _. Option Place) [ None ↦ None | Some q ↦ behind_pieces x (characters cs) q ]) none,
        ap (λ (o : Option Place). elim o as (λ _. ℕ) [ None ↦ p.line | Some q ↦ last_line_of x (characters cs) q ]) none,
      )

-- ---- the attempt

pub attempt_fails : (tree : PatternTree) (x : Context) (start : Place) (number : ℕ) → first_external tree.node ≡ Some number →
    differs (first_of x.externals number) (ignores_case tree x.ignore) (character_at x.text start) ≡ true → IsInVain start 1 false (attempt tree x start)
attempt_fails tree x start number is e =
    let y = for_tree tree x in
    let w = way_from start in
    let none = no_text y start (get_or x.externals (number - 1) []) e in
    let looked : lines_looked y w (atom.ExternalRef number) ≡ one_line (pos start.line) = ap (lines_from start.line) none.1 ∙ hull_self (one_line (pos start.line)) in
    let marks : visits y tree.node w ≡ Tick (one_line (pos start.line)) ∷ [] =
    first_atom-fails y tree.node w (atom.ExternalRef number) (first_is tree.node number is) none.0 ∙ ap (λ (k : Looked). Tick k ∷ []) looked in
    subst (λ (m : List Mark). IsInVain start 1 false (answer_of m)) (sym marks) (record { way = refl; cost = omega arith; looked = refl })

-- ---- a pattern

here_if : (b : Bool) (o : Option ℕ) (number : ℕ) → cond b o None ≡ Some number → (b ≡ true) × (o ≡ Some number)
here_if true o number e = (refl, e)
here_if false o number e = absurd (cc)

-- it begins at the column at which it is tried
pub begins_here : (pattern : Pattern) (number : ℕ) → begins_with pattern ≡ Some number → (pattern.lc ≡ 0) × (first_external pattern.tree.node ≡ Some number)
begins_here pattern number e =
    let h = here_if (nat_eq pattern.lc 0) (first_external pattern.tree.node) number e in
    let none : pattern.lc ≡ 0 = grind (arith, nat_tests, h.0) in
    (none, h.1)

-- ---- what is known of an end

pub same_bool : (a b : Bool) → beq a b ≡ true → a ≡ b
same_bool true true e = refl
same_bool true false e = absurd (cc)
same_bool false true e = absurd (cc)
same_bool false false e = refl

-- where it doesn't begin so, each is so of it
module _ (externals : List (List ℕ)) (ignore : Bool) (pattern : Pattern) where
  none_told : (told : Opening) → begins_with pattern ≡ None → IsToldOf externals ignore told pattern
  none_told Nothing e = e
  none_told (With c asked) e = λ number h. absurd (cc)
  none_told Unknown e = tt

  pub nothing_last : (told : Opening) → IsToldOf externals ignore told pattern ⊎ IsToldOf externals ignore Nothing pattern → IsToldOf externals ignore told pattern
  nothing_last told (inl h) = h
  nothing_last told (inr e) = none_told told e

  pub same_told : (told : Opening) → IsToldOf externals ignore told pattern ⊎ IsToldOf externals ignore told pattern → IsToldOf externals ignore told pattern
  same_told told (inl h) = h
  same_told told (inr h) = h

-- it tells where the end can't begin
pub told_differs : (externals : List (List ℕ)) (ignore : Bool) (pattern : Pattern) (next : Option ℕ) (opening : Opening) (number : ℕ) → begins_with pattern ≡ Some number →
    IsToldOf externals ignore opening pattern → is_unopened opening next ≡ true → differs (first_of externals number) (ignores_case pattern.tree ignore) next ≡ true
told_differs externals ignore pattern next Nothing number e told unopened = absurd (cc)
told_differs externals ignore pattern next (With c asked) number e told unopened =
    let h = told number e in
    (λ i. differs (h.0 i) (h.1 i) next) ∙ unopened
told_differs externals ignore pattern next Unknown number e told unopened = absurd (cc)
