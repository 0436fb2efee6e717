-- Where the characters of a text lead, where case isn't ignored: they are the first of what is left of
-- the line.
use Rattle.std.proofs.Common.{◌≡◌, ℕ, suc, ◌+◌, ◌-◌, ◌≤◌, Bool, true, false, List, [], ◌∷◌, ◌⊎◌, inl, inr, length, take, drop, refl, sym, ap, ◌∙◌, arith}
use Rattle.std.specs.Prelude.{Option, Some, None, ◌==◌, ◌&&◌, slice_get, IfSome, pos}
use Rattle.std.specs.List.{starts_with}
use Rattle.std.proofs.Math.ListN.{drop_of_length-le}
use Rattle.std.proofs.lemmas.List.{drop_more, length-drop, take_all}
use Rattle.std.proofs.lemmas.Option.{slice_get_cases}
use Rattle.char_class.specs.Folds.{is_same}
use Rattle.syn_base.specs.declared.places.Place.{Place}
use Rattle.syn_base.specs.Looked.{one_line}
use Rattle.syn_base.proofs.HullLaws.{hull_self}
use Rattle.match_rules.specs.Ways.{Text, Context, line_at, place, behind_character, IsPlaceOf}
use Rattle.match_rules.specs.Atoms.{characters, behind_pieces, behind_if, last_line_of, only_if, lines_from}
use Rattle.pattern_match.specs.declared.atoms.Tried.{Tried}
use Rattle.pattern_match.specs.Tried.{IsTriedOver}
use Rattle.pattern_match.specs.Ways.{columns_on}

-- ---- their line

only-line : (fits : Bool) (p : Place) (f : Place → ℕ) → f (behind_character p) ≡ p.line → elim (only_if fits (behind_character p)) as (λ _. ℕ) [ None ↦ p.line | Some q ↦ f q ] ≡ p.line
only-line true p f h = h
only-line false p f h = refl

one-stays : (test : ℕ → Bool) (o : Option ℕ) (p : Place) (f : Place → ℕ) → f (behind_character p) ≡ p.line → elim (behind_if test o p) as (λ _. ℕ) [ None ↦ p.line | Some q ↦ f q ] ≡ p.line
one-stays test None p f h = refl
one-stays test (Some c) p f h = only-line (test c) p f h

-- characters don't leave it
pub last_line_of-characters : (x : Context) (text : List ℕ) (p : Place) → last_line_of x (characters text) p ≡ p.line
last_line_of-characters x [] p = refl
last_line_of-characters x (c ∷ text) p =
    one-stays (λ d. is_same c d x.ignore) (slice_get (line_at x.text p.line) p.col) p (last_line_of x (characters text)) (last_line_of-characters x text (behind_character p))

-- ---- their place

same-exact : (c d : ℕ) → is_same c d false ≡ (c == d)
unfolding is_same
same-exact c d = refl

only-one : (same rest : Bool) (p : Place) (n : ℕ) (f : Place → Option Place) → f (behind_character p) ≡ only_if rest (columns_on (behind_character p) n)
    → elim (only_if same (behind_character p)) as (λ _. Option Place) [ None ↦ None | Some q ↦ f q ] ≡ only_if (same && rest) (columns_on p (suc n))
only-one true rest p n f h =
    let next : p.col + 1 + n ≡ p.col + suc n = omega arith in
    h ∙ ap (λ col. only_if rest (place p.line col)) next
only-one false rest p n f h = refl

abbrev begins : List ℕ → List ℕ → Bool
begins rest text = starts_with (λ c d. c == d) rest text

-- what stands at a column, and behind it
rest-cases : (line : List ℕ) (col : ℕ) → ((slice_get line col ≡ None) × (drop col line ≡ [])) ⊎ ((d : ℕ) × (slice_get line col ≡ Some d) × (drop col line ≡ d ∷ drop (col + 1) line))
rest-cases line col =
    elim (slice_get_cases line col).1 [
      | inl is ↦ inr (is.0, is.2, drop_more line col is.0 is.1 ∙ ap (λ d. d ∷ drop (col + 1) line) is.3)
      | inr is ↦ inl (is.1, drop_of_length-le line is.0)
    ]

pub behind_characters : (x : Context) (text : List ℕ) (p : Place) → x.ignore ≡ false
    → behind_pieces x (characters text) p ≡ only_if (begins (drop p.col (line_at x.text p.line)) text) (columns_on p (length text))
behind_characters x [] p exact =
    let same : p.col ≡ p.col + 0 = omega arith in
    ap (λ col. Some (place p.line col)) same
behind_characters x (c ∷ text) p exact =
    let line = line_at x.text p.line in
    let test = λ (d : ℕ). is_same c d x.ignore in
    elim (rest-cases line p.col) [
      | inl is ↦
          ap (λ o. elim (behind_if test o p) as (λ _. Option Place) [ None ↦ None | Some q ↦ behind_pieces x (characters text) q ]) is.0
          ∙ sym (ap (λ rest. only_if (begins rest (c ∷ text)) (columns_on p (length (c ∷ text)))) is.1)
      | inr is ↦
          ap (λ o. elim (behind_if test o p) as (λ _. Option Place) [ None ↦ None | Some q ↦ behind_pieces x (characters text) q ]) is.1
          ∙ only-one (is_same c is.0 x.ignore) (begins (drop (p.col + 1) line) text) p (length text) (behind_pieces x (characters text)) (behind_characters x text (behind_character p) exact)
          ∙ ap (λ b. only_if (b && begins (drop (p.col + 1) line) text) (columns_on p (suc (length text)))) (ap (is_same c is.0) exact ∙ same-exact c is.0)
          ∙ sym (ap (λ rest. only_if (begins rest (c ∷ text)) (columns_on p (length (c ∷ text)))) is.2)
    ]

-- ---- what is answered of it

placed : (text : Text) (stands : Bool) (p : Place) (o : Option Place) → o ≡ only_if stands p → (stands ≡ true → IsPlaceOf text p) → IfSome o (IsPlaceOf text)
placed text true p o e h = rw e (h refl)
placed text false p o e h = rw e tt

pub tried-text : (x : Context) (text : List ℕ) (p : Place) (line : List ℕ) (stands : Bool) (t : Tried) → x.ignore ≡ false → IsPlaceOf x.text p → line ≡ line_at x.text p.line
    → stands ≡ begins (take (length line - p.col) (drop p.col line)) text → (stands ≡ true → length text ≤ length (take (length line - p.col) (drop p.col line)))
    → t.place ≡ only_if stands (columns_on p (length text)) → t.looked ≡ one_line (pos p.line) → IsTriedOver x (characters text) p t
tried-text x text p line stands t exact on_text line_is stands_is room place_is looked_is =
    let col = on_text.col in
    let cut = length-drop p.col line in
    let all : take (length line - p.col) (drop p.col line) ≡ drop p.col line = take_all (length line - p.col) (drop p.col line) (omega arith) in
    let rest : take (length line - p.col) (drop p.col line) ≡ drop p.col (line_at x.text p.line) = all ∙ ap (drop p.col) line_is in
    let begins_so : stands ≡ begins (drop p.col (line_at x.text p.line)) text = stands_is ∙ ap (λ r. begins r text) rest in
    let many : length line ≡ length (line_at x.text p.line) = ap length line_is in
    let left : length (take (length line - p.col) (drop p.col line)) ≡ length line - p.col = ap length all ∙ cut in
    record {
      place = place_is ∙ ap (λ b. only_if b (columns_on p (length text))) begins_so ∙ sym (behind_characters x text p exact);
      looked = looked_is ∙ sym (hull_self (one_line (pos p.line))) ∙ ap (lines_from p.line) (sym (last_line_of-characters x text p));
      within = placed x.text stands (columns_on p (length text)) t.place place_is (λ e. let low = room e in record { line = on_text.line; col = omega arith });
    }
