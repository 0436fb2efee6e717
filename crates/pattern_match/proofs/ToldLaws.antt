-- What the character at the place of a way tells of the atoms that look at its own line alone.
use Rattle.std.proofs.Common.{◌≡◌, ℕ, Bool, true, false, length, refl, sym, ap, ◌∙◌, subst, arith}
use Rattle.std.specs.Prelude.{Some, nat_eq}
use Rattle.std.proofs.lemmas.Bool.Decides.{nat_tests}
use Rattle.std.proofs.lemmas.Option.{slice_get_within}
use Rattle.syn_base.specs.declared.places.Place.{Place}
use Rattle.pattern_items.specs.declared.atom.Atom.{Atom}
use Rattle.match_rules.specs.Ways.{Context, Text, Way, IsPlaceOf, line_at, behind_character}
use Rattle.match_rules.specs.Atoms.{behind_if, behind_one, behind_one_or_end, character_at, fits, is_line_end, lines_looked, only_if, own_line}
use Rattle.pattern_match.specs.declared.standing.Standing.TheVariants.{Character}
use Rattle.pattern_match.specs.Standing.{Stands}
use Rattle.pattern_match.specs.Contexts.{context_in}
use Rattle.pattern_match.specs.declared.context.Context.{Context as ContextOf}
use Rattle.pattern_match.specs.declared.told.Fit.{Fit}
use Rattle.pattern_match.specs.Told.{IsFit, IsTold, stays_if, takes_if, to_if, told_by}

-- it leads to a place, if it fits
pub told_if : (x : Context) (w : Way) (a : Atom) (b : Bool) (p : Place) → fits x w a ≡ only_if b p → lines_looked x w a ≡ own_line w → IsPlaceOf x.text p → IsTold x w a (to_if b p)
told_if x w a true p f l on_text = (f, l, on_text)
told_if x w a false p f l on_text = (f, l)

or_end : (x : Context) (w : Way) (takes_end : Bool) (test : ℕ → Bool) → is_line_end x.text w.at ≡ false → behind_one_or_end x.text takes_end test w.at ≡ behind_one x.text test w.at
or_end x w true test e = rw e refl
or_end x w false test e = refl

module _ (x : Context) (w : Way) (p behind : Place) (c : ℕ) (at : w.at ≡ p) (h : Stands x.text p (Character c behind)) where
  character_is : character_at x.text w.at ≡ Some c
  character_is = ap (character_at x.text) at ∙ h.0

  pub no_end_is : is_line_end x.text w.at ≡ false
  no_end_is = ap (is_line_end x.text) at ∙ h.1

  one_is : (test : ℕ → Bool) → behind_one x.text test w.at ≡ only_if (test c) behind
  one_is test =
      ap (λ o. behind_if test o w.at) character_is
      ∙ ap (only_if (test c)) (ap behind_character at ∙ sym h.2)

  -- an atom that takes what passes a test, or a line end too
  pub told_one : (a : Atom) (test : ℕ → Bool) (b : Bool) → fits x w a ≡ behind_one x.text test w.at → lines_looked x w a ≡ own_line w → b ≡ test c → IsTold x w a (to_if b behind)
  told_one a test b f l is =
      told_if x w a b behind (f ∙ one_is test ∙ ap (λ r. only_if r behind) (sym is)) l h.3

  pub told_or_end : (a : Atom) (takes_end : Bool) (test : ℕ → Bool) (b : Bool) → fits x w a ≡ behind_one_or_end x.text takes_end test w.at → lines_looked x w a ≡ own_line w → b ≡ test c → IsTold x w a (to_if b behind)
  told_or_end a takes_end test b f l is =
      told_one a test b (f ∙ or_end x w takes_end test no_end_is) l is

  -- it is no line's end
  pub no_stop_is : nat_eq w.at.col (length (line_at x.text w.at.line)) ≡ false
  no_stop_is =
      let within = slice_get_within (line_at x.text w.at.line) w.at.col c character_is in
      grind (arith, nat_tests)

-- ---- by the character alone

pub takes-told : (b : Bool) (here behind : Place) → told_by (takes_if b) here behind ≡ to_if b behind
takes-told true here behind = refl
takes-told false here behind = refl

pub stays-told : (b : Bool) (here behind : Place) → told_by (stays_if b) here behind ≡ to_if b here
stays-told true here behind = refl
stays-told false here behind = refl

pub fit-tells : (context : ContextOf) (a : Atom) (c : ℕ) (start : Bool) (fit : Fit) → IsFit context a c start fit → (text : Text) (p behind : Place) → IsPlaceOf text p → nat_eq p.col 0 ≡ start → Stands text p (Character c behind) →
    (w : Way) → w.at ≡ p → IsTold (context_in text context) w a (told_by fit p behind)
fit-tells context a c start fit h text p behind on_text is stands w e =
    subst (λ q. IsTold (context_in text context) w a (told_by fit q behind)) e
    (h text w behind (subst (IsPlaceOf text) (sym e) on_text) (ap (λ (q : Place). nat_eq q.col 0) e ∙ is) (subst (λ q. Stands text q (Character c behind)) (sym e) stands))
