-- Laws of the parts of a collection.
use Rattle.std.proofs.Common.{◌≡◌, inl, inr, IsOk, ℕ, ◌+◌, ◌<◌, Bool, true, false, ◌&&◌, ◌||◌, not, eqb, ltb, List, [], ◌∷◌, refl, sym, ap, ◌∙◌, arith}
use Rattle.std.proofs.lemmas.Bool.{cases_order, eq-eqb, le-ltb, lt-ltb, ne_eqb}
use Rattle.std.specs.List.{list_any}
use Rattle.std.specs.Str.{chars}
use Rattle.char_class.specs.OptionValue.{set_of}
use Rattle.char_class.specs.declared.sets.Sets.{Sets}
use Rattle.syn_base.specs.declared.class.Class.{Class}
use Rattle.syn_base.specs.declared.class.Class.TheVariants.{White, Digit, Hex, Octal, Word, Head, Alpha, Lower, Upper, Ident, Keyword, File, Print, IdentNoDigit, KeywordNoDigit, FileNoDigit, PrintNoDigit}
use Rattle.pattern_items.specs.declared.atom.SetPart.{SetPart}
use Rattle.pattern_items.specs.declared.atom.SetPart.TheVariants.{Range, Of, Punct, Cntrl, Graph, Space}
use Rattle.match_rules.specs.Collections.{part_holds, class_in_set}
use Rattle.pattern_match.specs.Bounds.{LieIn}
use Rattle.pattern_match.specs.ReadyParts.{is_optional, is_optional_class, some_part_holds, some_fixed_holds, some_optional_holds}

pub underscore_is_read : IsOk (set_of (chars (95 ∷ [])))
unfolding chars set_of
underscore_is_read = refl

-- ---- the sets don't matter to fixed parts

class-fixed : (class : Class) (c : ℕ) (s t : Sets) (ignore : Bool) → (not (is_optional_class class) && class_in_set class c s ignore) ≡ (not (is_optional_class class) && class_in_set class c t ignore)
class-fixed White c s t ignore = refl
class-fixed Digit c s t ignore = refl
class-fixed Hex c s t ignore = refl
class-fixed Octal c s t ignore = refl
class-fixed Word c s t ignore = refl
class-fixed Head c s t ignore = refl
class-fixed Alpha c s t ignore = refl
class-fixed Lower c s t ignore = refl
class-fixed Upper c s t ignore = refl
class-fixed Ident c s t ignore = refl
class-fixed Keyword c s t ignore = refl
class-fixed File c s t ignore = refl
class-fixed Print c s t ignore = refl
class-fixed IdentNoDigit c s t ignore = refl
class-fixed KeywordNoDigit c s t ignore = refl
class-fixed FileNoDigit c s t ignore = refl
class-fixed PrintNoDigit c s t ignore = refl

part-fixed : (part : SetPart) (c : ℕ) (s t : Sets) (ignore : Bool) → (not (is_optional part) && part_holds part c s ignore) ≡ (not (is_optional part) && part_holds part c t ignore)
part-fixed (Range low high) c s t ignore = refl
part-fixed (Of class) c s t ignore = class-fixed class c s t ignore
part-fixed Punct c s t ignore = refl
part-fixed Cntrl c s t ignore = refl
part-fixed Graph c s t ignore = refl
part-fixed Space c s t ignore = refl

pub some_fixed_holds-same : (parts : List SetPart) (c : ℕ) (s t : Sets) (ignore : Bool) → some_fixed_holds parts c s ignore ≡ some_fixed_holds parts c t ignore
some_fixed_holds-same [] c s t ignore = refl
some_fixed_holds-same (part ∷ parts) c s t ignore = rw (part-fixed part c s t ignore, some_fixed_holds-same parts c s t ignore) refl

-- ---- all parts are the fixed ones and the others

either : (a b rest fixed optional : Bool) → rest ≡ (fixed || optional) → (b || rest) ≡ ((not a && b || fixed) || (a && b || optional))
either true true rest true optional e = refl
either true true rest false optional e = refl
either true false rest fixed optional e = e
either false true rest fixed optional e = refl
either false false rest fixed optional e = e

pub some_part_holds-split : (parts : List SetPart) (c : ℕ) (sets : Sets) (ignore : Bool) → some_part_holds parts c sets ignore ≡ (some_fixed_holds parts c sets ignore || some_optional_holds parts c sets ignore)
some_part_holds-split [] c sets ignore = refl
some_part_holds-split (part ∷ parts) c sets ignore =
    either (is_optional part) (part_holds part c sets ignore) _ _ _ (some_part_holds-split parts c sets ignore)

none_of : (a b rest : Bool) → (a || rest) ≡ false → (a ≡ false) × (rest ≡ false)
none_of true b rest e = absurd (cc)
none_of false b rest e = (refl, e)

-- no part is optional
pub some_optional_holds-none : (parts : List SetPart) (c : ℕ) (sets : Sets) (ignore : Bool) → list_any is_optional parts ≡ false → some_optional_holds parts c sets ignore ≡ false
some_optional_holds-none [] c sets ignore none = refl
some_optional_holds-none (part ∷ parts) c sets ignore none =
    let both = none_of (is_optional part) false (list_any is_optional parts) none in
    rw (both.0, some_optional_holds-none parts c sets ignore both.1) refl

-- ---- an answer by the table, and where that says no

pub by_table : (parts : List SetPart) (c : ℕ) (sets : Sets) (ignore : Bool) (result : Bool) → result ≡ some_fixed_holds parts c sets ignore → result ≡ true → result ≡ some_part_holds parts c sets ignore
by_table parts c sets ignore result is held =
    let fixed : some_fixed_holds parts c sets ignore ≡ true = sym is ∙ held in
    held ∙ sym (some_part_holds-split parts c sets ignore ∙ ap (λ b. b || some_optional_holds parts c sets ignore) fixed)

pub by_option : (parts : List SetPart) (c : ℕ) (sets : Sets) (ignore : Bool) (table result : Bool) → table ≡ some_fixed_holds parts c sets ignore → table ≡ false → result ≡ some_optional_holds parts c sets ignore → result ≡ some_part_holds parts c sets ignore
by_option parts c sets ignore table result is missing e =
    let fixed : some_fixed_holds parts c sets ignore ≡ false = sym is ∙ missing in
    e ∙ sym (some_part_holds-split parts c sets ignore ∙ ap (λ b. b || some_optional_holds parts c sets ignore) fixed)

-- ---- a table of one part, code by code

-- none of the part's codes is below the first one
pub none_before : (holds : ℕ → Bool) (low high c : ℕ) (old : Bool) → LieIn holds low high → c < 256 → old ≡ (holds c && ltb c low || old)
none_before holds low high c old lie within =
    elim (holds c) as (λ b. holds c ≡ b → old ≡ (b && ltb c low || old)) [
      | true ↦ λ e. rw (le-ltb c low (lie.from c within e)) refl
      | false ↦ λ e. refl
    ] refl

-- all are in once the last one has been asked for
pub all_in : (holds : ℕ → Bool) (low high code c : ℕ) (old : Bool) → LieIn holds low high → c < 256 → high < code → (holds c && ltb c code || old) ≡ (holds c || old)
all_in holds low high code c old lie within past =
    elim (holds c) as (λ b. holds c ≡ b → (b && ltb c code || old) ≡ (b || old)) [
      | true ↦ λ e. let upto = lie.to c within e in rw (lt-ltb c code (omega (arith, upto, past))) refl
      | false ↦ λ e. refl
    ] refl

-- one more code is asked for
pub one_more : (holds : ℕ → Bool) (wanted old : Bool) (c code : ℕ) → wanted ≡ holds code → (wanted && eqb c code || (holds c && ltb c code || old)) ≡ (holds c && ltb c (code + 1) || old)
one_more holds wanted old c code e = elim (cases_order c code) [
  | inl same ↦
      rw (same, e, eq-eqb code code refl, le-ltb code code (omega arith), lt-ltb code (code + 1) (omega arith))
      (elim (holds code) as (λ b. (b && true || (b && false || old)) ≡ (b && true || old)) [ true ↦ refl | false ↦ refl ])
  | inr (inl below) ↦
      rw (ne_eqb c code (λ k. omega arith), lt-ltb c code below, lt-ltb c (code + 1) (omega arith))
      (elim wanted as (λ b. (b && false || (holds c && true || old)) ≡ (holds c && true || old)) [ true ↦ refl | false ↦ refl ])
  | inr (inr above) ↦
      rw (ne_eqb c code (λ k. omega arith), le-ltb c code (omega arith), le-ltb c (code + 1) (omega arith))
      (elim wanted as (λ b. (b && false || (holds c && false || old)) ≡ (holds c && false || old)) [ true ↦ refl | false ↦ refl ])
]
