-- The texts of class names.
use Rattle.std.proofs.Common.{◌≡◌, ℕ, ◌-◌, ◌<◌, List, [], ◌∷◌, ◌++◌, take, drop, length, get_or, refl, ap, sym, ◌∙◌, Bool, true, false, cond, arith}
use Rattle.std.specs.Prelude.{Option, Some, nat_eq, find, if◌then◌else◌}
use Rattle.std.specs.List.{starts_with}
use Rattle.std.proofs.lemmas.List.{take-append-drop}
use lib.Pointwise.{bytes_decides}
use Rattle.pattern_items.specs.ClassNames.{name_at, word, class_names}
use Rattle.pattern_items.specs.declared.class_names.ClassName.{ClassName}
use Rattle.pattern_items.specs.declared.class_names.ClassName.TheVariants.{Alnum, Alpha, Blank, Cntrl, Digit, Graph, Lower, Print, Punct, Space, Upper, Xdigit, Return, Tab, Escape, Backspace, Ident, Keyword, Fname}

find_by : {A : Type 0} (p : A → Bool) (x y : A) (rest : Option A) (b : Bool) → p y ≡ b → (rest ≡ Some x → p x ≡ true) → cond b (Some y) rest ≡ Some x → p x ≡ true
find_by p x y rest true t later e = let same : y ≡ x = cc in ap p (sym same) ∙ t
find_by p x y rest false t later e = later e

find_holds : {A : Type 0} (p : A → Bool) (xs : List A) (x : A) → find p xs ≡ Some x → p x ≡ true
find_holds p [] x e = cc
find_holds p (y ∷ ys) x e = find_by p x y (find p ys) (p y) refl (find_holds p ys x) e

-- what a name's text is
pub named_text : (cs : List ℕ) (name : ClassName) → name_at cs ≡ Some name → cs ≡ word name ++ drop (length (word name)) cs
named_text cs name e =
    let front : word name ≡ take (length (word name)) cs = (bytes_decides (word name) (take (length (word name)) cs)).0 (find_holds (λ n. starts_with nat_eq cs (word n)) class_names name e) in
    sym (ap (λ w. w ++ drop (length (word name)) cs) front ∙ take-append-drop (length (word name)) cs)

abbrev pub has_bracket : List ℕ → Bool
has_bracket [] = false
has_bracket (c ∷ cs) = if nat_eq c 91 then true else has_bracket cs

-- no bracket opens in one
pub word_without : (name : ClassName) → has_bracket (word name) ≡ false
word_without Alnum = refl
word_without Alpha = refl
word_without Blank = refl
word_without Cntrl = refl
word_without Digit = refl
word_without Graph = refl
word_without Lower = refl
word_without Print = refl
word_without Punct = refl
word_without Space = refl
word_without Upper = refl
word_without Xdigit = refl
word_without Return = refl
word_without Tab = refl
word_without Escape = refl
word_without Backspace = refl
word_without Ident = refl
word_without Keyword = refl
word_without Fname = refl

-- one closes it
abbrev pub EndsInBracket : List ℕ → Type 0
EndsInBracket w = (0 < length w) × (get_or w (length w - 1) 0 ≡ 93)

pub word_ends : (name : ClassName) → EndsInBracket (word name)
word_ends Alnum = (omega arith, refl)
word_ends Alpha = (omega arith, refl)
word_ends Blank = (omega arith, refl)
word_ends Cntrl = (omega arith, refl)
word_ends Digit = (omega arith, refl)
word_ends Graph = (omega arith, refl)
word_ends Lower = (omega arith, refl)
word_ends Print = (omega arith, refl)
word_ends Punct = (omega arith, refl)
word_ends Space = (omega arith, refl)
word_ends Upper = (omega arith, refl)
word_ends Xdigit = (omega arith, refl)
word_ends Return = (omega arith, refl)
word_ends Tab = (omega arith, refl)
word_ends Escape = (omega arith, refl)
word_ends Backspace = (omega arith, refl)
word_ends Ident = (omega arith, refl)
word_ends Keyword = (omega arith, refl)
word_ends Fname = (omega arith, refl)
