-- What a character is at each level of magic, bare and behind a backslash, item by item (Vim's
-- help, /magic).
use Rattle.std.specs.Prelude.{◌≡◌, ℕ, ◌==◌, ◌-◌, List, [], ◌∷◌, ◌++◌, length, Some, None, Bool, true, false, codes}
use Rattle.std.specs.List.{list_any, AllByRecursion}
use Prim.Native.String.{String}
use Rattle.syn_base.specs.declared.class.Class.TheVariants.{White, Digit, Hex, Octal, Word, Head, Alpha, Lower, Upper, Ident, Keyword, File, Print, IdentNoDigit, KeywordNoDigit, FileNoDigit, PrintNoDigit}
use Rattle.pattern_items.specs.declared.atom.Atom.TheVariants.{Char, Any, Is, LineEnd, WordStart, WordStop}
use Rattle.pattern_items.specs.declared.item.Level.{Level}
use Rattle.pattern_items.specs.declared.item.Level.TheVariants.{VeryNo, No, Usual, Very}
use Rattle.pattern_items.specs.declared.item.Raw.TheVariants as raw
use Rattle.pattern_items.specs.declared.item.Spelled.{Spelled}
use Rattle.pattern_items.specs.Characters.{char, backspace, tab, carriage_return, escape}
use Rattle.pattern_items.specs.Multis.{braces, look, count}
use Rattle.pattern_items.specs.Spelling.{spelled, atom, percent, external, collected, underscore, spelling}

-- how an item is written at `\v`, `\m`, `\M` and `\V`, and what is spelled so: in `n` characters,
-- or in more, where it goes on
-- with what follows; `first` says that no character of the pattern stands before it
pub record Row : Type 0 where
  pub character : ℕ
  pub very : List ℕ
  pub usual : List ℕ
  pub no : List ℕ
  pub very_no : List ℕ
  pub item : Bool → ℕ → List ℕ → Spelled

abbrev pub row : ℕ → String → String → String → String → (Bool → ℕ → List ℕ → Spelled) → Row
row c at_v at_m at_M at_V item = record {
  character = c;
  very = codes at_v;
  usual = codes at_m;
  no = codes at_M;
  very_no = codes at_V;
  item = item;
}

abbrev pub magic_items : List Row
magic_items =
    row (char ".") "." "." "\\." "\\." (λ _ n _. atom (Any false) n)
    ∷ row (char "[") "[" "[" "\\[" "\\[" (λ _ n more. collected false (n - 1) more)
    ∷ row (char "*") "*" "*" "\\*" "\\*" (λ _ n _. spelled raw.Star n)
    ∷ row (char "~") "~" "~" "\\~" "\\~" (λ _ n _. spelled raw.LeftOut n)
    ∷ row (char "^") "^" "^" "^" "\\^" (λ _ n _. spelled raw.Caret n)
    ∷ row (char "$") "$" "$" "$" "\\$" (λ _ n _. spelled raw.Dollar n)
    ∷ row (char "(") "(" "\\(" "\\(" "\\(" (λ _ n _. spelled raw.Group n)
    ∷ row (char ")") ")" "\\)" "\\)" "\\)" (λ _ n _. spelled raw.Close n)
    ∷ row (char "|") "|" "\\|" "\\|" "\\|" (λ _ n _. spelled raw.Bar n)
    ∷ row (char "&") "&" "\\&" "\\&" "\\&" (λ _ n _. spelled raw.Also n)
    ∷ row (char "+") "+" "\\+" "\\+" "\\+" (λ _ n _. spelled (raw.Multi (count 1 None false)) n)
    ∷ row (char "=") "=" "\\=" "\\=" "\\=" (λ _ n _. spelled (raw.Multi (count 0 (Some 1) false)) n)
    ∷ row (char "?") "?" "\\?" "\\?" "\\?" (λ _ n _. spelled (raw.Multi (count 0 (Some 1) false)) n)
    ∷ row (char "{") "{" "\\{" "\\{" "\\{" (λ _ n more. braces n more)
    ∷ row (char "@") "@" "\\@" "\\@" "\\@" (λ _ n more. look n more)
    ∷ row (char "%") "%" "\\%" "\\%" "\\%" (λ first n more. percent first n more)
    ∷ row (char "<") "<" "\\<" "\\<" "\\<" (λ _ n _. atom WordStart n)
    ∷ row (char ">") ">" "\\>" "\\>" "\\>" (λ _ n _. atom WordStop n)
    ∷ []

abbrev pub written_at : Level → Row → List ℕ
written_at Very r = r.very
written_at Usual r = r.usual
written_at No r = r.no
written_at VeryNo r = r.very_no

-- the other spelling: with a backslash in place of none, or without it
abbrev pub other_spelling : List ℕ → List ℕ
other_spelling [] = []
other_spelling (c ∷ []) = char "\\" ∷ c ∷ []
other_spelling (backslash ∷ c ∷ cs) = c ∷ cs

-- at a level, before this, a row's item is spelled as it is written there, and the other spelling
-- is the character itself
pub record IsRowSpelled (first : Bool) (level : Level) (more : List ℕ) (r : Row) : Type 0 where
  pub item :
      spelling first level (written_at level r ++ more)
      ≡ r.item first (length (written_at level r)) more
  pub other :
      spelling first level (other_spelling (written_at level r) ++ more)
      ≡ atom (Char r.character) (length (other_spelling (written_at level r)))

abbrev pub MagicItemsAreSpelled : Type 0
MagicItemsAreSpelled =
    (first : Bool) (level : Level) (more : List ℕ)
    → AllByRecursion (IsRowSpelled first level more) magic_items

-- What a backslash and another character are, at every level.
pub record Letter : Type 0 where
  pub character : ℕ
  pub item : List ℕ → Spelled

abbrev pub letter_row : ℕ → (List ℕ → Spelled) → Letter
letter_row c item = record { character = c; item = item }

abbrev pub letters : List Letter
letters =
    letter_row (char "v") (λ more. spelled (raw.Magic Very) 2)
    ∷ letter_row (char "m") (λ more. spelled (raw.Magic Usual) 2)
    ∷ letter_row (char "M") (λ more. spelled (raw.Magic No) 2)
    ∷ letter_row (char "V") (λ more. spelled (raw.Magic VeryNo) 2)
    ∷ letter_row (char "c") (λ more. spelled (raw.Case true) 2)
    ∷ letter_row (char "C") (λ more. spelled (raw.Case false) 2)
    ∷ letter_row (char "n") (λ more. atom LineEnd 2)
    ∷ letter_row (char "Z") (λ more. spelled raw.LeftOut 2)
    ∷ letter_row (char "z") (λ more. external 2 more)
    ∷ letter_row (char "_") (λ more. underscore more)
    ∷ letter_row (char "1") (λ more. spelled (raw.Reference 1) 2)
    ∷ letter_row (char "2") (λ more. spelled (raw.Reference 2) 2)
    ∷ letter_row (char "3") (λ more. spelled (raw.Reference 3) 2)
    ∷ letter_row (char "4") (λ more. spelled (raw.Reference 4) 2)
    ∷ letter_row (char "5") (λ more. spelled (raw.Reference 5) 2)
    ∷ letter_row (char "6") (λ more. spelled (raw.Reference 6) 2)
    ∷ letter_row (char "7") (λ more. spelled (raw.Reference 7) 2)
    ∷ letter_row (char "8") (λ more. spelled (raw.Reference 8) 2)
    ∷ letter_row (char "9") (λ more. spelled (raw.Reference 9) 2)
    ∷ letter_row (char "s") (λ more. atom (Is White false false) 2)
    ∷ letter_row (char "d") (λ more. atom (Is Digit false false) 2)
    ∷ letter_row (char "x") (λ more. atom (Is Hex false false) 2)
    ∷ letter_row (char "o") (λ more. atom (Is Octal false false) 2)
    ∷ letter_row (char "w") (λ more. atom (Is Word false false) 2)
    ∷ letter_row (char "h") (λ more. atom (Is Head false false) 2)
    ∷ letter_row (char "a") (λ more. atom (Is Alpha false false) 2)
    ∷ letter_row (char "l") (λ more. atom (Is Lower false false) 2)
    ∷ letter_row (char "u") (λ more. atom (Is Upper false false) 2)
    ∷ letter_row (char "i") (λ more. atom (Is Ident false false) 2)
    ∷ letter_row (char "k") (λ more. atom (Is Keyword false false) 2)
    ∷ letter_row (char "f") (λ more. atom (Is File false false) 2)
    ∷ letter_row (char "p") (λ more. atom (Is Print false false) 2)
    ∷ letter_row (char "I") (λ more. atom (Is IdentNoDigit false false) 2)
    ∷ letter_row (char "K") (λ more. atom (Is KeywordNoDigit false false) 2)
    ∷ letter_row (char "F") (λ more. atom (Is FileNoDigit false false) 2)
    ∷ letter_row (char "P") (λ more. atom (Is PrintNoDigit false false) 2)
    ∷ letter_row (char "S") (λ more. atom (Is White true false) 2)
    ∷ letter_row (char "D") (λ more. atom (Is Digit true false) 2)
    ∷ letter_row (char "X") (λ more. atom (Is Hex true false) 2)
    ∷ letter_row (char "O") (λ more. atom (Is Octal true false) 2)
    ∷ letter_row (char "W") (λ more. atom (Is Word true false) 2)
    ∷ letter_row (char "H") (λ more. atom (Is Head true false) 2)
    ∷ letter_row (char "A") (λ more. atom (Is Alpha true false) 2)
    ∷ letter_row (char "L") (λ more. atom (Is Lower true false) 2)
    ∷ letter_row (char "U") (λ more. atom (Is Upper true false) 2)
    ∷ letter_row (char "e") (λ more. atom (Char escape) 2)
    ∷ letter_row (char "t") (λ more. atom (Char tab) 2)
    ∷ letter_row (char "r") (λ more. atom (Char carriage_return) 2)
    ∷ letter_row (char "b") (λ more. atom (Char backspace) 2)
    ∷ []

pub record IsLetterSpelled (first : Bool) (level : Level) (more : List ℕ) (l : Letter) : Type 0 where
  pub item : spelling first level (char "\\" ∷ l.character ∷ more) ≡ l.item more

abbrev pub LettersAreSpelled : Type 0
LettersAreSpelled =
    (first : Bool) (level : Level) (more : List ℕ)
    → AllByRecursion (IsLetterSpelled first level more) letters

-- All other characters stand for themselves: bare those that no row has bare at the level, and
-- behind a backslash those of no row and no letter.

abbrev pub is_one_of : ℕ → List ℕ → Bool
is_one_of c all = list_any (λ d. c == d) all

abbrev pub bare_at : Level → List ℕ
bare_at Very = codes "^$.[*~()|&+=?{@%<>"
bare_at Usual = codes "^$.[*~"
bare_at No = codes "^$"
bare_at VeryNo = []

abbrev pub letter_characters : List ℕ
letter_characters = codes "vmMVcCnZz_123456789sdxowhaluikfpIKFPSDXOWHALUetrb"

pub record AreOthersSpelled (first : Bool) (level : Level) (more : List ℕ) : Type 0 where
  pub bare :
      (c : ℕ) → is_one_of c (codes "\\]") ≡ false → is_one_of c (bare_at level) ≡ false
      → spelling first level (c ∷ more) ≡ atom (Char c) 1
  pub escaped :
      (c : ℕ) → is_one_of c (bare_at Very) ≡ false → is_one_of c letter_characters ≡ false
      → spelling first level (char "\\" ∷ c ∷ more) ≡ atom (Char c) 2
  pub square : spelling first level (char "]" ∷ more) ≡ spelled raw.Square 1
  pub last_backslash : spelling first level (char "\\" ∷ []) ≡ atom (Char (char "\\")) 1

abbrev pub OthersAreSpelled : Type 0
OthersAreSpelled =
    (first : Bool) (level : Level) (more : List ℕ) → AreOthersSpelled first level more
