-- Counts in braces as they are written, and how often each asks for its atom (Vim's help, /\{).
use Rattle.std.specs.Prelude.{◌≡◌, ℕ, ◌<◌, ◌≤◌, ◌⊎◌, min, max, List, [], ◌++◌, length, Option, Some, None, Bool, if◌then◌else◌, codes}
use Rattle.std.specs.Str.Parse.{IsNumeral, digits_value}
use Rattle.pattern_items.specs.declared.cause.PatternCause.TheVariants.{BadCount}
use Rattle.pattern_items.specs.declared.item.Level.{Level}
use Rattle.pattern_items.specs.declared.item.Level.TheVariants.{VeryNo, No, Usual, Very}
use Rattle.pattern_items.specs.declared.item.Multi.TheVariants.{Count}
use Rattle.pattern_items.specs.declared.item.Sign.{Sign}
use Rattle.pattern_items.specs.declared.item.Sign.TheVariants.{Multi, Wrong}
use Rattle.pattern_items.specs.declared.item.Surroundings.{Surroundings}
use Rattle.pattern_items.specs.Place.{placed}

-- what may stand between the braces; `n` and `m` are written in digits
pub data Form : Type 0 where
  both : (n m : List ℕ) → Form
  exactly : (n : List ℕ) → Form
  at_least : (n : List ℕ) → Form
  at_most : (m : List ℕ) → Form
  any : Form

abbrev pub between : Form → List ℕ
between (both n m) = n ++ (codes "," ++ m)
between (exactly n) = n
between (at_least n) = n ++ codes ","
between (at_most m) = codes "," ++ m
between any = []

-- only at `\v` the brace stands bare
abbrev pub opening : Level → List ℕ
opening Very = codes "{"
opening Usual = codes "\\{"
opening No = codes "\\{"
opening VeryNo = codes "\\{"

-- fewer turns come first behind a hyphen
abbrev pub hyphen_if : Bool → List ℕ
hyphen_if lazy = if lazy then codes "-" else []

-- the closing brace may have a backslash
abbrev pub closing_brace : Bool → List ℕ
closing_brace escaped = if escaped then codes "\\}" else codes "}"

abbrev pub written : Level → Bool → Form → Bool → List ℕ
written level lazy form escaped =
    opening level ++ (hyphen_if lazy ++ (between form ++ closing_brace escaped))

-- What it stands for.

-- the digits are one or more, in base ten; leading zeros count nothing
abbrev pub AreNumerals : Form → Type 0
AreNumerals (both n m) = IsNumeral 10 n × IsNumeral 10 m
AreNumerals (exactly n) = IsNumeral 10 n
AreNumerals (at_least n) = IsNumeral 10 n
AreNumerals (at_most m) = IsNumeral 10 m
AreNumerals any = Unit {0}

abbrev pub number : List ℕ → ℕ
number ds = digits_value 10 ds

-- the smaller number is the least, also where it stands second
abbrev pub least_of : Form → ℕ
least_of (both n m) = min (number n) (number m)
least_of (exactly n) = number n
least_of (at_least n) = number n
least_of (at_most m) = 0
least_of any = 0

abbrev pub most_of : Form → Option ℕ
most_of (both n m) = Some (max (number n) (number m))
most_of (exactly n) = Some (number n)
most_of (at_least n) = None
most_of (at_most m) = Some (number m)
most_of any = None

-- no number is above 65,535
abbrev pub AreSmall : Form → Type 0
AreSmall (both n m) = (number n ≤ 65535) × (number m ≤ 65535)
AreSmall (exactly n) = number n ≤ 65535
AreSmall (at_least n) = number n ≤ 65535
AreSmall (at_most m) = number m ≤ 65535
AreSmall any = Unit {0}

-- a number is
abbrev pub IsOneLarge : Form → Type 0
IsOneLarge (both n m) = (65535 < number n) ⊎ (65535 < number m)
IsOneLarge (exactly n) = 65535 < number n
IsOneLarge (at_least n) = 65535 < number n
IsOneLarge (at_most m) = 65535 < number m
IsOneLarge any = ⊥

abbrev pub count_of : Bool → Form → Sign
count_of lazy form =
    Multi (Count (record { least = least_of form; most = most_of form; lazy = lazy }))

-- the item at the front of a text is this, and takes so many characters
pub record IsRead (x : Surroundings) (text : List ℕ) (item : Sign) (count : ℕ) : Type 0 where
  pub sign : (placed x text).sign ≡ item
  pub len : (placed x text).len ≡ count

-- Whatever follows, a count is read to what it stands for, as a whole; one with a number that is
-- too large is a fault.

abbrev pub EachCountIsRead : Type 0
EachCountIsRead =
    (x : Surroundings) (lazy : Bool) (form : Form) (escaped : Bool) (more : List ℕ)
    → AreNumerals form → AreSmall form
    → IsRead x (written x.level lazy form escaped ++ more)
    (count_of lazy form) (length (written x.level lazy form escaped))

abbrev pub EachLargeCountIsRefused : Type 0
EachLargeCountIsRefused =
    (x : Surroundings) (lazy : Bool) (form : Form) (escaped : Bool) (more : List ℕ)
    → AreNumerals form → IsOneLarge form
    → (placed x (written x.level lazy form escaped ++ more)).sign ≡ Wrong 0 BadCount
