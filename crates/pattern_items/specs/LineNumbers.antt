-- Line numbers as they are written, and which lines each names (Vim's help, /\%l).
use Rattle.std.specs.Prelude.{◌≡◌, ℕ, ◌<◌, ◌≤◌, List, [], ◌++◌, length, codes}
use Rattle.std.specs.Str.Parse.{IsNumeral, digits_value}
use Rattle.pattern_items.specs.declared.atom.Atom.TheVariants.{LineNumber}
use Rattle.pattern_items.specs.declared.atom.Compare.{Compare}
use Rattle.pattern_items.specs.declared.atom.Compare.TheVariants.{At, Before, After}
use Rattle.pattern_items.specs.declared.cause.PatternCause.TheVariants.{BadCode}
use Rattle.pattern_items.specs.declared.item.Level.{Level}
use Rattle.pattern_items.specs.declared.item.Level.TheVariants.{VeryNo, No, Usual, Very}
use Rattle.pattern_items.specs.declared.item.Sign.TheVariants.{Atom, Wrong}
use Rattle.pattern_items.specs.declared.item.Surroundings.{Surroundings}
use Rattle.pattern_items.specs.Counts.{IsRead}
use Rattle.pattern_items.specs.Place.{placed}

-- only at `\v` the percent sign stands bare
abbrev pub opening : Level → List ℕ
opening Very = codes "%"
opening Usual = codes "\\%"
opening No = codes "\\%"
opening VeryNo = codes "\\%"

-- `<` for the lines before, `>` for those after
abbrev pub sign_of : Compare → List ℕ
sign_of At = []
sign_of Before = codes "<"
sign_of After = codes ">"

abbrev pub written : Level → Compare → List ℕ → List ℕ
written level how digits = opening level ++ (sign_of how ++ (digits ++ codes "l"))

-- Whatever follows, a line number of one to nine digits is read to what it stands for, as a whole;
-- one of more digits is a fault.

abbrev pub EachLineNumberIsRead : Type 0
EachLineNumberIsRead =
    (x : Surroundings) (how : Compare) (digits more : List ℕ)
    → IsNumeral 10 digits → length digits ≤ 9
    → IsRead x (written x.level how digits ++ more)
    (Atom (LineNumber how (digits_value 10 digits))) (length (written x.level how digits))

abbrev pub EachLongLineNumberIsRefused : Type 0
EachLongLineNumberIsRefused =
    (x : Surroundings) (how : Compare) (digits more : List ℕ)
    → IsNumeral 10 digits → 9 < length digits
    → (placed x (written x.level how digits ++ more)).sign ≡ Wrong 0 BadCode
