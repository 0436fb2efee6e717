-- Whether an atom may take what stands at a column. Of a character from 256 on it is known alone
-- whether it is a keyword character.
use Rattle.std.specs.Prelude.{Bool, true, false, ◌||◌, nat_le}
use Rattle.std.specs.List.{list_any}
use Rattle.char_class.specs.declared.sets.Sets.{Sets}
use Rattle.syn_base.specs.declared.class.Class.{Class}
use Rattle.syn_base.specs.declared.class.Class.TheVariants as classes
use Rattle.pattern_items.specs.declared.atom.Atom.{Atom}
use Rattle.pattern_items.specs.declared.atom.Atom.TheVariants.{Char, Any, Is, Set}
use Rattle.pattern_items.specs.declared.atom.SetPart.{SetPart}
use Rattle.pattern_items.specs.declared.atom.SetPart.TheVariants.{Range, Of}
use Rattle.match_rules.specs.Atoms.{turned_round}
use Rattle.pattern_screens.specs.PlainAtoms.{plain_takes}
use Rattle.pattern_screens.specs.declared.key.Next.{Next}
use Rattle.pattern_screens.specs.declared.key.Next.TheVariants as next

-- whether a class has a character from 256 on, by whether it is a keyword character: there the sets
-- of all options have the same, and all is printable
abbrev pub class_has_other : Class → Bool → Bool
class_has_other classes.Ident keyword = keyword
class_has_other classes.Keyword keyword = keyword
class_has_other classes.File keyword = keyword
class_has_other classes.IdentNoDigit keyword = keyword
class_has_other classes.KeywordNoDigit keyword = keyword
class_has_other classes.FileNoDigit keyword = keyword
class_has_other classes.Print keyword = true
class_has_other classes.PrintNoDigit keyword = true
class_has_other _ keyword = false

-- where case is ignored, a part below 256 may hold a character from there on by its fold
abbrev pub part_may_hold : Bool → Bool → SetPart → Bool
part_may_hold keyword ignore (Range low high) = ignore || nat_le 256 high
part_may_hold keyword ignore (Of class) = class_has_other class keyword
part_may_hold keyword ignore _ = false

abbrev pub may_take_other : Bool → Bool → Atom → Bool
may_take_other keyword ignore (Char c) = ignore || nat_le 256 c
may_take_other keyword ignore (Is class negative with_end) =
    turned_round negative (class_has_other class keyword)
may_take_other keyword ignore (Set ranges) =
    ranges.not || list_any (part_may_hold keyword ignore) ranges.parts
may_take_other keyword ignore _ = true

-- whether it takes a line end too
abbrev pub takes_end : Atom → Bool
takes_end (Any with_end) = with_end
takes_end (Is class negative with_end) = with_end
takes_end (Set ranges) = ranges.line_end
takes_end _ = false

abbrev pub may_take : Sets → Bool → Atom → Next → Bool
may_take sets ignore a (next.Code c) = plain_takes sets ignore a c
may_take sets ignore a next.OtherKeyword = may_take_other true ignore a
may_take sets ignore a next.OtherCharacter = may_take_other false ignore a
may_take sets ignore a next.LineEnd = takes_end a
