-- What a collection holds (Vim's help, /[]). The parts of its classes are sets of ASCII characters,
-- but for those that go by an option or by what is printable.
use Rattle.std.specs.Prelude.{ℕ, ◌==◌, Bool, ◌||◌, not, if◌then◌else◌}
use Rattle.std.specs.List.{list_any}
use Rattle.char_class.specs.Classes.{class_holds, is_letter}
use Rattle.char_class.specs.Folds.{range_holds, lies_in}
use Rattle.char_class.specs.declared.sets.Sets.{Sets}
use Rattle.syn_base.specs.declared.class.Class.{Class}
use Rattle.syn_base.specs.declared.class.Class.TheVariants.{Lower, Upper}
use Rattle.pattern_items.specs.declared.atom.SetPart.{SetPart}
use Rattle.pattern_items.specs.declared.atom.SetPart.TheVariants.{Range, Of, Punct, Cntrl, Graph, Space}
use Rattle.pattern_items.specs.declared.atom.CharRanges.{CharRanges}

abbrev pub is_graph : ℕ → Bool
is_graph = lies_in 33 126

abbrev pub is_control : ℕ → Bool
is_control c = lies_in 0 31 c || c == 127

-- all that is shown but letters and digits
abbrev pub is_punctuation : ℕ → Bool
is_punctuation c = lies_in 33 47 c || lies_in 58 64 c || lies_in 91 96 c || lies_in 123 126 c

-- tab, line feed, vertical tab, form feed, carriage return, space
abbrev pub is_space : ℕ → Bool
is_space c = lies_in 9 13 c || c == 32

-- with case ignored, small letters and capitals are each all letters
abbrev pub class_in_set : Class → ℕ → Sets → Bool → Bool
class_in_set Lower c sets ignore = if ignore then is_letter c else class_holds Lower c sets
class_in_set Upper c sets ignore = if ignore then is_letter c else class_holds Upper c sets
class_in_set class c sets ignore = class_holds class c sets

abbrev pub part_holds : SetPart → ℕ → Sets → Bool → Bool
part_holds (Range low high) c sets ignore = range_holds low high c ignore
part_holds (Of class) c sets ignore = class_in_set class c sets ignore
part_holds Punct c sets ignore = is_punctuation c
part_holds Cntrl c sets ignore = is_control c
part_holds Graph c sets ignore = is_graph c
part_holds Space c sets ignore = is_space c

-- a character is in one of the parts; `^` turns the whole test round
abbrev pub collection_holds : CharRanges → ℕ → Sets → Bool → Bool
collection_holds ranges c sets ignore =
    if ranges.not then not (list_any (λ part. part_holds part c sets ignore) ranges.parts)
    else list_any (λ part. part_holds part c sets ignore) ranges.parts
