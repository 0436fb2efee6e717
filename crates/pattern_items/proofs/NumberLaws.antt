-- The items of a text have numbers from 1 to 9.
use Rattle.std.proofs.Common.{◌≡◌, ℕ, zero, suc, ◌+◌, ◌-◌, ◌<◌, List, [], ◌∷◌, length, Bool, true, false, Some, None, refl, arith, rules, take, drop}
use Rattle.std.specs.Prelude.{◌||◌, Option, cond, nat_eq, nat_le, nat_lt}
use Rattle.std.proofs.lemmas.Bool.{ltb-true}
use Rattle.syn_base.specs.declared.class.Class.{Class}
use Rattle.pattern_items.specs.declared.atom.Atom.{Atom}
use Rattle.pattern_items.specs.declared.atom.Atom.TheVariants as atom
use Rattle.pattern_items.specs.declared.atom.Compare.{Compare}
use Rattle.pattern_items.specs.declared.atom.Compare.TheVariants.{At, Before, After}
use Rattle.pattern_items.specs.declared.cause.PatternCause.{PatternCause}
use Rattle.pattern_items.specs.declared.codes.Code.{Code}
use Rattle.pattern_items.specs.declared.codes.Notation.{Notation}
use Rattle.pattern_items.specs.declared.item.Behind.{Behind}
use Rattle.pattern_items.specs.declared.item.Level.{Level}
use Rattle.pattern_items.specs.declared.item.Multi.{Multi}
use Rattle.pattern_items.specs.declared.item.Raw.{Raw}
use Rattle.pattern_items.specs.declared.item.Raw.TheVariants as raw
use Rattle.pattern_items.specs.declared.item.Spelled.{Spelled}
use Rattle.pattern_items.specs.declared.collection.Piece.{Piece}
use Rattle.pattern_items.specs.declared.item.Surroundings.{Surroundings}
use Rattle.pattern_items.specs.declared.item.Kind.{Kind}
use Rattle.pattern_items.specs.declared.item.Kind.TheVariants as kind
use Rattle.pattern_items.specs.declared.item.PatternUse.{PatternUse}
use Rattle.pattern_items.specs.declared.item.Sign.{Sign}
use Rattle.pattern_items.specs.declared.item.Sign.TheVariants as sign
use Rattle.pattern_items.specs.Place.{Item, in_place, inner_of, is_very, begins, stops, star_is_char, is_start, is_end, items_from, items_of, first_surroundings, placed}
use Rattle.pattern_items.specs.Codes.{char_of, code, notation_of}
use Rattle.pattern_items.specs.Collection.{collection_len, pieces, members, body_of, is_turned, first_fault, first_marked, fault_or_set, marked_or_set}
use Rattle.pattern_items.specs.GroupNumbers.{IsOneToNine, HasNumber}
use Rattle.pattern_items.specs.Letters as letters
use Rattle.pattern_items.specs.Multis as multis
use Rattle.pattern_items.specs.Numbers.{Digits, digits, front_digits, behind_digits}
use Rattle.pattern_items.specs.Spelling as spelling

-- What is spelled.

abbrev pub RawHas : Raw → Type 0
RawHas (raw.Atom a) = HasNumber a
RawHas (raw.Reference n) = IsOneToNine n
RawHas (raw.ExternalReference n) = IsOneToNine n
RawHas _ = Unit {0}

pub record Has (s : Spelled) : Type 0 where
  pub is : RawHas s.raw

-- what is spelled, if something is
pub data MayHave : Option Spelled → Type 0 where
  nothing : MayHave None
  some : {s : Spelled} → Has s → MayHave (Some s)

pub data AtomMayHave : Option Atom → Type 0 where
  no_atom : AtomMayHave None
  an_atom : {a : Atom} → HasNumber a → AtomMayHave (Some a)

has_if : (b : Bool) (s t : Spelled) → Has s → Has t → Has (cond b s t)
has_if true s t h k = h
has_if false s t h k = k

has_elim : (b : Bool) (s t : Spelled) → Has s → Has t → Has (elim b [ true ↦ s | false ↦ t ])
has_elim true s t h k = h
has_elim false s t h k = k

has_when : (b : Bool) (s t : Spelled) → (b ≡ true → Has s) → Has t → Has (cond b s t)
has_when true s t h k = h refl
has_when false s t h k = k

may_if : (b : Bool) (s t : Option Spelled) → MayHave s → MayHave t → MayHave (cond b s t)
may_if true s t h k = h
may_if false s t h k = k

bad_count_has : (n : ℕ) → Has (multis.bad_count n)
bad_count_has n = record { is = tt }

multi_has : (m : Multi) (n : ℕ) → Has (multis.multi m n)
multi_has m n = record { is = tt }

closed_has : (n : ℕ) (m : Multi) (o : Option ℕ) → Has (multis.closed n m o)
closed_has n m None = bad_count_has n
closed_has n m (Some k) = multi_has m (n + k)

without_most_has : (n : ℕ) (o : Option ℕ) (lazy : Bool) (end : Option ℕ) → Has (multis.without_most n o lazy end)
without_most_has n None lazy end = bad_count_has n
without_most_has n (Some least) lazy end = closed_has n (multis.count least None lazy) end

most_has : (b : Bool) (v : Option ℕ) (s t : Spelled) (f : ℕ → Spelled) → Has s → Has t → ((k : ℕ) → Has (f k)) → Has (elim b [ true ↦ s | false ↦ elim v [ None ↦ t | Some k ↦ f k ] ])
most_has true v s t f h k g = h
most_has false None s t f h k g = k
most_has false (Some n) s t f h k g = g n

with_most_has : (n : ℕ) (o : Option ℕ) (lazy : Bool) (d : Digits) → Has (multis.with_most n o lazy d)
with_most_has n o lazy d = most_has (nat_eq d.count 0) d.value _ _ _ (without_most_has n o lazy (multis.brace_end d.rest)) (bad_count_has n) (λ k. closed_has _ _ _)

with_comma_has : (n : ℕ) (o : Option ℕ) (lazy : Bool) (cs : List ℕ) → Has (multis.with_comma n o lazy cs)
with_comma_has n o lazy [] = bad_count_has n
with_comma_has n o lazy (c ∷ cs) = has_elim (nat_eq c 44) _ _ (with_most_has (n + 1) o lazy (digits cs)) (closed_has n _ _)

with_least_has : (n : ℕ) (lazy : Bool) (d : Digits) → Has (multis.with_least n lazy d)
with_least_has n lazy d = most_has (nat_eq d.count 0) d.value _ _ _ (with_comma_has n None lazy d.rest) (bad_count_has n) (λ k. with_comma_has _ (Some k) lazy d.rest)

braces_has : (n : ℕ) (cs : List ℕ) → Has (multis.braces n cs)
braces_has n [] = bad_count_has n
braces_has n (c ∷ cs) = has_elim (nat_eq c 45) _ _ (with_least_has (n + 1) true (digits cs)) (with_least_has n false (digits (c ∷ cs)))

look_behind_has : (n : ℕ) (limit : Behind) (cs : List ℕ) → Has (multis.look_behind n limit cs)
look_behind_has n limit [] = bad_count_has n
look_behind_has n limit (c ∷ cs) = search (rules, has_if, multi_has, bad_count_has)

limited_by_has : (n most : ℕ) (cs : List ℕ) → Has (multis.limited_by n most cs)
limited_by_has n most [] = bad_count_has n
limited_by_has n most (c ∷ cs) = search (rules, has_if, look_behind_has, bad_count_has)

limited_has : (n : ℕ) (o : Option ℕ) (cs : List ℕ) → Has (multis.limited n o cs)
limited_has n None cs = bad_count_has n
limited_has n (Some most) cs = limited_by_has n most cs

numbered_has : (n : ℕ) (d : Digits) → Has (multis.numbered n d)
numbered_has n d = has_elim (nat_eq d.count 0) _ _ (bad_count_has n) (limited_has (n + d.count) d.value d.rest)

look_has : (n : ℕ) (cs : List ℕ) → Has (multis.look n cs)
look_has n [] = bad_count_has n
look_has n (c ∷ cs) = search (rules, has_if, look_behind_has, multi_has, numbered_has)

wrong_has : (c : PatternCause) (n : ℕ) → Has (spelling.wrong c n)
wrong_has c n = record { is = tt }

left_out_has : (n : ℕ) → Has (spelling.spelled raw.LeftOut n)
left_out_has n = record { is = tt }

line_number_has : (n : ℕ) (how : Compare) (digits : List ℕ) → Has (spelling.line_number n how digits)
line_number_has n how digits = has_if (nat_le (length digits) 9) _ _ (record { is = tt }) (wrong_has _ n)

with_unit_has : (n : ℕ) (how : Compare) (digits cs : List ℕ) → Has (spelling.with_unit n how digits cs)
with_unit_has n how digits [] = wrong_has _ n
with_unit_has n how digits (c ∷ cs) = has_if (nat_eq c 108) _ _ (line_number_has n how digits) (has_if _ _ _ (left_out_has _) (wrong_has _ n))

positioned_has : (n : ℕ) (how : Compare) (text : List ℕ) → Has (spelling.positioned n how text)
positioned_has n how text = has_if (nat_eq (length (front_digits text)) 0) _ _ (wrong_has _ n) (with_unit_has n how (front_digits text) (behind_digits text))

mark_has : (n : ℕ) (cs : List ℕ) → Has (spelling.mark n cs)
mark_has n [] = wrong_has _ n
mark_has n (c ∷ cs) = left_out_has (n + 1)

compared_has : (n : ℕ) (how : Compare) (cs : List ℕ) → Has (spelling.compared n how cs)
compared_has n how [] = wrong_has _ n
compared_has n how (c ∷ cs) = has_if (nat_eq c 39) _ _ (mark_has (n + 1) cs) (positioned_has n how (c ∷ cs))

coded_as_has : (n count : ℕ) (o : Option ℕ) → Has (spelling.coded_as n count o)
coded_as_has n count None = wrong_has _ n
coded_as_has n count (Some c) = record { is = tt }

with_code_has : (n : ℕ) (k : Code) → Has (spelling.with_code n k)
with_code_has n k = has_if (nat_eq k.count 0) _ _ (wrong_has _ n) (coded_as_has n k.count (char_of k.value))

raw_has : (r : Raw) (n : ℕ) → RawHas r → Has (spelling.spelled r n)
raw_has r n h = record { is = h }

engine_number_has : (n : ℕ) (cs : List ℕ) → Has (spelling.engine_number n cs)
engine_number_has n [] = left_out_has n
engine_number_has n (c ∷ cs) = has_if _ _ _ (raw_has raw.Engine _ tt) (left_out_has n)

engine_at_front_has : (n : ℕ) (cs : List ℕ) → Has (spelling.engine_at_front n cs)
engine_at_front_has n [] = left_out_has n
engine_at_front_has n (c ∷ cs) = has_if (nat_eq c 61) _ _ (engine_number_has n cs) (left_out_has n)

engine_has : (first : Bool) (n : ℕ) (cs : List ℕ) → Has (spelling.engine first n cs)
engine_has true n cs = engine_at_front_has n cs
engine_has false n cs = left_out_has n

code_or_has : (n c : ℕ) (cs : List ℕ) (o : Option Notation) → Has (spelling.code_or n c cs o)
code_or_has n c cs (Some notation) = with_code_has (n + 1) (code notation cs)
code_or_has n c cs None = positioned_has n At (c ∷ cs)

plain_has : (n : ℕ) → Has (spelling.spelled raw.Plain n)
plain_has n = record { is = tt }

optional_has : (n : ℕ) → Has (spelling.spelled raw.Optional n)
optional_has n = record { is = tt }

atom_has : (a : Atom) (n : ℕ) → HasNumber a → Has (spelling.atom a n)
atom_has a n h = record { is = h }

percent_has : (first : Bool) (n : ℕ) (cs : List ℕ) → Has (spelling.percent first n cs)
percent_has first n [] = wrong_has _ n
percent_has first n (c ∷ cs) =
    has_if (nat_eq c 40) _ _ (plain_has _) (
    has_if (nat_eq c 91) _ _ (optional_has _) (
    has_if (nat_eq c 94) _ _ (atom_has _ _ tt) (
    has_if (nat_eq c 36) _ _ (atom_has _ _ tt) (
    has_if _ _ _ (left_out_has _) (
    has_if (nat_eq c 35) _ _ (engine_has first (n + 1) cs) (
    has_if (nat_eq c 39) _ _ (mark_has (n + 1) cs) (
    has_if (nat_eq c 60) _ _ (compared_has (n + 1) Before cs) (
    has_if (nat_eq c 62) _ _ (compared_has (n + 1) After cs) (code_or_has n c cs (notation_of c))))))))))

-- the number of a digit from 1 on
number_is : (c : ℕ) → spelling.is_number c ≡ true → IsOneToNine (c - 48)
number_is c h = record { least = search rules; most = search rules }

external_has : (n : ℕ) (cs : List ℕ) → Has (spelling.external n cs)
external_has n [] = wrong_has _ n
external_has n (c ∷ cs) =
    has_if (nat_eq c 40) _ _ (record { is = tt }) (
    has_if (nat_eq c 115) _ _ (record { is = tt }) (
    has_if (nat_eq c 101) _ _ (record { is = tt }) (
    has_when (spelling.is_number c) _ _ (λ h. record { is = number_is c h }) (wrong_has _ n))))

collected_has : (line_end : Bool) (before : ℕ) (o : Option ℕ) → Has (spelling.collected_to line_end before o)
collected_has line_end before None = record { is = tt }
collected_has line_end before (Some len) = record { is = tt }

opposite_has : (line_end : Bool) (o : Option Class) → AtomMayHave (letters.opposite_atom line_end o)
opposite_has line_end None = no_atom
opposite_has line_end (Some class) = an_atom tt

class_or_has : (line_end : Bool) (c : ℕ) (o : Option Class) → AtomMayHave (letters.class_or line_end c o)
class_or_has line_end c None = opposite_has line_end (letters.opposite_of c)
class_or_has line_end c (Some class) = an_atom tt

class_atom_has : (line_end : Bool) (c : ℕ) → AtomMayHave (letters.class_atom line_end c)
class_atom_has line_end c = class_or_has line_end c (letters.class_of c)

class_behind_has : {o : Option Atom} → AtomMayHave o → Has (spelling.class_after_underscore o)
class_behind_has no_atom = wrong_has _ 2
class_behind_has (an_atom h) = record { is = h }

underscore_has : (cs : List ℕ) → Has (spelling.underscore cs)
underscore_has [] = wrong_has _ 2
underscore_has (c ∷ cs) =
    has_if (nat_eq c 94) _ _ (record { is = tt }) (
    has_if (nat_eq c 36) _ _ (record { is = tt }) (
    has_if (nat_eq c 46) _ _ (record { is = tt }) (
    has_if (nat_eq c 91) _ _ (collected_has true 2 (collection_len cs)) (class_behind_has (class_atom_has true c)))))

control_has : (c : ℕ) (o : Option ℕ) → Has (spelling.control_or c o)
control_has c None = record { is = tt }
control_has c (Some written) = record { is = tt }

class_spelled_has : {o : Option Atom} (c : ℕ) → AtomMayHave o → Has (spelling.class_or c o)
class_spelled_has c no_atom = control_has c (spelling.control c)
class_spelled_has c (an_atom h) = record { is = h }

letter_has : (c : ℕ) (cs : List ℕ) → Has (spelling.letter c cs)
letter_has c cs =
    has_if (nat_eq c 118) _ _ (record { is = tt }) (
    has_if (nat_eq c 109) _ _ (record { is = tt }) (
    has_if (nat_eq c 77) _ _ (record { is = tt }) (
    has_if (nat_eq c 86) _ _ (record { is = tt }) (
    has_if (nat_eq c 99) _ _ (record { is = tt }) (
    has_if (nat_eq c 67) _ _ (record { is = tt }) (
    has_if (nat_eq c 110) _ _ (record { is = tt }) (
    has_if (nat_eq c 90) _ _ (left_out_has 2) (
    has_if (nat_eq c 122) _ _ (external_has 2 cs) (
    has_if (nat_eq c 95) _ _ (underscore_has cs) (
    has_when (spelling.is_number c) _ _ (λ h. record { is = number_is c h }) (class_spelled_has c (class_atom_has false c))))))))))))

operator_has : (n c : ℕ) (cs : List ℕ) → MayHave (spelling.operator n c cs)
operator_has n c cs =
    may_if (nat_eq c 42) _ _ (some (record { is = tt })) (
    may_if (nat_eq c 43) _ _ (some (record { is = tt })) (
    may_if _ _ _ (some (record { is = tt })) (
    may_if (nat_eq c 123) _ _ (some (braces_has n cs)) (
    may_if (nat_eq c 64) _ _ (some (look_has n cs)) (
    may_if (nat_eq c 40) _ _ (some (record { is = tt })) (
    may_if (nat_eq c 41) _ _ (some (record { is = tt })) (
    may_if (nat_eq c 124) _ _ (some (record { is = tt })) (
    may_if (nat_eq c 38) _ _ (some (record { is = tt })) nothing))))))))

plain_atom_has : (first : Bool) (n c : ℕ) (cs : List ℕ) → MayHave (spelling.plain_atom first n c cs)
plain_atom_has first n c cs =
    may_if (nat_eq c 46) _ _ (some (record { is = tt })) (
    may_if (nat_eq c 94) _ _ (some (record { is = tt })) (
    may_if (nat_eq c 36) _ _ (some (record { is = tt })) (
    may_if (nat_eq c 91) _ _ (some (collected_has false (n - 1) (collection_len cs))) (
    may_if (nat_eq c 60) _ _ (some (record { is = tt })) (
    may_if (nat_eq c 62) _ _ (some (record { is = tt })) (
    may_if (nat_eq c 126) _ _ (some (left_out_has n)) (
    may_if (nat_eq c 37) _ _ (some (percent_has first n cs)) nothing)))))))

first_has : {o p : Option Spelled} → MayHave o → MayHave p → MayHave (spelling.first_some o p)
first_has nothing k = k
first_has (some h) k = some h

or_character_has : {o : Option Spelled} (c : ℕ) → MayHave o → Has (spelling.or_character c o)
or_character_has c nothing = record { is = tt }
or_character_has c (some h) = h

or_letter_has : {o : Option Spelled} (c : ℕ) (cs : List ℕ) → MayHave o → Has (spelling.or_letter c cs o)
or_letter_has c cs nothing = letter_has c cs
or_letter_has c cs (some h) = h

magic_has : (first : Bool) (n c : ℕ) (cs : List ℕ) → MayHave (spelling.magic_item first n c cs)
magic_has first n c cs = first_has (plain_atom_has first n c cs) (operator_has n c cs)

bare_has : (first : Bool) (level : Level) (c : ℕ) (cs : List ℕ) → Has (spelling.bare_spelling first level c cs)
bare_has first level c cs =
    has_if (nat_eq c 93) _ _ (record { is = tt }) (
    has_if (spelling.is_bare_item level c) _ _ (or_character_has c (magic_has first 1 c cs)) (record { is = tt }))

escaped_has : (first : Bool) (level : Level) (cs : List ℕ) → Has (spelling.escaped_spelling first level cs)
escaped_has first level [] = record { is = tt }
escaped_has first level (c ∷ cs) = has_if (spelling.is_bare_item level c) _ _ (record { is = tt }) (or_letter_has c cs (magic_has first 2 c cs))

pub spelling_has : (first : Bool) (level : Level) (text : List ℕ) → Has (spelling.spelling first level text)
spelling_has first level [] = record { is = tt }
spelling_has first level (c ∷ cs) = has_if (nat_eq c 92) _ _ (escaped_has first level cs) (bare_has first level c cs)

-- What stands in its place.

abbrev pub KindHas : Kind → Type 0
KindHas (kind.Counted n) = IsOneToNine n
KindHas (kind.External n) = IsOneToNine n
KindHas _ = Unit {0}

abbrev pub SignHas : Sign → Type 0
SignHas (sign.Atom a) = HasNumber a
SignHas (sign.Open k) = KindHas k
SignHas _ = Unit {0}

pub record HasSign (s : Sign) : Type 0 where
  pub is : SignHas s

sign_when : (b : Bool) (s t : Sign) → (b ≡ true → HasSign s) → HasSign t → HasSign (cond b s t)
sign_when true s t h k = h refl
sign_when false s t h k = k

wrong_sign : (n : ℕ) (c : PatternCause) → HasSign (sign.Wrong n c)
wrong_sign n c = record { is = tt }

one_atom : (b : Bool) (a c : Atom) → HasNumber a → HasNumber c → HasSign (sign.Atom (cond b a c))
one_atom true a c h k = record { is = h }
one_atom false a c h k = record { is = k }

opened : (n : ℕ) → nat_lt n 9 ≡ true → IsOneToNine (n + 1)
opened n h = let few : n < 9 = ltb-true n 9 h in record { least = omega arith; most = omega arith }

marked_has : (turned line_end : Bool) (before : ℕ) (ps : List Piece) (o : Option (ℕ × ℕ)) → HasSign (marked_or_set turned line_end before ps o)
marked_has turned line_end before ps None = record { is = tt }
marked_has turned line_end before ps (Some m) = wrong_sign before _

set_has : (turned line_end : Bool) (before : ℕ) (ps : List Piece) (o : Option PatternCause) → HasSign (fault_or_set turned line_end before ps o)
set_has turned line_end before ps None = marked_has turned line_end before ps (first_marked ps)
set_has turned line_end before ps (Some c) = wrong_sign before c

place_has : (x : Surroundings) (text : List ℕ) (len : ℕ) (r : Raw) → RawHas r → HasSign (in_place x text len r)
place_has x text len (raw.Atom a) h = record { is = h }
place_has x text len raw.Caret h = one_atom (is_very x.level || begins x.before) atom.LineStart (atom.Char 94) tt tt
place_has x text len raw.Dollar h = one_atom (is_very x.level || stops 0 x.level (drop len text)) atom.LineStop (atom.Char 36) tt tt
place_has x text len raw.Star h = sign_when (star_is_char x.before) _ _ (λ e. record { is = tt }) (record { is = tt })
place_has x text len (raw.Collection line_end before) h =
    let inner = inner_of (take (len - 1) text) before in
    let ps = pieces (members (body_of inner)) in
    set_has (is_turned inner) line_end before ps (first_fault ps)
place_has x text len raw.LoneBracket h = record { is = tt }
place_has x text len (raw.Multi m) h = record { is = tt }
place_has x text len raw.Group h = sign_when (nat_lt x.groups 9) _ _ (λ e. record { is = opened x.groups e }) (wrong_sign 0 _)
place_has x text len raw.Plain h = record { is = tt }
place_has x text len raw.External h =
    sign_when (is_start x.usage) _ _ (λ u. sign_when (nat_lt x.externals 9) _ _ (λ e. record { is = opened x.externals e }) (wrong_sign 0 _)) (wrong_sign 0 _)
place_has x text len raw.Optional h = record { is = tt }
place_has x text len raw.Close h = record { is = tt }
place_has x text len raw.Square h = record { is = tt }
place_has x text len raw.Bar h = record { is = tt }
place_has x text len raw.Also h = record { is = tt }
place_has x text len (raw.Magic level) h = record { is = tt }
place_has x text len (raw.Case ignore) h = record { is = tt }
place_has x text len raw.Engine h = record { is = tt }
place_has x text len (raw.Reference n) h = sign_when (nat_le n x.groups) _ _ (λ e. record { is = h }) (wrong_sign 0 _)
place_has x text len (raw.ExternalReference n) h = sign_when (is_end x.usage) _ _ (λ e. record { is = h }) (wrong_sign 0 _)
place_has x text len raw.LeftOut h = wrong_sign 0 _
place_has x text len (raw.Wrong c) h = wrong_sign 0 c

abbrev pub AllHave : List Item → Type 0
AllHave [] = Unit {0}
AllHave (i ∷ is) = HasSign i.sign × AllHave is

items_have : (k : ℕ) (x : Surroundings) (at : ℕ) (cs : List ℕ) → AllHave (items_from k x at cs)
items_have zero x at [] = tt
items_have (suc k) x at [] = tt
items_have (suc k) x at (c ∷ cs) = items_have k x (suc at) cs
items_have zero x at (c ∷ cs) = (
  place_has x (c ∷ cs) _ _ ((spelling_has x.first x.level (c ∷ cs)).is),
  items_have ((placed x (c ∷ cs)).len - 1) (placed x (c ∷ cs)).next (suc at) cs,
)

pub text_items_have : (usage : PatternUse) (text : List ℕ) → AllHave (items_of usage text)
text_items_have usage text = items_have 0 (first_surroundings usage) 0 text
