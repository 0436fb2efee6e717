-- The items of a text, each in its place: what stands before and behind an item says whether a
-- star, a caret and a dollar
-- are characters, how a group is numbered, and whether a reference or an external may stand here.
use Rattle.std.specs.Prelude.{ℕ, zero, suc, ◌+◌, ◌-◌, nat_lt, nat_le, ◌||◌, List, [], ◌∷◌, Option, Some, None, Bool, true, false, if◌then◌else◌, drop, take}
use Rattle.pattern_items.specs.declared.item.Level.{Level}
use Rattle.pattern_items.specs.declared.item.Level.TheVariants.{VeryNo, No, Usual, Very}
use Rattle.pattern_items.specs.declared.item.PatternUse.{PatternUse}
use Rattle.pattern_items.specs.declared.item.PatternUse.TheVariants.{Match, Start, SkipOrEnd, Names}
use Rattle.pattern_items.specs.declared.cause.PatternCause.{PatternCause}
use Rattle.pattern_items.specs.declared.cause.PatternCause.TheVariants as cause
use Rattle.pattern_items.specs.declared.atom.Atom.{Atom}
use Rattle.pattern_items.specs.declared.atom.Atom.TheVariants as atom
use Rattle.pattern_items.specs.declared.item.Kind.{Kind}
use Rattle.pattern_items.specs.declared.item.Kind.TheVariants as kind
use Rattle.pattern_items.specs.declared.item.Sign.{Sign}
use Rattle.pattern_items.specs.declared.item.Sign.TheVariants as sign
use Rattle.pattern_items.specs.declared.item.Raw.{Raw}
use Rattle.pattern_items.specs.declared.item.Raw.TheVariants as raw
use Rattle.pattern_items.specs.declared.item.Before.{Before}
use Rattle.pattern_items.specs.declared.item.Before.TheVariants.{Begin, LineStart, LineEnd, Within}
use Rattle.pattern_items.specs.declared.item.Surroundings.{Surroundings}
use Rattle.pattern_items.specs.declared.item.Placed.{Placed}
use Rattle.pattern_items.specs.Spelling.{spelling}
use Rattle.pattern_items.specs.Collection.{collection_sign}
use Rattle.pattern_items.specs.Multis.{count}
use Rattle.pattern_items.specs.Characters.{char}

abbrev pub is_very : Level → Bool
is_very VeryNo = false
is_very No = false
is_very Usual = false
is_very Very = true

-- The line stop is special at `\v`, and else at the end and before a bar, an ampersand, a closing
-- item and a line end.

abbrev pub is_line_end : Atom → Bool
is_line_end atom.LineEnd = true
is_line_end _ = false

abbrev pub is_stop : Raw → Bool
is_stop raw.Bar = true
is_stop raw.Close = true
is_stop raw.Also = true
is_stop (raw.Atom a) = is_line_end a
is_stop _ = false

-- the level behind an item that takes no room
abbrev pub level_past : Level → Raw → Option Level
level_past level (raw.Magic next) = Some next
level_past level (raw.Case ignore) = Some level
level_past level raw.Engine = Some level
level_past level _ = None

-- What comes next, past items that take no room, is the end or such an item. The number is how many
-- characters are passed over first.
abbrev pub stops : ℕ → Level → List ℕ → Bool
stops k level [] = true
stops (suc k) level (c ∷ cs) = stops k level cs
stops zero level (c ∷ cs) =
    let s = spelling false level (c ∷ cs) in
    elim (level_past level s.raw) [ None ↦ is_stop s.raw | Some next ↦ stops (s.len - 1) next cs ]

abbrev pub dollar : Surroundings → List ℕ → Sign
dollar x rest =
    sign.Atom (if is_very x.level || stops 0 x.level rest then atom.LineStop else atom.Char (char "$"))

-- The line start is special at `\v`, and else where a pattern, a group, a branch or a concat begins
-- and behind a line end.
abbrev pub begins : Before → Bool
begins Begin = true
begins LineStart = false
begins LineEnd = true
begins Within = false

abbrev pub caret : Surroundings → Sign
caret x =
    sign.Atom (if is_very x.level || begins x.before then atom.LineStart else atom.Char (char "^"))

-- The star is a character where a pattern, a group, a branch or a concat begins and behind a
-- special line start.
abbrev pub star_is_char : Before → Bool
star_is_char Begin = true
star_is_char LineStart = true
star_is_char LineEnd = false
star_is_char Within = false

abbrev pub star : Surroundings → Sign
star x =
    if star_is_char x.before then sign.Atom (atom.Char (char "*"))
    else sign.Multi (count 0 None false)

abbrev pub wrong : PatternCause → Sign
wrong c = sign.Wrong 0 c

-- groups are numbered as they open, nine at most
abbrev pub group : Surroundings → Sign
group x =
    if nat_lt x.groups 9 then sign.Open (kind.Counted (x.groups + 1))
    else wrong cause.TooManyGroups

abbrev pub is_start : PatternUse → Bool
is_start Match = false
is_start Start = true
is_start SkipOrEnd = false
is_start Names = false

abbrev pub is_end : PatternUse → Bool
is_end Match = false
is_end Start = false
is_end SkipOrEnd = true
is_end Names = false

abbrev pub external : Surroundings → Sign
external x =
    if is_start x.usage then (
    if nat_lt x.externals 9 then sign.Open (kind.External (x.externals + 1))
    else wrong cause.TooManyGroups)
    else wrong cause.ExternalHere

-- a group is there for a reference as soon as it has opened
abbrev pub reference : Surroundings → ℕ → Sign
reference x n = if nat_le n x.groups then sign.Atom (atom.Ref n) else wrong cause.BadReference

abbrev pub external_reference : Surroundings → ℕ → Sign
external_reference x n =
    if is_end x.usage then sign.Atom (atom.ExternalRef n)
    else wrong cause.ExternalHere

-- what is behind a bracket that has so many characters before it
abbrev pub inner_of : List ℕ → ℕ → List ℕ
inner_of text before = drop (before + 1) text

-- the item that is spelled by the first `len` characters of a text
abbrev pub in_place : Surroundings → List ℕ → ℕ → Raw → Sign
in_place x text len (raw.Atom a) = sign.Atom a
in_place x text len raw.Caret = caret x
in_place x text len raw.Dollar = dollar x (drop len text)
in_place x text len raw.Star = star x
in_place x text len (raw.Collection line_end before) =
    collection_sign line_end before (inner_of (take (len - 1) text) before)
in_place x text len raw.LoneBracket = sign.Atom (atom.Char (char "["))
in_place x text len (raw.Multi m) = sign.Multi m
in_place x text len raw.Group = group x
in_place x text len raw.Plain = sign.Open kind.Plain
in_place x text len raw.External = external x
in_place x text len raw.Optional = sign.Open kind.Optional
in_place x text len raw.Close = sign.Close
in_place x text len raw.Square = sign.Square
in_place x text len raw.Bar = sign.Bar
in_place x text len raw.Also = sign.Also
in_place x text len (raw.Magic level) = sign.Quiet None
in_place x text len (raw.Case ignore) = sign.Quiet (Some ignore)
in_place x text len raw.Engine = sign.Quiet None
in_place x text len (raw.Reference n) = reference x n
in_place x text len (raw.ExternalReference n) = external_reference x n
in_place x text len raw.LeftOut = wrong (cause.LeftOut (take len text))
in_place x text len (raw.Wrong c) = wrong c

-- What an item leaves.

abbrev pub after_atom : Atom → Before
after_atom atom.LineStart = LineStart
after_atom atom.LineEnd = LineEnd
after_atom _ = Within

abbrev pub after_kind : Kind → Before
after_kind (kind.Counted n) = Begin
after_kind kind.Plain = Begin
after_kind (kind.External n) = Begin
after_kind kind.Optional = Within

abbrev pub before_next : Before → Sign → Before
before_next b (sign.Atom a) = after_atom a
before_next b (sign.Open k) = after_kind k
before_next b sign.Bar = Begin
before_next b sign.Also = Begin
before_next b (sign.Quiet ignore) = b
before_next b _ = Within

-- a level holds for the rest of the pattern
abbrev pub level_next : Level → Raw → Level
level_next level (raw.Magic next) = next
level_next level _ = level

abbrev pub groups_next : ℕ → Sign → ℕ
groups_next n (sign.Open k) = elim k [ kind.Counted m ↦ m | _ ↦ n ]
groups_next n _ = n

abbrev pub externals_next : ℕ → Sign → ℕ
externals_next n (sign.Open k) = elim k [ kind.External m ↦ m | _ ↦ n ]
externals_next n _ = n

abbrev pub surroundings_next : Surroundings → Level → Sign → Surroundings
surroundings_next x level s = record {
  usage = x.usage;
  level = level;
  before = before_next x.before s;
  groups = groups_next x.groups s;
  externals = externals_next x.externals s;
  first = false;
}

-- the item at the front of a text
abbrev pub sign_at : Surroundings → List ℕ → Sign
sign_at x text =
    in_place x text (spelling x.first x.level text).len (spelling x.first x.level text).raw

abbrev pub placed : Surroundings → List ℕ → Placed
placed x text = record {
  sign = sign_at x text;
  len = (spelling x.first x.level text).len;
  next =
      surroundings_next x (level_next x.level (spelling x.first x.level text).raw) (sign_at x text);
}

-- an item, with the place of its first character, from 0
pub record Item : Type 0 where
  pub at : ℕ
  pub sign : Sign

abbrev pub item : ℕ → Sign → Item
item at s = record { at = at; sign = s }

-- The items from here on. The number is how many characters are passed over first.
abbrev pub items_from : ℕ → Surroundings → ℕ → List ℕ → List Item
items_from k x at [] = []
items_from (suc k) x at (c ∷ cs) = items_from k x (suc at) cs
items_from zero x at (c ∷ cs) =
    item at (placed x (c ∷ cs)).sign
    ∷ items_from ((placed x (c ∷ cs)).len - 1) (placed x (c ∷ cs)).next (suc at) cs

abbrev pub first_surroundings : PatternUse → Surroundings
first_surroundings usage =
    record { usage = usage; level = Usual; before = Begin; groups = 0; externals = 0; first = true }

-- the items of a pattern
abbrev pub items_of : PatternUse → List ℕ → List Item
items_of usage text = items_from 0 (first_surroundings usage) 0 text

abbrev pub is_counted : Sign → Bool
is_counted (sign.Open k) = elim k [ kind.Counted m ↦ true | _ ↦ false ]
is_counted _ = false

abbrev pub is_external : Sign → Bool
is_external (sign.Open k) = elim k [ kind.External m ↦ true | _ ↦ false ]
is_external _ = false
