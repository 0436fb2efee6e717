-- The end of a region in a line (Vim's help, :syn-pattern, skip and end).
use Rattle.std.specs.Prelude.{ℕ, suc, pos, ◌-◌, Bool, true, false, nat_lt, List, [], ◌∷◌, Option, Some, None, length, reverse}
use Rattle.std.specs.Option.{option_map}
use Rattle.syn_base.specs.declared.places.Place.{Place}
use Rattle.syn_base.specs.Looked.{one_line}
use Rattle.match_rules.specs.Ways.{Text, is_after}
use Rattle.match_rules.specs.Ways.{line_at}
use Rattle.paint_rules.specs.declared.RegionEnd.{RegionEnd}
use Rattle.syn_base.specs.declared.places.ItemId.{ItemId}
use Rattle.syntax_set.specs.declared.item.ItemKind.{ItemKind}
use Rattle.syntax_set.specs.declared.item.ItemKind.TheVariants.{Keyword, Match, Region}
use Rattle.syntax_set.specs.declared.item.Pattern.{Pattern}
use Rattle.paint_rules.specs.declared.Which.TheVariants.{Me, He, Re}
use Rattle.paint_rules.specs.Painted.{Painted, done, looks_at, ◌>>=◌, first_found}
use Rattle.paint_rules.specs.Rules.{Rules, Here, Matched, Cause, item_of, attempted, place_at}
use Rattle.paint_rules.specs.Offsets.{offset_place, later_place, earlier_place}
use Rattle.paint_rules.specs.ItemMatch.{columns_from, looks_at_end}

-- a region's search: its item, the externals of its start, and the place where it began
pub record Search : Type 0 where
  pub rules : Rules
  pub text : Text
  pub item : ItemId
  pub externals : List (List ℕ)
  pub from : Place

-- a search asks for neither keywords nor clusters
abbrev pub for_ends : Rules → Rules
for_ends r = record r { lists = []; keywords = [] }

abbrev pub search_from : Here → ItemId → List (List ℕ) → Place → Search
search_from h i externals from = record { rules = for_ends h.rules; text = h.text; item = i; externals = externals; from = from }

abbrev pub skip_of : ItemKind → Option Pattern
skip_of Keyword = None
skip_of (Match p) = None
skip_of (Region starts skip ends) = skip

abbrev pub ends_of : ItemKind → List Pattern
ends_of Keyword = []
ends_of (Match p) = []
ends_of (Region starts skip ends) = ends

-- a pattern that begins at a column
abbrev pub tried_from : Search → Pattern → ℕ → Painted Cause (Option Matched)
tried_from s pattern c = do
  m ← attempted s.rules s.text s.item s.externals pattern (place_at s.from.line c)
  looks_at_end m

-- a skip or end pattern at a column: with `lc` it begins so many columns before, or not at all
abbrev pub tried_at : Search → Pattern → ℕ → Painted Cause (Option Matched)
tried_at s pattern c = elim (nat_lt c pattern.lc) [ true ↦ done None | false ↦ tried_from s pattern (c - pattern.lc) ]

-- the end that a match of an end pattern makes
abbrev pub end_made : Search → Pattern → Matched → RegionEnd
end_made s pattern m =
    let e = later_place (offset_place s.text m pattern Me) s.from in
    let high = earlier_place (offset_place s.text m pattern He) e in
    elim pattern.matchgroup [
      | None ↦ record { end = e; high_to = high; area_end = None; area_high = None; area_shows = None }
      | Some g ↦ (let begin = earlier_place (later_place (offset_place s.text m pattern Re) s.from) e in
          record { end = begin; high_to = begin; area_end = Some e; area_high = Some high; area_shows = Some g })
    ]

-- the end by one end pattern at a column
abbrev pub end_at : Search → ℕ → Pattern → Painted Cause (Option RegionEnd)
end_at s c pattern = do
  m ← tried_at s pattern c
  done (option_map (end_made s pattern) m)

-- what a skip says at a column: no end in this line, or go on at a column, or nothing
pub data Skip : Type 0 where
  NoSkip : Skip
  SkipTo : (col : ℕ) → Skip
  SkipLine : Skip

-- a skip that takes something ends before the line's end, or no end is in this line
abbrev pub skip_past : Search → Place → Skip
skip_past s me =
    elim (is_after (place_at s.from.line (length (line_at s.text s.from.line))) me) [
      | true ↦ SkipTo me.col
      | false ↦ SkipLine
    ]

abbrev pub skip_to : Search → ℕ → Place → Skip
skip_to s c me =
    elim (is_after me (place_at s.from.line c)) [ true ↦ skip_past s me | false ↦ SkipTo (suc c) ]

abbrev pub skip_at : Search → Option Pattern → ℕ → Painted Cause Skip
skip_at s None c = done NoSkip
skip_at s (Some pattern) c = do
  m ← tried_at s pattern c
  elim m [ None ↦ done NoSkip | Some m ↦ done (skip_to s c (offset_place s.text m pattern Me)) ]

-- the end at one of these columns; those before `on` are passed over
abbrev pub end_from : Search → ItemKind → List ℕ → ℕ → Painted Cause (Option RegionEnd)
end_from s kind [] on = done None
end_from s kind (c ∷ cs) on = elim (nat_lt c on) [
  | true ↦ end_from s kind cs on
  | false ↦ do
    skip ← skip_at s (skip_of kind) c
    elim skip [
      | SkipTo next ↦ end_from s kind cs next
      | SkipLine ↦ done None
      | NoSkip ↦ do
        found ← first_found (end_at s c) (reverse (ends_of kind))
        elim found [ None ↦ end_from s kind cs (suc c) | Some e ↦ done (Some e) ]
    ]
]

-- the end of a region in the line of a place; an absent line has none
abbrev pub end_in_present : Search → Bool → Painted Cause (Option RegionEnd)
end_in_present s false = done None
end_in_present s true =
    end_from s (item_of s.rules.items s.item).kind (columns_from s.from.col (length (line_at s.text s.from.line))) s.from.col

abbrev pub end_in_line : Search → Painted Cause (Option RegionEnd)
end_in_line s = do
  _ ← looks_at (one_line (pos s.from.line))
  end_in_present s (nat_lt s.from.line (length s.text))
