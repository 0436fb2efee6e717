-- The page of a painted text, byte by byte (Vim's help, :TOhtml). Each line of the page ends with a line
-- feed.
use Rattle.std.specs.Prelude.{ℕ, ◌+◌, ◌-◌, ◌/◌, ◌%◌, ◌==◌, ◌&&◌, Bool, not, List, [], ◌∷◌, ◌++◌, length, if◌then◌else◌, nat_lt, codes, decimal, encode_utf8, fold, map, replicate, drop, slice_range}
use Rattle.std.specs.declared.option.Option.{Option}
use Rattle.std.specs.declared.option.Option.TheVariants.{None, Some}
use Rattle.std.specs.List.{flat_map, list_any}
use Rattle.text_scan.specs.Characters.{is_blank, space}
use Rattle.syn_base.specs.declared.places.GroupId.{GroupId}
use Rattle.syn_base.specs.declared.places.Span.{Span}
use Rattle.syntax_set.specs.Groups.{name_of}
use Rattle.hi_links.specs.declared.highlight.Highlight.{Highlight}
use Rattle.hi_links.specs.declared.highlight.Style.{Style}
use Rattle.hi_links.specs.Highlights.{has_style, highlight_of}
use Rattle.hi_links.specs.FinalGroup.{final_group}
use Rattle.html_writer.specs.declared.PageOptions.{PageOptions}

abbrev pub ampersand : ℕ
ampersand = 38

abbrev pub less_than : ℕ
less_than = 60

abbrev pub greater_than : ℕ
greater_than = 62

abbrev pub double_quote : ℕ
double_quote = 34

abbrev pub number_sign : ℕ
number_sign = 35

abbrev pub full_stop : ℕ
full_stop = 46

abbrev pub backslash : ℕ
backslash = 92

abbrev pub digit_zero : ℕ
digit_zero = 48

abbrev pub small_a : ℕ
small_a = 97

-- a character that means something in a page, as an entity, and any other as it is written
abbrev pub entity : ℕ → List ℕ → List ℕ
entity c written =
    if c == ampersand then codes "&amp;"
    else if c == less_than then codes "&lt;"
    else if c == greater_than then codes "&gt;"
    else if c == double_quote then codes "&quot;"
    else written

abbrev pub entity_of_byte : ℕ → List ℕ
entity_of_byte byte = entity byte (byte ∷ [])

-- a title; what is not ASCII has no entities
abbrev pub title_text : List ℕ → List ℕ
title_text title = flat_map entity_of_byte title

-- a character of a line; without `pre` spaces and tabs keep their room
abbrev pub character_text : Bool → ℕ → List ℕ
character_text pre c = if not pre && is_blank c then codes "&nbsp;" else entity c (encode_utf8 c)

abbrev pub line_text : Bool → List ℕ → List ℕ
line_text pre line = flat_map (character_text pre) line

-- a digit in base 16, in small letters
abbrev pub hex_digit : ℕ → ℕ
hex_digit digit = if nat_lt digit 10 then digit_zero + digit else small_a + (digit - 10)

-- a colour 0xRRGGBB
abbrev pub colour_text : ℕ → List ℕ
colour_text colour =
    number_sign
    ∷ hex_digit (colour / 0x100000 % 16) ∷ hex_digit (colour / 0x10000 % 16) ∷ hex_digit (colour / 0x1000 % 16)
    ∷ hex_digit (colour / 0x100 % 16) ∷ hex_digit (colour / 0x10 % 16) ∷ hex_digit (colour % 16) ∷ []

abbrev pub colour_part : List ℕ → Option ℕ → List ℕ
colour_part key None = []
colour_part key (Some colour) = key ++ colour_text colour ++ codes "; "

abbrev pub part_if : Bool → List ℕ → List ℕ
part_if applies part = if applies then part else []

-- the parts of a style, each where it applies
abbrev pub style_text : Style → List ℕ
style_text style =
    colour_part (codes "color: ") style.front
    ++ colour_part (codes "background-color: ") style.back
    ++ part_if style.bold (codes "font-weight: bold; ")
    ++ part_if style.italic (codes "font-style: italic; ")
    ++ part_if style.underline (codes "text-decoration: underline; ")

-- a class name in a style line has a backslash before each dot
abbrev pub selector_byte : ℕ → List ℕ
selector_byte byte = if byte == full_stop then backslash ∷ full_stop ∷ [] else byte ∷ []

abbrev pub selector_text : List ℕ → List ℕ
selector_text name = flat_map selector_byte name

-- the style line of a final group, if it has a style
abbrev pub style_line : List (List ℕ) → List Highlight → GroupId → List ℕ
style_line names links g =
    part_if (has_style (highlight_of links g).style)
    (codes "." ++ selector_text (name_of names g) ++ codes " { " ++ style_text (highlight_of links g).style ++ codes "}\n")

-- groups that were used, and one more
abbrev pub with_used : List GroupId → GroupId → List GroupId
with_used used g = if list_any (λ (other : GroupId). g.0 == other.0) used then used else used ++ g ∷ []

-- the final groups of spans
abbrev pub final_groups : List Highlight → List Span → List GroupId
final_groups links spans = map (λ (span : Span). final_group links span.group) spans

-- the final groups that spans of lines show, in order of first use, each once
abbrev pub shown_groups : List Highlight → List (List Span) → List GroupId
shown_groups links painting = fold with_used [] (flat_map (final_groups links) painting)

-- one span of a line, in the class of its final group
abbrev pub span_text : List (List ℕ) → List Highlight → Bool → List ℕ → Span → List ℕ
span_text names links pre line span =
    codes "<span class=\"" ++ name_of names (final_group links span.group) ++ codes "\">"
    ++ line_text pre (slice_range line span.first (span.last + 1)) ++ codes "</span>"

-- a line from this column on: its spans, and the text between them
abbrev pub spanned_text : List (List ℕ) → List Highlight → Bool → List ℕ → ℕ → List Span → List ℕ
spanned_text names links pre line column [] = line_text pre (drop column line)
spanned_text names links pre line column (span ∷ spans) =
    line_text pre (slice_range line column span.first) ++ span_text names links pre line span
    ++ spanned_text names links pre line (span.last + 1) spans

-- a line's number, right in this width, and a space
abbrev pub number_text : Bool → ℕ → ℕ → List ℕ
number_text pre width number =
    codes "<span class=\"LineNr\">"
    ++ line_text pre (replicate (width - length (decimal number)) space ++ decimal number ++ codes " ")
    ++ codes "</span>"

-- how a line ends
abbrev pub line_end : Bool → List ℕ
line_end pre = part_if (not pre) (codes "<br>") ++ codes "\n"

-- a line of this number with its spans
abbrev pub numbered_text : List (List ℕ) → List Highlight → PageOptions → ℕ → ℕ → List ℕ → List Span → List ℕ
numbered_text names links options width number line spans =
    part_if options.number (number_text options.pre width number)
    ++ spanned_text names links options.pre line 0 spans
    ++ line_end options.pre

-- the lines of a text, the first of which has this number, from 1; numbers have the width of the greatest one
abbrev pub lines_text : List (List ℕ) → List Highlight → PageOptions → ℕ → ℕ → List (List ℕ) → List (List Span) → List ℕ
lines_text names links options width number [] painting = []
lines_text names links options width number (line ∷ lines) [] = []
lines_text names links options width number (line ∷ lines) (spans ∷ painting) =
    numbered_text names links options width number line spans
    ++ lines_text names links options width (number + 1) lines painting

-- the page up to the style line of its body
abbrev pub start_text : List ℕ → List ℕ
start_text title =
    codes "<!DOCTYPE html>\n<html>\n<head>\n<meta charset=\"UTF-8\">\n<title>" ++ title_text title
    ++ codes "</title>\n<style>\nbody { color: #000000; background-color: #ffffff; }\n"

-- the page up to the style lines of groups
abbrev pub head_text : List ℕ → Bool → List ℕ
head_text title number = start_text title ++ part_if number (codes ".LineNr { color: #a52a2a; }\n")

-- the element in which the lines of the text stand
abbrev pub element : Bool → List ℕ
element pre = if pre then codes "pre" else codes "div"

-- what stands between the style lines and the lines of the text
abbrev pub body_start : Bool → List ℕ
body_start pre = codes "</style>\n</head>\n<body>\n<" ++ element pre ++ codes ">\n"

-- what stands behind the lines of the text
abbrev pub body_end : Bool → List ℕ
body_end pre = codes "</" ++ element pre ++ codes ">\n</body>\n</html>\n"

-- the page
abbrev pub page_text : List ℕ → List (List ℕ) → List (List Span) → List (List ℕ) → List Highlight → PageOptions → List ℕ
page_text title lines painting names links options =
    head_text title options.number
    ++ flat_map (style_line names links) (shown_groups links painting)
    ++ body_start options.pre
    ++ lines_text names links options (length (decimal (length lines))) 1 lines painting
    ++ body_end options.pre
