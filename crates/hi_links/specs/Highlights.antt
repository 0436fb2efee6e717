-- Links and styles (Vim's help, :hi-link and :hi-default). What each group has is a list by the groups'
-- numbers; a group behind its end has nothing.
use Rattle.std.specs.Prelude.{◌+◌, ◌-◌, Bool, false, not, ◌&&◌, ◌||◌, List, ◌++◌, length, if◌then◌else◌, replicate, slice_get, slice_set, unwrap_or, is_some}
use Rattle.std.specs.declared.option.Option.{Option}
use Rattle.std.specs.declared.option.Option.TheVariants.{None, Some}
use Rattle.syn_base.specs.declared.places.GroupId.{GroupId}
use Rattle.hi_links.specs.declared.highlight.Highlight.{Highlight}
use Rattle.hi_links.specs.declared.highlight.Style.{Style}

-- no colour, and no kind of letters
abbrev pub plain : Style
plain = record { front = None; back = None; bold = false; italic = false; underline = false }

-- what a group has of which nothing was said
abbrev pub nothing : Highlight
nothing = record { link = None; style = plain; unlinked = false }

-- a group has a style while a colour isn't empty or it is bold, italic or underlined
abbrev pub has_style : Style → Bool
has_style style = is_some style.front || is_some style.back || style.bold || style.italic || style.underline

-- a command with `default` does nothing to a group that has a style or a link, or had a link taken away
abbrev pub is_set : Highlight → Bool
is_set highlight = has_style highlight.style || is_some highlight.link || highlight.unlinked

-- what a group has
abbrev pub highlight_of : List Highlight → GroupId → Highlight
highlight_of links g = unwrap_or (slice_get links g.0) nothing

-- the list in which a group has this
abbrev pub with_highlight : List Highlight → GroupId → Highlight → List Highlight
with_highlight links g highlight = slice_set (links ++ replicate (g.0 + 1 - length links) nothing) g.0 highlight

-- a link command does nothing, with `default`, to a group that is set, and without `!` to one that has a style
abbrev pub is_kept : Highlight → Bool → Bool → Bool
is_kept highlight only_if_unset force = (only_if_unset && is_set highlight) || (has_style highlight.style && not force)

-- a link stands in place of the one before; `NONE` takes it away
abbrev pub linked_highlight : Highlight → Option GroupId → Highlight
linked_highlight highlight (Some to) = record highlight { link = Some to }
linked_highlight highlight None = record highlight { link = None; unlinked = highlight.unlinked || is_some highlight.link }

-- what a link command makes of the list
abbrev pub linked : List Highlight → GroupId → Option GroupId → Bool → Bool → List Highlight
linked links from to only_if_unset force =
    if is_kept (highlight_of links from) only_if_unset force then links
    else with_highlight links from (linked_highlight (highlight_of links from) to)

-- a style takes the link away
abbrev pub styled_highlight : Highlight → Style → Highlight
styled_highlight highlight style =
    record { link = None; style = style; unlinked = highlight.unlinked || is_some highlight.link }

-- what a style command makes of the list; with `default` it does nothing to a group that is set
abbrev pub styled : List Highlight → GroupId → Style → Bool → List Highlight
styled links group style only_if_unset =
    if only_if_unset && is_set (highlight_of links group) then links
    else with_highlight links group (styled_highlight (highlight_of links group) style)
