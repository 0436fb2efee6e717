-- Links and styles (Vim's help, :hi-link and :highlight-args).
use Rattle.std.specs.Prelude.{ℕ, Bool, List, fold, Option, Some, None, Result, Ok}
use Rattle.syn_base.specs.declared.places.GroupId.{GroupId}
use Rattle.hi_links.specs.declared.highlight.Highlight.{Highlight}
use Rattle.hi_links.specs.declared.highlight.Style.{Style}
use Rattle.hi_links.specs.Highlights.{highlight_of, linked, styled}
use Rattle.syn_words.specs.declared.cause.Cause.{Cause}
use Rattle.syn_words.specs.declared.what.StylePart.{StylePart}
use Rattle.syn_words.specs.declared.what.StylePart.TheVariants.{Front, Back, Shape}
use Rattle.syn_reader.specs.declared.names.Names.{Names}
use Rattle.syn_reader.specs.declared.reading.Reading.{Reading}
use Rattle.syn_reader.specs.Answers.{◌>>=◌}
use Rattle.syn_reader.specs.Names.{Made, group_made}

-- the group that a link leads to is named, unless it is `NONE`
abbrev pub target_made : Names → Option (List ℕ) → Made (Option GroupId)
target_made known None = Ok (None, known)
target_made known (Some name) = group_made known name >>= λ made. Ok (Some made.0, made.1)

abbrev pub with_links : Reading → Names → List Highlight → Reading
with_links reading known links = record reading { names = known; links = links }

abbrev pub link_command : Reading → List ℕ → Option (List ℕ) → Bool → Bool → Result Reading Cause
link_command reading from to unset force = do
  group ← group_made reading.names from
  target ← target_made group.1 to
  Ok (with_links reading target.1 (linked reading.links group.0 target.0 unset force))

-- a key changes its part of a style, and the other parts stay
abbrev pub with_part : Style → StylePart → Style
with_part style (Front colour) = record style { front = colour }
with_part style (Back colour) = record style { back = colour }
with_part style (Shape bold italic underline) = record style { bold = bold; italic = italic; underline = underline }

abbrev pub with_parts : Style → List StylePart → Style
with_parts style parts = fold with_part style parts

abbrev pub style_command : Reading → List ℕ → List StylePart → Bool → Result Reading Cause
style_command reading name parts unset = do
  group ← group_made reading.names name
  Ok (with_links reading group.1 (styled reading.links group.0 (with_parts (highlight_of reading.links group.0).style parts) unset))
