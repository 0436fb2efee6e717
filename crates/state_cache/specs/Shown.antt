-- What the lines of a text show by name, painted by a syntax.
use Rattle.std.specs.Prelude.{List, map}
use Rattle.syn_base.specs.declared.places.Span.{Span}
use Rattle.syntax_set.specs.Groups.{name_of}
use Rattle.hi_links.specs.FinalGroup.{final_group}
use Rattle.syn_reader.specs.declared.syntax.Syntax.{Syntax}
pub use Rattle.command_print.specs.Shown.{AreLinesShownOtherwise, Shown, lines_shown_otherwise, same_shown, show_same, shows_otherwise}

abbrev pub shown_by : Syntax → Span → Shown
shown_by syntax span = record {
  first = span.first;
  last = span.last;
  name = name_of syntax.groups span.group;
  final_name = name_of syntax.groups (final_group syntax.links span.group);
}

-- what the spans of a line show
abbrev pub line_shown : Syntax → List Span → List Shown
line_shown syntax spans = map (shown_by syntax) spans

-- what the lines of a text show, which a syntax gave these spans
abbrev pub text_shown : Syntax → List (List Span) → List (List Shown)
text_shown syntax painting = map (line_shown syntax) painting
