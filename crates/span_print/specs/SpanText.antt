-- How spans are printed. Lines and columns count from 1 there.
use Rattle.std.specs.Prelude.{ℕ, ◌+◌, Bool, true, List, [], ◌++◌, codes, decimal}
use Rattle.std.specs.List.{flat_map}
use Rattle.syn_base.specs.declared.places.Span.{Span}
use Rattle.syntax_set.specs.Groups.{name_of}
use Rattle.hi_links.specs.declared.highlight.Highlight.{Highlight}
use Rattle.hi_links.specs.FinalGroup.{final_group}

-- one span of the line of this number: its columns, its group and its final group
abbrev pub span_text : List (List ℕ) → List Highlight → ℕ → Span → List ℕ
span_text names links number span =
    decimal (number + 1) ++ codes ":" ++ decimal (span.first + 1) ++ codes "-" ++ decimal (span.last + 1)
    ++ codes " " ++ name_of names span.group ++ codes " " ++ name_of names (final_group links span.group) ++ codes "\n"

-- the spans of the line of this number
abbrev pub spans_text : List (List ℕ) → List Highlight → ℕ → List Span → List ℕ
spans_text names links number spans = flat_map (span_text names links number) spans

-- the line of this number; with a dash, a line without spans is told too
abbrev pub line_text : List (List ℕ) → List Highlight → ℕ → List Span → Bool → List ℕ
line_text names links number [] true = decimal (number + 1) ++ codes ":-\n"
line_text names links number spans dash = spans_text names links number spans
