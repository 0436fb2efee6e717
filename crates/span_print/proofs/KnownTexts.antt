-- Texts as they are printed.
use Rattle.std.proofs.Common.{◌≡◌, ℕ, List, [], ◌∷◌, ◌++◌, Some, true, false, refl}
use Rattle.std.specs.Prelude.{codes, decimal}
use Rattle.syn_base.specs.declared.places.Span.{Span}
use Rattle.syntax_set.specs.Groups.{group_numbered}
use Rattle.hi_links.specs.Highlights.{linked}
use Rattle.hi_links.specs.FinalGroup.{final_group, followed}
use Rattle.span_print.specs.SpanText.{line_text}

names : List (List ℕ)
names = codes "String" ∷ codes "Constant" ∷ []

string : Span
string = record { first = 0; last = 0; group = group_numbered 0 }

-- the final group of String is Constant
linked_span : line_text names (linked [] (group_numbered 0) (Some (group_numbered 1)) false false) 0 (string ∷ []) false
    ≡ (decimal 1 ++ codes ":" ++ decimal 1 ++ codes "-" ++ decimal 1
    ++ codes " " ++ codes "String" ++ codes " " ++ codes "Constant" ++ codes "\n") ++ []
unfolding names string final_group followed
linked_span = refl

dashed : line_text names [] 1 [] true ≡ decimal 2 ++ codes ":-\n"
dashed = refl

bare : line_text names [] 1 [] false ≡ []
bare = refl
