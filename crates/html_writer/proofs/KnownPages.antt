-- A page as it is written.
use Rattle.std.proofs.Common.{◌≡◌, ℕ, ◌-◌, List, [], ◌∷◌, ◌++◌, length, Some, true, false, refl, ap, arith}
use Rattle.std.specs.Prelude.{codes, decimal, replicate}
use Rattle.std.proofs.lemmas.Fmt.{decimal_digit}
use Rattle.syn_base.specs.declared.places.Span.{Span}
use Rattle.syntax_set.specs.Groups.{group_numbered}
use Rattle.hi_links.specs.declared.highlight.Highlight.{Highlight}
use Rattle.hi_links.specs.Highlights.{linked, plain, styled}
use Rattle.hi_links.specs.FinalGroup.{final_group, followed}
use Rattle.html_writer.specs.Page.{body_end, body_start, head_text, line_end, line_text, number_text, page_text, selector_text, spanned_text}

-- myAll is linked to Special
names : List (List ℕ)
names = codes "Special" ∷ codes "myAll" ∷ []

links : List Highlight
links = linked (styled [] (group_numbered 0) (record plain { front = Some 0x6a5acd }) false) (group_numbered 1) (Some (group_numbered 0)) true false

shown : Span
shown = record { first = 0; last = 6; group = group_numbered 1 }

one_span : page_text (codes "t") (codes "<a&\"b\">" ∷ []) ((shown ∷ []) ∷ []) names links (record { number = false; pre = true })
    ≡ codes "<!DOCTYPE html>\n<html>\n<head>\n<meta charset=\"UTF-8\">\n<title>t</title>\n<style>\nbody { color: #000000; background-color: #ffffff; }\n.Special { color: #6a5acd; }\n</style>\n</head>\n<body>\n<pre>\n<span class=\"Special\">&lt;a&amp;&quot;b&quot;&gt;</span>\n</pre>\n</body>\n</html>\n"
unfolding names links shown final_group followed lib.Utf8.encode
one_span = refl

-- the number of a text's only line
first_number : number_text false (length (decimal 1)) 1 ≡ codes "<span class=\"LineNr\">1&nbsp;</span>"
unfolding lib.Utf8.encode
first_number =
    ap (λ digits. codes "<span class=\"LineNr\">" ++ line_text false (replicate (length digits - length digits) 32 ++ digits ++ codes " ") ++ codes "</span>")
    (decimal_digit 1 (omega arith))

-- numbers, without `pre`
numbered : page_text (codes "t") (codes "a b" ∷ []) ([] ∷ []) names links (record { number = true; pre = false })
    ≡ codes "<!DOCTYPE html>\n<html>\n<head>\n<meta charset=\"UTF-8\">\n<title>t</title>\n<style>\nbody { color: #000000; background-color: #ffffff; }\n.LineNr { color: #a52a2a; }\n</style>\n</head>\n<body>\n<div>\n<span class=\"LineNr\">1&nbsp;</span>a&nbsp;b<br>\n</div>\n</body>\n</html>\n"
unfolding names links lib.Utf8.encode
numbered =
    ap (λ number. head_text (codes "t") true ++ [] ++ body_start false
    ++ (number ++ spanned_text names links false (codes "a b") 0 [] ++ line_end false ++ []) ++ body_end false)
    first_number

dotted : selector_text (codes "my.Group") ≡ codes "my\\.Group"
dotted = refl
