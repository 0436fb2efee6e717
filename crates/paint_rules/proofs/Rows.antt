-- Worked rows: what small syntaxes show in small texts, computed from the rules.
use Rattle.std.specs.Prelude.{◌≡◌, Bool, true, false, List, [], ◌∷◌, Some, None, codes, pos, negsuc, refl}
use Rattle.char_class.specs.CharSet.{set_has, is_member}
use Rattle.char_class.specs.Folds.{is_same, range_holds}
use Rattle.syn_base.specs.declared.class.Class.TheVariants.{Digit, Word}
use Rattle.pattern_items.specs.declared.atom.Atom.TheVariants.{Char, Any, Is, LineEnd, LineStart, LineStop, MatchStart, ExternalRef}
use Rattle.vim_pattern.specs.Shape.{one, seq, external}
use Rattle.keyword_table.specs.Candidates.{candidates}
use Rattle.keyword_table.specs.Words.{word_end}
use Rattle.syntax_set.specs.Membership.{cluster_has}
use Rattle.syntax_set.specs.declared.item.Entry.TheVariants.{Group}
use Rattle.syntax_set.specs.declared.item.Item.{Item}
use Rattle.syntax_set.specs.declared.item.ItemKind.TheVariants.{Match, Region, Keyword}
use Rattle.syntax_set.specs.declared.item.Special.TheVariants.{Plain}
use Rattle.paint_rules.specs.Syntax.{attempt_by}
use Rattle.paint_rules.proofs.Sample.{in_line, letters, lit, pattern_of, tree_of, with_line_end, star, plus, s_plus, e_plus, group, item, only, region, word, span, run}

-- syn match Num "\d\+"
digits_are_shown : run (item 0 (Match (pattern_of (plus (Is Digit false false)))) ∷ []) [] (codes "a12b3" ∷ []) ≡ Some ((span 2 3 0 ∷ span 5 5 0 ∷ []) ∷ [])
unfolding attempt_by word_end candidates set_has is_member is_same range_holds cluster_has
digits_are_shown = refl

the_last_defined_wins : run (item 0 (Match (lit (codes "abc"))) ∷ item 1 (Match (lit (codes "ab"))) ∷ []) [] (codes "abc" ∷ []) ≡ Some ((span 1 2 1 ∷ []) ∷ [])
unfolding attempt_by word_end candidates set_has is_member is_same range_holds cluster_has
the_last_defined_wins = refl

-- syn match M "int.*" / syn keyword K int
a_keyword_beats_a_match : run (item 0 (Match (pattern_of (seq (letters (codes "int")) (star (Any false))))) ∷ item 1 Keyword ∷ []) (word (codes "int") 1) (codes "int x" ∷ []) ≡ Some ((span 1 3 1 ∷ []) ∷ [])
unfolding attempt_by word_end candidates set_has is_member is_same range_holds cluster_has
a_keyword_beats_a_match = refl

-- syn region Str start=+"+ skip=+\\"+ end=+"+
a_skip_passes_an_end : run (item 0 (region (lit (34 ∷ [])) (Some (lit (92 ∷ 34 ∷ []))) (lit (34 ∷ []))) ∷ []) [] ((120 ∷ 34 ∷ 97 ∷ 92 ∷ 34 ∷ 98 ∷ 34 ∷ 121 ∷ []) ∷ []) ≡ Some ((span 2 7 0 ∷ []) ∷ [])
unfolding attempt_by word_end candidates set_has is_member is_same range_holds cluster_has
a_skip_passes_an_end = refl

-- syn region P start="(" end=")" contains=P
a_region_holds_itself : run (record (item 0 (region (lit (codes "(")) None (lit (codes ")")))) { contains = only 0 } ∷ []) [] (codes "(a" ∷ codes "(b)" ∷ codes "c)d" ∷ []) ≡ Some ((span 1 2 0 ∷ []) ∷ (span 1 3 0 ∷ []) ∷ (span 1 2 0 ∷ []) ∷ [])
unfolding attempt_by word_end candidates set_has is_member is_same range_holds cluster_has
a_region_holds_itself = refl

-- syn region S matchgroup=Q start=/"/ end=/"/
a_matchgroup_shows_the_ends : run (item 0 (region (record (lit (34 ∷ [])) { matchgroup = Some (group 1) }) None (record (lit (34 ∷ [])) { matchgroup = Some (group 1) })) ∷ []) [] ((34 ∷ 97 ∷ 98 ∷ 34 ∷ []) ∷ []) ≡ Some ((span 1 1 1 ∷ span 2 3 0 ∷ span 4 4 1 ∷ []) ∷ [])
unfolding attempt_by word_end candidates set_has is_member is_same range_holds cluster_has
a_matchgroup_shows_the_ends = refl

abbrev comment : Bool → List Item
comment keep =
    record (item 0 (region (lit (codes "/*")) None (lit (codes "*/")))) { contains = only 1; keepend = keep }
    ∷ record (item 1 (Match (pattern_of (seq (letters (codes "TODO")) (star (Any false)))))) { contained = true }
    ∷ []

keepend_ends_what_it_holds : run (comment true) [] (codes "/* TODO x */ y" ∷ codes "z" ∷ []) ≡ Some ((span 1 3 0 ∷ span 4 12 1 ∷ []) ∷ [] ∷ [])
unfolding attempt_by word_end candidates set_has is_member is_same range_holds cluster_has
keepend_ends_what_it_holds = refl

without_keepend_it_goes_on : run (comment false) [] (codes "/* TODO x */ y" ∷ codes "z" ∷ []) ≡ Some ((span 1 3 0 ∷ span 4 14 1 ∷ []) ∷ (span 1 1 0 ∷ []) ∷ [])
unfolding attempt_by word_end candidates set_has is_member is_same range_holds cluster_has
without_keepend_it_goes_on = refl

-- syn keyword K if nextgroup=N skipwhite / syn match N "\w\+" contained
blanks_are_skipped_to_the_next : run (record (item 0 Keyword) { nextgroup = only 1; skipwhite = true } ∷ record (item 1 (Match (pattern_of (plus (Is Word false false))))) { contained = true } ∷ []) (word (codes "if") 0) (codes "if  foo bar" ∷ []) ≡ Some ((span 1 2 0 ∷ span 5 7 1 ∷ []) ∷ [])
unfolding attempt_by word_end candidates set_has is_member is_same range_holds cluster_has
blanks_are_skipped_to_the_next = refl

-- syn region H start="<<\z(\I\i*\)" end="^\z1$"
abbrev heredoc : List Item
heredoc =
    item 0 (region (pattern_of (seq (letters (codes "<<")) (external (seq (one (Is Word false false)) (star (Is Word false false))) 1))) None
    (with_line_end (pattern_of (seq (one LineStart) (seq (one (ExternalRef 1)) (one LineStop))))))
    ∷ []

an_external_text_ends_a_region : run (heredoc) [] (codes "x <<EOT" ∷ codes "a" ∷ codes "EOT" ∷ codes "b" ∷ []) ≡ Some ((span 3 7 0 ∷ []) ∷ (span 1 1 0 ∷ []) ∷ (span 1 3 0 ∷ []) ∷ [] ∷ [])
unfolding attempt_by word_end candidates set_has is_member is_same range_holds cluster_has
an_external_text_ends_a_region = refl

-- syn match M "a\nb"
a_match_goes_over_a_line_end : run (item 0 (Match (pattern_of (seq (one (Char 97)) (seq (one LineEnd) (one (Char 98)))))) ∷ []) [] (codes "xa" ∷ codes "bc" ∷ []) ≡ Some ((span 2 2 0 ∷ []) ∷ (span 1 1 0 ∷ []) ∷ [])
unfolding attempt_by word_end candidates set_has is_member is_same range_holds cluster_has
a_match_goes_over_a_line_end = refl

-- syn region Exa matchgroup=Foo start="foo"hs=s+2,rs=e+2 matchgroup=Bar end="bar"me=e-1,he=e-1,re=s-1
offsets_of_a_region : run (item 0 (region (record (lit (codes "foo")) { matchgroup = Some (group 1); hs = s_plus (pos 2); rs = e_plus (pos 2) }) None (record (lit (codes "bar")) { matchgroup = Some (group 2); me = e_plus (negsuc 0); he = e_plus (negsuc 0); re = s_plus (negsuc 0) })) ∷ []) [] (codes "abcfoostringbarabc" ∷ []) ≡ Some ((span 6 8 1 ∷ span 9 11 0 ∷ span 12 14 2 ∷ []) ∷ [])
unfolding attempt_by word_end candidates set_has is_member is_same range_holds cluster_has
offsets_of_a_region = refl

-- syn match Cont "\\$" contained / syn region Pre start="#" end="$" contains=Cont
abbrev define : Bool → List Item
define exclude =
    record (item 0 (Match (record (with_line_end (pattern_of (seq (one (Char 92)) (one LineStop)))) { excludenl = exclude }))) { contained = true }
    ∷ record (item 1 (region (lit (codes "#")) None (with_line_end (pattern_of (one LineStop))))) { contains = only 0 }
    ∷ []

a_line_end_lets_the_container_go_on : run (define false) [] ((35 ∷ 97 ∷ 92 ∷ []) ∷ codes "b" ∷ codes "c" ∷ []) ≡ Some ((span 1 2 1 ∷ span 3 3 0 ∷ []) ∷ (span 1 1 1 ∷ []) ∷ [] ∷ [])
unfolding attempt_by word_end candidates set_has is_member is_same range_holds cluster_has
a_line_end_lets_the_container_go_on = refl

excludenl_does_not : run (define true) [] ((35 ∷ 97 ∷ 92 ∷ []) ∷ codes "b" ∷ codes "c" ∷ []) ≡ Some ((span 1 2 1 ∷ span 3 3 0 ∷ []) ∷ [] ∷ [] ∷ [])
unfolding attempt_by word_end candidates set_has is_member is_same range_holds cluster_has
excludenl_does_not = refl

a_oneline_region_needs_its_end : run (record (item 0 (region (lit (codes "'")) None (lit (codes "'")))) { oneline = true } ∷ []) [] (codes "a'b" ∷ codes "c'd'" ∷ []) ≡ Some ([] ∷ (span 2 4 0 ∷ []) ∷ [])
unfolding attempt_by word_end candidates set_has is_member is_same range_holds cluster_has
a_oneline_region_needs_its_end = refl

-- syn keyword K if nextgroup=N skipnl / syn match N "x" contained
abbrev next_line_too : Bool → List Item
next_line_too white =
    record (item 0 Keyword) { nextgroup = only 1; skipnl = true; skipwhite = white }
    ∷ record (item 1 (Match (lit (codes "x")))) { contained = true }
    ∷ []

a_wait_goes_over_a_line_end : run (next_line_too false) (word (codes "if") 0) (codes "if" ∷ codes "x" ∷ codes "if " ∷ codes "x" ∷ []) ≡ Some ((span 1 2 0 ∷ []) ∷ (span 1 1 1 ∷ []) ∷ (span 1 2 0 ∷ []) ∷ [] ∷ [])
unfolding attempt_by word_end candidates set_has is_member is_same range_holds cluster_has
a_wait_goes_over_a_line_end = refl

and_over_blanks : run (next_line_too true) (word (codes "if") 0) (codes "if" ∷ codes "x" ∷ codes "if " ∷ codes "x" ∷ []) ≡ Some ((span 1 2 0 ∷ []) ∷ (span 1 1 1 ∷ []) ∷ (span 1 2 0 ∷ []) ∷ (span 1 1 1 ∷ []) ∷ [])
unfolding attempt_by word_end candidates set_has is_member is_same range_holds cluster_has
and_over_blanks = refl

-- syn match T "TODO" contained containedin=C / syn match C "#.*"
containedin : run (record (item 0 (Match (lit (codes "TODO")))) { contained = true; containedin = only 1 } ∷ item 1 (Match (pattern_of (seq (one (Char 35)) (star (Any false))))) ∷ []) [] (codes "TODO # TODO" ∷ []) ≡ Some ((span 6 7 1 ∷ span 8 11 0 ∷ []) ∷ [])
unfolding attempt_by word_end candidates set_has is_member is_same range_holds cluster_has
containedin = refl

-- syn region C start="{" end="}" keepend contains=X / syn region X start="<" end=">" extend contained
abbrev kept : Bool → List Item
kept extends =
    record (item 0 (region (lit (codes "{")) None (lit (codes "}")))) { keepend = true; contains = only 1 }
    ∷ record (item 1 (region (lit (codes "<")) None (lit (codes ">")))) { contained = true; extend = extends }
    ∷ []

extend_passes_a_kept_end : run (kept true) [] (codes "{<}>}a" ∷ []) ≡ Some ((span 1 1 0 ∷ span 2 4 1 ∷ span 5 5 0 ∷ []) ∷ [])
unfolding attempt_by word_end candidates set_has is_member is_same range_holds cluster_has
extend_passes_a_kept_end = refl

without_extend_it_does_not : run (kept false) [] (codes "{<}>}a" ∷ []) ≡ Some ((span 1 1 0 ∷ span 2 3 1 ∷ []) ∷ [])
unfolding attempt_by word_end candidates set_has is_member is_same range_holds cluster_has
without_extend_it_does_not = refl

-- syn match M "ab"lc=1
leading_context : run (item 0 (Match (record (lit (codes "ab")) { lc = 1; ms = s_plus (pos 1) })) ∷ []) [] (codes "abab" ∷ []) ≡ Some ((span 2 2 0 ∷ span 4 4 0 ∷ []) ∷ [])
unfolding attempt_by word_end candidates set_has is_member is_same range_holds cluster_has
leading_context = refl

-- Cases beyond the rows.

-- syn match M "\%2lx"
a_line_number_is_that_of_the_text : run (item 0 (Match (in_line 2 (codes "x"))) ∷ []) [] (codes "x" ∷ codes "x" ∷ codes "x" ∷ []) ≡ Some ([] ∷ (span 1 1 0 ∷ []) ∷ [] ∷ [])
unfolding attempt_by word_end candidates set_has is_member is_same range_holds cluster_has
a_line_number_is_that_of_the_text = refl

-- syn region R matchgroup=Q start="ab" end="z" contains=M / syn match M "b\zsc" contained: the pop of a start area is a close
area_pop_is_close : run (record (item 0 (region (record (lit (codes "ab")) { matchgroup = Some (group 1) }) None (record (lit (codes "z")) { matchgroup = Some (group 1) }))) { contains = only 2 } ∷ record (item 2 (Match (record (lit []) { tree = record (tree_of (seq (one (Char 98)) (seq (one MatchStart) (one (Char 99))))) { moves_start = true } }))) { contained = true } ∷ []) [] (codes "abcz" ∷ []) ≡ Some ((span 1 2 1 ∷ span 3 3 0 ∷ span 4 4 1 ∷ []) ∷ [])
unfolding attempt_by word_end candidates set_has is_member is_same range_holds cluster_has
area_pop_is_close = refl

-- syn region R start="a\n"hs=e+1 end="z": one sum, then stopped at the line's ends
sum_first : run (item 0 (region (record (pattern_of (seq (one (Char 97)) (one LineEnd))) { hs = e_plus (pos 1) }) None (lit (codes "z"))) ∷ []) [] (codes "a" ∷ codes "bz" ∷ []) ≡ Some ([] ∷ (span 1 2 0 ∷ []) ∷ [])
unfolding attempt_by word_end candidates set_has is_member is_same range_holds cluster_has
sum_first = refl

-- syn match M "abc"ms=e+1,me=e+9,he=e+9
stops_at_line_end : run (item 0 (Match (record (lit (codes "abc")) { ms = e_plus (pos 1); me = e_plus (pos 9); he = e_plus (pos 9) })) ∷ []) [] (codes "abcd" ∷ []) ≡ Some ((span 4 4 0 ∷ []) ∷ [])
unfolding attempt_by word_end candidates set_has is_member is_same range_holds cluster_has
stops_at_line_end = refl

-- syn region R matchgroup=Q start="ab"hs=s+9 end="z"
area_from_hs : run (item 0 (region (record (lit (codes "ab")) { matchgroup = Some (group 1); hs = s_plus (pos 9) }) None (record (lit (codes "z")) { matchgroup = Some (group 1) })) ∷ []) [] (codes "abcz" ∷ []) ≡ Some ((span 3 3 0 ∷ span 4 4 1 ∷ []) ∷ [])
unfolding attempt_by word_end candidates set_has is_member is_same range_holds cluster_has
area_from_hs = refl

-- syn region R oneline start="a" start="ab" end="c"
oneline_other_start : run (record (item 0 (Region (lit (codes "a") ∷ lit (codes "ab") ∷ []) None (lit (codes "c") ∷ []))) { oneline = true } ∷ []) [] (codes "abxc" ∷ []) ≡ Some ((span 1 4 0 ∷ []) ∷ [])
unfolding attempt_by word_end candidates set_has is_member is_same range_holds cluster_has
oneline_other_start = refl

-- syn region O oneline start="<" end=">" contains=X / syn match X "b" contained nextgroup=Y / syn match Y "c" contained
oneline_holds_wait : run (record (item 0 (region (lit (codes "<")) None (lit (codes ">")))) { oneline = true; contains = only 1 } ∷ record (item 1 (Match (lit (codes "b")))) { contained = true; nextgroup = only 2 } ∷ record (item 2 (Match (lit (codes "c")))) { contained = true } ∷ []) [] (codes "a<bc>" ∷ codes "<b" ∷ []) ≡ Some ((span 2 2 0 ∷ span 3 3 1 ∷ span 4 4 2 ∷ span 5 5 0 ∷ []) ∷ [] ∷ [])
unfolding attempt_by word_end candidates set_has is_member is_same range_holds cluster_has
oneline_holds_wait = refl

-- syn match R "<a*" keepend contains=A / syn match A "a*b" contained
abbrev kept_match : Bool → List Item
kept_match keep =
    record (item 0 (Match (pattern_of (seq (one (Char 60)) (star (Char 97)))))) { keepend = keep; contains = only 1 }
    ∷ record (item 1 (Match (pattern_of (seq (star (Char 97)) (one (Char 98)))))) { contained = true }
    ∷ []

match_keeps : run (kept_match true) [] (codes "<aab" ∷ []) ≡ Some ((span 1 1 0 ∷ span 2 3 1 ∷ []) ∷ [])
unfolding attempt_by word_end candidates set_has is_member is_same range_holds cluster_has
match_keeps = refl

match_keeps_not : run (kept_match false) [] (codes "<aab" ∷ []) ≡ Some ((span 1 1 0 ∷ span 2 4 1 ∷ []) ∷ [])
unfolding attempt_by word_end candidates set_has is_member is_same range_holds cluster_has
match_keeps_not = refl

-- syn region P start="#" end="$" contains=C,N / syn match C "\\$" contained / syn match N "$\n." contained: picks go on after closing is over
picks_go_on : run (record (item 0 (region (lit (codes "#")) None (with_line_end (pattern_of (one LineStop))))) { contains = Some (record { special = Plain; entries = Group (group 1) ∷ Group (group 2) ∷ [] }) } ∷ record (item 1 (Match (with_line_end (pattern_of (seq (one (Char 92)) (one LineStop)))))) { contained = true } ∷ record (item 2 (Match (with_line_end (pattern_of (seq (one LineStop) (seq (one LineEnd) (one (Any false)))))))) { contained = true } ∷ []) [] ((35 ∷ 97 ∷ 92 ∷ []) ∷ codes "bc" ∷ codes "d" ∷ []) ≡ Some ((span 1 2 0 ∷ span 3 3 1 ∷ []) ∷ (span 1 1 2 ∷ span 2 2 0 ∷ []) ∷ [] ∷ [])
unfolding attempt_by word_end candidates set_has is_member is_same range_holds cluster_has
picks_go_on = refl

-- syn match M "ab"me=e+2
he_is_to : run (item 0 (Match (record (lit (codes "ab")) { me = e_plus (pos 2) })) ∷ []) [] (codes "abcd" ∷ []) ≡ Some ((span 1 2 0 ∷ []) ∷ [])
unfolding attempt_by word_end candidates set_has is_member is_same range_holds cluster_has
he_is_to = refl

-- syn keyword K if nextgroup=N skipempty / syn match N "x" contained
skipempty_goes_on : run (record (item 0 Keyword) { nextgroup = only 1; skipempty = true } ∷ record (item 1 (Match (lit (codes "x")))) { contained = true } ∷ []) (word (codes "if") 0) (codes "if" ∷ codes "x" ∷ []) ≡ Some ((span 1 2 0 ∷ []) ∷ (span 1 1 1 ∷ []) ∷ [])
unfolding attempt_by word_end candidates set_has is_member is_same range_holds cluster_has
skipempty_goes_on = refl

an_empty_text_shows_nothing : run (item 0 (Match (pattern_of (plus (Is Digit false false)))) ∷ []) [] ([] ∷ []) ≡ Some ([] ∷ [])
unfolding attempt_by word_end candidates set_has is_member is_same range_holds cluster_has
an_empty_text_shows_nothing = refl
