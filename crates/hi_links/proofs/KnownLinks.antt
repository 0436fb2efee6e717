-- What links and styles do, on small cases: groups A, B, C and D have the numbers 0 to 3.
use Rattle.std.proofs.Common.{◌≡◌, [], Some, None, true, false, refl}
use Rattle.std.specs.Prelude.{codes}
use Rattle.syntax_set.specs.Groups.{group_numbered, group_of}
use Rattle.syn_base.specs.declared.places.GroupId.{GroupId}
use Rattle.hi_links.specs.declared.highlight.Style.{Style}
use Rattle.hi_links.specs.FinalGroup.{final_group, followed}
use Rattle.hi_links.specs.Highlights.{highlight_of, linked, plain, styled}
use Rattle.hi_links.specs.UsualGroups.{groups_and_links, GroupsAndLinks, usual_groups, with_all_usual}

a : GroupId
a = group_numbered 0

b : GroupId
b = group_numbered 1

c : GroupId
c = group_numbered 2

d : GroupId
d = group_numbered 3

bold : Style
bold = record plain { bold = true }

-- `hi link A B`, `hi link B A`: a hundred links from A end on A
round : final_group (linked (linked [] a (Some b) false false) b (Some a) false false) a ≡ a
unfolding a b final_group followed
round = refl

-- `hi def link A B`, `hi def link A C`: the first stands
first_default : final_group (linked (linked [] a (Some b) true false) a (Some c) true false) a ≡ b
unfolding a b c final_group followed
first_default = refl

-- `hi def link A B`, `hi link A D`: a command without `default` replaces the link
replaced : final_group (linked (linked [] a (Some b) true false) a (Some d) false false) a ≡ d
unfolding a b d final_group followed
replaced = refl

-- `hi link A B`, `hi! def link A C`: `!` doesn't beat `default`
default_first : final_group (linked (linked [] a (Some b) false false) a (Some c) true true) a ≡ b
unfolding a b c final_group followed
default_first = refl

-- `hi link A NONE`, `hi def link A B`: there was no link to take away
nothing_taken : final_group (linked (linked [] a None false false) a (Some b) true false) a ≡ b
unfolding a b final_group followed
nothing_taken = refl

-- `hi link A B`, `hi link A NONE`, `hi def link A C`: a link was taken away
link_taken : final_group (linked (linked (linked [] a (Some b) false false) a None false false) a (Some c) true false) a ≡ a
unfolding a b c final_group followed
link_taken = refl

-- `hi link A B`, `hi A gui=NONE`, `hi def link A C`: a style takes the link away
taken_by_style : final_group (linked (styled (linked [] a (Some b) false false) a plain false) a (Some c) true false) a ≡ a
unfolding a b c final_group followed
taken_by_style = refl

-- `hi A gui=bold`, `hi link A B`: nothing without `!`
style_stands : final_group (linked (styled [] a bold false) a (Some b) false false) a ≡ a
unfolding a b bold final_group followed
style_stands = refl

-- `hi A gui=bold`, `hi! link A B`: the link stands beside the style
forced : final_group (linked (styled [] a bold false) a (Some b) false true) a ≡ b
unfolding a b bold final_group followed
forced = refl

style_kept : (highlight_of (linked (styled [] a bold false) a (Some b) false true) a).style ≡ bold
unfolding a b bold
style_kept = refl

-- `hi link A B`, `hi default A gui=bold`: nothing
style_by_default : styled (linked [] a (Some b) false false) a bold true ≡ linked [] a (Some b) false false
unfolding a b bold
style_by_default = refl

usual : GroupsAndLinks
usual = with_all_usual (groups_and_links [] []) usual_groups

-- Float leads over Number to Constant
of_float : final_group usual.links (group_numbered 6) ≡ group_numbered 1
unfolding usual with_all_usual usual_groups final_group followed
of_float = refl

numbered : group_of usual.names (codes "float") ≡ Some (group_numbered 6)
unfolding usual with_all_usual usual_groups
numbered = refl
