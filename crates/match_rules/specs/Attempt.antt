-- One attempt to match a pattern at a place: its first way, what it cost, and the lines looked at.
use Rattle.std.specs.Prelude.{ℕ, suc, pos, ◌-◌, Bool, nat_eq, List, [], ◌∷◌, Option, Some, None, map, take, drop, if◌then◌else◌}
use Rattle.syn_base.specs.declared.looked.Looked.{Looked}
use Rattle.syn_base.specs.declared.places.Place.{Place}
use Rattle.syn_base.specs.Looked.{hull_of, one_line}
use Rattle.vim_pattern.specs.Tree.{PatternTree}
use Rattle.vim_pattern.specs.Shape.{Shape}
use Rattle.match_rules.specs.Ways.{Text, Context, Capture, Way, way_from, line_at, is_after}
use Rattle.match_rules.specs.Marks.{Mark, Tick, Reach}
use Rattle.match_rules.specs.Visits.{visits}

-- the way that was found, the number of ticks before it, and the hull of the lines that they looked at;
-- of all ticks where there is no way
pub record Answer : Type 0 where
  pub way : Option Way
  pub cost : ℕ
  pub looked : Option Looked

abbrev pub joined : Option Looked → Looked → Option Looked
joined None more = Some more
joined (Some looked) more = Some (hull_of looked more)

-- the answer of the marks still to come, after so many ticks
abbrev pub answer_from : ℕ → Option Looked → List Mark → Answer
answer_from cost looked [] = record { way = None; cost = cost; looked = looked }
answer_from cost looked (Tick more ∷ marks) = answer_from (suc cost) (joined looked more) marks
answer_from cost looked (Reach w ∷ marks) = record { way = Some w; cost = cost; looked = looked }

abbrev pub answer_of : List Mark → Answer
answer_of marks = answer_from 0 None marks

abbrev pub search : Context → Shape → Place → Answer
search x node start = answer_of (visits x node (way_from start))

-- `\c` and `\C` in the pattern come before what the context says
abbrev pub ignores_case : PatternTree → Bool → Bool
ignores_case tree ignore = elim tree.case [ None ↦ ignore | Some asked ↦ asked ]

abbrev pub for_tree : PatternTree → Context → Context
for_tree tree x = record x { ignore = ignores_case tree x.ignore }

abbrev pub attempt : PatternTree → Context → Place → Answer
attempt tree x start = search (for_tree tree x) tree.node start

-- the lines looked at; that of the start where there was no tick
abbrev pub lines_of : Place → Answer → Looked
lines_of start answer = elim answer.looked
    [ None ↦ one_line (pos start.line) | Some looked ↦ looked ]

-- ---- the match of a way

abbrev pub or_place : Option Place → Place → Place
or_place None p = p
or_place (Some q) p = q

abbrev pub match_from : Place → Way → Place
match_from start w = or_place w.start start

-- a match doesn't end before it begins
abbrev pub not_before : Place → Place → Place
not_before from to = if is_after from to then from else to

abbrev pub match_to : Place → Way → Place
match_to start w = not_before (match_from start w) (or_place w.stop w.at)

-- the text of an external group: empty where it goes over a line end, or didn't match
abbrev pub text_in_line : Text → Place → Place → List ℕ
text_in_line text from to =
    if nat_eq from.line to.line then take (to.col - from.col)
    (drop from.col (line_at text from.line)) else []

abbrev pub external_of : Text → Capture → List ℕ
external_of text None = []
external_of text (Some places) = text_in_line text places.0 places.1

abbrev pub externals_of : Text → Way → List (List ℕ)
externals_of text w = map (external_of text) w.externals
