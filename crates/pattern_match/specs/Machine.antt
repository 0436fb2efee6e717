-- What the ways of an attempt still try and reach.
use Rattle.std.specs.Prelude.{List, [], ◌∷◌, ◌++◌, Option, Some, None}
use Rattle.match_rules.specs.Ways.{Context, Way}
use Rattle.pattern_items.specs.declared.item.Behind.{Behind}
use Rattle.vim_pattern.specs.Shape.{Shape}
use Rattle.match_rules.specs.Marks.{Mark, Reach, followed, ticks_first, first_way, reach_if}
use Rattle.match_rules.specs.Looks.{look_end, tried_behind}
use Rattle.match_rules.specs.Counts.{turns, after_turn}
use Rattle.match_rules.specs.Visits.{visits, noted, noted_external}
use Rattle.pattern_match.specs.declared.task.Task.{Task}
use Rattle.pattern_match.specs.declared.task.Task.TheVariants.{Visit, Count, Turn, AfterTurn, Look, Close, CloseExternal, Again}
use Rattle.pattern_match.specs.declared.look.Ending.{Ending}
use Rattle.pattern_match.specs.declared.look.Ending.TheVariants as ending
use Rattle.pattern_match.specs.Steps.{shape_of}
use Rattle.pattern_match.specs.Ways.{Thread}

-- what the part of a look tries and reaches
abbrev pub part_marks : Context → Shape → Option Behind → Way → List Mark
part_marks x part None w = visits x part w
part_marks x part (Some limit) w = tried_behind x.text (visits x part) limit w

-- what comes behind its first way
abbrev pub end_marks : Ending → Way → Option Way → List Mark
end_marks (ending.Look negative) w first = look_end negative w first
end_marks ending.Whole w first = reach_if first

-- a part is tried up to its first way
abbrev pub up_to_first : Ending → Way → List Mark → List Mark
up_to_first e w marks = ticks_first marks ++ end_marks e w (first_way marks)

abbrev pub task_marks : Context → Task → Way → List Mark
task_marks x (Visit s) w = visits x (shape_of s.now) w
task_marks x (Count t) w = turns x.text (visits x (shape_of t.part.now)) t.lazy t.least t.most w
task_marks x (Turn t) w = followed (visits x (shape_of t.part.now) w)
    (after_turn x.text (visits x (shape_of t.part.now)) t.lazy t.least t.most w.at)
task_marks x (AfterTurn t from) w = after_turn x.text (visits x (shape_of t.part.now)) t.lazy
    t.least t.most from w
task_marks x (Look l) w = up_to_first l.ending w (part_marks x (shape_of l.part.now) l.behind w)
task_marks x (Close number from) w = noted number from w
task_marks x (CloseExternal number from) w = noted_external number from w
task_marks x (Again s cost) w = visits x (shape_of s.now) w

-- what a way still tries and reaches, where these items are to be done
abbrev pub marks_with : Context → List Task → Way → List Mark
marks_with x [] w = Reach w ∷ []
marks_with x (item ∷ items) w = followed (task_marks x item w) (marks_with x items)

abbrev pub marks_of : Context → Thread Task → List Mark
marks_of x t = marks_with x t.todo t.way

-- of several ways, one after the other
abbrev pub marks_to_come : Context → List (Thread Task) → List Mark
marks_to_come x [] = []
marks_to_come x (t ∷ threads) = marks_of x t ++ marks_to_come x threads
