-- All that a pattern tries and reaches from a way, in the order of the ways.
use Rattle.std.specs.Prelude.{ℕ, false, List, [], ◌∷◌, ◌++◌, Option, Some, None}
use Rattle.syn_base.specs.declared.places.Place.{Place}
use Rattle.pattern_items.specs.declared.atom.Atom.{Atom}
use Rattle.vim_pattern.specs.Shape.{Shape, empty, one, seq, or, and, group, external, repeat, ahead, before, whole}
use Rattle.match_rules.specs.Ways.{Context, Way, with_capture}
use Rattle.match_rules.specs.Atoms.{fits, lines_looked, way_behind}
use Rattle.match_rules.specs.Marks.{Mark, Tick, Reach, followed, ticks_first, first_way, reach_if}
use Rattle.match_rules.specs.Counts.{turns}
use Rattle.match_rules.specs.Looks.{look, tried_behind}

-- an atom is one tick, and the way behind it where it fits
abbrev pub behind_fit : Way → Atom → Option Place → List Mark
behind_fit w a None = []
behind_fit w a (Some p) = Reach (way_behind w p a) ∷ []

abbrev pub tried : Context → Way → Atom → List Mark
tried x w a = Tick (lines_looked x w a) ∷ behind_fit w a (fits x w a)

-- a group notes the places between which it matched
abbrev pub noted : ℕ → Place → Way → List Mark
noted number from w = Reach (record w { captures = with_capture w.captures number from w.at }) ∷ []

abbrev pub noted_external : ℕ → Place → Way → List Mark
noted_external number from w = Reach (record w {
  externals = with_capture w.externals number from
      w.at;
}) ∷ []

abbrev pub visits : Context → Shape → Way → List Mark
visits x empty w = Reach w ∷ []
visits x (one a) w = tried x w a
visits x (seq a b) w = followed (visits x a w) (visits x b)
visits x (or a b) w = visits x a w ++ visits x b w
visits x (and a b) w = followed (look false w (visits x a w)) (visits x b)
visits x (group part number) w = followed (visits x part w) (noted number w.at)
visits x (external part number) w = followed (visits x part w) (noted_external number w.at)
visits x (repeat part least most lazy) w = turns x.text (visits x part) lazy least most w
visits x (ahead part negative) w = look negative w (visits x part w)
visits x (before part negative limit) w =
    look negative w (tried_behind x.text (visits x part) limit w)
visits x (whole part) w = ticks_first (visits x part w) ++ reach_if (first_way (visits x part w))
