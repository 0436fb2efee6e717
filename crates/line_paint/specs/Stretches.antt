-- Columns whose characters show the same.
use Rattle.std.specs.Prelude.{◌≡◌, ◌<◌, ◌≤◌, ℕ, List}
use Rattle.paint_rules.specs.declared.Spot.TheVariants.{At}
use Rattle.paint_rules.specs.Frames.{Frame}
use Rattle.paint_rules.specs.Line.{shown}
use Rattle.paint_rules.specs.Rules.{Rules}
use Rattle.line_paint.specs.declared.shown.Stretch.{Stretch}

-- from a column on, as far as the stretch goes, the frames show its group
abbrev pub ShowsOver : Rules → List Frame → ℕ → Stretch → Type 0
ShowsOver r frames c stretch =
    (d : ℕ) → c ≤ d → d < stretch.until → shown r (At 0 d) frames ≡ stretch.group
