-- Parts that any character but one tells to be tried in vain.
use Rattle.std.specs.Prelude.{◌≡◌, ℕ, Bool, false, List, Option, Some, None}
use Rattle.char_class.specs.Folds.{is_same}
use Rattle.match_rules.specs.Marks.{Mark}
use Rattle.match_rules.specs.Ways.{Context, Way}
use Rattle.pattern_match.specs.Vain.{IsVainBy}
use Rattle.pattern_match.specs.declared.context.Context.{Context as ContextOf}
use Rattle.pattern_match.specs.declared.others.Others.{Others}
use Rattle.pattern_match.specs.declared.vain.Vain.{Vain}
use Rattle.pattern_match.specs.declared.vain.Vain.TheVariants.{Refused}

-- so much each character tells of a part that is not the same as one, case ignored where it is so
abbrev pub IsVainByOthers : (Context → Way → List Mark) → ℕ → Vain → Type 0
IsVainByOthers part but vain =
    (context : ContextOf) (c : ℕ) (start : Bool) → is_same but c context.ignore ≡ false →
    IsVainBy context part c start vain

-- the other characters refuse a part, with so many ticks
abbrev pub AreOthers : (Context → Way → List Mark) → Option Others → Type 0
AreOthers part None = Unit {0}
AreOthers part (Some o) = IsVainByOthers part o.but (Refused o.ticks)
