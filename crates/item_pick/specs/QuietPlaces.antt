-- A place at which no item of a choice starts.
use Rattle.std.specs.Prelude.{◌≡◌, ℕ, [], Some, None}
use Rattle.syn_base.specs.declared.places.Place.{Place}
use Rattle.syn_base.specs.declared.looked.Looked.{Looked}
use Rattle.match_rules.specs.Ways.{Text}
use Rattle.paint_rules.specs.Painted.{Done, looked_first}
use Rattle.paint_rules.specs.Pick.{start_among}
use Rattle.paint_rules.specs.Rules.{Rules}
use Rattle.item_pick.specs.declared.choice.Choice.{Choice}
use Rattle.item_pick.specs.Started.{admits, here_at, standing_at}

-- no item of a choice starts there, and no line is looked at that wasn't before
abbrev pub IsQuietAt : Rules → Text → Choice → ℕ → Looked → Place → Type 0
IsQuietAt r t choice floor k p =
    looked_first (Some k) (start_among (here_at r t p) p.col (standing_at [] None floor []) (admits r choice))
    ≡ Done None (Some k)
