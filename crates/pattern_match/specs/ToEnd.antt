-- A greedy count of any character or line end, and what follows it.
use Rattle.std.specs.Prelude.{◌≡◌, ℕ, ◌+◌, ◌*◌, Bool, true, false, [], ◌∷◌, None, length}
use Rattle.char_class.specs.Folds.{is_same}
use Rattle.syn_base.specs.declared.looked.Looked.{Looked}
use Rattle.syn_base.specs.declared.places.Place.{Place}
use Rattle.pattern_items.specs.declared.atom.Atom.TheVariants.{Any}
use Rattle.vim_pattern.specs.Shape.{one}
use Rattle.match_rules.specs.Atoms.{behind_one, lines_from, own_line}
use Rattle.match_rules.specs.Counts.{places_behind}
use Rattle.match_rules.specs.Marks.{Tick}
use Rattle.match_rules.specs.Ways.{Context, Text, Way, is_after}
use Rattle.pattern_match.specs.Glance.{marks_behind}
use Rattle.pattern_match.specs.Steps.{shape_of}
use Rattle.pattern_match.specs.declared.sight.Rest.{Rest}
use Rattle.pattern_match.specs.declared.task.Turns.{Turns}

-- from a place on, up to the end of the text, no character passes a test
abbrev pub IsNowhere : Text → (ℕ → Bool) → Place → Type 0
IsNowhere text test p = (q : Place) → is_after p q ≡ false → behind_one text test q ≡ None

-- what follows begins with a character: where that doesn't stand, it is the one tick
abbrev pub BeginsWith : Rest → ℕ → Type 0
BeginsWith rest c = (x : Context) (w : Way) → behind_one x.text (λ d. is_same c d x.ignore) w.at ≡ None →
    marks_behind x rest w ≡ Tick (own_line w) ∷ []

-- a count takes any character and any line end, and as many as there are
pub record IsEndless (t : Turns) : Type 0 where
  pub any : shape_of t.part.now ≡ one (Any true)
  pub endless : t.most ≡ None

-- each place from here to the end of the text is one turn, and the turn behind them fails; each of them
-- is a stop, and so is the end
abbrev pub ticks_to_end : Text → Place → ℕ
ticks_to_end text p = 2 * (places_behind text p + 1)

-- the lines from here to the one behind the last
abbrev pub lines_to_end : Text → Place → Looked
lines_to_end text p = lines_from p.line (length text)
