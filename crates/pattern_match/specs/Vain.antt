-- Parts that the character at a place tells to be tried in vain.
use Rattle.std.specs.Prelude.{◌≡◌, ℕ, zero, suc, pos, Bool, true, false, List, [], ◌∷◌, ◌++◌, nat_eq}
use Rattle.syn_base.specs.declared.looked.Looked.{Looked}
use Rattle.syn_base.specs.declared.places.Place.{Place}
use Rattle.syn_base.specs.Looked.{one_line}
use Rattle.match_rules.specs.Atoms.{own_line}
use Rattle.match_rules.specs.Marks.{Mark, Tick, Reach, followed}
use Rattle.match_rules.specs.Ways.{Context, IsPlaceOf, Text, Way}
use Rattle.pattern_match.specs.Contexts.{context_in}
use Rattle.pattern_match.specs.Spending.{spent_times}
use Rattle.pattern_match.specs.Standing.{Stands}
use Rattle.pattern_match.specs.declared.context.Context.{Context as ContextOf}
use Rattle.pattern_match.specs.declared.standing.Standing.TheVariants.{Character}
use Rattle.pattern_match.specs.declared.spent.Spent.{Spent}
use Rattle.pattern_match.specs.declared.vain.Vain.{Vain}
use Rattle.pattern_match.specs.declared.vain.Vain.TheVariants.{Refused, LeftOut, Noted, Unsure}

-- so many ticks that looked at the same lines
abbrev pub ticks : ℕ → Looked → List Mark
ticks zero looked = []
ticks (suc count) looked = Tick looked ∷ ticks count looked

-- what a way tries and reaches is so many atoms that look at its own line, and no way, or itself, or one
-- at its place
abbrev pub IsVain : List Mark → Way → Vain → Type 0
IsVain marks w (Refused count) = marks ≡ ticks count (own_line w)
IsVain marks w (LeftOut count) = marks ≡ ticks count (own_line w) ++ Reach w ∷ []
IsVain marks w (Noted count) =
    (v : Way) × ((v.at ≡ w.at) × (marks ≡ ticks count (own_line w) ++ Reach v ∷ []))
IsVain marks w Unsure = Unit {0}

-- so much a character tells of a part, wherever it stands, if it is the first of its line, or if not
abbrev pub IsVainBy : ContextOf → (Context → Way → List Mark) → ℕ → Bool → Vain → Type 0
IsVainBy context part c start vain =
    (text : Text) (w : Way) (behind : Place) → IsPlaceOf text w.at → nat_eq w.at.col 0 ≡ start →
    Stands text w.at (Character c behind) → IsVain (part (context_in text context) w) w vain

-- what is told of a part and of one behind it tells of both
abbrev pub IsThen : Vain → Vain → Vain → Type 0
IsThen first next both =
    (w : Way) (marks : List Mark) (f : Way → List Mark) → IsVain marks w first →
    ((v : Way) → v.at ≡ w.at → IsVain (f v) v next) → IsVain (followed marks f) w both

-- of one part or another
abbrev pub IsEither : Vain → Vain → Vain → Type 0
IsEither first second either =
    (w : Way) (marks more : List Mark) → IsVain marks w first → IsVain more w second →
    IsVain (marks ++ more) w either

-- of an atom that takes a character of the line, and what is told behind it
abbrev pub IsBehindOne : Vain → Vain → Type 0
IsBehindOne next both =
    (w v : Way) (marks : List Mark) → v.at.line ≡ w.at.line → IsVain marks v next →
    IsVain (Tick (own_line w) ∷ marks) w both

-- whether there is no way
abbrev pub is_refused : Vain → Bool
is_refused (Refused count) = true
is_refused _ = false

-- of a part that need not be there
abbrev pub left_out : Vain → Vain
left_out (Refused count) = LeftOut count
left_out _ = Unsure

-- from a place a part is so many atoms tried in vain, and these are spent
abbrev pub IsRefused : (Way → List Mark) → Place → Spent → Spent → Type 0
IsRefused part p old new = (count : ℕ) × (((w : Way) → w.at ≡ p → part w ≡ ticks count (own_line w))
    × (new ≡ spent_times old count (one_line (pos p.line))))
