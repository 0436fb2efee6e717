-- What the commands of a script may paint, where each painting paints the whole of a changed text, and is refused of
-- more than two lines.
use Rattle.std.proofs.Common.{◌≡◌, ℕ, List, [], ◌∷◌, length, map, false, refl}
use Rattle.std.specs.Prelude.{codes, nat_lt, None, Ok, Err, if◌then◌else◌}
use Rattle.std.specs.Str.{chars, is_utf8}
use Rattle.std.proofs.Math.Utf8.{encode}
use Rattle.syn_base.specs.declared.places.Span.{Span}
use Rattle.edit_script.specs.Edits.{replaced}
use Rattle.edit_script.specs.Entries.{entries_at_end}
use Rattle.edit_session.specs.Painter.{Library, Painted, Painter}
use Rattle.edit_session.specs.Session.{session_costs, start}

abbrev without_spans : List (List ℕ) → List (List Span)
without_spans text = map (λ line. []) text

abbrev painter : Painter
painter = record {
  paint = λ text. if nat_lt 2 (length text) then Err (codes "too costly") else Ok (without_spans text);
  report = λ before after a b count. [];
  costs = λ text r. length (replaced text r);
  substitute = λ text a b command. Err [];
  line = λ number spans. [];
  page = λ text spans. [];
  folds = λ text. [];
  shows = λ spans. [];
}

-- no file is told of
abbrev library : Library
library = record { reads = λ name. Err []; is_long = λ name. false; unread = λ name number. None }

abbrev one_line : Painted
one_line = record { text = codes "x" ∷ []; spans = [] ∷ [] }

abbrev costs_of : List ℕ → ℕ
costs_of script = session_costs library (start painter one_line) (entries_at_end 0 script)

-- a text of two lines, and one of three that is refused: both count
accepted_and_refused : costs_of (codes "$a\ny\n.\n1t0\n") ≡ 5
unfolding chars encode is_utf8
accepted_and_refused = refl

-- behind the refusal the text has two lines still
behind_refusal : costs_of (codes "$a\ny\n.\n1t0\n2d\n") ≡ 6
unfolding chars encode is_utf8
behind_refusal = refl

-- what fits no text or is no command, and what only prints, counts nothing
nothing_painted : costs_of (codes "9d\n2,1d\nq\n1p\nH\nF\n$a\n") ≡ 0
unfolding chars encode is_utf8
nothing_painted = refl
