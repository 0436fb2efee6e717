-- What sessions print whose scripts name syntaxes, where a syntax shows each line's first character, and some refuse
-- their file or the text.
use Rattle.std.proofs.Common.{◌≡◌, ℕ, ◌+◌, List, [], ◌∷◌, ◌++◌, length, map, refl, true, false}
use Rattle.std.specs.Prelude.{codes, decimal, bytes_eq, None, Ok, Err, Result, if◌then◌else◌}
use Rattle.std.specs.Fmt.{digits}
use Rattle.std.specs.Str.{chars, is_utf8}
use Rattle.std.proofs.Math.Utf8.{encode}
use Rattle.syn_base.specs.declared.places.Span.{Span}
use Rattle.edit_session.specs.Painter.{Library, Painter}
use Rattle.edit_session.specs.Session.{Answer, Standing, script_costs, script_session, start}

abbrev first_characters : List (List ℕ) → List (List Span)
first_characters text = map (λ line. record { first = 0; last = 0; group = record { 0 = 0 } } ∷ []) text

-- by a syntax that shows them by this name
abbrev shown_as : List ℕ → Painter
shown_as name = record {
  paint = λ text. Ok (first_characters text);
  report = λ before after a b count. [];
  costs = λ text r. length text;
  substitute = λ text a b command. Err [];
  line = λ number spans. decimal (number + 1) ++ codes ":1-1 " ++ name ++ codes " " ++ name ++ codes "\n";
  page = λ text spans. [];
  folds = λ text. [];
  shows = λ spans. map (λ line. record { first = 1; last = 1; name = name; final_name = name } ∷ []) spans;
}

-- by one that paints no text
abbrev too_costly : Painter
too_costly = record {
  paint = λ text. Err (codes "too costly");
  report = λ before after a b count. [];
  costs = λ text r. 0;
  substitute = λ text a b command. Err [];
  line = λ number spans. [];
  page = λ text spans. [];
  folds = λ text. [];
  shows = λ spans. [];
}

abbrev read : List ℕ → Result Painter (List ℕ)
read name =
    if bytes_eq name (codes "s") then Ok (shown_as (codes "N"))
    else if bytes_eq name (codes "s2") then Ok (shown_as (codes "Z"))
    else if bytes_eq name (codes "costly") then Ok too_costly
    else if bytes_eq name (codes "l") then Err (codes "l: file too long")
    else Err (name ++ codes ": no such file")

abbrev library : Library
library = record { reads = read; is_long = λ name. bytes_eq name (codes "l"); unread = λ name number. None }

abbrev begun : Standing
begun = start (shown_as (codes "N")) (record { text = codes "a1" ∷ codes "b" ∷ []; spans = first_characters (codes "a1" ∷ codes "b" ∷ []) })

abbrev run : List ℕ → Answer
run script = script_session library begun script

-- a syntax is in force until the next one; of one that is refused none is told, and the run goes on
until_the_next : (run (codes "S s2\nS s3\n1p\n")).text ≡ codes "@1\n1:1-1 Z Z\n2:1-1 Z Z\n@2 ? 2 s3: no such file\n@3\n1:1-1 Z Z\n"
unfolding chars encode is_utf8 digits
until_the_next = refl

and_is_refused : (run (codes "S s2\nS s3\n1p\n")).stands.refused ≡ true
unfolding chars encode is_utf8 digits
and_is_refused = refl

-- of a syntax that shows the same no line is told, though its file is another one
shows_the_same : (run (codes "S s\nS s2\n1d\nS s2\nS s\n")).text ≡ codes "@1\n@2\n1:1-1 Z Z\n2:1-1 Z Z\n@3\n@4\n@5\n1:1-1 N N\n"
unfolding chars encode is_utf8 digits
shows_the_same = refl

none_is_refused : (run (codes "S s\nS s2\n1d\nS s2\nS s\n")).stands.refused ≡ false
unfolding chars encode is_utf8 digits
none_is_refused = refl

-- a file that is too long is marked, and stays so behind other commands
long_is_marked : (run (codes "S s2\nS l\nS s\n")).stands.met_long ≡ true
unfolding chars encode is_utf8 digits
long_is_marked = refl

absent_is_not : (run (codes "S s2\nS s3\nS costly\n")).stands.met_long ≡ false
unfolding chars encode is_utf8 digits
absent_is_not = refl

-- a syntax whose painting of the text is refused isn't in force
paints_nothing : (run (codes "S s2\nS costly\n2p\n")).text ≡ codes "@1\n1:1-1 Z Z\n2:1-1 Z Z\n@2 ? 2 too costly\n@3\n2:1-1 Z Z\n"
unfolding chars encode is_utf8 digits
paints_nothing = refl

-- the names that a script asks for, those that are refused too
names_asked : (run (codes "S s2\n9d\nS s3\n")).asked ≡ codes "s2" ∷ codes "s3" ∷ []
unfolding chars encode is_utf8 digits
names_asked = refl

-- each syntax whose file is accepted may paint the text, as it is then
costs_the_text : script_costs library begun (codes "S s2\nS s3\nS costly\n1d\nS s\n") ≡ 7
unfolding chars encode is_utf8 digits
costs_the_text = refl
