-- The matches that a substitution replaces (Vim's help, :s): a list of matches on the text as it is.
use Rattle.std.specs.Prelude.{ℕ, suc, zero, ◌+◌, ◌-◌, nat_eq, nat_lt, ◌&&◌, not, Bool, true, List, [], ◌∷◌, ◌++◌, Option, Some, None, length, Result, Ok, if◌then◌else◌}
use Rattle.syn_base.specs.declared.places.Place.{Place}
use Rattle.match_rules.specs.Ways.{Text, place, is_after, is_same_place, behind_character}
use Rattle.pattern_match.specs.declared.answer.Match.{Match}
use Rattle.ex_substitute.specs.declared.error.ExError.{ExError}
use Rattle.ex_substitute.specs.declared.searching.Scope.{Scope}
use Rattle.ex_substitute.specs.Answers.{◌>>=◌}
use Rattle.ex_substitute.specs.Trying.{Trial, Counts, first_of, places_in, places_of}

-- Which matches are taken.

-- it takes nothing
abbrev pub is_empty : Match → Bool
is_empty m = is_same_place m.from m.to

-- it begins at or after the end of the last replacement, if there is one; one that takes nothing begins after it
abbrev pub is_behind : Option Place → Match → Bool
is_behind None m = true
is_behind (Some end) m = not (is_after end m.from) && not (is_empty m && is_same_place m.from end)

-- it begins in the line of the attempt, and behind the last replacement
abbrev pub is_taken : Option Place → Counts
is_taken end p m = nat_eq m.from.line p.line && is_behind end m

-- Where the search goes on; nowhere, if it is over.

-- the begin of a line, if it is one of the range
abbrev pub line_from : Scope → ℕ → Option Place
line_from scope line = if nat_lt line scope.b then Some (place line 0) else None

-- a column further, if a match takes nothing
abbrev pub place_after : Match → Place
place_after m = if is_empty m then behind_character m.to else m.to

-- it ends in a later line than it begins in, and that is one of the range
abbrev pub ends_later : Scope → Match → Bool
ends_later scope m = nat_lt m.from.line m.to.line && nat_lt m.to.line scope.b

-- With flag `g` it goes on in the line in which the match ends, even past the range, unless that is the line behind the last.
-- Without it does so where the match ends in a later line of the range, and else goes on in the line behind.
abbrev pub next_after : Text → Scope → Match → Option Place
next_after text scope m =
    if scope.all then (if nat_lt m.to.line (length text) then Some (place_after m) else None)
    else if ends_later scope m then Some m.to
    else line_from scope (m.to.line + 1)

-- the places that are tried from there on: those of the rest of the line, then those of the later lines of the range
abbrev pub places_from : Text → Scope → Option Place → List Place
places_from text scope None = []
places_from text scope (Some p) = places_in text p.line p.col ++ places_of text (p.line + 1) (scope.b - (p.line + 1))

-- The matches.

-- those that are found from a place on, behind the last replacement. `room` bounds how many there are
abbrev pub found_from : Trial → Scope → ℕ → Option Place → Option Place → Result (List Match) ExError
found_from t scope zero end at = Ok []
found_from t scope (suc room) end at =
    first_of t (is_taken end) (places_from t.x.text scope at) >>= λ found. elim found [
      | None ↦ Ok []
      | Some m ↦ (found_from t scope room (Some m.to) (next_after t.x.text scope m) >>= λ more. Ok (m ∷ more))
    ]

-- how many places a text has; each match but the first ends at a place behind the end of the one before
abbrev pub places_count : Text → ℕ
places_count [] = 1
places_count (line ∷ text) = length line + 1 + places_count text

-- those of the lines from `a` on
abbrev pub replacements : Trial → Scope → ℕ → Result (List Match) ExError
replacements t scope a = found_from t scope (places_count t.x.text + 1) None (line_from scope a)
