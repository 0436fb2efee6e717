-- What a command does lies in the text, where its addresses do.
use Rattle.std.proofs.Common.{◌≡◌, ℕ, ◌-◌, ◌<◌, ◌≤◌, Bool, true, false, arith}
use Rattle.std.specs.Prelude.{nat_le, nat_lt, ◌&&◌}
use Rattle.std.proofs.lemmas.Bool.{le-leb, ltb-false}
use Rattle.edit_script.specs.declared.commands.Verb.{Verb}
use Rattle.edit_script.specs.declared.commands.Verb.TheVariants.{Append, Insert, Change, Delete, Move, CopyTo, Print, Ex, Page, Folds, Syntax}
use Rattle.edit_script.specs.Edits.{IsWithin, least_line}
use Rattle.edit_script.specs.Resolving.{is_into_self, resolved_at}

not_both : (is other : Bool) → is ≡ true → (is && other) ≡ false → other ≡ false
not_both true other is none = none
not_both false other is none = absurd (cc)

-- lines that don't come between two of their own come before them or behind the last
outside_self : (first last dest : ℕ) → 1 ≤ first → (nat_le first dest && nat_lt dest last) ≡ false → first - 1 < dest → last ≤ dest
outside_self first last dest some none before =
    ltb-false dest last (not_both (nat_le first dest) (nat_lt dest last) (le-leb first dest (omega arith)) none)

pub lies_within : (verb : Verb) (first last dest count : ℕ) → least_line verb ≤ first → first ≤ last → last ≤ count → dest ≤ count → is_into_self verb first last dest ≡ false → IsWithin (resolved_at verb first last dest) count
lies_within Append first last dest count least range within to none = (omega arith, within)
lies_within Insert first last dest count least range within to none = (omega arith, omega arith)
lies_within Change first last dest count least range within to none = (omega arith, within)
lies_within Delete first last dest count least range within to none = (omega arith, within)
lies_within (Move line) first last dest count least range within to none = (omega arith, within, to, outside_self first last dest least none)
lies_within (CopyTo line) first last dest count least range within to none = (omega arith, within, to)
lies_within Print first last dest count least range within to none = (omega arith, within)
lies_within (Ex text) first last dest count least range within to none = (omega arith, within)
lies_within Page first last dest count least range within to none = tt
lies_within Folds first last dest count least range within to none = tt
lies_within (Syntax name) first last dest count least range within to none = tt
