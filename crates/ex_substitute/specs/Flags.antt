-- The flags of a substitution (Vim's help, :s_flags): `g`, `i`, `I` and `n`, each at most once.
use Rattle.std.specs.Prelude.{ℕ, nat_eq, Bool, true, false, List, [], ◌∷◌, Option, Some, None, if◌then◌else◌}
use Rattle.ex_substitute.specs.declared.flags.Flags.{Flags}

abbrev pub no_flags : Flags
no_flags = record { all = false; count_only = false; ignores = false; heeds = false; ignore = false }

-- unless the flag stood there before
abbrev pub unless : Bool → Flags → Option Flags
unless stood flags = if stood then None else Some flags

-- the flags with one more; of `i` and `I` the last counts
abbrev pub with_flag : Flags → ℕ → Option Flags
with_flag f c =
    if nat_eq c 103 then unless f.all (record f { all = true })
    else if nat_eq c 110 then unless f.count_only (record f { count_only = true })
    else if nat_eq c 105 then unless f.ignores (record f { ignores = true; ignore = true })
    else if nat_eq c 73 then unless f.heeds (record f { heeds = true; ignore = false })
    else None

abbrev pub flags_after : Flags → List ℕ → Option Flags
flags_after flags [] = Some flags
flags_after flags (c ∷ cs) = elim (with_flag flags c) [ None ↦ None | Some more ↦ flags_after more cs ]

-- the flags of a text that has nothing else
abbrev pub flags_of : List ℕ → Option Flags
flags_of text = flags_after no_flags text
