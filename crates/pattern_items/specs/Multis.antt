-- Multis of several characters (Vim's help, /\{ and /\@=). In each definition `n` characters have
-- been read.
use Rattle.std.specs.Prelude.{ℕ, ◌==◌, ◌+◌, nat_eq, nat_lt, List, [], ◌∷◌, Option, Some, None, Bool, true, false, if◌then◌else◌, unwrap_or}
use Rattle.pattern_items.specs.declared.item.Times.{Times}
use Rattle.pattern_items.specs.declared.item.Behind.{Behind}
use Rattle.pattern_items.specs.declared.item.Behind.TheVariants.{Any, Most}
use Rattle.pattern_items.specs.declared.item.Multi.{Multi}
use Rattle.pattern_items.specs.declared.item.Multi.TheVariants.{Count, Ahead, Before, Whole}
use Rattle.pattern_items.specs.declared.item.Raw.TheVariants as raw
use Rattle.pattern_items.specs.declared.item.Spelled.{Spelled}
use Rattle.pattern_items.specs.declared.cause.PatternCause.TheVariants as cause
use Rattle.pattern_items.specs.Numbers.{Digits, digits}
use Rattle.pattern_items.specs.Characters.{char}

abbrev pub bad_count : ℕ → Spelled
bad_count n = record { raw = raw.Wrong cause.BadCount; len = n }

abbrev pub multi : Multi → ℕ → Spelled
multi m n = record { raw = raw.Multi m; len = n }

-- The counts in braces: `{n,m}`, `{n}`, `{n,}`, `{,m}`, `{}`, and the same with `-` after the
-- brace, lazy. `{,}` isn't one.
-- The closing brace may have a backslash. The greater number counts as the most.

abbrev pub times : ℕ → Option ℕ → Bool → Times
times least None lazy = record { least = least; most = None; lazy = lazy }
times least (Some most) lazy =
    if nat_lt most least then record { least = most; most = Some least; lazy = lazy }
    else record { least = least; most = Some most; lazy = lazy }

abbrev pub count : ℕ → Option ℕ → Bool → Multi
count least most lazy = Count (times least most lazy)

-- how many characters close the braces here
abbrev pub bare_brace : List ℕ → Option ℕ
bare_brace [] = None
bare_brace (c ∷ cs) = if c == char "}" then Some 2 else None

abbrev pub brace_end : List ℕ → Option ℕ
brace_end [] = None
brace_end (c ∷ cs) =
    if c == char "}" then Some 1
    else if c == char "\\" then bare_brace cs
    else None

abbrev pub closed : ℕ → Multi → Option ℕ → Spelled
closed n m None = bad_count n
closed n m (Some k) = multi m (n + k)

-- behind a comma: no digits are no limit, if there was a least count
abbrev pub without_most : ℕ → Option ℕ → Bool → Option ℕ → Spelled
without_most n None lazy end = bad_count n
without_most n (Some least) lazy end = closed n (count least None lazy) end

abbrev pub with_most : ℕ → Option ℕ → Bool → Digits → Spelled
with_most n least lazy d = elim (nat_eq d.count 0) [
  | true ↦ without_most n least lazy (brace_end d.rest)
  | false ↦ elim d.value [
    | None ↦ bad_count n
    | Some most ↦ closed (n + d.count) (count (unwrap_or least 0) (Some most) lazy) (brace_end d.rest)
  ]
]

-- without a comma the one number is both counts, and with none there is no limit
abbrev pub alone : Option ℕ → Bool → Multi
alone None lazy = count 0 None lazy
alone (Some least) lazy = count least (Some least) lazy

abbrev pub with_comma : ℕ → Option ℕ → Bool → List ℕ → Spelled
with_comma n least lazy [] = bad_count n
with_comma n least lazy (c ∷ cs) = elim (c == char ",") [
  | true ↦ with_most (n + 1) least lazy (digits cs)
  | false ↦ closed n (alone least lazy) (brace_end (c ∷ cs))
]

abbrev pub with_least : ℕ → Bool → Digits → Spelled
with_least n lazy d = elim (nat_eq d.count 0) [
  | true ↦ with_comma n None lazy d.rest
  | false ↦ elim d.value [
    | None ↦ bad_count n
    | Some least ↦ with_comma (n + d.count) (Some least) lazy d.rest
  ]
]

-- what follows the brace
abbrev pub braces : ℕ → List ℕ → Spelled
braces n [] = bad_count n
braces n (c ∷ cs) = elim (c == char "-") [
  | true ↦ with_least (n + 1) true (digits cs)
  | false ↦ with_least n false (digits (c ∷ cs))
]

-- The looks: `@=`, `@!`, `@>`, `@<=`, `@<!`, and the last two with a number before the `<`.

abbrev pub look_behind : ℕ → Behind → List ℕ → Spelled
look_behind n limit [] = bad_count n
look_behind n limit (c ∷ cs) =
    if c == char "=" then multi (Before false limit) (n + 1)
    else if c == char "!" then multi (Before true limit) (n + 1)
    else bad_count n

abbrev pub limited_by : ℕ → ℕ → List ℕ → Spelled
limited_by n most [] = bad_count n
limited_by n most (c ∷ cs) =
    if c == char "<" then look_behind (n + 1) (Most most) cs
    else bad_count n

abbrev pub limited : ℕ → Option ℕ → List ℕ → Spelled
limited n None cs = bad_count n
limited n (Some most) cs = limited_by n most cs

abbrev pub numbered : ℕ → Digits → Spelled
numbered n d = elim (nat_eq d.count 0) [
  | true ↦ bad_count n
  | false ↦ limited (n + d.count) d.value d.rest
]

-- what follows the `@`
abbrev pub look : ℕ → List ℕ → Spelled
look n [] = bad_count n
look n (c ∷ cs) =
    if c == char "=" then multi (Ahead false) (n + 1)
    else if c == char "!" then multi (Ahead true) (n + 1)
    else if c == char ">" then multi Whole (n + 1)
    else if c == char "<" then look_behind (n + 1) Any cs
    else numbered n (digits (c ∷ cs))
