-- What the outside answers: a map of files that are read whole, a source whose bytes are taken from
-- the front, a sink that bytes are appended to. What it holds is optional: where it is told, the
-- answer agrees with it.
use Rattle.std.specs.Prelude.{◌≡◌, ℕ, ◌<◌, ◌≤◌, Bool, true, false, List, [], ◌++◌, length, take, Option, Some, None, IfSome, IsSomeAnd, ⊤}
use Rattle.std.specs.Map.{lookup}
use Rattle.std.specs.Str.{bytes_eq}
use Rattle.std.specs.Option.{option_map}
use Rattle.syn_base.specs.declared.outside.Fetched.{Fetched}
use Rattle.syn_base.specs.declared.outside.Fetched.TheVariants.{Whole, Missing, TooLong, Failed, Memory}
use Rattle.syn_base.specs.declared.outside.Taken.{Taken}
use Rattle.syn_base.specs.declared.outside.Taken.TheVariants.{Bytes as Took, Failed as TakeFailed}
use Rattle.syn_base.specs.declared.outside.Put.{Put}
use Rattle.syn_base.specs.declared.outside.Put.TheVariants.{Bytes as Wrote, Failed as PutFailed}

-- files by their names, each a pair of a name's bytes and the file's bytes: of two pairs with one
-- name the first counts
abbrev pub FileMap : Type 0
FileMap = List (List ℕ × List ℕ)

-- the bytes of the file of this name
abbrev pub file_named : FileMap → List ℕ → Option (List ℕ)
file_named files name = lookup (bytes_eq name) files

-- `fetch(name, limit)` answered so, where the files are told: a whole file of at most `limit` bytes,
-- or that there is none of this name, or that it is longer
abbrev pub Fetches : Option FileMap → List ℕ → ℕ → Fetched → Type 0
Fetches told name limit (Whole bytes) =
    (length bytes ≤ limit) × IfSome told (λ files. file_named files name ≡ Some bytes)
Fetches told name limit Missing = IfSome told (λ files. file_named files name ≡ None)
Fetches told name limit TooLong =
    IfSome told (λ files. IsSomeAnd (file_named files name) (λ bytes. limit < length bytes))
Fetches told name limit Failed = ⊤
Fetches told name limit Memory = ⊤

-- which answer of a fetch is the cause of which count
abbrev pub is_failed : Fetched → Bool
is_failed (Whole bytes) = false
is_failed Missing = false
is_failed TooLong = false
is_failed Failed = true
is_failed Memory = false

abbrev pub is_missing : Fetched → Bool
is_missing (Whole bytes) = false
is_missing Missing = true
is_missing TooLong = false
is_missing Failed = false
is_missing Memory = false

abbrev pub is_too_long : Fetched → Bool
is_too_long (Whole bytes) = false
is_too_long Missing = false
is_too_long TooLong = true
is_too_long Failed = false
is_too_long Memory = false

-- `take(buf)` answered so and left `buf`, where the bytes to come are told: the next ones are in the
-- front of the buffer and no longer to come, none only at the end; a failed call takes nothing
abbrev pub Takes : Option (List ℕ) → Option (List ℕ) → List ℕ → Taken → Type 0
Takes before after buf (Took n) =
    (n ≤ length buf)
    × (before ≡ option_map (λ rest. take n buf ++ rest) after)
    × (n ≡ 0 → IfSome after (λ rest. rest ≡ []))
Takes before after buf TakeFailed = after ≡ before

abbrev pub is_failed_take : Taken → Bool
is_failed_take (Took n) = false
is_failed_take TakeFailed = true

-- what a sink holds, where told, after these bytes were appended
abbrev pub appended : Option (List ℕ) → List ℕ → Option (List ℕ)
appended written bytes = option_map (λ before. before ++ bytes) written

-- `put(piece)` answered so: some of the piece, from its front, was appended, or nothing
abbrev pub Puts : Option (List ℕ) → Option (List ℕ) → List ℕ → Put → Type 0
Puts before after piece (Wrote n) =
    (0 < n) × (n ≤ length piece) × (after ≡ appended before (take n piece))
Puts before after piece PutFailed = after ≡ before

abbrev pub is_failed_put : Put → Bool
is_failed_put (Wrote n) = false
is_failed_put PutFailed = true

-- a part of the bytes, from their front, was appended
abbrev pub AppendsPrefix : Option (List ℕ) → Option (List ℕ) → List ℕ → Type 0
AppendsPrefix before after bytes = (n : ℕ) × (after ≡ appended before (take n bytes))
