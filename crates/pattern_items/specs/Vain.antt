-- A search for a closing bracket that was in vain isn't made again: behind it a bracket closes only
-- what begins a class name.
use Rattle.std.specs.Prelude.{◌≡◌, ℕ, ◌==◌, ◌+◌, ◌||◌, List, [], ◌∷◌, Option, Some, None, Bool, true, false, if◌then◌else◌}
use Rattle.pattern_items.specs.Characters.{char}
use Rattle.pattern_items.specs.Collection.{collection_len}

-- how many characters there are up to a `]`, with it, before a backslash or an opening bracket; `n`
-- have been passed
abbrev pub plain_after : ℕ → List ℕ → Option ℕ
plain_after n [] = None
plain_after n (c ∷ cs) =
    if c == char "]" then Some (n + 1)
    else if c == char "\\" || c == char "[" then None
    else plain_after (n + 1) cs

abbrev pub plain_close : List ℕ → Option ℕ
plain_close text = plain_after 0 text

-- where the test says that this is a bracket, only plain characters up to a `]` close it
abbrev pub PlainlyIf : Bool → List ℕ → Type 0
PlainlyIf true cs = collection_len cs ≡ plain_close cs
PlainlyIf false cs = Unit {0}

abbrev pub ClosesPlainly : ℕ → List ℕ → Type 0
ClosesPlainly c cs = PlainlyIf (c == char "[") cs

-- this is so of every bracket of a text
abbrev pub IsVain : List ℕ → Type 0
IsVain [] = Unit {0}
IsVain (c ∷ cs) = ClosesPlainly c cs × IsVain cs

-- what is known of a text: the test says that a search was in vain
abbrev pub Known : Bool → List ℕ → Type 0
Known false text = Unit {0}
Known true text = IsVain text
