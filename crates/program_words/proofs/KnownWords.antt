-- Words, and what they ask.
use Rattle.std.proofs.Common.{◌≡◌, ℕ, Bool, List, true, false, [], ◌∷◌, refl}
use Rattle.std.specs.Prelude.{codes, Some, None}
use Rattle.program_words.specs.declared.words.Asked.TheVariants.{Edit, Large, Print}
use Rattle.program_words.specs.declared.words.Printing.TheVariants.{Check, Folds, Html, Spans}
use Rattle.program_words.specs.Given.{CheckWords, LargeWords, PaintWords}
use Rattle.program_words.specs.Words.{asked_of, budget_of, close_of, conceal_of, lines_of, seed_of}

abbrev checked : List ℕ → List ℕ → Bool → CheckWords
checked syntax folder fromstart = record { syntax = syntax; folder = folder; assume_fromstart = fromstart }

abbrev painted : CheckWords → List ℕ → ℕ → PaintWords
painted syntax text budget = record { syntax = syntax; text = text; budget = budget; conceal = 0 }

abbrev plain : CheckWords
plain = checked (codes "s") (codes ".") false

two_names : asked_of (codes "spans" ∷ codes "s" ∷ codes "t" ∷ []) ≡ Some (Print (Spans (painted plain (codes "t") 1000000)))
two_names = refl

-- behind `--` each word is a name
behind_dashes : asked_of (codes "spans" ∷ codes "--" ∷ codes "-s" ∷ codes "--" ∷ []) ≡ Some (Print (Spans (painted (checked (codes "-s") (codes ".") false) (codes "--") 1000000)))
behind_dashes = refl

dashes_behind_a_name : asked_of (codes "spans" ∷ codes "s" ∷ codes "--" ∷ codes "t" ∷ []) ≡ None
dashes_behind_a_name = refl

a_budget : asked_of (codes "spans" ∷ codes "--budget=12" ∷ codes "--assume-fromstart" ∷ codes "s" ∷ codes "t" ∷ []) ≡ Some (Print (Spans (painted (checked (codes "s") (codes ".") true) (codes "t") 12)))
a_budget = refl

the_greatest_budget : budget_of (codes "1000000000") ≡ Some 1000000000
the_greatest_budget = refl

one_more : budget_of (codes "1000000001") ≡ None
one_more = refl

no_budget : budget_of (codes "0") ≡ None
no_budget = refl

a_leading_zero : budget_of (codes "01") ≡ None
a_leading_zero = refl

no_digits : budget_of [] ≡ None
no_digits = refl

no_digit : budget_of (codes "1a") ≡ None
no_digit = refl

a_budget_twice : asked_of (codes "spans" ∷ codes "--budget=1" ∷ codes "--budget=1" ∷ codes "s" ∷ codes "t" ∷ []) ≡ None
a_budget_twice = refl

numbered_spans : asked_of (codes "spans" ∷ codes "--number" ∷ codes "s" ∷ codes "t" ∷ []) ≡ None
numbered_spans = refl

a_page : asked_of (codes "html" ∷ codes "--no-pre" ∷ codes "--number" ∷ codes "s" ∷ codes "t" ∷ []) ≡ Some (Print (Html (record { painting = painted plain (codes "t") 1000000; number = true; pre = false })))
a_page = refl

a_plain_page : asked_of (codes "html" ∷ codes "s" ∷ codes "t" ∷ []) ≡ Some (Print (Html (record { painting = painted plain (codes "t") 1000000; number = false; pre = true })))
a_plain_page = refl

one_name : asked_of (codes "check" ∷ codes "s" ∷ []) ≡ Some (Print (Check plain))
one_name = refl

both_options : asked_of (codes "check" ∷ codes "--folder=a" ∷ codes "--assume-fromstart" ∷ codes "--" ∷ codes "--" ∷ [])
    ≡ Some (Print (Check (checked (codes "--") (codes "a") true)))
both_options = refl

empty_folder : asked_of (codes "check" ∷ codes "--folder=" ∷ codes "s" ∷ []) ≡ None
empty_folder = refl

folder_twice : asked_of (codes "check" ∷ codes "--folder=a" ∷ codes "--folder=a" ∷ codes "s" ∷ []) ≡ None
folder_twice = refl

option_behind_a_name : asked_of (codes "check" ∷ codes "s" ∷ codes "--assume-fromstart" ∷ []) ≡ None
option_behind_a_name = refl

no_name : asked_of (codes "check" ∷ codes "--" ∷ []) ≡ None
no_name = refl

empty_name : asked_of (codes "check" ∷ codes "--" ∷ [] ∷ []) ≡ None
empty_name = refl

a_budget_of_check : asked_of (codes "check" ∷ codes "--budget=2" ∷ codes "s" ∷ []) ≡ None
a_budget_of_check = refl

one_dash : asked_of (codes "check" ∷ codes "-" ∷ codes "s" ∷ []) ≡ None
one_dash = refl

-- a session of edits has what a page has
a_session : asked_of (codes "edit" ∷ codes "--number" ∷ codes "s" ∷ codes "t" ∷ []) ≡ Some (Edit (record { painting = painted plain (codes "t") 1000000; number = true; pre = true }))
a_session = refl

a_session_of_one_name : asked_of (codes "edit" ∷ codes "s" ∷ []) ≡ None
a_session_of_one_name = refl

abbrev drawn : ℕ → ℕ → ℕ → LargeWords
drawn seed lines budget = record { seed = seed; lines = lines; budget = budget }

large_of_no_seed : asked_of (codes "large" ∷ codes "0" ∷ codes "2" ∷ []) ≡ Some (Large (drawn 0 2 1000000))
large_of_no_seed = refl

the_greatest_numbers : asked_of (codes "large" ∷ codes "--budget=7" ∷ codes "4294967295" ∷ codes "100000" ∷ []) ≡ Some (Large (drawn 4294967295 100000 7))
the_greatest_numbers = refl

a_seed_more : seed_of (codes "4294967296") ≡ None
a_seed_more = refl

a_seed_with_a_zero : seed_of (codes "00") ≡ None
a_seed_with_a_zero = refl

a_line_more : lines_of (codes "100001") ≡ None
a_line_more = refl

no_line : lines_of (codes "0") ≡ None
no_line = refl

a_seed_alone : asked_of (codes "large" ∷ codes "7" ∷ []) ≡ None
a_seed_alone = refl

a_large_page : asked_of (codes "large" ∷ codes "--no-pre" ∷ codes "7" ∷ codes "2000" ∷ []) ≡ None
a_large_page = refl

a_large_folder : asked_of (codes "large" ∷ codes "--folder=a" ∷ codes "7" ∷ codes "2000" ∷ []) ≡ None
a_large_folder = refl

a_large_sync : asked_of (codes "large" ∷ codes "--assume-fromstart" ∷ codes "7" ∷ codes "2000" ∷ []) ≡ None
a_large_sync = refl

-- folds, and where they are closed
listed_folds : asked_of (codes "folds" ∷ codes "--budget=3" ∷ codes "s" ∷ codes "t" ∷ []) ≡ Some (Print (Folds (record { painting = painted plain (codes "t") 3; close = None })))
listed_folds = refl

closed_folds : asked_of (codes "folds" ∷ codes "--close=0" ∷ codes "s" ∷ codes "t" ∷ []) ≡ Some (Print (Folds (record { painting = painted plain (codes "t") 1000000; close = Some 0 })))
closed_folds = refl

the_greatest_close : close_of (codes "20") ≡ Some 20
the_greatest_close = refl

a_close_more : close_of (codes "21") ≡ None
a_close_more = refl

a_close_with_a_zero : close_of (codes "01") ≡ None
a_close_with_a_zero = refl

no_close : asked_of (codes "folds" ∷ codes "--close=" ∷ codes "s" ∷ codes "t" ∷ []) ≡ None
no_close = refl

closed_twice : asked_of (codes "folds" ∷ codes "--close=1" ∷ codes "--close=1" ∷ codes "s" ∷ codes "t" ∷ []) ≡ None
closed_twice = refl

numbered_folds : asked_of (codes "folds" ∷ codes "--number" ∷ codes "s" ∷ codes "t" ∷ []) ≡ None
numbered_folds = refl

closed_spans : asked_of (codes "spans" ∷ codes "--close=1" ∷ codes "s" ∷ codes "t" ∷ []) ≡ None
closed_spans = refl

a_closed_page : asked_of (codes "html" ∷ codes "--close=1" ∷ codes "s" ∷ codes "t" ∷ []) ≡ None
a_closed_page = refl

-- concealing
abbrev concealed : PaintWords → ℕ → PaintWords
concealed words level = record words { conceal = level }

concealed_spans : asked_of (codes "spans" ∷ codes "--conceal=2" ∷ codes "s" ∷ codes "t" ∷ []) ≡ Some (Print (Spans (concealed (painted plain (codes "t") 1000000) 2)))
concealed_spans = refl

a_concealed_page : asked_of (codes "html" ∷ codes "--conceal=3" ∷ codes "--number" ∷ codes "s" ∷ codes "t" ∷ []) ≡ Some (Print (Html (record { painting = concealed (painted plain (codes "t") 1000000) 3; number = true; pre = true })))
a_concealed_page = refl

at_no_level : asked_of (codes "spans" ∷ codes "--conceal=0" ∷ codes "s" ∷ codes "t" ∷ []) ≡ asked_of (codes "spans" ∷ codes "s" ∷ codes "t" ∷ [])
at_no_level = refl

the_greatest_level : conceal_of (codes "3") ≡ Some 3
the_greatest_level = refl

a_level_more : conceal_of (codes "4") ≡ None
a_level_more = refl

a_level_with_a_zero : asked_of (codes "spans" ∷ codes "--conceal=02" ∷ codes "s" ∷ codes "t" ∷ []) ≡ None
a_level_with_a_zero = refl

no_level : asked_of (codes "spans" ∷ codes "--conceal=" ∷ codes "s" ∷ codes "t" ∷ []) ≡ None
no_level = refl

concealed_twice : asked_of (codes "html" ∷ codes "--conceal=1" ∷ codes "--conceal=1" ∷ codes "s" ∷ codes "t" ∷ []) ≡ None
concealed_twice = refl

concealed_check : asked_of (codes "check" ∷ codes "--conceal=1" ∷ codes "s" ∷ []) ≡ None
concealed_check = refl

a_concealed_session : asked_of (codes "edit" ∷ codes "--conceal=1" ∷ codes "s" ∷ codes "t" ∷ []) ≡ None
a_concealed_session = refl

concealed_folds : asked_of (codes "folds" ∷ codes "--conceal=1" ∷ codes "s" ∷ codes "t" ∷ []) ≡ None
concealed_folds = refl

concealed_large : asked_of (codes "large" ∷ codes "--conceal=1" ∷ codes "7" ∷ codes "2000" ∷ []) ≡ None
concealed_large = refl
