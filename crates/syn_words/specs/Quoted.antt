-- A pattern between its delimiters, with its offsets.
use Rattle.std.specs.Prelude.{ℕ, List, [], ◌∷◌, Option, Some, None, if◌then◌else◌, Ok, Err}
use Rattle.syn_words.specs.declared.cause.Cause.TheVariants.{NoPattern, NoDelimiter, BadOffset}
use Rattle.word_reader.specs.declared.offsets.Adjusts.{Adjusts}
use Rattle.syn_words.specs.declared.what.Quoted.{Quoted}
use Rattle.syn_words.specs.Answers.{Read}
use Rattle.word_reader.specs.Delimited.{can_delimit, delimited}
use Rattle.word_reader.specs.Offsets.{offsets}

abbrev pub quoted_of : List ℕ → Adjusts → Quoted
quoted_of text a = record { text = text; ms = a.ms; me = a.me; hs = a.hs; he = a.he; rs = a.rs; re = a.re; lc = a.lc }

abbrev pub with_offsets : List ℕ → Option (Adjusts × List ℕ) → Read Quoted
with_offsets text None = Err BadOffset
with_offsets text (Some p) = Ok (quoted_of text p.0, p.1)

abbrev pub quoted_from : Option (List ℕ × List ℕ) → Read Quoted
quoted_from None = Err NoDelimiter
quoted_from (Some p) = with_offsets p.0 (offsets p.1)

-- the pattern that begins here
abbrev pub quoted : List ℕ → Read Quoted
quoted [] = Err NoPattern
quoted (c ∷ cs) = if can_delimit c then quoted_from (delimited c cs) else Err NoPattern
