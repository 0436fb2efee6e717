-- The lines that tell why a syntax file isn't read: it is refused, or it, or a file that it asks for,
-- can't be had. Names are characters and stand as UTF-8.
use Rattle.std.specs.Prelude.{ℕ, zero, suc, List, [], ◌++◌, codes, decimal, encode_utf8_all}
use Rattle.syn_words.specs.declared.cause.Cause.{Cause}
use Rattle.syn_words.specs.declared.cause.Cause.TheVariants.{TooLongFile}
use Rattle.cause_print.specs.declared.lines.FileFault.{FileFault}
use Rattle.cause_print.specs.declared.lines.FileFault.TheVariants.{Missing, Unread, TooLong}
use Rattle.cause_print.specs.CauseText.{cause_bytes}

-- a line of a file, from 1, before what is told of it
abbrev pub place_text : List ℕ → ℕ → List ℕ
place_text file line = encode_utf8_all file ++ codes ":" ++ decimal line ++ codes ": "

-- the command that asked for a file; line 0 says that none did
abbrev pub asker_text : List ℕ → ℕ → List ℕ
asker_text file zero = []
asker_text file (suc line) = place_text file (suc line)

-- what follows the name of a file that can't be had
abbrev pub file_fault : FileFault → List ℕ
file_fault Missing = codes ": no such file"
file_fault Unread = codes ": read failed"
file_fault TooLong = codes ": file too long"

-- a file of this name can't be had; the line of the file asked for it
abbrev pub file_fault_text : List ℕ → ℕ → List ℕ → FileFault → List ℕ
file_fault_text file line name fault = asker_text file line ++ encode_utf8_all name ++ file_fault fault ++ codes "\n"

-- a syntax file is refused at this line; one that is too long is told by its own name
abbrev pub refused_text : List ℕ → ℕ → Cause → List ℕ
refused_text file line (TooLongFile name) = file_fault_text file line name TooLong
refused_text file line cause = place_text file line ++ cause_bytes cause ++ codes "\n"
