-- Lines as they are printed.
use Rattle.std.proofs.Common.{◌≡◌, [], ◌∷◌, refl}
use Rattle.std.specs.Prelude.{codes}
use Rattle.std.specs.Fmt.{digits}
use Rattle.std.proofs.Math.Utf8.{encode}
use Rattle.pattern_items.specs.declared.cause.PatternCause.TheVariants as pattern
use Rattle.syn_words.specs.declared.cause.Cause.TheVariants as cause
use Rattle.ex_substitute.specs.declared.error.ExError.TheVariants as error
use Rattle.syn_base.specs.declared.places.Place.{Place}
use Rattle.cause_print.specs.declared.lines.FileFault.TheVariants as fault
use Rattle.cause_print.specs.CauseText.{cause_bytes}
use Rattle.cause_print.specs.CountText.{counts_text}
use Rattle.cause_print.specs.ExCauseText.{ex_cause_text}
use Rattle.cause_print.specs.FaultText.{file_fault_text, refused_text}

-- a command that isn't one, in line 20
unknown : refused_text (codes "s") 20 cause.UnknownCommand ≡ codes "s:20: unknown command\n"
unfolding digits encode
unknown = refl

-- a subcommand that is left out is told as it was written
left_out : cause_bytes (cause.NotInProfile (codes "enclose")) ≡ codes "not in this profile: enclose"
unfolding encode
left_out = refl

-- a pattern's fault at its first character
in_pattern : refused_text (codes "s") 1 (cause.Pattern 0 pattern.ExternalHere) ≡ codes "s:1: pattern: external not allowed here at 1\n"
unfolding digits encode
in_pattern = refl

-- an item that is left out of patterns
tilde : cause_bytes (cause.Pattern 2 (pattern.LeftOut (codes "~"))) ≡ codes "pattern: left out: ~ at 3"
unfolding digits encode
tilde = refl

-- an included file that is absent, and the first file, which no command asked for
absent : file_fault_text (codes "s") 1 (codes "./syntax/sub.vim") fault.Missing ≡ codes "s:1: ./syntax/sub.vim: no such file\n"
unfolding digits encode
absent = refl

first_absent : file_fault_text (codes "s") 0 (codes "s") fault.Missing ≡ codes "s: no such file\n"
unfolding encode
first_absent = refl

-- an included file that is too long
too_long : refused_text (codes "s") 7 (cause.TooLongFile (codes "f")) ≡ codes "s:7: f: file too long\n"
unfolding digits encode
too_long = refl

-- a name beyond ASCII stands as UTF-8
named : file_fault_text (233 ∷ []) 0 (233 ∷ []) fault.Unread ≡ 195 ∷ 169 ∷ codes ": read failed\n"
unfolding encode
named = refl

counts : counts_text 10 7 2 ≡ codes "items 10\nkeywords 7\nclusters 2\n"
unfolding digits
counts = refl

-- causes against a command: in its pattern, in its string, and at a place of the text
command_pattern : ex_cause_text (error.Pattern 1 pattern.NothingToRepeat) ≡ codes "pattern: nothing to repeat at 2"
unfolding digits encode
command_pattern = refl

command_string : ex_cause_text (error.BadReplacement 0) ≡ codes "bad replacement at 1"
unfolding digits
command_string = refl

command_costly : ex_cause_text (error.TooCostly (let p : Place = record { line = 11; col = 0 } in p)) ≡ codes "pattern too costly at line 12, column 1"
unfolding digits
command_costly = refl
