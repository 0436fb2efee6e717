-- The syntax file that the program keeps is accepted by the rules of reading.
use Rattle.std.proofs.Common.{◌≡◌, true, refl}
use Rattle.std.specs.Prelude.{Result, Ok, Err, codes, is_ok}
use Rattle.std.specs.Str.{is_utf8, chars}
use lib.Utf8.{encode}
use Rattle.hi_links.specs.UsualGroups.{usual_groups, with_all_usual}
use Rattle.large_session.specs.MiniSyntax.{mini_syntax}
use Rattle.program_words.specs.Given.{LargeWords}
use Rattle.program_words.specs.Words.{large_page}
use Rattle.syn_reader.specs.declared.syntax.ReadError.{ReadError}
use Rattle.syn_reader.specs.declared.syntax.Syntax.{Syntax}
use Rattle.syn_reader.specs.SyntaxOf.{syntax_of}
use Rattle.vimsyn_cli.specs.Large.{large_files}
use Rattle.vimsyn_cli.specs.Reading.{options_of, syntax_told, with_told}

abbrev read_of : LargeWords → Result Syntax ReadError
read_of words = syntax_of (large_files words) (codes "mini.vim") (options_of ((large_page words).painting).syntax)

pub kept_accepted : (words : LargeWords) → is_ok (read_of words) ≡ true
unfolding mini_syntax is_utf8 chars encode with_all_usual usual_groups
kept_accepted words = refl

syntax_of_read : (read : Result Syntax ReadError) → is_ok read ≡ true → (syntax : Syntax) × (with_told read ≡ Ok syntax)
syntax_of_read (Ok syntax) is = (syntax, refl)
syntax_of_read (Err error) is = absurd cc

pub kept_syntax : (words : LargeWords) → (syntax : Syntax) × (syntax_told ((large_page words).painting).syntax (large_files words) ≡ Ok syntax)
kept_syntax words = syntax_of_read (read_of words) (kept_accepted words)
