-- What `check` prints: how many items, keywords and clusters the syntax of the file has.
use Rattle.std.specs.Prelude.{ℕ, List, length, count_by, Result, Ok}
use Rattle.cause_print.specs.CountText.{counts_text}
use Rattle.program_words.specs.Given.{CheckWords}
use Rattle.syn_base.specs.Outside.{FileMap}
use Rattle.syn_reader.specs.declared.syntax.Syntax.{Syntax}
use Rattle.vimsyn_cli.specs.declared.fault.Fault.{Fault}
use Rattle.vimsyn_cli.specs.Plans.{and_then}
use Rattle.vimsyn_cli.specs.Reading.{syntax_told}

-- live items, kept words and clusters
abbrev pub syntax_counts : Syntax → List ℕ
syntax_counts syntax =
    counts_text (count_by (λ added. added.live) syntax.items) (length syntax.keywords) (length syntax.clusters.lists)

abbrev pub check_told : CheckWords → FileMap → Result (List ℕ) Fault
check_told words files = and_then (syntax_told words files) (λ syntax. Ok (syntax_counts syntax))
