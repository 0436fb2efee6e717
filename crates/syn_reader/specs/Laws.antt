-- A law of reading: what holds of each syntax that the rules give.
use Rattle.std.specs.Prelude.{◌≡◌, ℕ, List, Ok}
use Rattle.syntax_set.specs.NoMarks.{HaveNoMarks}
use Rattle.syn_reader.specs.declared.syntax.ReadOptions.{ReadOptions}
use Rattle.syn_reader.specs.declared.syntax.Syntax.{Syntax}
use Rattle.syn_reader.specs.SyntaxOf.{Fetching, syntax_by}

-- whatever the fetches answer, it names only groups below 20,000
abbrev pub ReadSyntaxesNameNoMarks : Type 0
ReadSyntaxesNameNoMarks =
    (fetch : Fetching) (name : List ℕ) (options : ReadOptions) (syntax : Syntax)
    → syntax_by fetch name options ≡ Ok syntax → HaveNoMarks syntax.items (syntax.clusters).lists
