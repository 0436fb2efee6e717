use Rattle.std.proofs.Common.{◌≡◌, ◌+◌, ◌*◌, ◌++◌, length, suc, Ok}
use Rattle.std.specs.Prelude.{Result}
use Rattle.std.specs.Vec.Iter.{into_iter_items, into_iter_len}
use Rattle.syn_reader.specs.declared.syntax.ReadError.{ReadError}
use Rattle.syn_reader.specs.Answers.{each}
use Rattle.syn_reader.specs.Follows.{Reads}
use Rattle.syn_reader.specs.SoundReading.{IsSoundReading}
use Rattle.syn_reader.specs.SyntaxOf.{with_command, asked_within}
use Rattle.syn_reader.proofs.files.+files.Given as goal

-- by how many files may still be opened, and within one by how far the calls have come
abbrev pub decreases-ask : goal.decreases-ask
decreases-ask g l = 8 * l.how.room

abbrev pub decreases-runtime : goal.decreases-runtime
decreases-runtime g l = 8 * l.how.room + 1

abbrev pub decreases-include : goal.decreases-include
decreases-include g l = 8 * l.how.room + 2

abbrev pub decreases-carry_out : goal.decreases-carry_out
decreases-carry_out g l = 8 * l.how.room + 3

abbrev pub decreases-carry_out_all : goal.decreases-carry_out_all
decreases-carry_out_all g l = 8 * l.how.room + 4

abbrev pub decreases-read_file : goal.decreases-read_file
decreases-read_file g l = 8 * l.how.room + 5

-- an answer without an error
abbrev so_far : Result (Unit {0}) ReadError
so_far = Ok (tt {0})

-- the files are as they were, and the commands so far have made what there is; those to come are the rest
abbrev pub invariant-carry_out_all-loop-command : goal.invariant-carry_out_all-loop-command
invariant-carry_out_all-loop-command g l = record {
  told : g.F.Files.told l.files ≡ g.F.Files.told l.initial.files;
  faults : g.F.Files.faults l.files ≡ g.F.Files.faults l.initial.files;
  misses : g.F.Files.misses l.files ≡ g.F.Files.misses l.initial.files;
  longs : g.F.Files.longs l.files ≡ g.F.Files.longs l.initial.files;
  answer : Reads (g.F.Files.told l.initial.files) (suc l.initial.progress.includes)
      (λ fetch. each (with_command (asked_within l.how.room fetch l.how.options.now) l.how.options.now l.file) l.initial.progress l.yielded) l.progress so_far;
  to_come : l.yielded ++ into_iter_items l.command-iterator ≡ l.fn.found.list;
  fault : l.fault ≡ l.fn.found.fault;
  sound : IsSoundReading l.progress.reading;
  count : into_iter_len l.command-iterator ≡ length (into_iter_items l.command-iterator);
}
