use Rattle.std.proofs.Common.{◌≡◌, ◌-◌, ◌≤◌, length, take}
use Rattle.syn_base.specs.Outside.{appended}
use Rattle.syn_base.proofs.writing.put_all.Given as goal

-- the first `done` bytes were appended, and no write failed
abbrev pub invariant-loop-done : goal.invariant-loop-done
invariant-loop-done g l = record {
  within : l.done ≤ length l.bytes;
  so_far : g.O.Sink.written l.sink ≡ appended (g.O.Sink.written l.initial.sink) (take l.done l.bytes);
  unfailed : g.O.Sink.faults l.sink ≡ g.O.Sink.faults l.initial.sink;
}

abbrev pub decreases-loop-done : goal.decreases-loop-done
decreases-loop-done g l = length l.bytes - l.done
