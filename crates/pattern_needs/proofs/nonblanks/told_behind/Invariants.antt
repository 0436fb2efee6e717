use Rattle.std.proofs.Common.{◌≡◌, ◌+◌, ℕ, true}
use Rattle.vim_pattern.specs.Shape.{bare, one, seq}
use Rattle.vim_pattern.specs.Parted.{node_count}
use Rattle.pattern_items.specs.declared.atom.Atom.TheVariants.{LineStart}
use Rattle.pattern_needs.specs.Fronts.{front}
use Rattle.pattern_needs.specs.Nonblanks.{Leads}
use Rattle.pattern_needs.specs.declared.nonblanks.Counted.{Counted}
use Rattle.pattern_needs.proofs.nonblanks.told_behind.Given as goal

abbrev pub decreases-loop-rest : goal.decreases-loop-rest
decreases-loop-rest l = node_count (bare l.rest)

-- where the rest leads from what is known, or the first pieces of it, there the whole does from a line's
-- start, or as many pieces more of it
abbrev pub invariant-loop-rest : goal.invariant-loop-rest
invariant-loop-rest l = record {
  begins : l.initial.known.none ≡ true;
  fronts : (r : Counted) (k n : ℕ) → n ≡ l.number + k → Leads l.by.sets.now l.by.ignore (front (bare l.rest) k) l.known r →
      Leads l.by.sets.now l.by.ignore (front (seq (one LineStart) (bare l.node)) n) l.initial.known r;
  whole : (r : Counted) → Leads l.by.sets.now l.by.ignore (bare l.rest) l.known r → Leads l.by.sets.now l.by.ignore (seq (one LineStart) (bare l.node)) l.initial.known r;
}
