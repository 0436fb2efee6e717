use Rattle.std.proofs.Common.{◌≡◌, ◌≤◌, ℕ, Bool, ap, sym, arith, subst}
use Rattle.char_class.specs.declared.sets.Sets.{Sets}
use Rattle.vim_pattern.specs.Shape.{bare, one}
use Rattle.vim_pattern.specs.Parted.{node_count}
use Rattle.vim_pattern.specs.declared.node.Node.{Node}
use Rattle.pattern_needs.specs.Endings.{IsAmong, LeadsAmong}
use Rattle.pattern_needs.specs.declared.characters.Characters.{Characters}
use Rattle.pattern_needs.proofs.EndingLaws.{leads-all, leads-blanks, leads-group, leads-or, leads-seq, leads-wider}
use Rattle.pattern_needs.proofs.ending.+last.Goals as goal

-- the same node
same : (sets : Sets) (ignore : Bool) (m n : Node) (s r : Characters) → m ≡ n → LeadsAmong sets ignore (bare m) s r → LeadsAmong sets ignore (bare n) s r
same sets ignore m n s r e h = subst (λ k. LeadsAmong sets ignore (bare k) s r) e h

-- what is left of a node is no larger than that
smaller : (rest n b next : Node) (whole : ℕ) → rest ≡ n → next ≡ b → node_count (bare b) ≤ node_count (bare n) → node_count (bare rest) ≤ whole → node_count (bare next) ≤ whole
smaller rest n b next whole e f h k =
    let one = ap (λ (m : Node). node_count (bare m)) e in
    let other = ap (λ (m : Node). node_count (bare m)) f in
    omega (arith, one, other, h, k)

pub behind-returns-in-One : goal.behind-returns-in-One
behind-returns-in-One t c = same c.args.by.now.sets.now c.args.by.now.ignore _ _ c.args.from c.behind_atom.result (sym c.in-One.is) c.behind_atom.ensures

pub behind-returns-in-Seq : goal.behind-returns-in-Seq
behind-returns-in-Seq t c =
    let sets = c.args.by.now.sets.now in
    let ignore = c.args.by.now.ignore in
    let first = same sets ignore _ _ c.args.from c.behind.result c.deref-in-Seq.ensures c.behind.ensures in
    let rest = same sets ignore _ _ c.behind.result c.behind_pieces.result c.deref.ensures c.behind_pieces.ensures in
    same sets ignore _ _ c.args.from c.behind_pieces.result (sym c.in-Seq.is) (leads-seq sets ignore (bare c.in-Seq.a.value) (bare c.in-Seq.b.value) c.args.from c.behind.result c.behind_pieces.result first rest)

pub behind-returns-in-Or : goal.behind-returns-in-Or
behind-returns-in-Or t c =
    let sets = c.args.by.now.sets.now in
    let ignore = c.args.by.now.ignore in
    let first = same sets ignore _ _ c.args.from c.behind-in-Or.result c.deref-in-Or.ensures c.behind-in-Or.ensures in
    let wider = leads-wider sets ignore (bare c.in-Or.a.value) c.args.from c.behind-in-Or.result c.behind_branches.result c.behind_branches.ensures.wider first in
    let rest = same sets ignore _ _ c.args.from c.behind_branches.result c.deref-in-Or-2.ensures c.behind_branches.ensures.leads in
    same sets ignore _ _ c.args.from c.behind_branches.result (sym c.in-Or.is) (leads-or sets ignore (bare c.in-Or.a.value) (bare c.in-Or.b.value) c.args.from c.behind_branches.result wider rest)

pub behind-returns-in-Group : goal.behind-returns-in-Group
behind-returns-in-Group t c =
    let sets = c.args.by.now.sets.now in
    let ignore = c.args.by.now.ignore in
    let part = same sets ignore _ _ c.args.from c.behind-in-Group.result c.deref-in-Group.ensures c.behind-in-Group.ensures in
    same sets ignore _ _ c.args.from c.behind-in-Group.result (sym c.in-Group.is) (leads-group sets ignore (bare c.in-Group.a.value) c.in-Group.field-1 c.args.from c.behind-in-Group.result part)

pub behind-returns-then-is_blank_part : goal.behind-returns-then-is_blank_part
behind-returns-then-is_blank_part t c =
    let sets = c.args.by.now.sets.now in
    let ignore = c.args.by.now.ignore in
    let is = subst (λ (n : Node). bare n ≡ one _) c.deref-in-Repeat.ensures (c.is_blank_part.ensures c.if-is_blank_part.true) in
    same sets ignore _ _ c.args.from c.args.from (sym c.in-Repeat.is) (leads-blanks sets ignore (bare c.in-Repeat.part.value) c.in-Repeat.least _ c.in-Repeat.lazy c.args.from is)

pub behind-returns-else-is_blank_part : goal.behind-returns-else-is_blank_part
behind-returns-else-is_blank_part t c = leads-all c.args.by.now.sets.now c.args.by.now.ignore (bare c.args.node.now) c.args.from c.all.result c.all.ensures

pub behind-returns-in_default : goal.behind-returns-in_default
behind-returns-in_default t c = leads-all c.args.by.now.sets.now c.args.by.now.ignore (bare c.args.node.now) c.args.from c.all-in_default.result c.all-in_default.ensures

pub behind_branches-loop-rest-preserved : goal.behind_branches-loop-rest-preserved
behind_branches-loop-rest-preserved t c =
    let sets = c.args.by.now.sets.now in
    let ignore = c.args.by.now.ignore in
    record {
      wider = λ d e. c.either-known.ensures.one d (c.loop-rest.invariant.wider d e);
      leads = λ r wide rest.
          let known : IsAmong c.loop-rest.known r = λ d e. wide d (c.either-known.ensures.one d e) in
          let more : IsAmong c.behind.result r = λ d e. wide d (c.either-known.ensures.other d e) in
          let branch = leads-wider sets ignore (bare c.in-Or.a.value) c.args.from c.behind.result r more (same sets ignore _ _ c.args.from c.behind.result c.deref.ensures c.behind.ensures) in
          let others = same sets ignore _ _ c.args.from r c.deref-rest.ensures rest in
          c.loop-rest.invariant.leads r known (same sets ignore _ _ c.args.from r (sym c.in-Or.is) (leads-or sets ignore (bare c.in-Or.a.value) (bare c.in-Or.b.value) c.args.from r branch others));
      within = smaller _ _ c.in-Or.b.value _ _ c.in-Or.is c.deref-rest.ensures (omega arith) c.loop-rest.invariant.within;
    }

pub behind_branches-returns : goal.behind_branches-returns
behind_branches-returns t c =
    let sets = c.args.by.now.sets.now in
    let ignore = c.args.by.now.ignore in
    record {
      wider = λ d e. c.either.ensures.one d (c.loop-rest.invariant.wider d e);
      leads = c.loop-rest.invariant.leads c.either.result c.either.ensures.one (leads-wider sets ignore (bare c.loop-rest.rest.now) c.args.from c.behind-2.result c.either.result c.either.ensures.other c.behind-2.ensures);
    }

pub behind_pieces-loop-rest-preserved : goal.behind_pieces-loop-rest-preserved
behind_pieces-loop-rest-preserved t c =
    let sets = c.args.by.now.sets.now in
    let ignore = c.args.by.now.ignore in
    record {
      leads = λ r rest.
          let piece = same sets ignore _ _ c.loop-rest.known c.behind-known.result c.deref.ensures c.behind-known.ensures in
          let others = same sets ignore _ _ c.behind-known.result r c.deref-rest.ensures rest in
          c.loop-rest.invariant.leads r (same sets ignore _ _ c.loop-rest.known r (sym c.in-Seq.is) (leads-seq sets ignore (bare c.in-Seq.a.value) (bare c.in-Seq.b.value) c.loop-rest.known c.behind-known.result r piece others));
      within = smaller _ _ c.in-Seq.b.value _ _ c.in-Seq.is c.deref-rest.ensures (omega arith) c.loop-rest.invariant.within;
    }

pub behind_pieces-returns : goal.behind_pieces-returns
behind_pieces-returns t c = c.loop-rest.invariant.leads c.behind.result c.behind.ensures
