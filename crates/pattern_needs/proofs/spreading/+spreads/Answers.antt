use Rattle.std.proofs.Common.{◌≡◌, ◌≤◌, ◌∙◌, ℕ, Bool, ap, sym, arith, subst}
use Rattle.char_class.specs.declared.sets.Sets.{Sets}
use Rattle.vim_pattern.specs.Shape.{bare, one}
use Rattle.vim_pattern.specs.Parted.{node_count}
use Rattle.vim_pattern.specs.declared.node.Node.{Node}
use Rattle.pattern_needs.specs.Spreads.{IsSpread, over_blanks, or_spreads, still, then_spreads}
use Rattle.pattern_needs.specs.declared.spread.Spreads.{Spreads}
use Rattle.pattern_needs.proofs.SpreadLaws.{or-more, some-map, spread-blanks, spread-group, spread-optional, spread-or, spread-seq, then-more}
use Rattle.pattern_needs.proofs.spreading.+spreads.Goals as goal

-- the same node
same : (sets : Sets) (ignore : Bool) (most : ℕ) (m n : Node) (s : Spreads) → m ≡ n → IsSpread sets ignore most (bare m) s → IsSpread sets ignore most (bare n) s
same sets ignore most m n s e h = subst (λ (k : Node). IsSpread sets ignore most (bare k) s) e h

-- what is left of a node is no larger than that
smaller : (rest n b next : Node) (whole : ℕ) → rest ≡ n → next ≡ b → node_count (bare b) ≤ node_count (bare n) → node_count (bare rest) ≤ whole → node_count (bare next) ≤ whole
smaller rest n b next whole e f h k =
    let one = ap (λ (m : Node). node_count (bare m)) e in
    let other = ap (λ (m : Node). node_count (bare m)) f in
    omega (arith, one, other, h, k)

pub spread_of-returns-in_ok-first-in-Seq : goal.spread_of-returns-in_ok-first-in-Seq
spread_of-returns-in_ok-first-in-Seq t c =
    let sets = c.args.by.now.sets.now in
    let ignore = c.args.by.now.ignore in
    let most = c.args.most in
    let first = c.in_ok-first-in-Seq.first in
    let part = same sets ignore most _ _ first c.deref.ensures c.in_ok-first-in-Seq.ensures in
    some-map _ (IsSpread sets ignore most (bare c.args.node.now)) c.spread_behind.result c.spread_behind.ensures
    (λ r h. h (bare c.args.node.now) (λ s k.
    same sets ignore most _ _ (then_spreads first s) (sym c.in-Seq.is) (spread-seq sets ignore most (bare c.in-Seq.a.value) (bare c.in-Seq.b.value) first s part (same sets ignore most _ _ s c.deref-in-Seq.ensures k))))

pub spread_of-returns-in_ok-one-in-Or : goal.spread_of-returns-in_ok-one-in-Or
spread_of-returns-in_ok-one-in-Or t c =
    let sets = c.args.by.now.sets.now in
    let ignore = c.args.by.now.ignore in
    let most = c.args.most in
    let first = c.in_ok-one-in-Or.one in
    let part = same sets ignore most _ _ first c.deref-in-Or.ensures c.in_ok-one-in-Or.ensures in
    some-map _ (IsSpread sets ignore most (bare c.args.node.now)) c.spread_either.result c.spread_either.ensures
    (λ r h. h (bare c.args.node.now) (λ s k.
    same sets ignore most _ _ (or_spreads first s) (sym c.in-Or.is) (spread-or sets ignore most (bare c.in-Or.a.value) (bare c.in-Or.b.value) first s part (same sets ignore most _ _ s c.deref-in-Or-2.ensures k))))

pub spread_of-returns-in-Group : goal.spread_of-returns-in-Group
spread_of-returns-in-Group t c =
    let sets = c.args.by.now.sets.now in
    let ignore = c.args.by.now.ignore in
    let most = c.args.most in
    some-map _ (IsSpread sets ignore most (bare c.args.node.now)) c.spread_of-in-Group.result c.spread_of-in-Group.ensures
    (λ s h. same sets ignore most _ _ s (sym c.in-Group.is) (spread-group sets ignore most (bare c.in-Group.a.value) c.in-Group.field-1 s (same sets ignore most _ _ s c.deref-in-Group.ensures h)))

pub spread_of-returns-then-is_blank_part : goal.spread_of-returns-then-is_blank_part
spread_of-returns-then-is_blank_part t c =
    let sets = c.args.by.now.sets.now in
    let ignore = c.args.by.now.ignore in
    let most = c.args.most in
    let is = subst (λ (n : Node). bare n ≡ one _) c.deref-in-Repeat.ensures (c.is_blank_part.ensures c.if-is_blank_part.true) in
    let whole = same sets ignore most _ _ (over_blanks most) (sym c.in-Repeat.is) (spread-blanks sets ignore most (bare c.in-Repeat.part.value) c.in-Repeat.least _ c.in-Repeat.lazy is) in
    some-map _ (IsSpread sets ignore most (bare c.args.node.now)) c.over_blanks.result c.over_blanks.ensures
    (λ s e. subst (IsSpread sets ignore most (bare c.args.node.now)) (sym e) whole)

pub spread_of-returns-in_ok-spread_of-in-Repeat : goal.spread_of-returns-in_ok-spread_of-in-Repeat
spread_of-returns-in_ok-spread_of-in-Repeat t c =
    let sets = c.args.by.now.sets.now in
    let ignore = c.args.by.now.ignore in
    let most = c.args.most in
    let s = c.in_ok-spread_of-in-Repeat.field-0 in
    let is = c.is_optional.ensures c.if-is_optional.true in
    let part = same sets ignore most _ _ s c.deref-then-is_optional.ensures c.in_ok-spread_of-in-Repeat.ensures in
    let whole = same sets ignore most _ _ (or_spreads s (still 0)) (sym c.in-Repeat.is) (spread-optional sets ignore most (bare c.in-Repeat.part.value) c.in-Repeat.least _ c.in-Repeat.lazy s is.0 is.1 part) in
    some-map _ (IsSpread sets ignore most (bare c.args.node.now)) c.or_spreads.result c.or_spreads.ensures
    (λ r e. subst (IsSpread sets ignore most (bare c.args.node.now)) (sym (e ∙ ap (λ (q : Spreads). or_spreads s q) c.still-then-is_optional.ensures)) whole)

pub spread_behind-loop-rest-preserved : goal.spread_behind-loop-rest-preserved
spread_behind-loop-rest-preserved t c =
    let sets = c.args.by.now.sets.now in
    let ignore = c.args.by.now.ignore in
    let most = c.args.most in
    let s = c.in_ok-spread_of.field-0 in
    let piece = same sets ignore most _ _ s c.deref.ensures c.in_ok-spread_of.ensures in
    record {
      leads = λ all h r rest.
          then-more sets ignore most all (bare c.in-Seq.a.value) (bare c.in-Seq.b.value) (bare c.loop-rest.rest.now) c.loop-rest.known s c.in_ok-known.known (ap bare c.in-Seq.is) c.in_ok-known.ensures piece
          (c.loop-rest.invariant.leads all h) r (same sets ignore most _ _ r c.deref-rest.ensures rest);
      within = smaller _ _ c.in-Seq.b.value _ _ c.in-Seq.is c.deref-rest.ensures (omega arith) c.loop-rest.invariant.within;
    }

pub spread_behind-returns : goal.spread_behind-returns
spread_behind-returns t c =
    let sets = c.args.by.now.sets.now in
    let ignore = c.args.by.now.ignore in
    let most = c.args.most in
    let s = c.in_ok-spread_of-2.field-0 in
    some-map _ _ c.then_spreads-2.result c.then_spreads-2.ensures
    (λ r e all h. subst (IsSpread sets ignore most all) (sym e) (c.loop-rest.invariant.leads all h s c.in_ok-spread_of-2.ensures))

pub spread_either-loop-rest-preserved : goal.spread_either-loop-rest-preserved
spread_either-loop-rest-preserved t c =
    let sets = c.args.by.now.sets.now in
    let ignore = c.args.by.now.ignore in
    let most = c.args.most in
    let s = c.in_ok-spread_of.field-0 in
    let branch = same sets ignore most _ _ s c.deref.ensures c.in_ok-spread_of.ensures in
    record {
      leads = λ all h r rest.
          or-more sets ignore most all (bare c.in-Or.a.value) (bare c.in-Or.b.value) (bare c.loop-rest.rest.now) c.loop-rest.known s c.in_ok-known.known (ap bare c.in-Or.is) c.in_ok-known.ensures branch
          (c.loop-rest.invariant.leads all h) r (same sets ignore most _ _ r c.deref-rest.ensures rest);
      within = smaller _ _ c.in-Or.b.value _ _ c.in-Or.is c.deref-rest.ensures (omega arith) c.loop-rest.invariant.within;
    }

pub spread_either-returns : goal.spread_either-returns
spread_either-returns t c =
    let sets = c.args.by.now.sets.now in
    let ignore = c.args.by.now.ignore in
    let most = c.args.most in
    let s = c.in_ok-spread_of-2.field-0 in
    some-map _ _ c.or_spreads-2.result c.or_spreads-2.ensures
    (λ r e all h. subst (IsSpread sets ignore most all) (sym e) (c.loop-rest.invariant.leads all h s c.in_ok-spread_of-2.ensures))
