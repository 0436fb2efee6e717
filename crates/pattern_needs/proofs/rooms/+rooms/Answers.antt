use Rattle.std.proofs.Common.{◌≡◌, ◌≤◌, ◌+◌, ◌∙◌, ℕ, true, ap, refl, sym, arith, subst}
use Rattle.vim_pattern.specs.Shape.{bare}
use Rattle.vim_pattern.specs.Parted.{node_count}
use Rattle.vim_pattern.specs.declared.node.Node.{Node}
use Rattle.pattern_needs.specs.Growths.{IsRoomBehind, IsRoomEither, IsRoomOf, total}
use Rattle.pattern_needs.specs.LineCosts.{Cost, cost_of, counted, stays}
use Rattle.pattern_needs.specs.declared.room.Room.{Room}
use Rattle.pattern_needs.proofs.GrowthLaws.{ahead-room, and-room, atom-room, branch-last, branch-more, external-room, group-room, last-behind, look-behind, or-room, piece-behind, repeat-room, seq-room, some-room, stay-and, stay-or, stay-seq, still-room, whole-room}
use Rattle.pattern_needs.proofs.rooms.+rooms.Goals as goal

-- the same node
same : (m n : Node) (r : Room) → m ≡ n → IsRoomOf (bare m) r → IsRoomOf (bare n) r
same m n r e h = subst (λ (k : Node). IsRoomOf (bare k) r) e h

-- what is left of a node is no larger than that
smaller : (rest n b next : Node) (whole : ℕ) → rest ≡ n → next ≡ b → node_count (bare b) ≤ node_count (bare n) → node_count (bare rest) ≤ whole → node_count (bare next) ≤ whole
smaller rest n b next whole e f h k =
    let one = ap (λ (m : Node). node_count (bare m)) e in
    let other = ap (λ (m : Node). node_count (bare m)) f in
    omega (arith, one, other, h, k)

pub room_behind-loop-rest-init : goal.room_behind-loop-rest-init
room_behind-loop-rest-init t c = record { same = λ f. refl; stay = λ h. h; within = omega arith }

pub room_behind-loop-rest-preserved-in-Seq : goal.room_behind-loop-rest-preserved-in-Seq
room_behind-loop-rest-preserved-in-Seq t c =
    let a = bare c.in-Seq.a.value in
    let b = bare c.in-Seq.b.value in
    let rest = bare c.loop-rest.rest.now in
    let node = bare c.args.node.now in
    let p = c.in_ok-room_of-in-Seq.field-0 in
    let more = c.in_ok-known-in-Seq.known in
    let e = ap bare c.in-Seq.is in
    let part = same _ _ p c.deref.ensures c.in_ok-room_of-in-Seq.ensures in
    record {
      same = λ f. subst (λ (n : Node). total more (cost_of (bare n) f) ≡ total c.args.first (cost_of node f)) (sym c.deref-rest.ensures) (piece-behind rest a b c.loop-rest.known p more c.args.first node e part c.in_ok-known-in-Seq.ensures c.loop-rest.invariant.same f);
      stay = λ h. stay-seq rest a b (stays node) e part.stay c.loop-rest.invariant.stay (subst (λ (n : Node). stays (bare n) ≡ true) c.deref-rest.ensures h);
      within = smaller _ _ c.in-Seq.b.value _ _ c.in-Seq.is c.deref-rest.ensures (omega arith) c.loop-rest.invariant.within;
    }

pub room_behind-loop-rest-preserved : goal.room_behind-loop-rest-preserved
room_behind-loop-rest-preserved t c =
    let a = bare c.in-And.a.value in
    let b = bare c.in-And.b.value in
    let rest = bare c.loop-rest.rest.now in
    let node = bare c.args.node.now in
    let p = c.in_ok-room_of-in-And.field-0 in
    let more = c.in_ok-known-in-And.known in
    let e = ap bare c.in-And.is in
    let part = same _ _ p c.deref-in-And.ensures c.in_ok-room_of-in-And.ensures in
    record {
      same = λ f. subst (λ (n : Node). total more (cost_of (bare n) f) ≡ total c.args.first (cost_of node f)) (sym c.deref-rest-in-And.ensures) (look-behind rest a b c.loop-rest.known p c.first_room.result more c.args.first node e part c.first_room.ensures c.in_ok-known-in-And.ensures c.loop-rest.invariant.same f);
      stay = λ h. stay-and rest a b (stays node) e part.stay c.loop-rest.invariant.stay (subst (λ (n : Node). stays (bare n) ≡ true) c.deref-rest-in-And.ensures h);
      within = smaller _ _ c.in-And.b.value _ _ c.in-And.is c.deref-rest-in-And.ensures (omega arith) c.loop-rest.invariant.within;
    }

pub room_behind-returns-in_default : goal.room_behind-returns-in_default
room_behind-returns-in_default t c =
    let p = c.in_ok-room_of-in_default.field-0 in
    some-room (λ (r : Room). total r ≡ (λ (f : Cost). total c.loop-rest.known (total p f))) (IsRoomBehind c.args.first (bare c.args.node.now)) c.then_room-in_default.result c.then_room-in_default.ensures
    (λ r e. last-behind (bare c.loop-rest.rest.now) c.loop-rest.known p r c.args.first (bare c.args.node.now) c.in_ok-room_of-in_default.ensures e c.loop-rest.invariant.same c.loop-rest.invariant.stay)

pub room_either-loop-rest-init : goal.room_either-loop-rest-init
room_either-loop-rest-init t c = record { same = λ f left. refl; stay = λ h. h; within = omega arith }

pub room_either-loop-rest-preserved : goal.room_either-loop-rest-preserved
room_either-loop-rest-preserved t c =
    let a = bare c.in-Or.a.value in
    let b = bare c.in-Or.b.value in
    let rest = bare c.loop-rest.rest.now in
    let node = bare c.args.node.now in
    let p = c.in_ok-room_of.field-0 in
    let more = c.in_ok-known.known in
    let e = ap bare c.in-Or.is in
    let part = same _ _ p c.deref.ensures c.in_ok-room_of.ensures in
    record {
      same = λ f left. subst (λ (n : Node). total more f left + cost_of (bare n) f left ≡ total c.args.one f left + cost_of node f left) (sym c.deref-rest.ensures) (branch-more rest a b c.loop-rest.known p more c.args.one node e part c.in_ok-known.ensures c.loop-rest.invariant.same f left);
      stay = λ h. stay-or rest a b (stays node) e part.stay c.loop-rest.invariant.stay (subst (λ (n : Node). stays (bare n) ≡ true) c.deref-rest.ensures h);
      within = smaller _ _ c.in-Or.b.value _ _ c.in-Or.is c.deref-rest.ensures (omega arith) c.loop-rest.invariant.within;
    }

pub room_either-returns : goal.room_either-returns
room_either-returns t c =
    let p = c.in_ok-room_of-2.field-0 in
    some-room (λ (r : Room). total r ≡ (λ (f : Cost) (left : ℕ). total c.loop-rest.known f left + total p f left)) (IsRoomEither c.args.one (bare c.args.node.now)) c.or_room-2.result c.or_room-2.ensures
    (λ r e. branch-last (bare c.loop-rest.rest.now) c.loop-rest.known p r c.args.one (bare c.args.node.now) c.in_ok-room_of-2.ensures e c.loop-rest.invariant.same c.loop-rest.invariant.stay)

pub room_of-returns-in-Empty : goal.room_of-returns-in-Empty
room_of-returns-in-Empty t c = same _ _ _ (sym c.in-Empty.is) (still-room c.still.result c.still.ensures)

pub room_of-returns-then-is_lined_atom : goal.room_of-returns-then-is_lined_atom
room_of-returns-then-is_lined_atom t c =
    same _ _ _ (sym c.in-One.is) (atom-room c.in-One.atom c.single.result (sym c.is_lined_atom.ensures ∙ c.if-is_lined_atom.true) c.single.ensures)

pub room_of-returns-in_ok-first-in-Seq : goal.room_of-returns-in_ok-first-in-Seq
room_of-returns-in_ok-first-in-Seq t c =
    let first = c.in_ok-first-in-Seq.first in
    let part = same _ _ first c.deref.ensures c.in_ok-first-in-Seq.ensures in
    some-room (IsRoomBehind first (bare c.deref-in-Seq.result.now)) (IsRoomOf (bare c.args.node.now)) c.room_behind.result c.room_behind.ensures
    (λ r k. same _ _ r (sym c.in-Seq.is) (seq-room (bare c.in-Seq.a.value) (bare c.in-Seq.b.value) first part r (subst (λ (n : Node). IsRoomBehind first (bare n) r) c.deref-in-Seq.ensures k)))

pub room_of-returns-in_ok-one-in-Or : goal.room_of-returns-in_ok-one-in-Or
room_of-returns-in_ok-one-in-Or t c =
    let first = c.in_ok-one-in-Or.one in
    let part = same _ _ first c.deref-in-Or.ensures c.in_ok-one-in-Or.ensures in
    some-room (IsRoomEither first (bare c.deref-in-Or-2.result.now)) (IsRoomOf (bare c.args.node.now)) c.room_either.result c.room_either.ensures
    (λ r k. same _ _ r (sym c.in-Or.is) (or-room (bare c.in-Or.a.value) (bare c.in-Or.b.value) first part r (subst (λ (n : Node). IsRoomEither first (bare n) r) c.deref-in-Or-2.ensures k)))

pub room_of-returns-in_ok-room_of-in-And : goal.room_of-returns-in_ok-room_of-in-And
room_of-returns-in_ok-room_of-in-And t c =
    let p = c.in_ok-room_of-in-And.field-0 in
    let first = c.first_room-first.result in
    let part = same _ _ p c.deref-in-And.ensures c.in_ok-room_of-in-And.ensures in
    some-room (IsRoomBehind first (bare c.deref-in-And-2.result.now)) (IsRoomOf (bare c.args.node.now)) c.room_behind-in-And.result c.room_behind-in-And.ensures
    (λ r k. same _ _ r (sym c.in-And.is) (and-room (bare c.in-And.a.value) (bare c.in-And.b.value) p first part c.first_room-first.ensures r (subst (λ (n : Node). IsRoomBehind first (bare n) r) c.deref-in-And-2.ensures k)))

pub room_of-returns-in-Group : goal.room_of-returns-in-Group
room_of-returns-in-Group t c =
    some-room (IsRoomOf (bare c.deref-in-Group.result.now)) (IsRoomOf (bare c.args.node.now)) c.room_of-in-Group.result c.room_of-in-Group.ensures
    (λ r k. same _ _ r (sym c.in-Group.is) (group-room (bare c.in-Group.a.value) c.in-Group.field-1 r (same _ _ r c.deref-in-Group.ensures k)))

pub room_of-returns-in-External : goal.room_of-returns-in-External
room_of-returns-in-External t c =
    some-room (IsRoomOf (bare c.deref-in-External.result.now)) (IsRoomOf (bare c.args.node.now)) c.room_of-in-External.result c.room_of-in-External.ensures
    (λ r k. same _ _ r (sym c.in-External.is) (external-room (bare c.in-External.a.value) c.in-External.field-1 r (same _ _ r c.deref-in-External.ensures k)))

pub room_of-returns-in_ok-room_of-in-Repeat : goal.room_of-returns-in_ok-room_of-in-Repeat
room_of-returns-in_ok-room_of-in-Repeat t c =
    let p = c.in_ok-room_of-in-Repeat.field-0 in
    let part = same _ _ p c.deref-in-Repeat.ensures c.in_ok-room_of-in-Repeat.ensures in
    some-room (λ (r : Room). total r ≡ counted (total p) c.in-Repeat.least c.in-Repeat.most) (IsRoomOf (bare c.args.node.now)) c.counted_room.result c.counted_room.ensures
    (λ r k. same _ _ r (sym c.in-Repeat.is) (repeat-room (bare c.in-Repeat.part.value) c.in-Repeat.least c.in-Repeat.most c.in-Repeat.lazy p part r k))

pub room_of-returns-in_ok-room_of-in-Ahead : goal.room_of-returns-in_ok-room_of-in-Ahead
room_of-returns-in_ok-room_of-in-Ahead t c =
    let p = c.in_ok-room_of-in-Ahead.field-0 in
    let part = same _ _ p c.deref-in-Ahead.ensures c.in_ok-room_of-in-Ahead.ensures in
    same _ _ _ (sym c.in-Ahead.is) (ahead-room (bare c.in-Ahead.part.value) c.in-Ahead.not p c.first_room.result part c.first_room.ensures)

pub room_of-returns-in_ok-room_of-in-Whole : goal.room_of-returns-in_ok-room_of-in-Whole
room_of-returns-in_ok-room_of-in-Whole t c =
    let p = c.in_ok-room_of-in-Whole.field-0 in
    let part = same _ _ p c.deref-in-Whole.ensures c.in_ok-room_of-in-Whole.ensures in
    same _ _ _ (sym c.in-Whole.is) (whole-room (bare c.in-Whole.a.value) p c.first_room-in-Whole.result part c.first_room-in-Whole.ensures)
