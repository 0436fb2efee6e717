use Rattle.std.proofs.Common.{rules}
use Rattle.pattern_items.proofs.CollectionLaws.{members_next}
use Rattle.pattern_items.proofs.collection.members.Goals as goal

pub loop-c-preserved : goal.loop-c-preserved
loop-c-preserved c = record {
  same = members_next c.loop-c.all.items _ c.loop-c.plain c.in-Some.c c.in-Some.more.now c.loop-c.rest.now _ c.member_at-here.result _ c.in-Some.ensures c.member_at-here.ensures.value c.in_ok-push.ensures.items c.behind-rest.ensures.value c.loop-c.invariant.same;
  within = search rules;
}
