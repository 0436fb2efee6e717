use Rattle.item_pick.proofs.Common.{arith, rules_by}
use Rattle.item_pick.proofs.TableLaws.{run_and}
use Rattle.item_pick.proofs.memory.PickMemory.note.Goals as goal

pub returns : goal.returns
returns g c =
    let p = c.args.picking.now in
    let r = rules_by p.asked.now in
    let t = g.T.Lines.lines p.lines.now in
    let l = p.at.line in
    let known = c.requires.may.memory.line in
    let first = c.requires.start.first (omega (arith, c.if-by-ne0.false)) in
    record {
      may = record {
        sound = c.requires.may.sound;
        place = c.requires.may.place;
        memory = record {
          tables = c.requires.may.memory.tables;
          line = c.keep.ensures r t
              (run_and r t l c.args.by.now.item c.args.by.now.pattern.now first c.run_at-run.result c.args.col c.args.places.first c.args.places.end
              c.run_at-run.ensures.tells.same (c.run_at-run.ensures.stands t l known) (omega (arith, c.if-run-col.false)) c.args.lines c.join.result c.join.ensures c.requires.settled
              c.both-places.result.first c.both-places.result.end
              c.both-places.ensures.first.0 c.both-places.ensures.first.1 c.both-places.ensures.end.0 c.both-places.ensures.end.1)
              known;
        };
      };
    }
