use Rattle.item_pick.proofs.Common.{rules, sym, subst, reverse, Bool, IfOk, Some, Looked, looked_first, picked, rules_in, IsPicked, here_at}
use Rattle.region_ends.proofs.SearchLaws.{line_is}
use Rattle.item_pick.proofs.asking.pick.Goals as goal

pub pick-requires : goal.pick-requires
pick-requires g c =
    let t = g.T.Lines.lines c.args.lines.now in
    record {
      may = record {
        sound = search rules;
        present = c.requires.present;
        within = c.requires.within;
        fits = c.requires.fits;
        held = search rules;
        memory = c.in_ok-enter_line.ensures.entered c.args.budget t c.args.at.line (sym (line_is t c.args.at.line c.line.result.now c.line.ensures))
            (c.new-memory.ensures (rules_in c.args.parts.now c.args.budget));
      };
    }

pub returns : goal.returns
returns g c =
    let here = here_at (rules_in c.args.parts.now c.args.budget) (g.T.Lines.lines c.args.lines.now) c.args.at in
    subst (λ (k : Looked). IfOk c.pick.result (λ p. (over : Bool) → IsPicked c.args.parts.now.items.now p
    (looked_first (Some k) (picked here c.args.at.col (record {
      stack = reverse c.args.state.now.stack;
      waiting = c.args.state.now.waiting;
      floor = c.args.floor;
      tried = reverse c.args.tried.now;
      is_over = over;
    })))))
    c.alone.ensures c.pick.ensures.picked
