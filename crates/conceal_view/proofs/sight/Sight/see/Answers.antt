use Rattle.std.proofs.Common.{◌≡◌, List, length, ap, sym, ◌∙◌}
use Rattle.std.proofs.lemmas.Result.{on_ok_weaker}
use Rattle.conceal_view.specs.declared.sight.Sight.{Sight}
use Rattle.conceal_view.specs.Cells.{Cell}
use Rattle.conceal_view.specs.Seeing.{blocks_by, put_behind, run_of, seen_at_last, with_cells}
use Rattle.conceal_view.specs.View.{Blocks, put_cells, shows_same}
use Rattle.conceal_view.proofs.RunLaws.{some_there}
use Rattle.conceal_view.proofs.SightLaws.{sees_plain_behind, sees_block_behind}
use Rattle.conceal_view.proofs.sight.Sight.see.Goals as goal

pub returns-in-None : goal.returns-in-None
returns-in-None c =
    let blocks : Blocks = blocks_by c.args.blocks.now.puts.now in
    let cover = c.args.blocks.now.cover in
    let line = c.args.self.now.line in
    on_ok_weaker c.see_plain.result
    (λ (e : c.see_plain.new.self ≡ record { line = with_cells line (run_of c.args.group c.args.chars.now); before = c.args.group }) (cells : List Cell).
    ap (λ (s : Sight). seen_at_last blocks cover s cells) e
    ∙ sees_plain_behind blocks cover line c.args.group c.args.self.now.before c.args.chars.now cells
    (sym c.in-None.ensures) (some_there (length c.args.chars.now) c.if-is_empty.ensures))
    c.see_plain.ensures

pub returns-in-Some : goal.returns-in-Some
returns-in-Some c =
    let blocks : Blocks = blocks_by c.args.blocks.now.puts.now in
    let cover = c.args.blocks.now.cover in
    let line = c.args.self.now.line in
    let before = c.args.self.now.before in
    on_ok_weaker c.see_block.result
    (λ (e : c.see_block.new.self ≡ record { line = with_cells line (put_cells cover (put_behind (shows_same before c.args.group) c.in-Some.put)); before = c.args.group }) (cells : List Cell).
    ap (λ (s : Sight). seen_at_last blocks cover s cells) e
    ∙ sees_block_behind blocks cover line c.args.group before c.in-Some.put c.args.chars.now cells
    (sym c.in-Some.ensures) (some_there (length c.args.chars.now) c.if-is_empty.ensures))
    c.see_block.ensures
