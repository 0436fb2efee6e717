use Rattle.std.proofs.Common.{ap, ◌∙◌}
use Rattle.chunk_list.specs.Flat.{flat}
use Rattle.chunk_list.proofs.FlatLaws.{flat-filter}
use Rattle.chunk_list.proofs.CutLaws.{flat-cut_of}
use Rattle.chunk_list.proofs.chunks.take_out.Goals as goal

pub returns-then-a-b-clause-items : goal.returns-then-a-b-clause-items
returns-then-a-b-clause-items g c =
    ap flat c.drop_empty.ensures.items ∙ flat-filter c.cut_chunks.new.chunks.items
    ∙ ap flat c.cut_chunks.ensures.items ∙ flat-cut_of c.args.chunks.now.items c.args.a c.args.b c.requires
