use Rattle.paint_laws.proofs.ReachedLaws.{kept_ends_are_earliest, lines_start_at_reached, pops_search_reached}
use Rattle.paint_laws.proofs.extend_sets_frames_apart.Goals as goal

pub returns : goal.returns
returns c = record { ends = kept_ends_are_earliest; starts = lines_start_at_reached; pops = pops_search_reached }
