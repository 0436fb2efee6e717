use Rattle.paint_laws.proofs.RegionEndLaws.{searches_go_right, ends_stand_at_columns, columns_end_regions}
use Rattle.paint_laws.proofs.a_region_ends_at_the_first_end.Goals as goal

pub returns : goal.returns
returns c = record { right = searches_go_right; stands = ends_stand_at_columns; found = columns_end_regions }
