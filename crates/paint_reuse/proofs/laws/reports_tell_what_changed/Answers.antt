use Rattle.paint_reuse.proofs.ReportIs.{report_is}
use Rattle.paint_reuse.proofs.laws.reports_tell_what_changed.Goals as goal

pub returns : goal.returns
returns c old new change = report_is old new change
