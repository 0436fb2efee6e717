use Rattle.pattern_match.proofs.TakenNotes.{start-note, stop-note}
use Rattle.pattern_match.proofs.sight.note_of.Goals as goal

pub returns-in-MatchStart : goal.returns-in-MatchStart
returns-in-MatchStart c = rw c.in-MatchStart.is (start-note c.args.at)

pub returns-in-MatchStop : goal.returns-in-MatchStop
returns-in-MatchStop c = rw c.in-MatchStop.is (stop-note c.args.at)
