use Rattle.state_cache.proofs.painted.notes_of.Goals as goal

pub returns-clause-noted : goal.returns-clause-noted
returns-clause-noted g c =
    record {
      painted = c.in_ok-notes.ensures.notes;
      fit = c.in_ok-notes.ensures.fits;
      within = c.reach_of_text-reach.ensures;
    }
