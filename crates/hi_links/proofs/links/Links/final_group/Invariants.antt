use Rattle.std.proofs.Common.{◌≡◌, ◌-◌}
use Rattle.hi_links.specs.FinalGroup.{final_group, followed}
use Rattle.hi_links.proofs.links.Links.final_group.Given as goal

-- the links that are left lead to the final group
abbrev pub invariant-links : goal.invariant-links
invariant-links l = followed (100 - l._followed) l.self l.shown ≡ final_group l.self l.fn.g
