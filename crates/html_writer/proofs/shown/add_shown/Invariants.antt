use Rattle.std.proofs.Common.{◌≡◌, drop}
use Rattle.std.specs.List.{fold}
use Rattle.html_writer.specs.Page.{final_groups, with_used}
use Rattle.html_writer.proofs.shown.add_shown.Given as goal

-- the groups so far, with those of the spans to come, are the whole line's
abbrev pub invariant-loop-span : goal.invariant-loop-span
invariant-loop-span l =
    fold with_used l.shown.keys (final_groups l.links (drop l.span-index l.spans))
    ≡ fold with_used l.initial.shown.keys (final_groups l.links l.spans)
