use Rattle.std.proofs.Common.{ap, subst, ◌≡◌, ◌∙◌}
use Rattle.std.specs.Prelude.{IfOk}
use Rattle.syn_reader.specs.declared.syntax.Syntax.{Syntax}
use Rattle.syntax_set.specs.Groups.{group_of}
use Rattle.vimsyn_cli.specs.Concealing.{ConcealedText, cover_name, seen_of}
use Rattle.vimsyn_cli.proofs.ConcealLaws.{view_seen}
use Rattle.vimsyn_cli.proofs.concealing.Concealed.view.Goals as goal

pub returns-clause-view : goal.returns-clause-view
returns-clause-view c =
    let inside = c.self.inside in
    let P : ConcealedText → Type 0 = λ t. IfOk c.conceal.result (λ viewed. viewed ≡ seen_of t) in
    subst P c.self.view_is
    (view_seen inside.painted.syntax.groups inside.painted.syntax.links inside.items inside.level inside.painted.text inside.painted.spans
    inside.marks c.unwrap_or-cover.result c.in_ok-found.found c.conceal.result
    c.self.invariant.2 (c.in_ok-found.ensures ∙ ap (λ (s : Syntax). group_of s.groups cover_name) (c.behind-self.view_is ∙ c.syntax.ensures.is)) c.unwrap_or-cover.ensures c.conceal.ensures.view)
