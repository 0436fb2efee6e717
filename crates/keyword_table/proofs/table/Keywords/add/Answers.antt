use Rattle.std.proofs.Common.{◌≡◌, ap, sym, ◌∙◌, rules, length}
use Rattle.keyword_table.specs.Candidates.{folded}
use Rattle.keyword_table.specs.declared.table.Definition.{Definition}
use Rattle.keyword_table.proofs.ChainLaws.{IsTable-fold, IsTable-word}
use Rattle.keyword_table.proofs.table.Keywords.add.Goals as goal
use Rattle.keyword_table.proofs.table.Keywords.add.Goals.{then-ignore+in_ok-earlier, else-ignore+in_ok-earlier-2}

pub invariant_of-self-2 : goal.invariant_of-self-2
invariant_of-self-2 c =
    let place : c.len-place.result ≡ length c.self.inside.entries.items = search rules in
    let shown = c.of-kept.ensures in
    rw c.push_reserved.ensures.items
    (elim c.if-ignore.branch [
      | then-ignore+in_ok-earlier w ↦ rw (w.self-inside-is, w.earlier-is, c.in_ok-reserve.ensures.items)
          (IsTable-fold c.self.inside.entries.items _ c.self.inside.by_word c.self.inside.by_fold w.put_last.new.table w.folded.result.items c.len-place.result
          c.self.invariant place (ap (λ (d : Definition). d.ignore) shown ∙ w.if-ignore.true)
          (w.folded.ensures ∙ ap folded (c.into_vec-word.ensures ∙ ap (λ (d : Definition). d.word) (sym shown))) w.in_ok-earlier.ensures.earlier w.in_ok-earlier.ensures.put)
      | else-ignore+in_ok-earlier-2 w ↦ rw (w.self-inside-is, w.earlier-is, c.in_ok-reserve.ensures.items)
          (IsTable-word c.self.inside.entries.items _ c.self.inside.by_word c.self.inside.by_fold w.put_last-else-ignore.new.table c.into_vec-word.result.items c.len-place.result
          c.self.invariant place (ap (λ (d : Definition). d.ignore) shown ∙ w.if-ignore.false)
          (c.into_vec-word.ensures ∙ ap (λ (d : Definition). d.word) (sym shown)) w.in_ok-earlier-2.ensures.earlier w.in_ok-earlier-2.ensures.put)
    ])
