use Rattle.std.proofs.Common.{None, refl, sym}
use Rattle.std.proofs.lemmas.List.{append-nil}
use Rattle.keyword_table.specs.Candidates.{folded}
use Rattle.keyword_table.proofs.ChainLaws.{candidates-chains, fold-within, word-within}
use Rattle.keyword_table.proofs.KeyLaws.{last_at-empty}
use Rattle.keyword_table.proofs.table.Keywords.candidates.Goals as goal

pub push_chain-requires-clause-within : goal.push_chain-requires-clause-within
push_chain-requires-clause-within c =
    rw c.deref.ensures.value (word-within c.self.inside.entries.items c.self.inside.by_word c.self.inside.by_fold c.self.invariant c.args.word.now c.last_at.result c.last_at.ensures)

pub push_chain-requires-2-clause-within : goal.push_chain-requires-2-clause-within
push_chain-requires-2-clause-within c =
    rw c.deref-2.ensures.value
    (fold-within c.self.inside.entries.items c.self.inside.by_word c.self.inside.by_fold c.self.invariant (folded c.args.word.now) c.in_ok-last.last c.in_ok-last.ensures)

pub returns : goal.returns
returns c =
    rw (← c.self.view_is)
    (candidates-chains c.self.inside.entries.items c.self.inside.by_word c.self.inside.by_fold c.self.invariant c.args.word.now (folded c.args.word.now)
    c.last_at.result c.in_ok-last.last c.push_chain.new.items c.push_chain-2.new.items
    refl c.last_at.ensures c.in_ok-last.ensures
    (rw (c.deref.ensures.value, c.new-items.ensures) at c.in_ok-push_chain.ensures)
    (rw c.deref-2.ensures.value at c.in_ok-push_chain-2.ensures))

pub returns-then-is_empty : goal.returns-then-is_empty
returns-then-is_empty c =
    let none = last_at-empty c.self.inside.by_fold (folded c.args.word.now) (c.is_empty.ensures.0 c.if-is_empty.true) in
    rw (← c.self.view_is)
    (candidates-chains c.self.inside.entries.items c.self.inside.by_word c.self.inside.by_fold c.self.invariant c.args.word.now (folded c.args.word.now)
    c.last_at.result None c.push_chain.new.items c.push_chain.new.items refl c.last_at.ensures (sym none)
    (rw (c.deref.ensures.value, c.new-items.ensures) at c.in_ok-push_chain.ensures)
    (sym (append-nil c.push_chain.new.items)))
