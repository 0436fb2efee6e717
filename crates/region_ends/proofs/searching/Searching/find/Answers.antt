use Rattle.std.proofs.Common.{◌≡◌, ◌∙◌}
use Rattle.region_ends.proofs.Common.{no_externals}
use Rattle.region_ends.proofs.StretchLaws.{grown, kept_stands}
use Rattle.region_ends.proofs.searching.Searching.find.Goals as goal

pub returns-in_err-searched-clause-memo : goal.returns-in_err-searched-clause-memo
returns-in_err-searched-clause-memo g c =
    let a = c.args.self.now in
    grown a.items.now a.matcher.sets.now a.matcher.budget (g.T.Lines.lines c.args.lines.now) a.from.line c.args.memo.now c.anew.new.jumped c.requires.memo c.anew.ensures.before

pub returns-in-None-known_by-clause-memo : goal.returns-in-None-known_by-clause-memo
returns-in-None-known_by-clause-memo g c =
    let a = c.args.self.now in
    grown a.items.now a.matcher.sets.now a.matcher.budget (g.T.Lines.lines c.args.lines.now) a.from.line c.args.memo.now c.anew.new.jumped c.requires.memo c.anew.ensures.before

pub returns-in_err-keep-in-Some-known_by-clause-memo : goal.returns-in_err-keep-in-Some-known_by-clause-memo
returns-in_err-keep-in-Some-known_by-clause-memo g c =
    let a = c.args.self.now in
    let text = g.T.Lines.lines c.args.lines.now in
    let more = c.anew.new.jumped in
    let none : a.externals.now ≡ no_externals = c.same.ensures.0 c.if-not-same.false ∙ c.requires.none in
    c.keep.ensures a.items.now a.matcher.sets.now a.matcher.budget text a.from.line
    (grown a.items.now a.matcher.sets.now a.matcher.budget text a.from.line c.args.memo.now more c.requires.memo c.anew.ensures.before)
    (kept_stands a text more c.in_ok-searched.searched c.in-Some-known_by.known none c.in_ok-searched.ensures.columns (rw c.in-Some-known_by.is at c.known_by.ensures))

pub returns-in_ok-keep-in-Some-known_by-clause-memo : goal.returns-in_ok-keep-in-Some-known_by-clause-memo
returns-in_ok-keep-in-Some-known_by-clause-memo g c =
    let a = c.args.self.now in
    let text = g.T.Lines.lines c.args.lines.now in
    let more = c.anew.new.jumped in
    let none : a.externals.now ≡ no_externals = c.same.ensures.0 c.if-not-same.false ∙ c.requires.none in
    c.keep.ensures a.items.now a.matcher.sets.now a.matcher.budget text a.from.line
    (grown a.items.now a.matcher.sets.now a.matcher.budget text a.from.line c.args.memo.now more c.requires.memo c.anew.ensures.before)
    (kept_stands a text more c.in_ok-searched.searched c.in-Some-known_by.known none c.in_ok-searched.ensures.columns (rw c.in-Some-known_by.is at c.known_by.ensures))
