use Rattle.region_ends.proofs.Common.{◌≡◌, ◌+◌, ◌∙◌, [], ap, arith, length, subst, suc, Some, None, reverse, Region, looked_first, first_found, NoSkip, SkipTo, end_at, skip_at, EndAnswer, IsEnd, search_in, left_from, GoesFurther, IsSkip}
use Rattle.region_ends.proofs.LookedLaws.{still_held}
use Rattle.region_ends.proofs.SearchLaws.{to_next, to_none, to_end, to_later, ends_costly, skip_costly}
use Rattle.region_ends.specs.declared.skips.SkipAnswer.{SkipAnswer}
use Rattle.region_ends.proofs.passing.Walk.answer_at.Goals as goal

pub returns-in-SkipTo : goal.returns-in-SkipTo
returns-in-SkipTo g c =
    let a = c.args.self.now in
    let s = search_in a.search (g.T.Lines.lines c.args.lines.now) in
    let p = skip_at s a.skip.now c.args.c in
    let h = subst (λ (t : SkipAnswer). IsSkip t a.search.region (looked_first (Some c.args.looked) p)) c.in-SkipTo.is c.in_ok-next.ensures.is in
    let more = subst (λ (t : SkipAnswer). GoesFurther t c.args.c (length a.line.now)) c.in-SkipTo.is c.in_ok-next.ensures.further in
    record {
      further = more.0;
      within = more.1;
      same = to_next s (Region [] a.skip.now a.ends.now) c.args.c (length a.line.now) c.args.looked c.requires.column c.in-SkipTo.next c.in-SkipTo.k h more.0 more.1;
      held = λ held. still_held c.args.looked c.in-SkipTo.k a.search.from.line p (SkipTo c.in-SkipTo.next) held h;
    }

pub returns-in-SkipLine : goal.returns-in-SkipLine
returns-in-SkipLine g c =
    let a = c.args.self.now in
    let s = search_in a.search (g.T.Lines.lines c.args.lines.now) in
    to_none s (Region [] a.skip.now a.ends.now) c.args.c (length a.line.now) c.args.looked c.requires.column c.in-SkipLine.k
    (subst (λ (t : SkipAnswer). IsSkip t a.search.region (looked_first (Some c.args.looked) (skip_at s a.skip.now c.args.c))) c.in-SkipLine.is c.in_ok-next.ensures.is)

pub returns-in-TooCostly : goal.returns-in-TooCostly
returns-in-TooCostly g c =
    let a = c.args.self.now in
    let s = search_in a.search (g.T.Lines.lines c.args.lines.now) in
    skip_costly s (Region [] a.skip.now a.ends.now) c.args.c (length a.line.now) c.args.looked c.requires.column
    (subst (λ (t : SkipAnswer). IsSkip t a.search.region (looked_first (Some c.args.looked) (skip_at s a.skip.now c.args.c))) c.in-TooCostly.is c.in_ok-next.ensures.is)

pub returns-in-Ends : goal.returns-in-Ends
returns-in-Ends g c =
    let a = c.args.self.now in
    let s = search_in a.search (g.T.Lines.lines c.args.lines.now) in
    let no_skip = subst (λ (t : SkipAnswer). IsSkip t a.search.region (looked_first (Some c.args.looked) (skip_at s a.skip.now c.args.c))) c.in-NoSkip.is c.in_ok-next.ensures.is in
    to_end s (Region [] a.skip.now a.ends.now) c.args.c (length a.line.now) c.args.looked c.requires.column c.in-NoSkip.k no_skip c.in-Ends.e c.in-Ends.k
    (subst (λ (t : EndAnswer). IsEnd t a.search.region (looked_first (Some c.in-NoSkip.k) (first_found (end_at s c.args.c) (reverse a.ends.now)))) c.in-Ends.is c.in_ok-e-in-NoSkip.ensures)

pub returns-in-NotHere : goal.returns-in-NotHere
returns-in-NotHere g c =
    let a = c.args.self.now in
    let s = search_in a.search (g.T.Lines.lines c.args.lines.now) in
    let p = skip_at s a.skip.now c.args.c in
    let q = first_found (end_at s c.args.c) (reverse a.ends.now) in
    let no_skip = subst (λ (t : SkipAnswer). IsSkip t a.search.region (looked_first (Some c.args.looked) p)) c.in-NoSkip.is c.in_ok-next.ensures.is in
    let next : suc c.args.c ≡ c.args.c + 1 = omega arith in
    let none = subst (λ (t : EndAnswer). IsEnd t a.search.region (looked_first (Some c.in-NoSkip.k) q)) c.in-NotHere.is c.in_ok-e-in-NoSkip.ensures in
    record {
      further = omega arith;
      within = omega (arith, c.requires.column);
      same = to_later s (Region [] a.skip.now a.ends.now) c.args.c (length a.line.now) c.args.looked c.requires.column c.in-NoSkip.k no_skip c.in-NotHere.k none
          ∙ ap (left_from a (g.T.Lines.lines c.args.lines.now) c.in-NotHere.k) next;
      held = λ held. still_held c.in-NoSkip.k c.in-NotHere.k a.search.from.line q None (still_held c.args.looked c.in-NoSkip.k a.search.from.line p NoSkip held no_skip) none;
    }

pub returns-in-TooCostly-2 : goal.returns-in-TooCostly-2
returns-in-TooCostly-2 g c =
    let a = c.args.self.now in
    let s = search_in a.search (g.T.Lines.lines c.args.lines.now) in
    let no_skip = subst (λ (t : SkipAnswer). IsSkip t a.search.region (looked_first (Some c.args.looked) (skip_at s a.skip.now c.args.c))) c.in-NoSkip.is c.in_ok-next.ensures.is in
    ends_costly s (Region [] a.skip.now a.ends.now) c.args.c (length a.line.now) c.args.looked c.requires.column c.in-NoSkip.k no_skip
    (subst (λ (t : EndAnswer). IsEnd t a.search.region (looked_first (Some c.in-NoSkip.k) (first_found (end_at s c.args.c) (reverse a.ends.now)))) c.in-TooCostly-2.is c.in_ok-e-in-NoSkip.ensures)
