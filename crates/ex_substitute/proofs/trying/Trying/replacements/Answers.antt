use Rattle.std.proofs.Common.{◌≡◌, ◌∙◌, List, [], ◌∷◌, ◌++◌, length, ap, subst, sym}
use Rattle.std.specs.Prelude.{Option, Some, None, IfSome, Result, Ok}
use Rattle.std.proofs.lemmas.Result.{err_from_is_err_and}
use Rattle.std.proofs.lemmas.List.Elements.{All-nil, All-push, All-same}
use Rattle.syn_base.specs.declared.places.Place.{Place}
use Rattle.pattern_match.specs.declared.answer.Match.{Match}
use Rattle.pattern_match.specs.OnText.{IsFoundOn}
use Rattle.ex_substitute.specs.declared.error.ExError.{ExError}
use Rattle.ex_substitute.specs.Searching.{is_taken, places_from, replacements}
use Rattle.ex_substitute.specs.Trials.{trial_in}
use Rattle.ex_substitute.specs.Trying.{first_of}
use Rattle.ex_substitute.proofs.SearchLaws.{Stands, begins, falls, stands-nowhere, stands-next, stands-none, stands-refused, within-text}
use Rattle.ex_substitute.proofs.trying.Trying.replacements.Goals as goal

pub returns-in_err-next-clause-found : goal.returns-in_err-next-clause-found
returns-in_err-next-clause-found g c =
    let t = trial_in (g.T.Lines.lines c.args.lines.now) c.args.self.now in
    let all = replacements t c.args.scope c.args.a in
    let p = err_from_is_err_and c.from_residual.result c.from_residual.ensures.1 in
    rw (p.1, p.2) (stands-refused t c.args.scope all c.search.found c.search.end (Some c.in-Some.from) c.in_err-next.field-0.0
    (subst (λ (at : Option Place). Stands t c.args.scope all c.search.found c.search.end at) c.in-Some.is c.search.invariant.stands) c.in_err-next.ensures.found)

pub returns-in-None-clause-found : goal.returns-in-None-clause-found
returns-in-None-clause-found g c =
    let t = trial_in (g.T.Lines.lines c.args.lines.now) c.args.self.now in
    let at = c.search.at in
    let none : first_of t (is_taken c.search.end) (places_from t.x.text c.args.scope at) ≡ Ok None =
    ap (λ (p : Option Place). first_of t (is_taken c.search.end) (places_from t.x.text c.args.scope p)) c.in-Some.is
    ∙ c.in_ok-next.ensures.found ∙ ap (λ (o : Option Match). let r : Result (Option Match) ExError = Ok o in r) c.in-None.is in
    stands-none t c.args.scope (replacements t c.args.scope c.args.a) c.search.found c.search.end at c.search.invariant.stands none

pub search-smaller : goal.search-smaller
search-smaller g c =
    let t = trial_in (g.T.Lines.lines c.args.lines.now) c.args.self.now in
    let places = places_from t.x.text c.args.scope (Some c.in-Some.from) in
    let m = c.in-Some-2.m in
    let found : first_of t (is_taken c.search.end) places ≡ Ok (Some m) =
    c.in_ok-next.ensures.found ∙ ap (λ (o : Option Match). let r : Result (Option Match) ExError = Ok o in r) c.in-Some-2.is in
    let on : IsFoundOn t.x.text m = subst (λ (o : Option Match). IfSome o (IsFoundOn t.x.text)) c.in-Some-2.is c.in_ok-next.ensures.on_text in
    falls t c.search.end m places found on

pub search-preserved : goal.search-preserved
search-preserved g c =
    let t = trial_in (g.T.Lines.lines c.args.lines.now) c.args.self.now in
    let scope = c.args.scope in
    let all = replacements t scope c.args.a in
    let m = c.in-Some-2.m in
    let at = Some c.in-Some.from in
    let found : first_of t (is_taken c.search.end) (places_from t.x.text scope at) ≡ Ok (Some m) =
    c.in_ok-next.ensures.found ∙ ap (λ (o : Option Match). let r : Result (Option Match) ExError = Ok o in r) c.in-Some-2.is in
    let on : IsFoundOn t.x.text m = subst (λ (o : Option Match). IfSome o (IsFoundOn t.x.text)) c.in-Some-2.is c.in_ok-next.ensures.on_text in
    let before : Stands t scope all c.search.found c.search.end at = subst (λ (p : Option Place). Stands t scope all c.search.found c.search.end p) c.in-Some.is c.search.invariant.stands in
    let after : Stands t scope all (c.search.found ++ m ∷ []) (Some m.to) c.next_after-at.result =
    subst (λ (p : Option Place). Stands t scope all (c.search.found ++ m ∷ []) (Some m.to) p) (sym c.next_after-at.ensures.place)
    (stands-next t scope all c.search.found c.search.end at m before found on) in
    let put : c.push.new.self ≡ c.search.found ++ m ∷ [] = c.in_ok-push-in-Some-2.ensures.ok in
    record {
      stands = subst (λ (l : List Match). Stands t scope all l (Some m.to) c.next_after-at.result) (sym put) after;
      present = c.next_after-at.ensures.present;
      on_text = All-same (IsFoundOn t.x.text) c.push.new.self (c.search.found ++ m ∷ []) put (All-push (IsFoundOn t.x.text) c.search.found m c.search.invariant.on_text on);
    }

pub search-init : goal.search-init
search-init g c =
    let text = g.T.Lines.lines c.args.lines.now in
    let t = trial_in text c.args.self.now in
    let none : c.new-found.result ≡ [] = c.new-found.ensures in
    record {
      stands = subst (λ (l : List Match). Stands t c.args.scope (replacements t c.args.scope c.args.a) l None c.line_from-at.result) (sym none)
          (begins t c.args.scope c.args.a c.line_from-at.result c.line_from-at.ensures.place);
      present = within-text (length text) c.args.scope.b c.line_from-at.result c.requires.within c.line_from-at.ensures.present;
      on_text = All-same (IsFoundOn text) c.new-found.result [] none (All-nil (IsFoundOn text));
    }

pub returns-clause-found : goal.returns-clause-found
returns-clause-found g c =
    let t = trial_in (g.T.Lines.lines c.args.lines.now) c.args.self.now in
    stands-nowhere t c.args.scope (replacements t c.args.scope c.args.a) c.search.found c.search.end c.search.at c.search.invariant.stands c.in_default.is
