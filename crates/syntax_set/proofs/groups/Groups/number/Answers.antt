use Rattle.std.proofs.Common.{◌≡◌, ◌∙◌, ◌++◌, [], ◌∷◌, arith, ap, refl, sym, length, None, Some, length-append}
use Rattle.std.proofs.lemmas.List.{length-map}
use Rattle.syntax_set.specs.GroupEntries.{names_of}
use Rattle.syntax_set.specs.Groups.{group_numbered, group_of}
use Rattle.syntax_set.proofs.GroupLaws.{entry_pushed, found_group, group_of-push, names_further, still_by_lower_case, with_group-known, with_group-new}
use Rattle.syntax_set.proofs.groups.Groups.number.Goals as goal

pub returns-in-Some-clause-number : goal.returns-in-Some-clause-number
returns-in-Some-clause-number c =
    sym (found_group c.self.inside.names.entries _ c.args.name.now (Some c.in-Some.number) c.self.invariant.by_lower_case
    (c.as_str.ensures.value ∙ c.in_ok-lower.ensures.ok) c.in-Some.ensures.index
    ∙ ap (λ names. group_of names c.args.name.now) c.self.view_is)

pub returns-in-Some-clause-names : goal.returns-in-Some-clause-names
returns-in-Some-clause-names c =
    sym (with_group-known c.args.self.now c.args.name.now _ (returns-in-Some-clause-number c))

pub returns-then-number-eq-MOST_GROUPS-clause-refused : goal.returns-then-number-eq-MOST_GROUPS-clause-refused
returns-then-number-eq-MOST_GROUPS-clause-refused c =
    let new : group_of c.args.self.now c.args.name.now ≡ None =
    sym (found_group c.self.inside.names.entries _ c.args.name.now None c.self.invariant.by_lower_case
    (c.as_str.ensures.value ∙ c.in_ok-lower.ensures.ok) c.in-None.ensures.index
    ∙ ap (λ names. group_of names c.args.name.now) c.self.view_is) in
    (new, sym (ap length c.self.view_is) ∙ length-map c.self.inside.names.entries _ ∙ sym c.len-number.ensures.len ∙ c.if-number-eq-MOST_GROUPS.true)

pub invariant_of-self-in-None : goal.invariant_of-self-in-None
invariant_of-self-in-None c =
    let pushed : c.insert.new.self.entries ≡ c.self.inside.names.entries ++ (c.in_ok-lower.lower, c.in_ok-written-in-None.written) ∷ [] =
    entry_pushed c.self.inside.names c.in_ok-lower.lower c.insert.new.self c.in_ok-written-in-None.written _ c.as_str.ensures.value
    c.in-None.ensures.found c.in_ok-insert-in-None.ensures.entries in
    record {
      by_lower_case = still_by_lower_case _ _ _ _ c.args.name.now pushed c.self.invariant.by_lower_case
          c.in_ok-lower.ensures.ok c.in_ok-written-in-None.ensures.ok;
      few = rw pushed (omega (
        arith,
        length-append c.self.inside.names.entries ((c.in_ok-lower.lower, c.in_ok-written-in-None.written) ∷ []),
        c.len-number.ensures.len,
        c.self.invariant.few,
      ));
    }

pub returns-in_ok-insert-in-None-clause-number : goal.returns-in_ok-insert-in-None-clause-number
returns-in_ok-insert-in-None-clause-number c =
    let name = c.args.name.now in
    let pushed : c.insert.new.self.entries ≡ c.self.inside.names.entries ++ (c.in_ok-lower.lower, c.in_ok-written-in-None.written) ∷ [] =
    entry_pushed c.self.inside.names c.in_ok-lower.lower c.insert.new.self c.in_ok-written-in-None.written _ c.as_str.ensures.value
    c.in-None.ensures.found c.in_ok-insert-in-None.ensures.entries in
    let new : group_of (names_of c.self.inside.names.entries) name ≡ None =
    sym (found_group c.self.inside.names.entries _ name None c.self.invariant.by_lower_case
    (c.as_str.ensures.value ∙ c.in_ok-lower.ensures.ok) c.in-None.ensures.index) in
    ap (λ names. group_of names name) (names_further _ _ _ _ _ name pushed refl c.in_ok-written-in-None.ensures.ok)
    ∙ group_of-push (names_of c.self.inside.names.entries) name new
    ∙ ap (λ number. Some (group_numbered number)) (length-map c.self.inside.names.entries _ ∙ sym c.len-number.ensures.len)

pub returns-in_ok-insert-in-None-clause-names : goal.returns-in_ok-insert-in-None-clause-names
returns-in_ok-insert-in-None-clause-names c =
    let name = c.args.name.now in
    let pushed : c.insert.new.self.entries ≡ c.self.inside.names.entries ++ (c.in_ok-lower.lower, c.in_ok-written-in-None.written) ∷ [] =
    entry_pushed c.self.inside.names c.in_ok-lower.lower c.insert.new.self c.in_ok-written-in-None.written _ c.as_str.ensures.value
    c.in-None.ensures.found c.in_ok-insert-in-None.ensures.entries in
    let new : group_of c.args.self.now name ≡ None =
    sym (found_group c.self.inside.names.entries _ name None c.self.invariant.by_lower_case
    (c.as_str.ensures.value ∙ c.in_ok-lower.ensures.ok) c.in-None.ensures.index
    ∙ ap (λ names. group_of names name) c.self.view_is) in
    names_further _ _ _ _ c.args.self.now name pushed c.self.view_is c.in_ok-written-in-None.ensures.ok
    ∙ sym (with_group-new c.args.self.now name new)
