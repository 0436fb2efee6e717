-- A greedy count of an atom makes the turns of a run.
use Rattle.std.proofs.Common.{◌≡◌, ℕ, zero, suc, ◌+◌, ◌-◌, ◌<◌, ◌≤◌, true, false, List, [], ◌∷◌, length, take, drop, get_or, refl, sym, ap, ◌∙◌, subst, arith}
use Rattle.std.specs.Prelude.{Option, Some, None, IsTrue, All, pos, min}
use Rattle.std.proofs.lemmas.Bool.Decides.{nat_tests}
use Rattle.std.proofs.lemmas.List.{length-drop, length-take, length-take-le, get_or-take, get_or-drop}
use Rattle.std.proofs.lemmas.List.Elements.{All-get_or}
use Rattle.std.proofs.lemmas.Option.{slice_get-get_or}
use Rattle.syn_base.specs.declared.places.Place.{Place}
use Rattle.syn_base.specs.Looked.{one_line}
use Rattle.pattern_items.specs.declared.atom.Atom.{Atom}
use Rattle.pattern_items.specs.declared.atom.Atom.TheVariants.{Char, Any, Is, Set, LineEnd, LineStart, LineStop, WordStart, WordStop, FileStart, FileStop, MatchStart, MatchStop, LineNumber, Ref, ExternalRef}
use Rattle.pattern_screens.specs.PlainAtoms.{is_plain, plain_takes, plain_fits}
use Rattle.pattern_screens.proofs.FirstScreens.{fits-told}
use Rattle.vim_pattern.specs.GroupNumbers.{HasNumbers}
use Rattle.vim_pattern.specs.Shape.{one}
use Rattle.match_rules.specs.Ways.{Context, Way, IsPlaceOf, is_after, line_at, place, behind_character}
use Rattle.match_rules.specs.Atoms.{fits, lines_looked, way_behind, own_line, only_if}
use Rattle.match_rules.specs.Counts.{one_less, less_by, is_spent}
use Rattle.pattern_match.specs.declared.task.Task.{Task}
use Rattle.pattern_match.specs.declared.task.Turns.{Turns}
use Rattle.pattern_match.specs.declared.spent.Spent.{Spent}
use Rattle.pattern_match.specs.declared.task.Went.TheVariants.{GoesOn}
use Rattle.pattern_match.specs.Steps.{shape_of}
use Rattle.match_rules.specs.Marks.{Tick}
use Rattle.pattern_match.specs.Spending.{spent_on, spent_times}
use Rattle.pattern_match.specs.Ways.{Thread, Ways, columns_on, further, run_aside}
use Rattle.pattern_match.specs.Runs.{IsRun, AreAllowed, HasRun}
use Rattle.pattern_match.specs.Search.{IsTick}
use Rattle.pattern_match.proofs.SpendingLaws.{times-cost, times-budget}
use Rattle.pattern_match.proofs.PendingLaws.{further-none}
use Rattle.pattern_match.proofs.Ticking.{IsCounting, counting_on}

pub plain-looks : (x : Context) (w : Way) (a : Atom) → is_plain a ≡ true → lines_looked x w a ≡ own_line w
plain-looks x w (Char c) p = refl
plain-looks x w (Any takes_end) p = refl
plain-looks x w (Is class negative takes_end) p = refl
plain-looks x w (Set ranges) p = refl
plain-looks x w LineEnd p = refl
plain-looks x w LineStart p = refl
plain-looks x w LineStop p = refl
plain-looks x w WordStart p = refl
plain-looks x w WordStop p = refl
plain-looks x w FileStart p = absurd (cc)
plain-looks x w FileStop p = absurd (cc)
plain-looks x w MatchStart p = refl
plain-looks x w MatchStop p = refl
plain-looks x w (LineNumber how number) p = absurd (cc)
plain-looks x w (Ref number) p = absurd (cc)
plain-looks x w (ExternalRef number) p = absurd (cc)

pub plain-moves : (w : Way) (p : Place) (a : Atom) → is_plain a ≡ true → way_behind w p a ≡ record w { at = p }
plain-moves w p (Char c) h = refl
plain-moves w p (Any takes_end) h = refl
plain-moves w p (Is class negative takes_end) h = refl
plain-moves w p (Set ranges) h = refl
plain-moves w p LineEnd h = refl
plain-moves w p LineStart h = refl
plain-moves w p LineStop h = refl
plain-moves w p WordStart h = refl
plain-moves w p WordStop h = refl
plain-moves w p FileStart h = refl
plain-moves w p FileStop h = refl
plain-moves w p MatchStart h = absurd (cc)
plain-moves w p MatchStop h = absurd (cc)
plain-moves w p (LineNumber how number) h = refl
plain-moves w p (Ref number) h = refl
plain-moves w p (ExternalRef number) h = refl

-- the character at each column of a run is taken
module _ (x : Context) (a : Atom) (p : Place) (count n : ℕ) (run : IsRun x a p count) (h : n < count) where
  abbrev line : List ℕ
  line = line_at x.text p.line

  run-inside : p.col + n < length line
  run-inside = let within = run.within in omega arith

  run-taken : plain_takes x.sets x.ignore a (get_or line (p.col + n) 0) ≡ true
  run-taken =
      let within = run.within in
      let rest = length-drop p.col line in
      let many : length (take count (drop p.col line)) ≡ count = length-take-le count (drop p.col line) (omega arith) in
      let taken = All-get_or (λ c. IsTrue (plain_takes x.sets x.ignore a c)) (take count (drop p.col line)) n 0 (omega arith) run.taken in
      subst (λ c. IsTrue (plain_takes x.sets x.ignore a c)) (get_or-take count (drop p.col line) n 0 h ∙ get_or-drop p.col line n 0) taken

  pub run-fits : (v : Way) → fits x (record v { at = columns_on p n }) a ≡ Some (columns_on p (suc n))
  run-fits v =
      let w : Way = record v { at = columns_on p n } in
      let some : 0 < count = omega arith in
      let next : p.col + n + 1 ≡ p.col + suc n = omega arith in
      fits-told x w a (run.plain some)
      ∙ ap (λ o. only_if (plain_fits x.sets x.ignore o a) (behind_character w.at)) (slice_get-get_or line (p.col + n) 0 run-inside)
      ∙ ap (λ b. only_if b (behind_character w.at)) run-taken
      ∙ ap (λ col. Some (place p.line col)) next

pub is_after-next : (p : Place) (n : ℕ) → is_after (columns_on p (suc n)) (columns_on p n) ≡ true
is_after-next p n = grind (arith, nat_tests)

pub less-unspent : (most : Option ℕ) (count n : ℕ) → AreAllowed most count → n < count → is_spent (less_by most n) ≡ false
less-unspent None count n h k = refl
less-unspent (Some most) count n h k = grind (arith, nat_tests)

pub less-next : (most : Option ℕ) (n : ℕ) → one_less (less_by most n) ≡ less_by most (suc n)
less-next None n = refl
less-next (Some most) n = ap Some (omega arith)

pub less-none : (most : Option ℕ) → less_by most 0 ≡ most
less-none None = refl
less-none (Some most) = ap Some (omega arith)

-- ---- the turns of a run

module _ (x : Context) (t : Turns) (old : Ways Task) (earlier : Spent) (most : Option ℕ) (ways : Ways Task) (spent : Spent) (c : IsCounting x t old earlier most ways spent) (numbers : HasNumbers (shape_of t.part.now))
    (a : Atom) (k : shape_of t.part.now ≡ one a) (free : t.least ≡ 0) (greedy : t.lazy ≡ false) (count : ℕ) (run : IsRun x a ways.here.way.at count) (allowed : AreAllowed most count) (low : spent.cost + count ≤ spent.budget) where
  abbrev at : Place
  at = ways.here.way.at

  abbrev spent_so : ℕ → Spent
  spent_so n = spent_times spent n (own_line ways.here.way)

  -- the way that stops is put aside
  abbrev stopped : ℕ → Ways Task
  stopped n = record (run_aside ways n) { pending = further ways.here n ∷ (run_aside ways n).pending }

  turn-ticked : (n : ℕ) → n < count → IsTick x a (stopped n) (run_aside ways (suc n)) (spent_so n) (spent_so (suc n)) GoesOn
  turn-ticked n h =
      let some : 0 < count = omega arith in
      let plain = run.plain some in
      let cost = times-cost spent (suc n) (own_line ways.here.way) in
      let budget = times-budget spent (suc n) (own_line ways.here.way) in
      let within = run.within in (
        columns_on at (suc n),
        (
          record {
            place_is = run-fits x a at count n run h ways.here.way;
            ways = ap (λ w. record (stopped n) { here = record (further ways.here n) { way = w } }) (sym (plain-moves (further ways.here n).way (columns_on at (suc n)) a plain));
            spent = ap (λ l. spent_on (spent_so n) (Tick l ∷ [])) (sym (plain-looks x (further ways.here n).way a plain));
            within = omega arith;
          },
          record { line = c.on_text.line; col = omega arith },
        ),
      )

  counted-so : (n : ℕ) → n ≤ count → IsCounting x t old earlier (less_by most n) (run_aside ways n) (spent_so n)
  counted-so zero h =
      let here = further-none ways.here in
      rw (less-none most, here) c
  counted-so (suc n) h =
      let more : n < count = omega arith in
      subst (λ m. IsCounting x t old earlier m (run_aside ways (suc n)) (spent_so (suc n))) (less-next most n)
      (counting_on x t old earlier (less_by most n) (run_aside ways n) (spent_so n) (counted-so n (omega arith)) numbers a k (less-unspent most count n allowed more) free greedy
      (stopped n) (run_aside ways (suc n)) (spent_so (suc n)) refl (columns_on at n) refl (turn-ticked n more) (is_after-next at n))

-- a count goes on behind a run
pub counting_run : (x : Context) (t : Turns) (old : Ways Task) (earlier : Spent) (most left : Option ℕ) (ways new : Ways Task) (spent later : Spent) → IsCounting x t old earlier most ways spent → HasNumbers (shape_of t.part.now)
    → (a : Atom) → shape_of t.part.now ≡ one a → t.least ≡ 0 → t.lazy ≡ false → HasRun x a most left ways new spent later → IsCounting x t old earlier left new later
counting_run x t old earlier most left ways new spent later c numbers a k free greedy r =
    let cost = times-cost spent r.count (own_line ways.here.way) in
    let budget = times-budget spent r.count (own_line ways.here.way) in
    let within : (spent_times spent r.count (own_line ways.here.way)).cost ≤ (spent_times spent r.count (own_line ways.here.way)).budget = subst (λ s. s.cost ≤ s.budget) r.spent r.within in
    rw (r.fewer, r.ways, r.spent) (counted-so x t old earlier most ways spent c numbers a k free greedy r.count r.run r.allowed (omega arith) r.count (omega arith))

-- ---- a run that was made

pub none-allowed : (most : Option ℕ) → AreAllowed most 0
none-allowed None = tt
none-allowed (Some most) = omega arith

pub no_run : (x : Context) (a : Atom) (most : Option ℕ) (ways : Ways Task) (spent : Spent) → IsPlaceOf x.text ways.here.way.at → spent.cost ≤ spent.budget → HasRun x a most most ways ways spent spent
no_run x a most ways spent on_text within =
    let col = on_text.col in
    record {
      count = 0;
      run = record { plain = λ some. absurd (omega arith); within = omega arith; taken = λ k d h. absurd (omega arith) };
      allowed = none-allowed most;
      fewer = sym (less-none most);
      ways = ap (λ (t : Thread Task). record ways { here = t }) (sym (further-none ways.here));
      spent = refl;
      within = within;
    }

pub fewer-allowed : (most : Option ℕ) (more count : ℕ) → AreAllowed most more → count ≤ more → AreAllowed most count
fewer-allowed None more count h k = tt
fewer-allowed (Some most) more count h k = omega arith

take-part : (n m : ℕ) (xs : List ℕ) → n ≤ m → take n (take m xs) ≡ take n xs
take-part zero m xs h = refl
take-part (suc n) zero xs h = absurd (omega arith)
take-part (suc n) (suc m) [] h = refl
take-part (suc n) (suc m) (c ∷ xs) h = ap (λ l. c ∷ l) (take-part n m xs (omega arith))

-- of the characters of a line, from a place up to another column
module _ (x : Context) (a : Atom) (p : Place) (count room : ℕ) (part : List ℕ) (on_text : IsPlaceOf x.text p) (is : part ≡ take room (drop p.col (line_at x.text p.line))) (within : count ≤ length part) where
  many : length part ≡ min room (length (line_at x.text p.line) - p.col)
  many = ap length is ∙ length-take room (drop p.col (line_at x.text p.line)) ∙ ap (min room) (length-drop p.col (line_at x.text p.line))

  pub within-room : count ≤ room
  within-room = let long = many in omega arith

  pub run_of_part : (0 < count → is_plain a ≡ true) → All (λ c. IsTrue (plain_takes x.sets x.ignore a c)) (take count part) → IsRun x a p count
  run_of_part plain taken =
      let long = many in
      let col = on_text.col in
      record {
        plain = plain;
        within = omega arith;
        taken = subst (All (λ c. IsTrue (plain_takes x.sets x.ignore a c))) (ap (take count) is ∙ take-part count room (drop p.col (line_at x.text p.line)) (omega arith)) taken;
      }

pub has_run : (x : Context) (a : Atom) (most left : Option ℕ) (old new : Ways Task) (earlier later : Spent) (count : ℕ) (p : Place) → p ≡ old.here.way.at → IsRun x a p count → AreAllowed most count
    → earlier.cost + count ≤ earlier.budget → left ≡ less_by most count → new ≡ run_aside old count → later ≡ spent_times earlier count (one_line (pos p.line)) → HasRun x a most left old new earlier later
has_run x a most left old new earlier later count p p_is run allowed low fewer ways spent =
    let cost = times-cost earlier count (own_line old.here.way) in
    let budget = times-budget earlier count (own_line old.here.way) in
    let spent_is : later ≡ spent_times earlier count (own_line old.here.way) = spent ∙ ap (λ q. spent_times earlier count (one_line (pos q.line))) p_is in
    record {
      count = count;
      run = subst (λ q. IsRun x a q count) p_is run;
      allowed = allowed;
      fewer = fewer;
      ways = ways;
      spent = spent_is;
      within = subst (λ s. s.cost ≤ s.budget) (sym spent_is) (omega arith);
    }
