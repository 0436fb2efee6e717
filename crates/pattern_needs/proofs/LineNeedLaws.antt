-- What lines lack by the first pieces of a pattern.
use Rattle.std.proofs.Common.{◌≡◌, ◌≤◌, inl, inr, ℕ, zero, suc, Bool, true, false, List, [], ◌∷◌, length, refl, sym, ap, arith, subst}
use Rattle.std.specs.Prelude.{Option, Some, None, nat_eq, slice_get}
use Rattle.std.specs.List.{All}
use Rattle.std.proofs.lemmas.Bool.Decides.{nat_tests}
use Rattle.std.proofs.lemmas.Option.{get_or_from_slice_get, none-some, slice_get_within}
use Rattle.char_class.specs.declared.sets.Sets.{Sets}
use Rattle.syn_base.specs.declared.places.Place.{Place}
use Rattle.pattern_items.specs.declared.atom.Atom.{Atom}
use Rattle.pattern_items.specs.declared.atom.Atom.TheVariants.{LineStart}
use Rattle.vim_pattern.specs.Shape.{Shape, one, seq}
use Rattle.vim_pattern.specs.Tree.{PatternTree}
use Rattle.match_rules.specs.Ways.{Context, Way, line_at, place, way_from}
use Rattle.match_rules.specs.Atoms.{lines_looked, only_if}
use Rattle.match_rules.specs.Attempt.{for_tree, ignores_case}
use Rattle.match_rules.specs.Marks.{Mark, Tick, Reach}
use Rattle.match_rules.specs.Visits.{behind_fit, visits}
use Rattle.match_rules.proofs.MarkLaws.{AllWays}
use Rattle.pattern_screens.proofs.Bounded.{ways_of}
use Rattle.pattern_screens.proofs.LinedParts.{IsIn}
use Rattle.pattern_needs.specs.Asking.{asked_of, atoms_in}
use Rattle.pattern_needs.specs.Characters.{holds}
use Rattle.pattern_needs.specs.Endings.{IsLastOf, IsLastTold}
use Rattle.pattern_needs.specs.Fronts.{front, front_tree, front_upto, piece_upto, stopped}
use Rattle.pattern_needs.specs.declared.ending.Ended.{Ended}
use Rattle.pattern_needs.specs.LineNeeds.{IsLastNeeded, IsOneNeeded, IsSecondNeeded}
use Rattle.pattern_needs.specs.LineCosts.{is_cheap_in}
use Rattle.pattern_needs.specs.Needs.{needed, some_takes}
use Rattle.pattern_needs.specs.Nonblanks.{IsSecondAt, IsSecondTold, Leads, LeadsToSecond, StandsAt}
use Rattle.pattern_needs.specs.Spreads.{IsCheapPart, Weighs, before_blank, from_kind, total}
use Rattle.pattern_needs.specs.declared.asked.Asked.{Asked}
use Rattle.pattern_needs.specs.declared.nonblanks.Counted.{Counted}
use Rattle.pattern_needs.specs.declared.nonblanks.Told.{Told}
use Rattle.pattern_needs.specs.declared.one_of.OneOf.{OneOf}
use Rattle.pattern_needs.proofs.FrontWays.{upto-none, vain-by-front, vain-by-stop}
use Rattle.pattern_needs.proofs.Lacking.{HasNone, Lacks, none-followed, none-lacking}
use Rattle.pattern_needs.proofs.LeadLaws.{leads-seq, leads-still, ways-map}
use Rattle.pattern_needs.proofs.LineParts.{IsFrom}
use Rattle.pattern_needs.proofs.NeedsLaws.{cheap-is}
use Rattle.pattern_needs.proofs.SpreadLaws.{cost-kind}

true-or : (b : Bool) → b ≡ true → b ≡ false → ⊥
true-or true e f = absurd (cc)
true-or false e f = absurd (cc)

false-if : (b : Bool) → (b ≡ true → ⊥) → b ≡ false
false-if true h = absurd (h refl)
false-if false h = refl

-- ---- one of some characters

-- each character of a line
each-of : (P : ℕ → Type 0) (line : List ℕ) → All P line → (i c : ℕ) → slice_get line i ≡ Some c → P c
each-of P line h i c e = subst P (get_or_from_slice_get line i c 0 e) (h i 0 (slice_get_within line i c e))

pub is-known : (sets : Sets) (ignore : Bool) (c : ℕ) (o : Option (List Atom)) (asked : Asked) → asked_of sets ignore c o ≡ Some asked → o ≡ Some (atoms_in o)
is-known sets ignore c None asked e = absurd (none-some asked e)
is-known sets ignore c (Some atoms) asked e = refl

pub one-needed : (sets : Sets) (ignore : Bool) (budget : ℕ) (tree : PatternTree) (upto : Option ℕ) (part : Shape) (need : OneOf) → part ≡ piece_upto upto tree.node → needed part ≡ Some (atoms_in (needed part)) →
    ((c : ℕ) → some_takes sets (ignores_case tree ignore) (atoms_in (needed part)) c ≡ true → holds need.characters c ≡ true) → is_cheap_in need.most budget (front_tree upto tree) ≡ true →
    IsOneNeeded sets ignore budget tree need
one-needed sets ignore budget tree upto part need is known taken cheap line few none x l col hs hi on within =
    let y : Context = for_tree tree x in
    let short : length (line_at x.text l) ≤ need.most = omega (arith, few, ap length on) in
    let inside : col ≤ length (line_at x.text l) = omega (arith, within, ap length on) in
    let atoms = atoms_in (needed part) in
    let lack : Lacks y l 0 atoms = λ i c late e.
    let apart : holds need.characters c ≡ false = each-of (λ d. holds need.characters d ≡ false) line none i c (subst (λ k. slice_get k i ≡ Some c) on e) in
    let here : some_takes sets (ignores_case tree ignore) atoms c ≡ false = false-if _ (λ t. true-or _ (taken c t) apart) in
    subst (λ s. some_takes s y.ignore atoms c ≡ false) (sym hs) (subst (λ b. some_takes sets (ignores_case tree b) atoms c ≡ false) (sym hi) here) in
    let stay = (cheap-is need.most budget (front_tree upto tree) cheap).0 in
    let at : IsFrom y l 0 (place l col) = record { on = refl; within = inside; from = omega arith } in
    vain-by-front tree x budget upto need.most l col short inside cheap
    (upto-none y l upto tree.node (λ e v from. none-lacking y l 0 (piece_upto upto tree.node) e atoms (subst (λ p. needed p ≡ Some atoms) is known) lack v from) stay (way_from (place l col)) at)

-- ---- the second character that isn't a blank

none-of : (marks : List Mark) → AllWays (λ v. ⊥) marks → HasNone marks
none-of [] h = refl
none-of (Tick l ∷ marks) h = none-of marks h
none-of (Reach w ∷ marks) h = absurd h.0

no-start : (x : Context) (l col : ℕ) → HasNone (visits x (one LineStart) (way_from (place l (suc col))))
no-start x l col =
    let past : nat_eq (suc col) 0 ≡ false = grind (arith, nat_tests) in
    let w : Way = way_from (place l (suc col)) in
    ap (λ b. ways_of (Tick (lines_looked x w LineStart) ∷ behind_fit w LineStart (only_if b w.at))) past

-- behind a line's start nothing begins
front-starts : (x : Context) (upto : Option ℕ) (rest : Shape) (l col : ℕ) → HasNone (visits x (front_upto upto (seq (one LineStart) rest)) (way_from (place l (suc col))))
front-starts x None rest l col = none-followed (visits x (one LineStart) (way_from (place l (suc col)))) (visits x rest) (no-start x l col)
front-starts x (Some zero) rest l col = no-start x l col
front-starts x (Some (suc k)) rest l col = none-followed (visits x (one LineStart) (way_from (place l (suc col)))) (visits x (front rest k)) (no-start x l col)

pub second-needed : (sets : Sets) (ignore : Bool) (budget : ℕ) (tree : PatternTree) (told : Told) (most : ℕ) → IsSecondTold sets (ignores_case tree ignore) tree.node told → is_cheap_in most budget (front_tree told.upto tree) ≡ true →
    IsSecondNeeded sets ignore budget tree (record { characters = told.characters; most = most })
second-needed sets ignore budget tree told most is cheap line few c second apart x l col hs hi on within =
    let y : Context = for_tree tree x in
    let short : length (line_at x.text l) ≤ most = omega (arith, few, ap length on) in
    let inside : col ≤ length (line_at x.text l) = omega (arith, within, ap length on) in
    let sec : IsSecondAt (line_at y.text l) c second.0 second.1.0 = subst (λ k. IsSecondAt k c second.0 second.1.0) (sym on) second.1.1 in
    let none : (k : ℕ) → HasNone (visits y (front_upto told.upto tree.node) (way_from (place l k))) = λ k. elim k as (λ n. HasNone (visits y (front_upto told.upto tree.node) (way_from (place l n)))) [
      | zero ↦ none-of (visits y (front_upto told.upto tree.node) (way_from (place l 0))) (is.second y l second.0 second.1.0 c hs (ap (ignores_case tree) hi) sec apart (way_from (place l 0)) refl)
      | suc n ↦ subst (λ node. HasNone (visits y (front_upto told.upto node) (way_from (place l (suc n))))) (sym is.begins.1) (front-starts y told.upto is.begins.0 l n)
    ] in
    vain-by-front tree x budget told.upto most l col short inside cheap (none col)

-- ---- the last character that isn't a blank

none-stays : (x : Context) (l : ℕ) (marks : List Mark) → AllWays (λ v. IsIn x l v.at) marks → AllWays (λ v. v.at.line ≡ l → ⊥) marks → HasNone marks
none-stays x l [] h k = refl
none-stays x l (Tick s ∷ marks) h k = none-stays x l marks h k
none-stays x l (Reach w ∷ marks) h k = absurd (k.0 h.0.on)

pub last-needed : (sets : Sets) (ignore : Bool) (budget : ℕ) (tree : PatternTree) (told : Ended) (most : ℕ) → IsLastTold sets (ignores_case tree ignore) tree.node told → IsCheapPart sets (ignores_case tree ignore) most (stopped tree.node told.number) budget →
    IsLastNeeded sets ignore budget tree (record { characters = told.characters; most = most })
last-needed sets ignore budget tree told most is cheap line few c last apart x l col hs hi on within =
    let y : Context = for_tree tree x in
    let short : length (line_at x.text l) ≤ most = omega (arith, few, ap length on) in
    let inside : col ≤ length (line_at x.text l) = omega (arith, within, ap length on) in
    let ends : IsLastOf (line_at y.text l) c = subst (λ k. IsLastOf k c) (sym on) last in
    let node : Shape = stopped tree.node told.number in
    let w : Way = way_from (place l col) in
    let at : IsIn y l w.at = record { on = refl; within = inside } in
    let kind : Bool = before_blank y w.at in
    let weighs : Weighs y l 0 0 (total (from_kind cheap.0 kind) 0 0) (visits y node w) = cheap.1.0 y l 0 0 hs (ap (ignores_case tree) hi) short w at in
    vain-by-stop tree x budget told.number (total (from_kind cheap.0 kind) 0 0) l col weighs (cost-kind cheap.0 budget cheap.1.1.0 cheap.1.1.1 kind) is.ends
    (none-stays y l (visits y node w) weighs.here (is.last y l c hs (ap (ignores_case tree) hi) ends apart w))

-- ---- piece by piece

-- ways that all have two behind them have a second of some characters
pub led-to-second : (sets : Sets) (ignore : Bool) (node : Shape) (s r : Counted) → s.none ≡ true → Leads sets ignore node s r → (r.none ≡ false) × (r.one ≡ false) → LeadsToSecond sets ignore node r.two
led-to-second sets ignore node s r begun leads told x l first at c hs hi sec apart w start =
    let stands : StandsAt l first at c s w.at = inl (begun, (ap (λ (p : Place). p.line) start, omega (arith, ap (λ (p : Place). p.col) start))) in
    ways-map (λ v. StandsAt l first at c r v.at) (λ v. ⊥) (visits x node w) (λ v k. nowhere v k) (leads x l first at c hs hi sec w stands)
  where
    nowhere : (v : Way) → StandsAt l first at c r v.at → ⊥
    nowhere v (inl none) = true-or r.none none.0 told.0
    nowhere v (inr (inl it)) = true-or r.one it.0 told.1
    nowhere v (inr (inr two)) = true-or (holds r.two c) two.0 apart

pub leads-from-start : (sets : Sets) (ignore : Bool) (node : Shape) (s r : Counted) → Leads sets ignore node s r → Leads sets ignore (seq (one LineStart) node) s r
leads-from-start sets ignore node s r h = leads-seq sets ignore (one LineStart) node s s r (leads-still sets ignore LineStart s refl refl) h

-- ---- both, and what is held

pub one-wider : (sets : Sets) (ignore : Bool) (budget : ℕ) (tree : PatternTree) (need more : OneOf) → more.most ≤ need.most → ((c : ℕ) → holds need.characters c ≡ true → holds more.characters c ≡ true) →
    IsOneNeeded sets ignore budget tree need → IsOneNeeded sets ignore budget tree more
one-wider sets ignore budget tree need more short wide h line few none = h line (omega (arith, few, short)) (λ k d inside. false-if _ (λ t. true-or _ (wide _ t) (none k d inside)))

pub second-wider : (sets : Sets) (ignore : Bool) (budget : ℕ) (tree : PatternTree) (need more : OneOf) → more.most ≤ need.most → ((c : ℕ) → holds need.characters c ≡ true → holds more.characters c ≡ true) →
    IsSecondNeeded sets ignore budget tree need → IsSecondNeeded sets ignore budget tree more
second-wider sets ignore budget tree need more short wide h line few c second none = h line (omega (arith, few, short)) c second (false-if _ (λ t. true-or _ (wide c t) none))

pub all-allowed : (sets : Sets) (ignore : Bool) (budget : ℕ) (tree : PatternTree) (need : OneOf) → ((c : ℕ) → holds need.characters c ≡ true) → IsSecondNeeded sets ignore budget tree need
all-allowed sets ignore budget tree need all line few c second none = absurd (true-or _ (all c) none)
