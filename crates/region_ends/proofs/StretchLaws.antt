-- Searches from several columns that come to the same.
use Rattle.region_ends.proofs.Common.{◌≡◌, ◌∙◌, refl, sym, ap, subst, arith, ℕ, suc, ◌<◌, ◌≤◌, Bool, true, false, List, [], ◌∷◌, length, inl, inr, Option, Some, None, nat_lt, pos, reverse, nat_tests, Sets, Looked, ItemId, Place, one_line, hull_self, Text, line_at, AddedItem, ItemKind, Region, Pattern, RegionEnd, Me, Painted, Done, Refused, looked_first, ◌>>=◌, done, first_found, Cause, Matched, item_of, place_at, offset_place, columns_from, Search, Skip, NoSkip, SkipTo, SkipLine, skip_of, ends_of, skip_at, tried_at, end_at, end_made, end_from, end_in_line, Walk, EndAnswer, IsPassedOver, IsWalk, search_of, IsEnd, search_in, answer_at, left_from, HoldsLine, cases_lt, is_after, He, Re, later_place, earlier_place, end_in_present, found_from, GoesOn, IsFirst, IsSearched, ReachesEnd}
use Rattle.std.specs.Option.{option_map}
use Rattle.syn_base.specs.declared.places.GroupId.{GroupId}
use Rattle.slots.specs.Entries.{IsMarked}
use Rattle.slots.specs.declared.marks.Marks.{Marks}
use Rattle.region_ends.specs.declared.searching.EndAnswer.TheVariants.{NotHere}
use Rattle.paint_rules.specs.Rules.{no_externals}
use Rattle.region_ends.specs.EndMemo.{EndMemoStands, IsKept, KnownStands}
use Rattle.region_ends.specs.Stretches.{TellsColumns}
use Rattle.region_ends.specs.declared.end_memo.EndMemo.{EndMemo}
use Rattle.region_ends.specs.declared.end_memo.Known.{Known}
use Rattle.region_ends.specs.declared.searching.Searched.{Searched}
use Rattle.region_ends.specs.declared.searching.Searching.{Searching}
use Rattle.region_ends.proofs.LookedLaws.{alone_before}
use Rattle.region_ends.proofs.PassingLaws.{columns_passed}
use Rattle.region_ends.proofs.SearchLaws.{none_left}

-- ---- places

place_eq : (p q : Place) → p.line ≡ q.line → p.col ≡ q.col → p ≡ q
place_eq p q e f = λ i. record { line = e i; col = f i }

-- two places of which neither is after the other
neither_after : (p q : Place) → is_after p q ≡ false → is_after q p ≡ false → p ≡ q
neither_after p q a b = place_eq p q (grind (arith, nat_tests, a, b)) (grind (arith, nat_tests, a, b))

-- a place that is later than one is later than an earlier one
later_by : (p a b : Place) (x y : Bool) → is_after p a ≡ x → is_after p b ≡ y → is_after a b ≡ false →
    is_after b (later_place p a) ≡ false → later_place p b ≡ later_place p a
later_by p a b true true e f less h =
    ap (λ t. elim t as (λ _. Place) [ true ↦ p | false ↦ b ]) f ∙ sym (ap (λ t. elim t as (λ _. Place) [ true ↦ p | false ↦ a ]) e)
later_by p a b true false e f less h =
    let reached : is_after b p ≡ false = subst (λ t. is_after b (elim t as (λ _. Place) [ true ↦ p | false ↦ a ]) ≡ false) e h in
    ap (λ t. elim t as (λ _. Place) [ true ↦ p | false ↦ b ]) f ∙ (sym (neither_after p b f reached) ∙ ap (λ t. elim t as (λ _. Place) [ true ↦ p | false ↦ a ]) (sym e))
later_by p a b false y e f less h =
    let reached : is_after b a ≡ false = subst (λ t. is_after b (elim t as (λ _. Place) [ true ↦ p | false ↦ a ]) ≡ false) e h in
    ap (later_place p) (neither_after b a reached less)

later_same : (p a b : Place) → is_after a b ≡ false → is_after b (later_place p a) ≡ false → later_place p b ≡ later_place p a
later_same p a b less h = later_by p a b (is_after p a) (is_after p b) refl refl less h

after_whole : (b p q : Place) → is_after b p ≡ false → is_after p q ≡ false → is_after b q ≡ false
after_whole b p q h g = grind (arith, nat_tests, h, g)

-- what isn't after the earlier of two is after neither
earlier_by : (b p q : Place) (x : Bool) → is_after p q ≡ x → is_after b (earlier_place p q) ≡ false → (is_after b p ≡ false) × (is_after b q ≡ false)
earlier_by b p q true e h =
    let g : is_after b q ≡ false = subst (λ t. is_after b (elim t as (λ _. Place) [ true ↦ q | false ↦ p ]) ≡ false) e h in
    (grind (arith, nat_tests, g, e), g)
earlier_by b p q false e h =
    let g : is_after b p ≡ false = subst (λ t. is_after b (elim t as (λ _. Place) [ true ↦ q | false ↦ p ]) ≡ false) e h in
    (g, after_whole b p q g e)

-- ---- what is the same up to an end that lies before a place

abbrev Like : Place → Painted Cause (Option RegionEnd) → Painted Cause (Option RegionEnd) → Type 0
Like at p q = (x : Option RegionEnd) (k : Option Looked) → ReachesEnd at x → p ≡ Done x k → q ≡ Done x k

like_same : (at : Place) (p : Painted Cause (Option RegionEnd)) → Like at p p
like_same at p x k reached e = e

like_first : (at : Place) (j : Option Looked) (p q : Painted Cause (Option RegionEnd)) → Like at p q → Like at (looked_first j p) (looked_first j q)
like_first at j (Done y m) q like x k reached e =
    let a : y ≡ x = cc in
    let same : q ≡ Done y m = like y m (subst (ReachesEnd at) (sym a) reached) refl in
    ap (looked_first j) same ∙ e
like_first at j (Refused c m) q like x k reached e = absurd (cc)

like_then : {A : Type 0} (at : Place) (m : Painted Cause A) (f g : A → Painted Cause (Option RegionEnd)) → ((a : A) → Like at (f a) (g a)) → Like at (m >>= f) (m >>= g)
like_then at (Done a j) f g like = like_first at j (f a) (g a) (like a)
like_then at (Refused c j) f g like = λ x k reached e. absurd (cc)

-- the first of two that gives anything
abbrev or_else : Painted Cause (Option RegionEnd) → Painted Cause (Option RegionEnd) → Painted Cause (Option RegionEnd)
or_else p r = p >>= (λ found. elim found as (λ _. Painted Cause (Option RegionEnd)) [ None ↦ r | Some e ↦ done (Some e) ])

like_else : (at : Place) (p q r s : Painted Cause (Option RegionEnd)) → Like at p q → Like at r s → Like at (or_else p r) (or_else q s)
like_else at (Done None j) q r s like rest x k reached e =
    ap (λ q. or_else q s) (like None j tt refl) ∙ like_first at j r s rest x k reached e
like_else at (Done (Some y) j) q r s like rest x k reached e =
    let a : Some y ≡ x = cc in
    ap (λ q. or_else q s) (like (Some y) j (subst (ReachesEnd at) (sym a) reached) refl) ∙ e
like_else at (Refused c j) q r s like rest x k reached e = absurd (cc)

-- an answer by a look at one line
answer_done : (i : ItemId) (l : ℕ) (found : Option RegionEnd) (p : Painted Cause (Option RegionEnd)) → IsEnd (answer_at found l) i p → p ≡ Done found (Some (one_line (pos l)))
answer_done i l None p h = h
answer_done i l (Some e) p h = h

done_answer : (i : ItemId) (l : ℕ) (found : Option RegionEnd) (p : Painted Cause (Option RegionEnd)) → p ≡ Done found (Some (one_line (pos l))) → IsEnd (answer_at found l) i p
done_answer i l None p h = h
done_answer i l (Some e) p h = h

-- the end that a match makes, by where the body's end and the whole end would be
abbrev plain_end : Place → Place → RegionEnd
plain_end high e = record { end = e; high_to = earlier_place high e; area_end = None; area_high = None; area_shows = None }

abbrev area_of : Place → GroupId → Place → Place → RegionEnd
area_of high g body e =
    let begin = earlier_place body e in
    record { end = begin; high_to = begin; area_end = Some e; area_high = Some (earlier_place high e); area_shows = Some g }

abbrev made : Search → Pattern → Matched → Option GroupId → RegionEnd
made s pattern m None = plain_end (offset_place s.text m pattern He) (later_place (offset_place s.text m pattern Me) s.from)
made s pattern m (Some g) = area_of (offset_place s.text m pattern He) g (later_place (offset_place s.text m pattern Re) s.from) (later_place (offset_place s.text m pattern Me) s.from)

-- ---- a search from a place, and one from a later place of its line

module _ (items : List AddedItem) (sets : Sets) (budget : ℕ) (text : Text) (region : ItemId) (externals : List (List ℕ)) (from : Place) (d : ℕ) (later : from.col ≤ d) where
  abbrev at : Place
  at = place_at from.line d

  abbrev early : Search
  early = search_of items sets budget text region externals from

  abbrev late : Search
  late = search_of items sets budget text region externals at

  not_after : is_after from at ≡ false
  not_after = grind (arith, nat_tests, later)

  made_is : (s : Search) (pattern : Pattern) (m : Matched) (o : Option GroupId) → pattern.matchgroup ≡ o → end_made s pattern m ≡ made s pattern m o
  made_is s pattern m None e = rw e refl
  made_is s pattern m (Some g) e = rw e refl

  made_by : (pattern : Pattern) (m : Matched) (o : Option GroupId) → pattern.matchgroup ≡ o → ReachesEnd at (Some (end_made early pattern m)) → end_made late pattern m ≡ end_made early pattern m
  made_by pattern m None e reached =
      let here : is_after at (made early pattern m None).end ≡ false = subst (λ (x : RegionEnd). is_after at x.end ≡ false) (made_is early pattern m None e) reached in
      let end = later_same (offset_place text m pattern Me) from at not_after here in
      made_is late pattern m None e ∙ (ap (plain_end (offset_place text m pattern He)) end ∙ sym (made_is early pattern m None e))
  made_by pattern m (Some g) e reached =
      let here : is_after at (made early pattern m (Some g)).end ≡ false = subst (λ (x : RegionEnd). is_after at x.end ≡ false) (made_is early pattern m (Some g) e) reached in
      let body = later_place (offset_place text m pattern Re) from in
      let whole = later_place (offset_place text m pattern Me) from in
      let both = earlier_by at body whole (is_after body whole) refl here in
      let begin = later_same (offset_place text m pattern Re) from at not_after both.0 in
      let end = later_same (offset_place text m pattern Me) from at not_after both.1 in
      made_is late pattern m (Some g) e ∙ ((λ i. area_of (offset_place text m pattern He) g (begin i) (end i)) ∙ sym (made_is early pattern m (Some g) e))

  end_like : (c : ℕ) (pattern : Pattern) → Like at (end_at early c pattern) (end_at late c pattern)
  end_like c pattern = like_then at (tried_at early pattern c) (λ m. done (option_map (end_made early pattern) m)) (λ m. done (option_map (end_made late pattern) m)) each
    where
      each : (m : Option Matched) → Like at (done (option_map (end_made early pattern) m)) (done (option_map (end_made late pattern) m))
      each None = like_same at (done None)
      each (Some m) = λ x k reached e.
          let a : Some (end_made early pattern m) ≡ x = cc in
          ap (λ (y : RegionEnd). done (Some y)) (made_by pattern m pattern.matchgroup refl (subst (ReachesEnd at) (sym a) reached)) ∙ e

  ends_like : (c : ℕ) (ps : List Pattern) → Like at (first_found (end_at early c) ps) (first_found (end_at late c) ps)
  ends_like c [] = like_same at (done None)
  ends_like c (p ∷ ps) = like_else at (end_at early c p) (end_at late c p) (first_found (end_at early c) ps) (first_found (end_at late c) ps) (end_like c p) (ends_like c ps)

  module _ (kind : ItemKind) (c : ℕ) (cs : List ℕ) (rest : (on : ℕ) → Like at (end_from early kind cs on) (end_from late kind cs on)) where
    abbrev after_skip : Search → Skip → Painted Cause (Option RegionEnd)
    after_skip s skip = elim skip as (λ _. Painted Cause (Option RegionEnd)) [ NoSkip ↦ or_else (first_found (end_at s c) (reverse (ends_of kind))) (end_from s kind cs (suc c)) | SkipTo next ↦ end_from s kind cs next | SkipLine ↦ done None ]

    each_skip : (skip : Skip) → Like at (after_skip early skip) (after_skip late skip)
    each_skip NoSkip = like_else at (first_found (end_at early c) (reverse (ends_of kind))) (first_found (end_at late c) (reverse (ends_of kind))) (end_from early kind cs (suc c)) (end_from late kind cs (suc c)) (ends_like c (reverse (ends_of kind))) (rest (suc c))
    each_skip (SkipTo next) = rest next
    each_skip SkipLine = like_same at (done None)

    column_like : (on : ℕ) (b : Bool) → Like at (elim b as (λ _. Painted Cause (Option RegionEnd)) [ true ↦ end_from early kind cs on | false ↦ skip_at early (skip_of kind) c >>= after_skip early ]) (elim b as (λ _. Painted Cause (Option RegionEnd)) [ true ↦ end_from late kind cs on | false ↦ skip_at late (skip_of kind) c >>= after_skip late ])
    column_like on true = rest on
    column_like on false = like_then at (skip_at early (skip_of kind) c) (after_skip early) (after_skip late) each_skip

  from_like : (kind : ItemKind) (cs : List ℕ) (on : ℕ) → Like at (end_from early kind cs on) (end_from late kind cs on)
  from_like kind [] on = like_same at (done None)
  from_like kind (c ∷ cs) on = column_like kind c cs (λ on. from_like kind cs on) on (nat_lt c on)

  pub from_later : (found : Option RegionEnd) → from.line < length text → ReachesEnd at found →
      IsEnd (answer_at found from.line) region (looked_first (Some (one_line (pos from.line))) (end_from early (item_of items region).kind (columns_from d (length (line_at text from.line))) d)) →
      IsEnd (answer_at found from.line) region (end_in_line late)
  from_later found present reached h =
      let one : Looked = one_line (pos from.line) in
      let kind = (item_of items region).kind in
      let cs = columns_from d (length (line_at text from.line)) in
      let there : nat_lt from.line (length text) ≡ true = grind (arith, nat_tests, present) in
      done_answer region from.line found (end_in_line late)
      (ap (λ b. looked_first (Some one) (end_in_present late b)) there
      ∙ like_first at (Some one) (end_from early kind cs d) (end_from late kind cs d) (from_like kind cs d) found (Some one) reached
      (answer_done region from.line found (looked_first (Some one) (end_from early kind cs d)) h))

-- ---- what a search knows when it comes to a column

not_here_at : (looked : Looked) (found : Option RegionEnd) (l : ℕ) → NotHere looked ≡ answer_at found l → looked ≡ one_line (pos l)
not_here_at looked None l e = cc
not_here_at looked (Some x) l e = absurd (cc)

-- what is left, and from which columns on searches come to the same
pub record Reached (a : Walk) (text : Text) (jumped : Marks) (looked : Looked) (first c : ℕ) : Type 0 where
  pub left : found_from a text a.search.from.col ≡ left_from a text looked c
  pub held : HoldsLine looked a.search.from.line
  pub at : a.search.from.col ≤ c
  pub from : a.search.from.col ≤ first
  pub same : looked ≡ one_line (pos a.search.from.line) → (d : ℕ) → first ≤ d → d ≤ c → (IsMarked jumped d → ⊥) → found_from a text d ≡ found_from a text c

-- what a search came to, and from which columns it would come to the same
record Covers (a : Walk) (text : Text) (jumped : Marks) (s : Searched) : Type 0 where
  pub answer : IsEnd s.answer a.search.region (found_from a text a.search.from.col)
  pub from : a.search.from.col ≤ s.first
  pub same : (found : Option RegionEnd) → s.answer ≡ answer_at found a.search.from.line → (d : ℕ) →
      s.first ≤ d → d < s.to → (IsMarked jumped d → ⊥) → IsEnd s.answer a.search.region (found_from a text d)

module _ (a : Walk) (text : Text) (of : IsWalk a text) where
  abbrev one : Looked
  one = one_line (pos a.search.from.line)

  pub begun : (jumped : Marks) (looked : Looked) → looked ≡ one → Reached a text jumped looked a.search.from.col a.search.from.col
  begun jumped looked is = record {
    left = ap (λ (k : Looked). left_from a text k a.search.from.col) (sym is);
    held = subst (λ (k : Looked). HoldsLine k a.search.from.line) (sym is) (hull_self one);
    at = omega arith;
    from = omega arith;
    same = λ alone d low high free. ap (found_from a text) (omega (arith, low, high));
  }

  pub passed : (jumped : Marks) (looked : Looked) (first c busy : ℕ) → Reached a text jumped looked first c → c ≤ busy → busy ≤ suc (length a.line.now) → ((j : ℕ) → c ≤ j → j < busy → IsPassedOver a j) → Reached a text jumped looked first busy
  passed jumped looked first c busy r more within over = record {
    left = r.left ∙ columns_passed a text of looked r.held c busy more within over;
    held = r.held;
    at = omega (arith, r.at);
    from = r.from;
    same = λ alone d low high free. elim (cases_lt d c) [
      | inl before ↦ r.same alone d low (omega (arith, before)) free ∙ passed_from c (omega arith) more
      | inr behind ↦ passed_from d behind high
    ];
  }
    where
      passed_from : (d : ℕ) → c ≤ d → d ≤ busy → found_from a text d ≡ found_from a text busy
      passed_from d low high = columns_passed a text of one (hull_self one) d busy high within (λ j from below. over j (omega (arith, from, low)) below)

  pub stepped : (jumped more : Marks) (looked after : Looked) (first busy next result : ℕ) → Reached a text jumped looked first busy → GoesOn a text looked busy next after → IsFirst result first next looked after →
      ((d : ℕ) → IsMarked jumped d → IsMarked more d) → ((d : ℕ) → busy < d → d < next → IsMarked more d) → Reached a text more after result next
  stepped jumped more looked after first busy next result r step is grows between = record {
    left = r.left ∙ step.same;
    held = step.held r.held;
    at = omega (arith, r.at, step.further);
    from = elim is [ inl e ↦ omega (arith, e, r.at, step.further) | inr h ↦ omega (arith, h.0, r.from) ];
    same = λ alone d low high free. elim is [
      | inl e ↦ ap (found_from a text) (omega (arith, e, low, high))
      | inr h ↦ elim (cases_lt d next) [
        | inl before ↦ elim (cases_lt busy d) [
          | inl over ↦ absurd (free (between d over before))
          | inr upto ↦ (let now : looked ≡ one = sym h.1 ∙ alone in
              r.same now d (omega (arith, low, h.0)) upto (λ m. free (grows d m))
              ∙ (ap (λ (k : Looked). left_from a text k busy) (sym now) ∙ (step.same ∙ ap (λ (k : Looked). left_from a text k next) alone)))
        ]
        | inr behind ↦ ap (found_from a text) (omega (arith, behind, high))
      ]
    ];
  }

  -- a search asks of its item for the skip and the ends alone
  by_patterns : (s : Search) (kind : ItemKind) (cs : List ℕ) (on : ℕ) → end_from s kind cs on ≡ end_from s (Region [] (skip_of kind) (ends_of kind)) cs on
  by_patterns s kind [] on = refl
  by_patterns s kind (c ∷ cs) on = λ i. elim (nat_lt c on) as (λ _. Painted Cause (Option RegionEnd)) [
    | true ↦ by_patterns s kind cs on i
    | false ↦ skip_at s (skip_of kind) c >>= (λ skip. elim skip as (λ _. Painted Cause (Option RegionEnd)) [
      | NoSkip ↦ or_else (first_found (end_at s c) (reverse (ends_of kind))) (by_patterns s kind cs (suc c) i)
      | SkipTo next ↦ by_patterns s kind cs next i
      | SkipLine ↦ done None
    ])
  ]

  abbrev kind : ItemKind
  kind = (item_of a.search.items.now a.search.region).kind

  left_is : (c : ℕ) → looked_first (Some one) (end_from (search_in a.search text) kind (columns_from c (length (line_at text a.search.from.line))) c) ≡ found_from a text c
  left_is c =
      ap (looked_first (Some one)) (by_patterns (search_in a.search text) kind (columns_from c (length (line_at text a.search.from.line))) c)
      ∙ sym (λ i. looked_first (Some one) (end_from (search_in a.search text) (Region [] (of.of.skip i) (of.of.ends i)) (columns_from c (length (of.line i))) c))

  searched : (jumped : Marks) (s : Searched) → Covers a text jumped s → IsSearched a.search text jumped s
  searched jumped s is = record {
    answer = subst (λ p. IsEnd s.answer a.search.region p)
        (sym (ap (λ b. looked_first (Some one) (end_in_present (search_in a.search text) b)) there ∙ left_is a.search.from.col)) is.answer;
    columns = λ found e d low high free reached.
        subst (λ (x : EndAnswer). IsEnd x a.search.region (end_in_line (search_in (record a.search { from = place_at a.search.from.line d }) text))) (sym e)
        (from_later a.search.items.now a.search.matcher.sets.now a.search.matcher.budget text a.search.region a.search.externals.now a.search.from d (omega (arith, low, is.from)) found of.may.present reached
        (subst (λ p. IsEnd (answer_at found a.search.from.line) a.search.region p) (sym (left_is d))
        (subst (λ (x : EndAnswer). IsEnd x a.search.region (found_from a text d)) e (is.same found e d low high free))));
  }
    where
      there : nat_lt a.search.from.line (length text) ≡ true
      there = grind (arith, nat_tests, of.may.present)

  -- past the line's end there is no column
  pub none_found : (jumped : Marks) (looked : Looked) (first c : ℕ) → Reached a text jumped looked first c → length a.line.now < c → IsSearched a.search text jumped (record { answer = NotHere looked; first = first; to = c })
  none_found jumped looked first c r past =
      let none : (k : Looked) → left_from a text k c ≡ Done None (Some k) = λ k. none_left (search_in a.search text) (Region [] a.skip.now a.ends.now) c (length a.line.now) k past in
      searched jumped (record { answer = NotHere looked; first = first; to = c }) (record {
        answer = r.left ∙ none looked;
        from = r.from;
        same = λ found e d low high free.
            let now = not_here_at looked found a.search.from.line e in
            r.same now d low (omega (arith, high)) free ∙ (none one ∙ ap (λ (k : Looked). Done None (Some k)) (sym now));
      })

  pub answered : (jumped : Marks) (looked : Looked) (first busy to : ℕ) (answer : EndAnswer) → Reached a text jumped looked first busy → to ≡ suc busy → IsEnd answer a.search.region (left_from a text looked busy) →
      IsSearched a.search text jumped (record { answer = answer; first = first; to = to })
  answered jumped looked first busy to answer r e there = searched jumped (record { answer = answer; first = first; to = to }) (record {
    answer = subst (λ p. IsEnd answer a.search.region p) (sym r.left) there;
    from = r.from;
    same = λ found is d low high free.
        let now = alone_before looked a.search.from.line (end_from (search_in a.search text) (Region [] a.skip.now a.ends.now) (columns_from busy (length a.line.now)) busy) found r.held
        (answer_done a.search.region a.search.from.line found (left_from a text looked busy) (subst (λ (x : EndAnswer). IsEnd x a.search.region (left_from a text looked busy)) is there)) in
        subst (λ p. IsEnd answer a.search.region p)
        (sym (r.same now d low (omega (arith, high, e)) free ∙ ap (λ (k : Looked). left_from a text k busy) (sym now))) there;
  })

-- ---- what is remembered

-- what a search came to, if it is kept
pub kept_stands : (a : Searching) (text : Text) (jumped : Marks) (s : Searched) (known : Known) → a.externals.now ≡ no_externals → TellsColumns a text jumped s → IsKept a.region a.from.line s known →
    KnownStands a.items.now a.matcher.sets.now a.matcher.budget text a.from.line jumped known
kept_stands a text jumped s known none tells k c low high free reached =
    let at : Place = place_at a.from.line c in
    let h = tells known.end k.answer c (omega (arith, k.first, low)) (omega (arith, k.to, high)) free reached in
    subst (λ (i : ItemId). IsEnd (answer_at known.end a.from.line) i (end_in_line (search_of a.items.now a.matcher.sets.now a.matcher.budget text i no_externals at))) (sym k.same)
    (subst (λ e. IsEnd (answer_at known.end a.from.line) a.region (end_in_line (search_of a.items.now a.matcher.sets.now a.matcher.budget text a.region e at))) none
    (subst (λ (x : EndAnswer). IsEnd x a.region (end_in_line (search_in (record a { from = at }) text))) k.answer h))

-- it stays true where more columns were jumped over
pub grown : (items : List AddedItem) (sets : Sets) (budget : ℕ) (text : Text) (l : ℕ) (memo : EndMemo) (more : Marks) → EndMemoStands items sets budget text l memo → ((d : ℕ) → IsMarked memo.jumped d → IsMarked more d) →
    EndMemoStands items sets budget text l (record memo { jumped = more })
grown items sets budget text l memo more stands grows =
    record { known = λ k known has c low high free reached. stands.known k known has c low high (λ m. free (grows c m)) reached }
