-- What the matcher answers of the patterns of items.
use Rattle.item_pick.proofs.Common.{◌≡◌, refl, sym, subst, arith, ℕ, ◌+◌, ◌<◌, List, length, get_or, true, Option, Some, Result, Ok, Err, IfOk, slice_get, All, get_or_from_slice_get, slice_get-get_or, slice_get_within, ItemId, Place, PatternTree, Text, AddedItem, ItemKind, Keyword, Match, Region, Pattern, item_of, no_added, IsPatternOf, EndsBelow, IsThere, no_pattern, starts_of, is_region}
use Rattle.syn_base.specs.declared.want_of_memory.Memory.{Memory}
use Rattle.pattern_match.specs.OnText.{IsToldOn}
use Rattle.pattern_match.specs.declared.answer.Attempt.{Attempt}
use Rattle.pattern_match.specs.declared.answer.Attempt.TheVariants.{Found, Absent, TooCostly}
use Rattle.syntax_set.specs.Soundness.{AreKindAdded, AreSound, IsAdded}
use Rattle.pattern_match.specs.declared.answer.Match.{Match as MatchOf}
use Rattle.paint_rules.specs.declared.RegionEnd.{RegionEnd}
use Rattle.item_pick.specs.declared.starting.Starting.TheVariants as begun

at_of_all : {A : Type 0} (P : A → Type 0) (xs : List A) (n : ℕ) (x : A) → All P xs → Some x ≡ slice_get xs n → P x
at_of_all P xs n x all e = subst P (get_or_from_slice_get xs n x x (sym e)) (all n x (slice_get_within xs n x (sym e)))

own_of : (trees : List PatternTree) (kind : ItemKind) (pattern : Pattern) → AreKindAdded trees kind → IsPatternOf kind pattern → IsAdded trees pattern
own_of trees Keyword pattern added own = absurd own
own_of trees (Match p) pattern added own = subst (IsAdded trees) own added
own_of trees (Region starts skip ends) pattern added own = at_of_all (IsAdded trees) starts own.0 pattern added.starts_added own.1

-- a pattern by which an item starts was added
pub own_added : (items : List AddedItem) (trees : List PatternTree) (i : ItemId) (pattern : Pattern) → AreSound items trees →
    i.0 < length items → IsPatternOf (item_of items i).kind pattern → IsAdded trees pattern
own_added items trees i pattern sound item own = own_of trees (item_of items i).kind pattern (sound i.0 no_added item) own

below_by : (text : Text) (start : Place) (a : Attempt) → IsToldOn text start a → EndsBelow a (length text + 1)
below_by text start (Found m k) h = omega (arith, h.0.whole.ends.line)
below_by text start (Absent k) h = tt
below_by text start TooCostly h = tt

-- a match ends in the text
pub told_below : (text : Text) (start : Place) (told : Result Attempt Memory) → IfOk told (IsToldOn text start) → IfOk told (λ a. EndsBelow a (length text + 1))
told_below text start (Ok a) h = below_by text start a h
told_below text start (Err memory) h = tt

has_start : (kind : ItemKind) (n : ℕ) → is_region kind ≡ true → n < length (starts_of kind) →
    (starts : List Pattern) × (skip : Option Pattern) × (ends : List Pattern)
    × (kind ≡ Region starts skip ends) × (slice_get starts n ≡ Some (get_or (starts_of kind) n no_pattern))
has_start Keyword n is less = absurd (cc)
has_start (Match pattern) n is less = absurd (cc)
has_start (Region starts skip ends) n is less = (starts, skip, ends, refl, slice_get-get_or starts n no_pattern less)

-- a region by a start pattern of a number that is there
pub region_there : (items : List AddedItem) (i : ItemId) (n : ℕ) (m : MatchOf) (end : Option RegionEnd) → i.0 < length items →
    is_region (item_of items i).kind ≡ true → n < length (starts_of (item_of items i).kind) → IsThere items (begun.Region i n m end)
region_there items i n m end item is less =
    let h = has_start (item_of items i).kind n is less in
    (item, (h.0, h.1, h.2, get_or (starts_of (item_of items i).kind) n no_pattern, h.3, h.4, refl))
