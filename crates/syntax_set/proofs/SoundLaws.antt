-- What keeps items and patterns sound together, and what follows for one item.
use Rattle.std.proofs.Common.{◌≡◌, ℕ, zero, suc, List, [], ◌∷◌, ◌++◌, length, map, refl, sym, subst, slice_get, Some, None, get_or}
use Rattle.std.specs.Prelude.{Bool, true, false, Option, option_map, nat_eq, if◌then◌else◌}
use Rattle.std.specs.List.{All}
use Rattle.std.specs.Option.{ForSome}
use Rattle.std.proofs.lemmas.List.Elements.{All-nil, All-push, All-map, All-weaker, All-get_or}
use Rattle.std.proofs.lemmas.Option.{get_or_from_slice_get, slice_get_within, same_Some}
use Rattle.vim_pattern.specs.Tree.{PatternTree}
use Rattle.syn_base.specs.declared.places.GroupId.{GroupId}
use Rattle.syntax_set.specs.declared.added_item.AddedItem.{AddedItem}
use Rattle.syntax_set.specs.declared.item.Item.{Item}
use Rattle.syntax_set.specs.declared.item.ItemKind.{ItemKind}
use Rattle.syntax_set.specs.declared.item.ItemKind.TheVariants as kind
use Rattle.syntax_set.specs.declared.item.Pattern.{Pattern}
use Rattle.syntax_set.specs.Allowed.{cleared}
use Rattle.syntax_set.specs.Soundness.{IsAdded, AreKindAdded, HasAdded, AreSound}

slice_get-front : {X : Type 0} (xs ys : List X) (k : ℕ) (x : X) → slice_get xs k ≡ Some x → slice_get (xs ++ ys) k ≡ Some x
slice_get-front [] ys k x e = absurd (cc)
slice_get-front (y ∷ xs) ys zero x e = e
slice_get-front (y ∷ xs) ys (suc k) x e = slice_get-front xs ys k x e

-- the last tree has the number of those before it
pub added-last : (trees : List PatternTree) (tree : PatternTree) → slice_get (trees ++ tree ∷ []) (length trees) ≡ Some tree
added-last [] tree = refl
added-last (t ∷ trees) tree = added-last trees tree

-- more patterns change nothing
pub added-more : (trees more : List PatternTree) (pattern : Pattern) → IsAdded trees pattern → IsAdded (trees ++ more) pattern
added-more trees more pattern h = slice_get-front trees more pattern.id.0 pattern.tree h

pub all_added-more : (trees more : List PatternTree) (patterns : List Pattern) → All (IsAdded trees) patterns → All (IsAdded (trees ++ more)) patterns
all_added-more trees more patterns h = All-weaker (IsAdded trees) (IsAdded (trees ++ more)) (added-more trees more) patterns h

pub option_added-more : (trees more : List PatternTree) (pattern : Option Pattern) → ForSome pattern (IsAdded trees) → ForSome pattern (IsAdded (trees ++ more))
option_added-more trees more pattern h p e = added-more trees more p (h p e)

pub kind_added-more : (trees more : List PatternTree) (k : ItemKind) → AreKindAdded trees k → AreKindAdded (trees ++ more) k
kind_added-more trees more kind.Keyword h = tt
kind_added-more trees more (kind.Match pattern) h = added-more trees more pattern h
kind_added-more trees more (kind.Region starts skip ends) h = record {
  starts_added = all_added-more trees more starts h.starts_added;
  skip_added = option_added-more trees more skip h.skip_added;
  ends_added = all_added-more trees more ends h.ends_added;
}

pub sound-more : (items : List AddedItem) (trees more : List PatternTree) → AreSound items trees → AreSound items (trees ++ more)
sound-more items trees more h = All-weaker (HasAdded trees) (HasAdded (trees ++ more)) (λ added. kind_added-more trees more added.item.kind) items h

pub sound-nothing : (trees : List PatternTree) → AreSound [] trees
sound-nothing trees = All-nil (HasAdded trees)

-- an item more whose patterns were added
pub sound-push : (items : List AddedItem) (trees : List PatternTree) (added : AddedItem) → AreSound items trees → HasAdded trees added → AreSound (items ++ added ∷ []) trees
sound-push items trees added h k = All-push (HasAdded trees) items added h k

-- what ends an item's life leaves its patterns
cleared_item : (group : Option GroupId) (added : AddedItem) → (cleared group added).item ≡ added.item
cleared_item None added = refl
cleared_item (Some group) added = by (nat_eq added.item.group.0 group.0)
  where
    by : (b : Bool) → (if b then record added { live = false } else added).item ≡ added.item
    by true = refl
    by false = refl

pub sound-cleared : (items : List AddedItem) (trees : List PatternTree) (group : Option GroupId) → AreSound items trees → AreSound (map (cleared group) items) trees
sound-cleared items trees group h =
    All-map (HasAdded trees) (cleared group) items
    (All-weaker (HasAdded trees) (λ added. HasAdded trees (cleared group added))
    (λ added k. subst (λ (i : Item). AreKindAdded trees i.kind) (sym (cleared_item group added)) k) items h)

-- the patterns of the item of a number
pub item_added : (items : List AddedItem) (trees : List PatternTree) (id : ℕ) (item : Item) → AreSound items trees → Some item ≡ option_map (λ added. added.item) (slice_get items id) → AreKindAdded trees item.kind
item_added items trees id item h e = by (slice_get items id) refl e
  where
    by : (o : Option AddedItem) → slice_get items id ≡ o → Some item ≡ option_map (λ added. added.item) o → AreKindAdded trees item.kind
    by None f e = absurd (cc)
    by (Some added) f e =
        let same : item ≡ added.item = same_Some item added.item e in
        let there : get_or items id added ≡ added = get_or_from_slice_get items id added added f in
        subst (λ (i : Item). AreKindAdded trees i.kind) (sym same)
        (subst (HasAdded trees) there (All-get_or (HasAdded trees) items id added (slice_get_within items id added f) h))
