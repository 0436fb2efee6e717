-- An item whose pieces are sound has patterns that were added.
use Rattle.std.proofs.Common.{◌≡◌, ◌<◌, ℕ, suc, List, [], ◌∷◌, ◌++◌, length, refl, sym, subst, arith, length-append, Ok, Err, Some, None, true, false}
use Rattle.std.specs.Prelude.{Bool, Option, Result, nat_eq, nat_lt, if◌then◌else◌}
use Rattle.std.specs.List.{All}
use Rattle.std.specs.Option.{ForSome}
use Rattle.std.proofs.lemmas.List.Elements.{All-nil, All-push, All-head, All-tail}
use Rattle.std.proofs.lemmas.Option.{same_Some}
use Rattle.vim_pattern.specs.Tree.{PatternTree}
use Rattle.syn_base.specs.declared.places.GroupId.{GroupId}
use Rattle.syn_base.specs.declared.places.ItemId.{ItemId}
use Rattle.keyword_table.specs.declared.table.Definition.{Definition}
use Rattle.keyword_table.specs.ItemNumbers.{AreItemsBelow}
use Rattle.keyword_table.proofs.ItemLaws.{below-more, below-push}
use Rattle.syntax_set.specs.declared.item.GroupList.{GroupList}
use Rattle.syntax_set.specs.declared.item.Item.{Item}
use Rattle.syntax_set.specs.declared.item.ItemKind.{ItemKind}
use Rattle.syntax_set.specs.declared.item.ItemKind.TheVariants as item_kind
use Rattle.syntax_set.specs.declared.item.Pattern.{Pattern}
use Rattle.syntax_set.specs.declared.added_item.AddedItem.{AddedItem}
use Rattle.syntax_set.specs.Soundness.{IsAdded, AreKindAdded, AreSound}
use Rattle.syntax_set.proofs.SoundLaws.{sound-more, sound-push}
use Rattle.word_values.specs.GroupNames.{is_none}
use Rattle.syn_words.specs.declared.cause.Cause.{Cause}
use Rattle.syn_words.specs.declared.cause.Cause.TheVariants as cause
use Rattle.syn_words.specs.declared.what.Field.{Field}
use Rattle.syn_words.specs.declared.what.Field.TheVariants as field
use Rattle.syn_words.specs.declared.what.Flag.{Flag}
use Rattle.syn_words.specs.declared.what.Flag.TheVariants as flag
use Rattle.syn_words.specs.declared.what.ItemCommand.{ItemCommand}
use Rattle.syn_words.specs.declared.what.ItemCommand.TheVariants as command
use Rattle.syn_words.specs.declared.what.Piece.{Piece}
use Rattle.syn_words.specs.declared.what.Role.{Role}
use Rattle.syn_words.specs.declared.what.Role.TheVariants as role
use Rattle.syn_reader.specs.declared.contents.Content.{Content}
use Rattle.syn_reader.specs.declared.contents.Content.TheVariants as content
use Rattle.syn_reader.specs.declared.draft.Draft.{Draft}
use Rattle.syn_reader.specs.declared.names.Names.{Names}
use Rattle.syn_reader.specs.declared.reading.Reading.{Reading}
use Rattle.syn_reader.specs.Answers.{◌>>=◌}
use Rattle.syn_reader.specs.Names.{group_made}
use Rattle.syn_reader.specs.NamedLists.{list_made}
use Rattle.syn_reader.specs.Contents.{contents_of}
use Rattle.syn_reader.specs.SoundReading.{IsSoundReading}
use Rattle.syn_reader.specs.Items.{new_draft, with_flag, with_list, with_quote, with_words, with_cchar, with_matchgroup, unless_own, Drafted, matchgroup_made, with_content, with_contents, match_kind, kind_of, with_definition, with_definitions, definition_of, item_numbered, live_item, with_added, item_added, with_names, with_patterns, item_finished, drafted, finished, item_of, item_command}
use Rattle.syn_reader.proofs.Behind.{same_value, no_value, both_went, each_keeps}
use Rattle.syn_reader.proofs.SoundContents.{IsSoundContent, contents_sound}

-- the patterns of an item so far were added
pub record IsSoundDraft (trees : List PatternTree) (draft : Draft) : Type 0 where
  pub matched : ForSome draft.matched (IsAdded trees)
  pub starts : All (IsAdded trees) draft.starts
  pub skip : ForSome draft.skip (IsAdded trees)
  pub ends : All (IsAdded trees) draft.ends

new_sound : (trees : List PatternTree) (group : GroupId) (ignore : Bool) (include : ℕ) → IsSoundDraft trees (new_draft group ignore include)
new_sound trees group ignore include = record {
  matched = λ p e. absurd (cc);
  starts = All-nil (IsAdded trees);
  skip = λ p e. absurd (cc);
  ends = All-nil (IsAdded trees);
}

flag_sound : (trees : List PatternTree) (draft : Draft) (f : Flag) → IsSoundDraft trees draft → IsSoundDraft trees (with_flag draft f)
flag_sound trees draft flag.Contained h = record { matched = h.matched; starts = h.starts; skip = h.skip; ends = h.ends }
flag_sound trees draft flag.Oneline h = record { matched = h.matched; starts = h.starts; skip = h.skip; ends = h.ends }
flag_sound trees draft flag.Keepend h = record { matched = h.matched; starts = h.starts; skip = h.skip; ends = h.ends }
flag_sound trees draft flag.Extend h = record { matched = h.matched; starts = h.starts; skip = h.skip; ends = h.ends }
flag_sound trees draft flag.Excludenl h = record { matched = h.matched; starts = h.starts; skip = h.skip; ends = h.ends }
flag_sound trees draft flag.Transparent h = record { matched = h.matched; starts = h.starts; skip = h.skip; ends = h.ends }
flag_sound trees draft flag.Skipwhite h = record { matched = h.matched; starts = h.starts; skip = h.skip; ends = h.ends }
flag_sound trees draft flag.Skipnl h = record { matched = h.matched; starts = h.starts; skip = h.skip; ends = h.ends }
flag_sound trees draft flag.Skipempty h = record { matched = h.matched; starts = h.starts; skip = h.skip; ends = h.ends }
flag_sound trees draft flag.Display h = h
flag_sound trees draft flag.Fold h = record { matched = h.matched; starts = h.starts; skip = h.skip; ends = h.ends }
flag_sound trees draft flag.Conceal h = record { matched = h.matched; starts = h.starts; skip = h.skip; ends = h.ends }
flag_sound trees draft flag.Concealends h = record { matched = h.matched; starts = h.starts; skip = h.skip; ends = h.ends }

list_sound : (trees : List PatternTree) (draft : Draft) (f : Field) (list : GroupList) → IsSoundDraft trees draft → IsSoundDraft trees (with_list draft f list)
list_sound trees draft field.Contains list h = record { matched = h.matched; starts = h.starts; skip = h.skip; ends = h.ends }
list_sound trees draft field.Containedin list h = record { matched = h.matched; starts = h.starts; skip = h.skip; ends = h.ends }
list_sound trees draft field.Nextgroup list h = record { matched = h.matched; starts = h.starts; skip = h.skip; ends = h.ends }

only : (trees : List PatternTree) (pattern : Pattern) → IsAdded trees pattern → ForSome (Some pattern) (IsAdded trees)
only trees pattern h p e = subst (IsAdded trees) (same_Some pattern p e) h

quote_sound : (trees : List PatternTree) (draft : Draft) (r : Role) (pattern : Pattern) → IsSoundDraft trees draft → IsAdded trees pattern → IsSoundDraft trees (with_quote draft r pattern)
quote_sound trees draft role.Match pattern h k = record { matched = only trees (record pattern { excludenl = draft.excludenl }) k; starts = h.starts; skip = h.skip; ends = h.ends }
quote_sound trees draft role.Start pattern h k = record {
  matched = h.matched;
  starts = All-push (IsAdded trees) draft.starts (record pattern { excludenl = draft.excludenl; matchgroup = draft.matchgroup }) h.starts k;
  skip = h.skip;
  ends = h.ends;
}
quote_sound trees draft role.Skip pattern h k = record { matched = h.matched; starts = h.starts; skip = only trees (record pattern { excludenl = draft.excludenl }) k; ends = h.ends }
quote_sound trees draft role.End pattern h k = record {
  matched = h.matched;
  starts = h.starts;
  skip = h.skip;
  ends = All-push (IsAdded trees) draft.ends (record pattern { excludenl = draft.excludenl; matchgroup = draft.matchgroup }) h.ends k;
}

matchgroup_sound : (trees : List PatternTree) (draft : Draft) (group : Option GroupId) → IsSoundDraft trees draft → IsSoundDraft trees (with_matchgroup draft group)
matchgroup_sound trees draft group h = record { matched = h.matched; starts = h.starts; skip = h.skip; ends = h.ends }

abbrev IsSoundDrafted : List PatternTree → Drafted → Type 0
IsSoundDrafted trees so_far = IsSoundDraft trees so_far.0

-- an answer that is known
known : (trees : List PatternTree) (one two : Drafted) → IsSoundDraft trees one.0 → ◌≡◌ {A = Result Drafted Cause} (Ok one) (Ok two) → IsSoundDraft trees two.0
known trees one two h e = subst (IsSoundDrafted trees) (same_value one two e) h

matchgroup_made_sound : (trees : List PatternTree) (draft : Draft) (names : Names) (name : List ℕ) (left : Drafted) → matchgroup_made draft names name ≡ Ok left → IsSoundDraft trees draft → IsSoundDraft trees left.0
matchgroup_made_sound trees draft names name left h k = by (is_none name) h
  where
    by : (b : Bool)
        → (if b then Ok (with_matchgroup draft None, names) else (group_made names name >>= λ made. Ok (with_matchgroup draft (unless_own draft.item.group made.0), made.1))) ≡ Ok left
        → IsSoundDraft trees left.0
    by true e = known trees (with_matchgroup draft None, names) left (matchgroup_sound trees draft None k) e
    by false e =
        both_went (group_made names name) (λ made. Ok (with_matchgroup draft (unless_own draft.item.group made.0), made.1)) left e
        (λ made one last. known trees (with_matchgroup draft (unless_own draft.item.group made.0), made.1) left (matchgroup_sound trees draft (unless_own draft.item.group made.0) k) last)

content_sound : (trees : List PatternTree) (so_far : Drafted) (c : Content) (left : Drafted) → with_content so_far c ≡ Ok left → IsSoundContent trees c → IsSoundDraft trees so_far.0 → IsSoundDraft trees left.0
content_sound trees so_far (content.Has f) left h s k = known trees (with_flag so_far.0 f, so_far.1) left (flag_sound trees so_far.0 f k) h
content_sound trees so_far (content.Cchar c) left h s k = known trees (with_cchar so_far.0 c, so_far.1) left (record { matched = k.matched; starts = k.starts; skip = k.skip; ends = k.ends }) h
content_sound trees so_far (content.Names f list) left h s k =
    both_went (list_made so_far.1 list) (λ made. Ok (with_list so_far.0 f made.0, made.1)) left h
    (λ made one last. known trees (with_list so_far.0 f made.0, made.1) left (list_sound trees so_far.0 f made.0 k) last)
content_sound trees so_far (content.Matchgroup name) left h s k = matchgroup_made_sound trees so_far.0 so_far.1 name left h k
content_sound trees so_far (content.Quote r pattern) left h s k = known trees (with_quote so_far.0 r pattern, so_far.1) left (quote_sound trees so_far.0 r pattern k s) h
content_sound trees so_far (content.Words words) left h s k = known trees (with_words so_far.0 words, so_far.1) left (record { matched = k.matched; starts = k.starts; skip = k.skip; ends = k.ends }) h

all_sound : (trees : List PatternTree) (contents : List Content) (so_far left : Drafted) → with_contents so_far contents ≡ Ok left → All (IsSoundContent trees) contents → IsSoundDraft trees so_far.0 → IsSoundDraft trees left.0
all_sound trees [] so_far left h s k = known trees so_far left k h
all_sound trees (c ∷ contents) so_far left h s k =
    both_went (with_content so_far c) (λ u. with_contents u contents) left h
    (λ u one rest. all_sound trees contents u left rest (All-tail (IsSoundContent trees) c contents s) (content_sound trees so_far c u one (All-head (IsSoundContent trees) c contents s) k))

-- the kind of an item of a sound draft
kind_sound : (trees : List PatternTree) (kind : ItemCommand) (draft : Draft) (k : ItemKind) → kind_of kind draft ≡ Ok k → IsSoundDraft trees draft → AreKindAdded trees k
kind_sound trees command.Keyword draft k h s = subst (AreKindAdded trees) (same_value item_kind.Keyword k h) tt
kind_sound trees command.Match draft k h s = by draft.matched refl h
  where
    by : (matched : Option Pattern) → draft.matched ≡ matched → match_kind matched ≡ Ok k → AreKindAdded trees k
    by None f e = absurd (no_value cause.NoPattern k e)
    by (Some pattern) f e = subst (AreKindAdded trees) (same_value (item_kind.Match pattern) k e) (s.matched pattern f)
kind_sound trees command.Region draft k h s =
    subst (AreKindAdded trees) (same_value (item_kind.Region draft.starts draft.skip draft.ends) k h)
    (record { starts_added = s.starts; skip_added = s.skip; ends_added = s.ends })

-- the words of an item that is there
definitions_below : (bound : ℕ) (id : ItemId) (ignore : Bool) (words : List (List ℕ)) (keywords left : List Definition) → id.0 < bound → with_definitions keywords id ignore words ≡ Ok left → AreItemsBelow bound keywords → AreItemsBelow bound left
definitions_below bound id ignore words keywords left within h k = each_keeps (with_definition id ignore) (AreItemsBelow bound) one words keywords left h k
  where
    one : (before : List Definition) (word : List ℕ) (after : List Definition) → with_definition id ignore before word ≡ Ok after → AreItemsBelow bound before → AreItemsBelow bound after
    one before word after e b = by (nat_lt 80 (length word)) e
      where
        by : (long : Bool) → (if long then Err cause.TooLongWord else Ok (before ++ definition_of id ignore word ∷ [])) ≡ Ok after → AreItemsBelow bound after
        by true f = absurd (no_value cause.TooLongWord after f)
        by false f = subst (AreItemsBelow bound) (same_value (before ++ definition_of id ignore word ∷ []) after f) (below-push bound before (definition_of id ignore word) b within)

one_longer : {X : Type 0} (xs : List X) (x : X) → length (xs ++ x ∷ []) ≡ suc (length xs)
one_longer xs x = omega (arith, length-append xs (x ∷ []))

-- an item more with its words
added_sound : (reading : Reading) (item : Item) (words : List (List ℕ)) (left : Reading) → item_added reading item words ≡ Ok left → AreKindAdded reading.patterns item.kind → IsSoundReading reading → IsSoundReading left
added_sound reading item words left h kind sound = by (nat_eq (length reading.items) 32000) h
  where
    items : List AddedItem
    items = reading.items ++ live_item item ∷ []

    by : (full : Bool)
        → (if full then Err cause.TooManyItems
        else (with_definitions reading.keywords (item_numbered (length reading.items)) item.ignore words >>= λ keywords. Ok (with_added reading item keywords))) ≡ Ok left → IsSoundReading left
    by true e = absurd (no_value cause.TooManyItems left e)
    by false e =
        both_went (with_definitions reading.keywords (item_numbered (length reading.items)) item.ignore words) (λ keywords. Ok (with_added reading item keywords)) left e
        (λ keywords one last.
        let more : length reading.items < length items = omega (arith, one_longer reading.items (live_item item)) in
        subst IsSoundReading (same_value (with_added reading item keywords) left last)
        (record {
          patterns = sound-push reading.items reading.patterns (live_item item) sound.patterns kind;
          numbers = definitions_below (length items) (item_numbered (length reading.items)) item.ignore words reading.keywords keywords more one
              (below-more (length reading.items) (length items) reading.keywords (omega arith) sound.numbers);
        }))

finished_sound : (reading : Reading) (kind : ItemCommand) (draft : Drafted) (left : Reading) → finished reading kind draft ≡ Ok left → IsSoundDraft reading.patterns draft.0 → IsSoundReading reading → IsSoundReading left
finished_sound reading kind draft left h s sound =
    both_went (item_finished kind draft.0) (λ item. item_added (with_names reading draft.1) item.0 item.1) left h
    (λ item one rest.
    both_went (kind_of kind draft.0) (λ k. Ok (record draft.0.item { kind = k }, draft.0.words)) item one
    (λ k made last.
    let e = same_value (record draft.0.item { kind = k }, draft.0.words) item last in
    added_sound (with_names reading draft.1) item.0 item.1 left rest
    (subst (λ (i : Item × List (List ℕ)). AreKindAdded reading.patterns i.0.kind) e (kind_sound reading.patterns kind draft.0 k made s))
    (record { patterns = sound.patterns; numbers = sound.numbers })))

-- a command of an item
pub item_sound : (reading : Reading) (kind : ItemCommand) (group : List ℕ) (pieces : List Piece) (left : Reading) → item_command reading kind group pieces ≡ Ok left → IsSoundReading reading → IsSoundReading left
item_sound reading kind group pieces left h sound =
    both_went (contents_of reading.names.groups reading.patterns pieces) (λ contents. item_of (with_patterns reading contents.1) kind group contents.0) left h
    (λ contents one rest.
    let are = contents_sound reading.names.groups reading.patterns pieces contents one in
    let grown : IsSoundReading (with_patterns reading contents.1) = record {
      patterns = subst (AreSound reading.items) (sym are.grows.whole) (sound-more reading.items reading.patterns are.grows.more sound.patterns);
      numbers = sound.numbers;
    } in
    both_went (drafted (with_patterns reading contents.1) group contents.0) (λ draft. finished (with_patterns reading contents.1) kind draft) left rest
    (λ draft two last.
    both_went (group_made reading.names group) (λ own. with_contents (new_draft own.0 reading.ignore reading.include, own.1) contents.0) draft two
    (λ own three four.
    finished_sound (with_patterns reading contents.1) kind draft left last
    (all_sound contents.1 contents.0 (new_draft own.0 reading.ignore reading.include, own.1) draft four are.sound (new_sound contents.1 own.0 reading.ignore reading.include))
    grown)))
