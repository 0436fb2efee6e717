-- An item names no marks.
use Rattle.std.proofs.Common.{◌≡◌, ◌≤◌, ℕ, List, [], ◌∷◌, ◌++◌, length, refl, subst, Ok, Err, Some, None, true, false}
use Rattle.std.specs.Prelude.{Bool, Option, Result, nat_eq, if◌then◌else◌}
use Rattle.std.specs.List.{All}
use Rattle.std.specs.Option.{ForSome}
use Rattle.std.proofs.lemmas.List.Elements.{All-nil, All-push}
use Rattle.std.proofs.lemmas.Option.{none-some, same_Some}
use Rattle.vim_pattern.specs.Tree.{PatternTree}
use Rattle.syn_base.specs.declared.places.GroupId.{GroupId}
use Rattle.syntax_set.specs.declared.added_item.AddedItem.{AddedItem}
use Rattle.syntax_set.specs.declared.item.GroupList.{GroupList}
use Rattle.syntax_set.specs.declared.item.Item.{Item}
use Rattle.syntax_set.specs.declared.item.ItemKind.{ItemKind}
use Rattle.syntax_set.specs.declared.item.ItemKind.TheVariants as item_kind
use Rattle.syntax_set.specs.declared.item.Pattern.{Pattern}
use Rattle.syntax_set.specs.ClusterTable.{ClusterList}
use Rattle.syntax_set.specs.NoMarks.{IsNoMark, ListHasNoMarks, PatternHasNoMark, KindHasNoMarks, ItemHasNoMarks, AddedHasNoMarks}
use Rattle.word_values.specs.GroupNames.{is_none}
use Rattle.syn_words.specs.declared.cause.Cause.{Cause}
use Rattle.syn_words.specs.declared.cause.Cause.TheVariants as cause
use Rattle.syn_words.specs.declared.what.Field.{Field}
use Rattle.syn_words.specs.declared.what.Field.TheVariants as field
use Rattle.syn_words.specs.declared.what.Flag.{Flag}
use Rattle.syn_words.specs.declared.what.Flag.TheVariants as flag
use Rattle.syn_words.specs.declared.what.ItemCommand.{ItemCommand}
use Rattle.syn_words.specs.declared.what.ItemCommand.TheVariants as command
use Rattle.syn_words.specs.declared.what.Piece.{Piece}
use Rattle.syn_words.specs.declared.what.Piece.TheVariants as piece
use Rattle.syn_words.specs.declared.what.Role.{Role}
use Rattle.syn_words.specs.declared.what.Role.TheVariants as role
use Rattle.syn_reader.specs.declared.contents.Content.{Content}
use Rattle.syn_reader.specs.declared.contents.Content.TheVariants as content
use Rattle.syn_reader.specs.declared.draft.Draft.{Draft}
use Rattle.syn_reader.specs.declared.names.Names.{Names}
use Rattle.syn_reader.specs.declared.reading.Reading.{Reading}
use Rattle.syn_reader.specs.Answers.{◌>>=◌}
use Rattle.syn_reader.specs.Abbreviations.{words_of}
use Rattle.syn_reader.specs.Names.{group_made}
use Rattle.syn_reader.specs.NamedLists.{list_read, list_made}
use Rattle.syn_reader.specs.Patterns.{tree_at, use_of, pattern_of, pattern_read}
use Rattle.syn_reader.specs.Contents.{Contents, content_of, with_piece, contents_of}
use Rattle.syn_reader.specs.Items.{new_draft, with_flag, with_list, with_quote, with_words, with_cchar, with_matchgroup, unless_own, Drafted, matchgroup_made, with_content, with_contents, match_kind, kind_of, with_definitions, item_numbered, live_item, with_added, item_added, with_names, with_patterns, item_finished, drafted, finished, item_of, item_command}
use Rattle.syn_reader.proofs.Behind.{same_value, no_value, both_went, each_keeps, each_keeps_of, either_way}
use Rattle.syn_reader.proofs.NoMarkNames.{HoldNoMarks, NamesHaveNoMarks, MadeHasNoMarks, group_is_no_mark}
use Rattle.syn_reader.proofs.NoMarkLists.{ReadHasNoMarks, read_has_none, list_has_none}

of_none : {X : Type 0} (P : X → Type 0) → ForSome None P
of_none P x e = absurd (none-some x e)

of_some : {X : Type 0} (P : X → Type 0) (x : X) → P x → ForSome (Some x) P
of_some P x h y e = subst P (same_Some x y e) h

-- ---- what the pieces hold

abbrev ContentHasNoMarks : Content → Type 0
ContentHasNoMarks (content.Names f list) = ReadHasNoMarks list
ContentHasNoMarks (content.Quote r pattern) = PatternHasNoMark pattern
ContentHasNoMarks other = Unit {0}

abbrev ContentsHaveNoMarks : Contents → Type 0
ContentsHaveNoMarks read = All ContentHasNoMarks read.0

abbrev PieceHasNoMarks : Content × List PatternTree → Type 0
PieceHasNoMarks read = ContentHasNoMarks read.0

piece_is : (one read : Content × List PatternTree) → PieceHasNoMarks one → ◌≡◌ {A = Result (Content × List PatternTree) Cause} (Ok one) (Ok read) → PieceHasNoMarks read
piece_is one read h e = subst PieceHasNoMarks (same_value one read e) h

piece_has_none : (groups : List (List ℕ)) (trees : List PatternTree) (p : Piece) (read : Content × List PatternTree) → content_of groups trees p ≡ Ok read → length groups ≤ 20000 → PieceHasNoMarks read
piece_has_none groups trees (piece.Has f) read h few = piece_is (content.Has f, trees) read tt h
piece_has_none groups trees (piece.Cchar c) read h few = piece_is (content.Cchar c, trees) read tt h
piece_has_none groups trees (piece.Names f list) read h few =
    both_went (list_read groups list) (λ l. Ok (content.Names f l, trees)) read h
    (λ l one last. piece_is (content.Names f l, trees) read (read_has_none groups list l one few) last)
piece_has_none groups trees (piece.Matchgroup name) read h few = piece_is (content.Matchgroup name, trees) read tt h
piece_has_none groups trees (piece.Quote r q) read h few =
    both_went (pattern_read trees r q) (λ p. Ok (content.Quote r p.0, p.1)) read h
    (λ p one last.
    both_went (tree_at q.text (use_of r)) (λ tree. Ok (pattern_of (length trees) tree q, trees ++ tree ∷ [])) p one
    (λ tree found made.
    piece_is (content.Quote r p.0, p.1) read
    (subst (λ (m : Pattern × List PatternTree). PatternHasNoMark m.0) (same_value (pattern_of (length trees) tree q, trees ++ tree ∷ []) p made) (of_none IsNoMark)) last))
piece_has_none groups trees (piece.Word text) read h few =
    both_went (words_of text) (λ words. Ok (content.Words words, trees)) read h (λ words one last. piece_is (content.Words words, trees) read tt last)

contents_have_none : (groups : List (List ℕ)) (trees : List PatternTree) (pieces : List Piece) (read : Contents) → contents_of groups trees pieces ≡ Ok read → length groups ≤ 20000 → ContentsHaveNoMarks read
contents_have_none groups trees pieces read h few = each_keeps (with_piece groups) ContentsHaveNoMarks one_more pieces ([], trees) read h (All-nil ContentHasNoMarks)
  where
    one_more : (so_far : Contents) (p : Piece) (left : Contents) → with_piece groups so_far p ≡ Ok left → ContentsHaveNoMarks so_far → ContentsHaveNoMarks left
    one_more so_far p left e k =
        both_went (content_of groups so_far.1 p) (λ r. Ok (so_far.0 ++ r.0 ∷ [], r.1)) left e
        (λ r one last.
        subst ContentsHaveNoMarks (same_value (so_far.0 ++ r.0 ∷ [], r.1) left last)
        (All-push ContentHasNoMarks so_far.0 r.0 k (piece_has_none groups so_far.1 p r one few)))

-- ---- an item so far

-- what its options name
record OptionsHaveNoMarks (group : GroupId) (contains containedin nextgroup : Option GroupList) : Type 0 where
  group_is_none : IsNoMark group
  contains_has_none : ForSome contains ListHasNoMarks
  containedin_has_none : ForSome containedin ListHasNoMarks
  nextgroup_has_none : ForSome nextgroup ListHasNoMarks

-- what its patterns name, and those behind
record PatternsHaveNoMarks (matchgroup : Option GroupId) (matched : Option Pattern) (starts : List Pattern) (skip : Option Pattern) (ends : List Pattern) : Type 0 where
  matchgroup_is_none : ForSome matchgroup IsNoMark
  matched_has_none : ForSome matched PatternHasNoMark
  starts_have_none : All PatternHasNoMark starts
  skip_has_none : ForSome skip PatternHasNoMark
  ends_have_none : All PatternHasNoMark ends

abbrev DraftHasNoMarks : Draft → Type 0
DraftHasNoMarks d = OptionsHaveNoMarks d.item.group d.item.contains d.item.containedin d.item.nextgroup × PatternsHaveNoMarks d.matchgroup d.matched d.starts d.skip d.ends

new_has_none : (group : GroupId) (ignore : Bool) (include : ℕ) → IsNoMark group → DraftHasNoMarks (new_draft group ignore include)
new_has_none group ignore include h = (
  record { group_is_none = h; contains_has_none = of_none ListHasNoMarks; containedin_has_none = of_none ListHasNoMarks; nextgroup_has_none = of_none ListHasNoMarks },
  record {
    matchgroup_is_none = of_none IsNoMark;
    matched_has_none = of_none PatternHasNoMark;
    starts_have_none = All-nil PatternHasNoMark;
    skip_has_none = of_none PatternHasNoMark;
    ends_have_none = All-nil PatternHasNoMark;
  },
)

flag_has_none : (draft : Draft) (f : Flag) → DraftHasNoMarks draft → DraftHasNoMarks (with_flag draft f)
flag_has_none draft flag.Contained h = h
flag_has_none draft flag.Oneline h = h
flag_has_none draft flag.Keepend h = h
flag_has_none draft flag.Extend h = h
flag_has_none draft flag.Excludenl h = h
flag_has_none draft flag.Transparent h = h
flag_has_none draft flag.Skipwhite h = h
flag_has_none draft flag.Skipnl h = h
flag_has_none draft flag.Skipempty h = h
flag_has_none draft flag.Display h = h
flag_has_none draft flag.Fold h = h
flag_has_none draft flag.Conceal h = h
flag_has_none draft flag.Concealends h = h

field_has_none : (draft : Draft) (f : Field) (list : GroupList) → ListHasNoMarks list → DraftHasNoMarks draft → DraftHasNoMarks (with_list draft f list)
field_has_none draft field.Contains list h (o, p) =
    (record { group_is_none = o.group_is_none; contains_has_none = of_some ListHasNoMarks list h; containedin_has_none = o.containedin_has_none; nextgroup_has_none = o.nextgroup_has_none }, p)
field_has_none draft field.Containedin list h (o, p) =
    (record { group_is_none = o.group_is_none; contains_has_none = o.contains_has_none; containedin_has_none = of_some ListHasNoMarks list h; nextgroup_has_none = o.nextgroup_has_none }, p)
field_has_none draft field.Nextgroup list h (o, p) =
    (record { group_is_none = o.group_is_none; contains_has_none = o.contains_has_none; containedin_has_none = o.containedin_has_none; nextgroup_has_none = of_some ListHasNoMarks list h }, p)

-- behind a matchgroup
behind_has_none : (draft : Draft) (group : Option GroupId) → ForSome group IsNoMark → DraftHasNoMarks draft → DraftHasNoMarks (with_matchgroup draft group)
behind_has_none draft group h (o, p) =
    (o, record { matchgroup_is_none = h; matched_has_none = p.matched_has_none; starts_have_none = p.starts_have_none; skip_has_none = p.skip_has_none; ends_have_none = p.ends_have_none })

quote_has_none : (draft : Draft) (r : Role) (pattern : Pattern) → PatternHasNoMark pattern → DraftHasNoMarks draft → DraftHasNoMarks (with_quote draft r pattern)
quote_has_none draft role.Match pattern h (o, p) = (
  o,
  record {
    matchgroup_is_none = p.matchgroup_is_none;
    matched_has_none = of_some PatternHasNoMark (record pattern { excludenl = draft.excludenl }) h;
    starts_have_none = p.starts_have_none;
    skip_has_none = p.skip_has_none;
    ends_have_none = p.ends_have_none;
  },
)
quote_has_none draft role.Start pattern h (o, p) = (
  o,
  record {
    matchgroup_is_none = p.matchgroup_is_none;
    matched_has_none = p.matched_has_none;
    starts_have_none = All-push PatternHasNoMark draft.starts (record pattern { excludenl = draft.excludenl; matchgroup = draft.matchgroup }) p.starts_have_none p.matchgroup_is_none;
    skip_has_none = p.skip_has_none;
    ends_have_none = p.ends_have_none;
  },
)
quote_has_none draft role.Skip pattern h (o, p) = (
  o,
  record {
    matchgroup_is_none = p.matchgroup_is_none;
    matched_has_none = p.matched_has_none;
    starts_have_none = p.starts_have_none;
    skip_has_none = of_some PatternHasNoMark (record pattern { excludenl = draft.excludenl }) h;
    ends_have_none = p.ends_have_none;
  },
)
quote_has_none draft role.End pattern h (o, p) = (
  o,
  record {
    matchgroup_is_none = p.matchgroup_is_none;
    matched_has_none = p.matched_has_none;
    starts_have_none = p.starts_have_none;
    skip_has_none = p.skip_has_none;
    ends_have_none = All-push PatternHasNoMark draft.ends (record pattern { excludenl = draft.excludenl; matchgroup = draft.matchgroup }) p.ends_have_none p.matchgroup_is_none;
  },
)

abbrev DraftedHasNoMarks : Drafted → Type 0
DraftedHasNoMarks so_far = MadeHasNoMarks DraftHasNoMarks so_far

draft_is : (one two : Drafted) → DraftedHasNoMarks one → ◌≡◌ {A = Result Drafted Cause} (Ok one) (Ok two) → DraftedHasNoMarks two
draft_is one two h e = subst DraftedHasNoMarks (same_value one two e) h

matchgroup_has_none : (draft : Draft) (known : Names) (name : List ℕ) (left : Drafted) → matchgroup_made draft known name ≡ Ok left → DraftHasNoMarks draft → NamesHaveNoMarks known → DraftedHasNoMarks left
matchgroup_has_none draft known name left h k n = by (is_none name) h
  where
    by : (b : Bool)
        → (if b then Ok (with_matchgroup draft None, known) else (group_made known name >>= λ made. Ok (with_matchgroup draft (unless_own draft.item.group made.0), made.1))) ≡ Ok left
        → DraftedHasNoMarks left
    by true e = draft_is (with_matchgroup draft None, known) left (behind_has_none draft None (of_none IsNoMark) k, n) e
    by false e =
        both_went (group_made known name) (λ made. Ok (with_matchgroup draft (unless_own draft.item.group made.0), made.1)) left e
        (λ made one last.
        let none = group_is_no_mark known name made one n in
        draft_is (with_matchgroup draft (unless_own draft.item.group made.0), made.1) left (
          behind_has_none draft (unless_own draft.item.group made.0)
              (either_way (λ (o : Option GroupId). ForSome o IsNoMark) (nat_eq made.0.0 draft.item.group.0) None (Some made.0) (of_none IsNoMark) (of_some IsNoMark made.0 none.0)) k,
          none.1,
        )
        last)

content_has_none : (so_far : Drafted) (c : Content) (left : Drafted) → with_content so_far c ≡ Ok left → ContentHasNoMarks c → DraftedHasNoMarks so_far → DraftedHasNoMarks left
content_has_none so_far (content.Has f) left h s k = draft_is (with_flag so_far.0 f, so_far.1) left (flag_has_none so_far.0 f k.0, k.1) h
content_has_none so_far (content.Cchar c) left h s k = draft_is (with_cchar so_far.0 c, so_far.1) left k h
content_has_none so_far (content.Names f list) left h s k =
    both_went (list_made so_far.1 list) (λ made. Ok (with_list so_far.0 f made.0, made.1)) left h
    (λ made one last.
    let none = list_has_none so_far.1 list made one s k.1 in
    draft_is (with_list so_far.0 f made.0, made.1) left (field_has_none so_far.0 f made.0 none.0 k.0, none.1) last)
content_has_none so_far (content.Matchgroup name) left h s k = matchgroup_has_none so_far.0 so_far.1 name left h k.0 k.1
content_has_none so_far (content.Quote r pattern) left h s k = draft_is (with_quote so_far.0 r pattern, so_far.1) left (quote_has_none so_far.0 r pattern s k.0, k.1) h
content_has_none so_far (content.Words words) left h s k = draft_is (with_words so_far.0 words, so_far.1) left k h

-- ---- an item

kind_has_none : (kind : ItemCommand) (draft : Draft) (k : ItemKind) → kind_of kind draft ≡ Ok k → DraftHasNoMarks draft → KindHasNoMarks k
kind_has_none command.Keyword draft k h s = subst KindHasNoMarks (same_value item_kind.Keyword k h) tt
kind_has_none command.Match draft k h s = by draft.matched refl h
  where
    by : (matched : Option Pattern) → draft.matched ≡ matched → match_kind matched ≡ Ok k → KindHasNoMarks k
    by None f e = absurd (no_value cause.NoPattern k e)
    by (Some pattern) f e = subst KindHasNoMarks (same_value (item_kind.Match pattern) k e) (s.1.matched_has_none pattern f)
kind_has_none command.Region draft k h s =
    subst KindHasNoMarks (same_value (item_kind.Region draft.starts draft.skip draft.ends) k h)
    (record { starts_have_none = s.1.starts_have_none; skip_has_none = s.1.skip_has_none; ends_have_none = s.1.ends_have_none })

abbrev FinishedHasNoMarks : Item × List (List ℕ) → Type 0
FinishedHasNoMarks item = ItemHasNoMarks item.0

finished_has_none : (kind : ItemCommand) (draft : Draft) (item : Item × List (List ℕ)) → item_finished kind draft ≡ Ok item → DraftHasNoMarks draft → FinishedHasNoMarks item
finished_has_none kind draft item h s =
    both_went (kind_of kind draft) (λ k. Ok (record draft.item { kind = k }, draft.words)) item h
    (λ k made last.
    subst FinishedHasNoMarks (same_value (record draft.item { kind = k }, draft.words) item last)
    (record {
      group = s.0.group_is_none;
      kind = kind_has_none kind draft k made s;
      contains = s.0.contains_has_none;
      containedin = s.0.containedin_has_none;
      nextgroup = s.0.nextgroup_has_none;
    }))

-- ---- what has been read

pub record ReadNoMarks (groups : List (List ℕ)) (lists : List ClusterList) (items : List AddedItem) : Type 0 where
  pub names_have_none : HoldNoMarks groups lists
  pub items_have_none : All AddedHasNoMarks items

abbrev pub ReadingHasNoMarks : Reading → Type 0
ReadingHasNoMarks reading = ReadNoMarks reading.names.groups reading.names.clusters.lists reading.items

-- what a step left
pub left_has_none : (one left : Reading) → ReadingHasNoMarks one → ◌≡◌ {A = Result Reading Cause} (Ok one) (Ok left) → ReadingHasNoMarks left
left_has_none one left h e = subst ReadingHasNoMarks (same_value one left e) h

-- other names, with the same items
pub with_names_has_none : (reading : Reading) (known : Names) → NamesHaveNoMarks known → ReadingHasNoMarks reading → ReadingHasNoMarks (with_names reading known)
with_names_has_none reading known h k = record { names_have_none = h; items_have_none = k.items_have_none }

added_has_none : (reading : Reading) (item : Item) (words : List (List ℕ)) (left : Reading) → item_added reading item words ≡ Ok left → ItemHasNoMarks item → ReadingHasNoMarks reading → ReadingHasNoMarks left
added_has_none reading item words left h s k = by (nat_eq (length reading.items) 32000) h
  where
    by : (full : Bool)
        → (if full then Err cause.TooManyItems
        else (with_definitions reading.keywords (item_numbered (length reading.items)) item.ignore words >>= λ keywords. Ok (with_added reading item keywords))) ≡ Ok left → ReadingHasNoMarks left
    by true e = absurd (no_value cause.TooManyItems left e)
    by false e =
        both_went (with_definitions reading.keywords (item_numbered (length reading.items)) item.ignore words) (λ keywords. Ok (with_added reading item keywords)) left e
        (λ keywords one last.
        left_has_none (with_added reading item keywords) left
        (record { names_have_none = k.names_have_none; items_have_none = All-push AddedHasNoMarks reading.items (live_item item) k.items_have_none s }) last)

drafted_has_none : (reading : Reading) (group : List ℕ) (contents : List Content) (draft : Drafted) → drafted reading group contents ≡ Ok draft → All ContentHasNoMarks contents → ReadingHasNoMarks reading → DraftedHasNoMarks draft
drafted_has_none reading group contents draft h s k =
    both_went (group_made reading.names group) (λ own. with_contents (new_draft own.0 reading.ignore reading.include, own.1) contents) draft h
    (λ own one rest.
    let none = group_is_no_mark reading.names group own one k.names_have_none in
    each_keeps_of with_content DraftedHasNoMarks ContentHasNoMarks content_has_none contents s (new_draft own.0 reading.ignore reading.include, own.1) draft rest
    (new_has_none own.0 reading.ignore reading.include none.0, none.1))

-- a command of an item
pub item_has_none : (reading : Reading) (kind : ItemCommand) (group : List ℕ) (pieces : List Piece) (left : Reading) → item_command reading kind group pieces ≡ Ok left → ReadingHasNoMarks reading → ReadingHasNoMarks left
item_has_none reading kind group pieces left h k =
    both_went (contents_of reading.names.groups reading.patterns pieces) (λ contents. item_of (with_patterns reading contents.1) kind group contents.0) left h
    (λ contents one rest.
    let before = with_patterns reading contents.1 in
    both_went (drafted before group contents.0) (λ draft. finished before kind draft) left rest
    (λ draft two last.
    let none = drafted_has_none before group contents.0 draft two (contents_have_none reading.names.groups reading.patterns pieces contents one k.names_have_none.few) k in
    both_went (item_finished kind draft.0) (λ item. item_added (with_names before draft.1) item.0 item.1) left last
    (λ item three four.
    added_has_none (with_names before draft.1) item.0 item.1 left four (finished_has_none kind draft.0 item three none.0) (with_names_has_none before draft.1 none.1 k))))
