-- Items (Vim's help, :syn-keyword, :syn-match, :syn-region): the pieces of a command are put together in the order written.
use Rattle.std.specs.Prelude.{ℕ, nat_eq, nat_lt, Bool, true, false, List, [], ◌∷◌, ◌++◌, length, Option, Some, None, if◌then◌else◌, Result, Ok, Err}
use Rattle.syn_base.specs.declared.places.GroupId.{GroupId}
use Rattle.syn_base.specs.declared.places.ItemId.{ItemId}
use Rattle.syntax_set.specs.declared.item.Item.{Item}
use Rattle.syntax_set.specs.declared.item.ItemKind.{ItemKind}
use Rattle.syntax_set.specs.declared.item.ItemKind.TheVariants as item_kind
use Rattle.syntax_set.specs.declared.item.GroupList.{GroupList}
use Rattle.syntax_set.specs.declared.item.Pattern.{Pattern}
use Rattle.syntax_set.specs.declared.added_item.AddedItem.{AddedItem}
use Rattle.syntax_set.specs.Items.{plain_item}
use Rattle.keyword_table.specs.declared.table.Definition.{Definition}
use Rattle.vim_pattern.specs.Tree.{PatternTree}
use Rattle.word_values.specs.GroupNames.{is_none}
use Rattle.syn_words.specs.declared.cause.Cause.{Cause}
use Rattle.syn_words.specs.declared.cause.Cause.TheVariants as cause
use Rattle.syn_words.specs.declared.what.Field.{Field}
use Rattle.syn_words.specs.declared.what.Field.TheVariants as field
use Rattle.syn_words.specs.declared.what.Flag.{Flag}
use Rattle.syn_words.specs.declared.what.Flag.TheVariants as flag
use Rattle.syn_words.specs.declared.what.ItemCommand.{ItemCommand}
use Rattle.syn_words.specs.declared.what.ItemCommand.TheVariants as command
use Rattle.syn_words.specs.declared.what.Piece.{Piece}
use Rattle.syn_words.specs.declared.what.Role.{Role}
use Rattle.syn_words.specs.declared.what.Role.TheVariants as role
use Rattle.syn_reader.specs.declared.contents.Content.{Content}
use Rattle.syn_reader.specs.declared.contents.Content.TheVariants as content
use Rattle.syn_reader.specs.declared.draft.Draft.{Draft}
use Rattle.syn_reader.specs.declared.names.Names.{Names}
use Rattle.syn_reader.specs.declared.reading.Reading.{Reading}
use Rattle.syn_reader.specs.Answers.{◌>>=◌, each}
use Rattle.syn_reader.specs.Names.{group_made}
use Rattle.syn_reader.specs.NamedLists.{list_made}
use Rattle.syn_reader.specs.Contents.{contents_of}

-- an item of which nothing is said yet but its group, the case and the include that hold
abbrev pub new_item : GroupId → Bool → ℕ → Item
new_item group ignore include = record (plain_item group) { ignore = ignore; include = include }

abbrev pub new_draft : GroupId → Bool → ℕ → Draft
new_draft group ignore include = record {
  item = new_item group ignore include;
  matchgroup = None;
  excludenl = false;
  matched = None;
  starts = [];
  skip = None;
  ends = [];
  words = [];
}

abbrev pub with_item : Draft → Item → Draft
with_item draft item = record draft { item = item }

-- an option without a value; `excludenl` holds for the patterns behind it, and `display` has no effect
abbrev pub with_flag : Draft → Flag → Draft
with_flag draft flag.Contained = with_item draft (record draft.item { contained = true })
with_flag draft flag.Oneline = with_item draft (record draft.item { oneline = true })
with_flag draft flag.Keepend = with_item draft (record draft.item { keepend = true })
with_flag draft flag.Extend = with_item draft (record draft.item { extend = true })
with_flag draft flag.Excludenl = record draft { excludenl = true }
with_flag draft flag.Transparent = with_item draft (record draft.item { transparent = true })
with_flag draft flag.Skipwhite = with_item draft (record draft.item { skipwhite = true })
with_flag draft flag.Skipnl = with_item draft (record draft.item { skipnl = true })
with_flag draft flag.Skipempty = with_item draft (record draft.item { skipempty = true })
with_flag draft flag.Display = draft
with_flag draft flag.Fold = with_item draft (record draft.item { fold = true })
with_flag draft flag.Conceal = with_item draft (record draft.item { conceal = true })
with_flag draft flag.Concealends = with_item draft (record draft.item { concealends = true })

-- of an option that is given twice the last one counts
abbrev pub with_cchar : Draft → ℕ → Draft
with_cchar draft c = with_item draft (record draft.item { cchar = Some c })

abbrev pub with_list : Draft → Field → GroupList → Draft
with_list draft field.Contains list = with_item draft (record draft.item { contains = Some list })
with_list draft field.Containedin list = with_item draft (record draft.item { containedin = Some list })
with_list draft field.Nextgroup list = with_item draft (record draft.item { nextgroup = Some list })

abbrev pub with_matchgroup : Draft → Option GroupId → Draft
with_matchgroup draft group = record draft { matchgroup = group }

-- the item's own group counts as none
abbrev pub unless_own : GroupId → GroupId → Option GroupId
unless_own own group = if nat_eq group.0 own.0 then None else Some group

-- a pattern has the matchgroup and the `excludenl` that hold where it stands
abbrev pub with_quote : Draft → Role → Pattern → Draft
with_quote draft role.Match pattern = record draft { matched = Some (record pattern { excludenl = draft.excludenl }) }
with_quote draft role.Start pattern = record draft { starts = draft.starts ++ record pattern { excludenl = draft.excludenl; matchgroup = draft.matchgroup } ∷ [] }
with_quote draft role.Skip pattern = record draft { skip = Some (record pattern { excludenl = draft.excludenl }) }
with_quote draft role.End pattern = record draft { ends = draft.ends ++ record pattern { excludenl = draft.excludenl; matchgroup = draft.matchgroup } ∷ [] }

abbrev pub with_words : Draft → List (List ℕ) → Draft
with_words draft words = record draft { words = draft.words ++ words }

-- an item so far, and the names that are known
abbrev pub Drafted : Type 0
Drafted = Draft × Names

-- `NONE` or a group from here on
abbrev pub matchgroup_made : Draft → Names → List ℕ → Result Drafted Cause
matchgroup_made draft known name =
    if is_none name then Ok (with_matchgroup draft None, known)
    else (group_made known name >>= λ made. Ok (with_matchgroup draft (unless_own draft.item.group made.0), made.1))

abbrev pub with_content : Drafted → Content → Result Drafted Cause
with_content so_far (content.Has f) = Ok (with_flag so_far.0 f, so_far.1)
with_content so_far (content.Cchar c) = Ok (with_cchar so_far.0 c, so_far.1)
with_content so_far (content.Names f list) = list_made so_far.1 list >>= λ made. Ok (with_list so_far.0 f made.0, made.1)
with_content so_far (content.Matchgroup name) = matchgroup_made so_far.0 so_far.1 name
with_content so_far (content.Quote r pattern) = Ok (with_quote so_far.0 r pattern, so_far.1)
with_content so_far (content.Words words) = Ok (with_words so_far.0 words, so_far.1)

abbrev pub match_kind : Option Pattern → Result ItemKind Cause
match_kind None = Err cause.NoPattern
match_kind (Some pattern) = Ok (item_kind.Match pattern)

abbrev pub kind_by : ItemCommand → Option Pattern → List Pattern → Option Pattern → List Pattern → Result ItemKind Cause
kind_by command.Keyword matched starts skip ends = Ok item_kind.Keyword
kind_by command.Match matched starts skip ends = match_kind matched
kind_by command.Region matched starts skip ends = Ok (item_kind.Region starts skip ends)

abbrev pub kind_of : ItemCommand → Draft → Result ItemKind Cause
kind_of kind draft = kind_by kind draft.matched draft.starts draft.skip draft.ends

-- the definition of a word
abbrev pub definition_of : ItemId → Bool → List ℕ → Definition
definition_of id ignore word = record { word = word; item = id; ignore = ignore }

-- a keyword has at most 80 characters
abbrev pub with_definition : ItemId → Bool → List Definition → List ℕ → Result (List Definition) Cause
with_definition id ignore keywords word =
    if nat_lt 80 (length word) then Err cause.TooLongWord else Ok (keywords ++ definition_of id ignore word ∷ [])

abbrev pub with_definitions : List Definition → ItemId → Bool → List (List ℕ) → Result (List Definition) Cause
with_definitions keywords id ignore words = each (with_definition id ignore) keywords words

-- the item of this number
abbrev pub item_numbered : ℕ → ItemId
item_numbered number = record { 0 = number }

abbrev pub live_item : Item → AddedItem
live_item item = record { item = item; live = true }

abbrev pub with_added : Reading → Item → List Definition → Reading
with_added reading item keywords = record reading { items = reading.items ++ live_item item ∷ []; keywords = keywords }

-- what has been read, with one item more and its words; there are at most 32,000 items, those cleared among them
abbrev pub item_added : Reading → Item → List (List ℕ) → Result Reading Cause
item_added reading item words =
    if nat_eq (length reading.items) 32000 then Err cause.TooManyItems
    else (with_definitions reading.keywords (item_numbered (length reading.items)) item.ignore words >>= λ keywords. Ok (with_added reading item keywords))

abbrev pub with_names : Reading → Names → Reading
with_names reading known = record reading { names = known }

abbrev pub with_patterns : Reading → List PatternTree → Reading
with_patterns reading patterns = record reading { patterns = patterns }

abbrev pub with_contents : Drafted → List Content → Result Drafted Cause
with_contents so_far contents = each with_content so_far contents

-- the item of a draft with its patterns, and the words of a keyword
abbrev pub item_finished : ItemCommand → Draft → Result (Item × List (List ℕ)) Cause
item_finished kind draft = do
  k ← kind_of kind draft
  Ok (record draft.item { kind = k }, draft.words)

-- an item whose pieces are read: its own group is named first, then what the pieces name
abbrev pub drafted : Reading → List ℕ → List Content → Result Drafted Cause
drafted reading group contents = do
  own ← group_made reading.names group
  with_contents (new_draft own.0 reading.ignore reading.include, own.1) contents

abbrev pub finished : Reading → ItemCommand → Drafted → Result Reading Cause
finished reading kind draft = do
  item ← item_finished kind draft.0
  item_added (with_names reading draft.1) item.0 item.1

-- its names are made from left to right, then the item is added
abbrev pub item_of : Reading → ItemCommand → List ℕ → List Content → Result Reading Cause
item_of reading kind group contents = drafted reading group contents >>= λ draft. finished reading kind draft

-- an item's command
abbrev pub item_command : Reading → ItemCommand → List ℕ → List Piece → Result Reading Cause
item_command reading kind group pieces = do
  contents ← contents_of reading.names.groups reading.patterns pieces
  item_of (with_patterns reading contents.1) kind group contents.0
