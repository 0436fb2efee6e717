-- What a command does that asks for no file (Vim's help, :syntax and :highlight).
use Rattle.std.specs.Prelude.{ℕ, ◌||◌, Bool, List, Option, Some, None, if◌then◌else◌, Result, Ok, Err}
use Rattle.char_class.specs.OptionValue.{set_of}
use Rattle.syn_words.specs.declared.cause.Cause.{Cause}
use Rattle.syn_words.specs.declared.cause.Cause.TheVariants.{BadOptionValue, SyncMethod}
use Rattle.syn_words.specs.declared.what.What.{What}
use Rattle.syn_words.specs.declared.what.What.TheVariants as what
use Rattle.syn_reader.specs.declared.reading.Reading.{Reading}
use Rattle.syn_reader.specs.Answers.{◌>>=◌}
use Rattle.syn_reader.specs.UsualSets.{usual_words}
use Rattle.syn_reader.specs.Items.{item_command}
use Rattle.syn_reader.specs.Clusters.{cluster_command, all_cleared, names_cleared}
use Rattle.syn_reader.specs.Highlight.{link_command, style_command}

abbrev pub with_case : Reading → Bool → Reading
with_case reading ignore = record reading { ignore = ignore }

-- the keyword set is that of the whole syntax
abbrev pub with_keyword_set : Reading → List ℕ → Reading
with_keyword_set reading set = record reading { sets = record reading.sets { keyword = set } }

abbrev pub or_bad_value : {E : Type 0} → Result (List ℕ) E → Result (List ℕ) Cause
or_bad_value (Ok set) = Ok set
or_bad_value (Err bad) = Err BadOptionValue

abbrev pub set_at : List ℕ → Result (List ℕ) Cause
set_at value = or_bad_value (set_of value)

-- `clear` gives the usual set
abbrev pub keyword_set : Option (List ℕ) → Result (List ℕ) Cause
keyword_set None = Ok usual_words
keyword_set (Some value) = set_at value

abbrev pub iskeyword_command : Reading → Option (List ℕ) → Result Reading Cause
iskeyword_command reading value = keyword_set value >>= λ set. Ok (with_keyword_set reading set)

-- whether a sync method is accepted
abbrev pub sync_command : Reading → Bool → Result Reading Cause
sync_command reading accepted = if accepted then Ok reading else Err SyncMethod

-- the first says that each sync method counts as `fromstart`
abbrev pub effect : Bool → Reading → What → Result Reading Cause
effect assume reading what.Nothing = Ok reading
effect assume reading (what.CaseIgnore ignore) = Ok (with_case reading ignore)
effect assume reading (what.Iskeyword value) = iskeyword_command reading value
effect assume reading (what.Item kind group pieces) = item_command reading kind group pieces
effect assume reading (what.Cluster name changes) = cluster_command reading name changes
effect assume reading (what.Sync fromstart) = sync_command reading (fromstart || assume)
effect assume reading what.ClearAll = Ok (all_cleared reading)
effect assume reading (what.Clear names) = Ok (names_cleared reading names)
effect assume reading (what.Link from to unset force) = link_command reading from to unset force
effect assume reading (what.Style group parts unset) = style_command reading group parts unset
effect assume reading (what.Runtime name) = Ok reading
effect assume reading (what.Include cluster name) = Ok reading
