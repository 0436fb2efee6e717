-- The stop for a painting that is refused.
use Rattle.std.specs.Prelude.{◌≡◌, ◌≢◌, ℕ, List, ⊤}
use Rattle.syn_reader.specs.declared.syntax.Syntax.{Syntax}
use Rattle.syntax_set.specs.declared.added_item.AddedItem.{AddedItem}
use Rattle.state_cache.specs.declared.refusal.EditError.{EditError}
use Rattle.state_cache.specs.declared.refusal.EditError.TheVariants as refusal
use Rattle.vimsyn_cli.specs.declared.fault.Stop.{Stop}
use Rattle.vimsyn_cli.specs.declared.fault.Stop.TheVariants.{Fault, Memory}
use Rattle.edit_session.specs.declared.document.Unedited.{Unedited}
use Rattle.edit_session.specs.declared.document.Unedited.TheVariants as unedited
use Rattle.vimsyn_cli.specs.Editing.{cause_words}
use Rattle.vimsyn_cli.specs.Painting.{refused_by}

abbrev pub IsRefusal : List ℕ → List (List ℕ) → List AddedItem → EditError → Stop → Type 0
IsRefusal name names items error (Fault fault) = (error ≢ refusal.Memory) × (fault ≡ refused_by name names items error)
IsRefusal name names items error Memory = ⊤

-- the same for a text that isn't changed
abbrev pub IsUnedited : Syntax → EditError → Unedited → Type 0
IsUnedited syntax error (unedited.Refused words) = (error ≢ refusal.Memory) × (words ≡ cause_words syntax error)
IsUnedited syntax error unedited.Memory = ⊤
