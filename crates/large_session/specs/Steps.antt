-- What the steps of the large mode say.
use Rattle.std.specs.Prelude.{◌≡◌, ℕ, ◌+◌, ◌-◌, ◌<◌, ◌≤◌, List, length}
use Rattle.syn_base.specs.declared.places.Span.{Span}
use Rattle.edit_script.specs.Edits.{Replacement}
use Rattle.large_session.specs.LargeSession.{Standing, five_lines, has_refused}
use Rattle.large_session.specs.declared.session.Outcome.{Outcome}

-- a replacement lies in a text of so many lines, and leaves at least one line and at most one more
pub record FitsLines (count : ℕ) (r : Replacement) : Type 0 where
  pub ordered : r.a ≤ r.b
  pub within : r.b ≤ count
  pub some : 0 < count - (r.b - r.a) + length r.new
  pub few : count - (r.b - r.a) + length r.new ≤ count + 1

-- what stands, by the document and the counts
abbrev pub standing : {D : Type 0} → (D → List (List ℕ)) → (D → List (List Span)) → D → ℕ → ℕ → ℕ → Standing
standing lines shown document edits refused repainted = record {
  painted = record { text = lines document; spans = shown document };
  edits = edits;
  refused = refused;
  repainted = repainted;
}

-- the outcome is that of what stands
abbrev pub Tells : Standing → Outcome → Type 0
Tells s outcome = (outcome.text ≡ five_lines s) × (outcome.refused ≡ has_refused s)
