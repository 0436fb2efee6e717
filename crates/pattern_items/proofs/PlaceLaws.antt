-- One item of a text.
use Rattle.std.proofs.Common.{◌≡◌, ℕ, zero, suc, ◌+◌, ◌-◌, ◌<◌, ◌≤◌, length, drop, take, List, [], ◌∷◌, Bool, Some, None, true, false, refl, ap, ◌∙◌, arith}
use Rattle.std.specs.Prelude.{Option, if◌then◌else◌, cond, nat_lt, nat_le}
use Rattle.pattern_items.specs.declared.atom.Atom.{Atom}
use Rattle.pattern_items.specs.declared.cause.PatternCause.{PatternCause}
use Rattle.pattern_items.specs.declared.collection.Piece.{Piece}
use Rattle.pattern_items.specs.declared.item.Kind.TheVariants as kind
use Rattle.pattern_items.specs.declared.item.Multi.{Multi}
use Rattle.pattern_items.specs.declared.item.Raw.TheVariants as raw
use Rattle.pattern_items.specs.declared.item.Sign.{Sign}
use Rattle.pattern_items.specs.declared.item.Sign.TheVariants as sign
use Rattle.pattern_items.specs.Collection.{pieces, members, body_of, is_turned, first_fault, first_marked, fault_or_set, marked_or_set}
use Rattle.pattern_items.specs.declared.item.Level.{Level}
use Rattle.pattern_items.specs.declared.item.Raw.{Raw}
use Rattle.pattern_items.specs.declared.item.Surroundings.{Surroundings}
use Rattle.pattern_items.specs.Spelling.{spelling}
use Rattle.pattern_items.specs.Place.{stops, is_stop, level_past, items_from, item, placed, groups_next, externals_next, is_counted, is_external, in_place, inner_of, star_is_char, is_start, is_end}

stops_skip : (k : ℕ) (level : Level) (cs : List ℕ) → stops k level cs ≡ stops 0 level (drop k cs)
stops_skip zero level cs = refl
stops_skip (suc k) level [] = refl
stops_skip (suc k) level (c ∷ cs) = stops_skip k level cs

drop_first : (n : ℕ) (c : ℕ) (cs : List ℕ) → 1 ≤ n → drop (n - 1) cs ≡ drop n (c ∷ cs)
drop_first zero c cs h = absurd (omega arith)
drop_first (suc k) c cs h = ap (λ m. drop m cs) (let e : suc k - 1 ≡ k = omega arith in e)

abbrev pub stop_of : Option Level → Raw → List ℕ → Bool
stop_of None raw rest = is_stop raw
stop_of (Some l) raw rest = stops 0 l rest

stop_cases : (o : Option Level) (raw : Raw) (n c : ℕ) (cs : List ℕ) → 1 ≤ n →
    elim o [ None ↦ is_stop raw | Some l ↦ stops (n - 1) l cs ] ≡ stop_of o raw (drop n (c ∷ cs))
stop_cases None raw n c cs h = refl
stop_cases (Some l) raw n c cs h = stops_skip (n - 1) l cs ∙ ap (λ t. stops 0 l t) (drop_first n c cs h)

pub stops_step : (level : Level) (text : List ℕ) → 0 < length text → 1 ≤ (spelling false level text).len →
    stops 0 level text ≡ stop_of (level_past level (spelling false level text).raw) (spelling false level text).raw (drop (spelling false level text).len text)
stops_step level [] h k = absurd (omega arith)
stops_step level (c ∷ cs) h k = stop_cases (level_past level (spelling false level (c ∷ cs)).raw) (spelling false level (c ∷ cs)).raw (spelling false level (c ∷ cs)).len c cs k

items_skip : (k : ℕ) (x : Surroundings) (at : ℕ) (cs : List ℕ) → items_from k x at cs ≡ items_from 0 x (at + k) (drop k cs)
items_skip zero x at [] = refl
items_skip zero x at (c ∷ cs) = ap (λ n. items_from 0 x n (c ∷ cs)) (let e : at ≡ at + 0 = omega arith in e)
items_skip (suc k) x at [] = refl
items_skip (suc k) x at (c ∷ cs) = items_skip k x (suc at) cs ∙ ap (λ n. items_from 0 x n (drop k cs)) (let e : suc at + k ≡ at + suc k = omega arith in e)

items_rest : (n : ℕ) (x : Surroundings) (at : ℕ) (c : ℕ) (cs : List ℕ) → 1 ≤ n → items_from (n - 1) x (suc at) cs ≡ items_from 0 x (at + n) (drop n (c ∷ cs))
items_rest n x at c cs h = items_skip (n - 1) x (suc at) cs ∙ (λ i. items_from 0 x ((let e : suc at + (n - 1) ≡ at + n = omega arith in e) i) (drop_first n c cs h i))

-- the items of a text that isn't empty: the first one, and those behind it
pub items_step : (x : Surroundings) (at : ℕ) (text : List ℕ) → 0 < length text → 1 ≤ (placed x text).len →
    items_from 0 x at text ≡ item at (placed x text).sign ∷ items_from 0 (placed x text).next (at + (placed x text).len) (drop (placed x text).len text)
items_step x at [] h k = absurd (omega arith)
items_step x at (c ∷ cs) h k = ap (λ is. item at (placed x (c ∷ cs)).sign ∷ is) (items_rest (placed x (c ∷ cs)).len (placed x (c ∷ cs)).next at c cs k)

-- An item counts the groups and the externals that it opens.

pub record Counts (x : Surroundings) (s : Sign) : Type 0 where
  pub groups : groups_next x.groups s ≡ x.groups + (if is_counted s then 1 else 0)
  pub externals : externals_next x.externals s ≡ x.externals + (if is_external s then 1 else 0)

counts_atom : (x : Surroundings) (a : Atom) → Counts x (sign.Atom a)
counts_atom x a = record { groups = omega arith; externals = omega arith }

counts_wrong : (x : Surroundings) (n : ℕ) (c : PatternCause) → Counts x (sign.Wrong n c)
counts_wrong x n c = record { groups = omega arith; externals = omega arith }

counts_multi : (x : Surroundings) (m : Multi) → Counts x (sign.Multi m)
counts_multi x m = record { groups = omega arith; externals = omega arith }

counts_quiet : (x : Surroundings) (o : Option Bool) → Counts x (sign.Quiet o)
counts_quiet x o = record { groups = omega arith; externals = omega arith }

counts_if : (x : Surroundings) (b : Bool) (s t : Sign) → Counts x s → Counts x t → Counts x (cond b s t)
counts_if x true s t h k = h
counts_if x false s t h k = k

counts_group : (x : Surroundings) → Counts x (sign.Open (kind.Counted (x.groups + 1)))
counts_group x = record { groups = refl; externals = omega arith }

counts_external : (x : Surroundings) → Counts x (sign.Open (kind.External (x.externals + 1)))
counts_external x = record { groups = omega arith; externals = refl }

counts_marked : (x : Surroundings) (turned line_end : Bool) (before : ℕ) (ps : List Piece) (o : Option (ℕ × ℕ)) → Counts x (marked_or_set turned line_end before ps o)
counts_marked x turned line_end before ps None = counts_atom x _
counts_marked x turned line_end before ps (Some m) = counts_wrong x before _

counts_set : (x : Surroundings) (turned line_end : Bool) (before : ℕ) (ps : List Piece) (o : Option PatternCause) → Counts x (fault_or_set turned line_end before ps o)
counts_set x turned line_end before ps None = counts_marked x turned line_end before ps (first_marked ps)
counts_set x turned line_end before ps (Some c) = counts_wrong x before c

counts_place : (x : Surroundings) (text : List ℕ) (len : ℕ) (r : Raw) → Counts x (in_place x text len r)
counts_place x text len (raw.Atom a) = counts_atom x a
counts_place x text len raw.Caret = counts_atom x _
counts_place x text len raw.Dollar = counts_atom x _
counts_place x text len raw.Star = counts_if x (star_is_char x.before) _ _ (counts_atom x _) (counts_multi x _)
counts_place x text len (raw.Collection line_end before) =
    let inner = inner_of (take (len - 1) text) before in
    let ps = pieces (members (body_of inner)) in
    counts_set x (is_turned inner) line_end before ps (first_fault ps)
counts_place x text len raw.LoneBracket = counts_atom x _
counts_place x text len (raw.Multi m) = counts_multi x m
counts_place x text len raw.Group = counts_if x (nat_lt x.groups 9) _ _ (counts_group x) (counts_wrong x 0 _)
counts_place x text len raw.Plain = record { groups = omega arith; externals = omega arith }
counts_place x text len raw.External =
    counts_if x (is_start x.usage) _ _ (counts_if x (nat_lt x.externals 9) _ _ (counts_external x) (counts_wrong x 0 _)) (counts_wrong x 0 _)
counts_place x text len raw.Optional = record { groups = omega arith; externals = omega arith }
counts_place x text len raw.Close = record { groups = omega arith; externals = omega arith }
counts_place x text len raw.Square = record { groups = omega arith; externals = omega arith }
counts_place x text len raw.Bar = record { groups = omega arith; externals = omega arith }
counts_place x text len raw.Also = record { groups = omega arith; externals = omega arith }
counts_place x text len (raw.Magic level) = counts_quiet x None
counts_place x text len (raw.Case ignore) = counts_quiet x (Some ignore)
counts_place x text len raw.Engine = counts_quiet x None
counts_place x text len (raw.Reference n) = counts_if x (nat_le n x.groups) _ _ (counts_atom x _) (counts_wrong x 0 _)
counts_place x text len (raw.ExternalReference n) = counts_if x (is_end x.usage) _ _ (counts_atom x _) (counts_wrong x 0 _)
counts_place x text len raw.LeftOut = counts_wrong x 0 _
counts_place x text len (raw.Wrong c) = counts_wrong x 0 c

pub placed_counts : (x : Surroundings) (text : List ℕ) → Counts x (placed x text).sign
placed_counts x text = counts_place x text (spelling x.first x.level text).len (spelling x.first x.level text).raw
