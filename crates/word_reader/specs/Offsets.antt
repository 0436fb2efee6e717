-- Offsets of a pattern (Vim's help, :syn-pattern-offset): directly behind its delimiter, separated by commas.
use Rattle.std.specs.Prelude.{ℕ, nat_eq, List, [], ◌∷◌, Option, Some, None, Bool, true, false, if◌then◌else◌, codes, ℤ, pos, neg_ℤ}
use Rattle.syntax_set.specs.declared.item.Offset.{Offset}
use Rattle.text_scan.specs.Numbers.{digits}
use Rattle.word_reader.specs.declared.offsets.Edge.{Edge}
use Rattle.word_reader.specs.declared.offsets.Edge.TheVariants.{MatchStart, MatchEnd, HighlightStart, HighlightEnd, RegionStart, RegionEnd}
use Rattle.word_reader.specs.declared.offsets.Adjust.{Adjust}
use Rattle.word_reader.specs.declared.offsets.Adjust.TheVariants.{Moves, Leads}
use Rattle.word_reader.specs.declared.offsets.Adjusts.{Adjusts}
use Rattle.word_reader.specs.Words.{ends_word, begins, behind_first, strip}

abbrev pub number_of : Option ℕ → List ℕ → Option (ℕ × List ℕ)
number_of None rest = None
number_of (Some n) rest = Some (n, rest)

-- the number at the front, up to 65,535
abbrev pub number : List ℕ → Option (ℕ × List ℕ)
number text = if nat_eq (digits text).count 0 then None else number_of (digits text).value (digits text).rest

abbrev pub offset : Bool → ℤ → Offset
offset from_end by = record { from_end = from_end; by = by }

abbrev pub forwards : Bool → Option (ℕ × List ℕ) → Option (Offset × List ℕ)
forwards from_end None = None
forwards from_end (Some p) = Some (offset from_end (pos p.0), p.1)

abbrev pub backwards : Bool → Option (ℕ × List ℕ) → Option (Offset × List ℕ)
backwards from_end None = None
backwards from_end (Some p) = Some (offset from_end (neg_ℤ (pos p.0)), p.1)

-- a sign needs digits
abbrev pub signed : Bool → List ℕ → Option (Offset × List ℕ)
signed from_end [] = Some (offset from_end (pos 0), [])
signed from_end (c ∷ cs) =
    if nat_eq c 43 then forwards from_end (number cs) else if nat_eq c 45 then backwards from_end (number cs) else Some (offset from_end (pos 0), c ∷ cs)

-- from the start, `s`, or from the end, `e`
abbrev pub place : List ℕ → Option (Offset × List ℕ)
place [] = None
place (c ∷ cs) = if nat_eq c 115 then signed false cs else if nat_eq c 101 then signed true cs else None

abbrev pub moves : Edge → Option (Offset × List ℕ) → Option (Adjust × List ℕ)
moves edge None = None
moves edge (Some p) = Some (Moves edge p.0, p.1)

abbrev pub leads : Option (ℕ × List ℕ) → Option (Adjust × List ℕ)
leads None = None
leads (Some p) = Some (Leads p.0, p.1)

-- the edge that is moved, with what follows its equals sign
abbrev pub edge_or : Option (List ℕ) → Edge → Option (Edge × List ℕ) → Option (Edge × List ℕ)
edge_or (Some rest) edge others = Some (edge, rest)
edge_or None edge others = others

abbrev pub edge_at : List ℕ → Option (Edge × List ℕ)
edge_at text =
    edge_or (strip (codes "ms=") text) MatchStart
    (edge_or (strip (codes "me=") text) MatchEnd
    (edge_or (strip (codes "hs=") text) HighlightStart
    (edge_or (strip (codes "he=") text) HighlightEnd
    (edge_or (strip (codes "rs=") text) RegionStart
    (edge_or (strip (codes "re=") text) RegionEnd None)))))

abbrev pub moved : Option (Edge × List ℕ) → Option (Adjust × List ℕ)
moved None = None
moved (Some p) = moves p.0 (place p.1)

abbrev pub adjust_behind : Option (List ℕ) → List ℕ → Option (Adjust × List ℕ)
adjust_behind (Some rest) text = leads (number rest)
adjust_behind None text = moved (edge_at text)

-- the offset at the front: `lc` with a number, or an edge with a place
abbrev pub adjust_at : List ℕ → Option (Adjust × List ℕ)
adjust_at text = adjust_behind (strip (codes "lc=") text) text

abbrev pub no_adjusts : Adjusts
no_adjusts = record { ms = None; me = None; hs = None; he = None; rs = None; re = None; lc = 0 }

-- of two for one edge the last counts
abbrev pub with_move : Adjusts → Edge → Offset → Adjusts
with_move a MatchStart o = record { ms = Some o; me = a.me; hs = a.hs; he = a.he; rs = a.rs; re = a.re; lc = a.lc }
with_move a MatchEnd o = record { ms = a.ms; me = Some o; hs = a.hs; he = a.he; rs = a.rs; re = a.re; lc = a.lc }
with_move a HighlightStart o = record { ms = a.ms; me = a.me; hs = Some o; he = a.he; rs = a.rs; re = a.re; lc = a.lc }
with_move a HighlightEnd o = record { ms = a.ms; me = a.me; hs = a.hs; he = Some o; rs = a.rs; re = a.re; lc = a.lc }
with_move a RegionStart o = record { ms = a.ms; me = a.me; hs = a.hs; he = a.he; rs = Some o; re = a.re; lc = a.lc }
with_move a RegionEnd o = record { ms = a.ms; me = a.me; hs = a.hs; he = a.he; rs = a.rs; re = Some o; lc = a.lc }

abbrev pub with_adjust : Adjusts → Adjust → Adjusts
with_adjust a (Moves edge o) = with_move a edge o
with_adjust a (Leads n) = record { ms = a.ms; me = a.me; hs = a.hs; he = a.he; rs = a.rs; re = a.re; lc = n }

-- The offsets from here on, if each is one. Each takes a character at least, so as many turns as characters are enough.
abbrev pub offsets_after : Adjusts → List ℕ → List ℕ → Option (Adjusts × List ℕ)
offsets_after a [] text = None
offsets_after a (t ∷ turns) text =
    elim (adjust_at text) [
      | None ↦ None
      | Some p ↦
          if ends_word p.1 then Some (with_adjust a p.0, p.1) else if begins 44 p.1 then offsets_after (with_adjust a p.0) turns (behind_first p.1) else None
    ]

-- nothing, or offsets, up to the end of the word
abbrev pub offsets : List ℕ → Option (Adjusts × List ℕ)
offsets text = if ends_word text then Some (no_adjusts, text) else offsets_after no_adjusts text text
