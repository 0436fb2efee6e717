-- What the grammar spells is read, and gives its tree.
use Rattle.std.proofs.Common.{◌≡◌, ℕ, suc, ◌+◌, length, List, [], ◌∷◌, ◌++◌, false, Ok, refl, sym, ◌∙◌, ap, append_assoc, append-nil, arith}
use Rattle.std.proofs.lemmas.Bool.{lt-ltb}
use Rattle.pattern_items.specs.declared.atom.Atom.TheVariants.{Char}
use Rattle.pattern_items.specs.declared.item.Multi.{Multi as AnyMulti}
use Rattle.pattern_items.specs.declared.item.Kind.{Kind}
use Rattle.pattern_items.specs.declared.item.Kind.TheVariants.{Counted, Plain, External, Optional}
use Rattle.pattern_items.specs.declared.item.Sign.TheVariants.{Multi, Open, Close, Square, Bar, Also, Quiet}
use Rattle.vim_pattern.specs.Shape.{Shape, one, group, external, with_multi, seq_of, and_of, or_of, optional_of}
use Rattle.pattern_items.specs.Place.{Item, item}
use Rattle.vim_pattern.specs.Grammar
use Rattle.vim_pattern.specs.Grammar.{IsPattern, IsBranch, IsConcat, IsPiece, IsLoose, IsAtom, IsAtoms, IsTree}
use Rattle.vim_pattern.specs.Read.{fixed, Part, new_part, settled, branch_of, put, ended, with_bar, with_also, Outer, State, start, in_list, after, read, list_step}

abbrev st : List Outer → Part → State
st u p = record { here = p; under = u }

-- reading these items leads from one part to another, in the same place
abbrev Reads : List Outer → List Item → Part → Part → Type 0
Reads u is p q = (rest : List Item) → read (is ++ rest) (st u p) ≡ read rest (st u q)

both : (u : List Outer) (is js : List Item) (p q r : Part) → Reads u is p q → Reads u js q r → Reads u (is ++ js) p r
both u is js p q r f g rest = ap (λ ks. read ks (st u p)) (append_assoc is js rest) ∙ f (js ++ rest) ∙ g rest

-- the pieces of the last concat have grown by these
record Grows (ts : List Shape) (p q : Part) : Type 0 where
  branches : q.branches ≡ p.branches
  concats : q.concats ≡ p.concats
  pieces : settled q ≡ settled p ++ ts

grows_none : (p : Part) → Grows [] p p
grows_none p = record { branches = refl; concats = refl; pieces = sym (append-nil (settled p)) }

grows_put : (t : Shape) (p : Part) → Grows (t ∷ []) p (put t p)
grows_put t p = record { branches = refl; concats = refl; pieces = refl }

grows_both : (ts us : List Shape) (p q r : Part) → Grows ts p q → Grows us q r → Grows (ts ++ us) p r
grows_both ts us p q r f g = record {
  branches = g.branches ∙ f.branches;
  concats = g.concats ∙ f.concats;
  pieces = g.pieces ∙ ap (λ l. l ++ us) f.pieces ∙ append_assoc (settled p) ts us;
}

abbrev HasRoom : ℕ → List Outer → Type 0
HasRoom room u = room + length u ≡ 100

reads_square : (at : ℕ) (u : List Outer) (p : Part) → in_list u ≡ false → Reads u (item at Square ∷ []) p (put (one (Char 93)) p)
reads_square at [] p free rest = refl
reads_square at (o ∷ os) p free rest = rw free refl

reads_multi : (at : ℕ) (m : AnyMulti) (t : Shape) (u : List Outer) (p : Part) → in_list u ≡ false →
    Reads u (item at (Multi m) ∷ []) (put t p) (record p { pieces = settled p; last = fixed (with_multi m t) })
reads_multi at m t u p free rest = rw free refl

reads_bar : (at : ℕ) (u : List Outer) (p : Part) → in_list u ≡ false → Reads u (item at Bar ∷ []) p (with_bar p)
reads_bar at u p free rest = rw free refl

reads_also : (at : ℕ) (u : List Outer) (p : Part) → in_list u ≡ false → Reads u (item at Also ∷ []) p (with_also p)
reads_also at u p free rest = rw free refl

abbrev on : ℕ → Kind → Part → List Outer → List Outer
on at k p u = record { at = at; kind = k; part = p } ∷ u

reads_open : (at : ℕ) (k : Kind) (room : ℕ) (u : List Outer) (p : Part) → HasRoom (suc room) u → (rest : List Item) →
    read (item at (Open k) ∷ rest) (st u p) ≡ read rest (st (on at k p u) new_part)
reads_open at k room u p fits rest = rw (lt-ltb (length u) 100 (omega arith)) refl

one_less : (room : ℕ) (at : ℕ) (k : Kind) (p : Part) (u : List Outer) → HasRoom (suc room) u → HasRoom room (on at k p u)
one_less room at k p u fits = omega arith

-- what a group holds, from the first item to the closing one
closed : (at to : ℕ) (k : Kind) (t : Shape) (room : ℕ) (is : List Item) (u : List Outer) (p q : Part) → HasRoom (suc room) u →
    Reads (on at k p u) is new_part q → ((rest : List Item) → read (item to Close ∷ rest) (st (on at k p u) q) ≡ read rest (st u (put t p))) →
    Reads u (item at (Open k) ∷ (is ++ (item to Close ∷ []))) p (put t p)
closed at to k t room is u p q fits inner close rest =
    reads_open at k room u p fits ((is ++ (item to Close ∷ [])) ++ rest) ∙ ap (λ ks. read ks (st (on at k p u) new_part)) (append_assoc is (item to Close ∷ []) rest) ∙ inner (item to Close ∷ rest) ∙ close rest

closed_list : (at to : ℕ) (t : Shape) (ts : List Shape) (room : ℕ) (is : List Item) (u : List Outer) (p q : Part) → HasRoom (suc room) u →
    Reads (on at Optional p u) is new_part q → settled q ≡ t ∷ ts →
    Reads u (item at (Open Optional) ∷ (is ++ (item to Square ∷ []))) p (put (optional_of (t ∷ ts)) p)
closed_list at to t ts room is u p q fits inner atoms rest =
    reads_open at Optional room u p fits ((is ++ (item to Square ∷ [])) ++ rest) ∙ ap (λ ks. read ks (st (on at Optional p u) new_part)) (append_assoc is (item to Square ∷ []) rest) ∙ inner (item to Square ∷ rest)
    ∙ ap (λ l. after (list_step to (record { at = at; kind = Optional; part = p }) u l) (λ s. read rest s)) atoms

grows_ended : (ts : List Shape) (p q : Part) → Grows ts p q → Grows ts p (ended q)
grows_ended ts p q g = record { branches = g.branches; concats = g.concats; pieces = append-nil (settled q) ∙ g.pieces }

mutual
  pattern_reads : {room : ℕ} {is : List Item} {ts : List Shape} → IsPattern room is ts → (u : List Outer) → HasRoom room u → in_list u ≡ false →
      (q : Part) × Reads u is new_part q × (q.branches ++ (branch_of q ∷ []) ≡ ts)
  pattern_reads (Grammar.branch d) u fits free =
      let r = branch_reads d new_part u fits free refl refl in
      (r.0, r.1, λ i. r.2 i ++ (and_of (r.3 i) ∷ []))
  pattern_reads (Grammar.or_branch {is = is} {js = js} at d e) u fits free =
      let r = pattern_reads d u fits free in
      let q = branch_reads e (with_bar r.0) u fits free refl refl in (
        q.0,
        both u is (item at Bar ∷ js) new_part r.0 q.0 r.1 (λ rest. reads_bar at u r.0 free (js ++ rest) ∙ q.1 rest),
        λ i. (q.2 ∙ r.2) i ++ (and_of (q.3 i) ∷ []),
      )

  branch_reads : {room : ℕ} {is : List Item} {ts : List Shape} → IsBranch room is ts → (p : Part) (u : List Outer) → HasRoom room u → in_list u ≡ false →
      p.concats ≡ [] → settled p ≡ [] →
      (q : Part) × Reads u is p q × (q.branches ≡ p.branches) × (q.concats ++ (seq_of (settled q) ∷ []) ≡ ts)
  branch_reads (Grammar.concat {ts = ts} d) p u fits free c s =
      let r = concat_reads d p u fits free in
      (r.0, r.1, r.2.branches, λ i. (r.2.concats ∙ c) i ++ (seq_of ((r.2.pieces ∙ ap (λ l. l ++ ts) s) i) ∷ []))
  branch_reads (Grammar.and_concat {is = is} {js = js} at d e) p u fits free c s =
      let r = branch_reads d p u fits free c s in
      let q = concat_reads e (with_also r.0) u fits free in (
        q.0,
        both u is (item at Also ∷ js) p r.0 q.0 r.1 (λ rest. reads_also at u r.0 free (js ++ rest) ∙ q.1 rest),
        q.2.branches ∙ r.2,
        λ i. (q.2.concats ∙ r.3) i ++ (seq_of (q.2.pieces i) ∷ []),
      )

  concat_reads : {room : ℕ} {is : List Item} {ts : List Shape} → IsConcat room is ts → (p : Part) (u : List Outer) → HasRoom room u → in_list u ≡ false →
      (q : Part) × Reads u is p q × Grows ts p q
  concat_reads Grammar.none p u fits free = (p, λ rest. refl, grows_none p)
  concat_reads (Grammar.piece {is = is} {ts = ts} {js = js} {t = t} d e) p u fits free =
      let r = concat_reads d p u fits free in
      let q = piece_reads e r.0 u fits free in
      (q.0, both u is js p r.0 q.0 r.1 q.1, grows_both ts (t ∷ []) p r.0 q.0 r.2 q.2)
  concat_reads (Grammar.quiet {is = is} {ts = ts} at ignore d) p u fits free =
      let r = concat_reads d p u fits free in
      (ended r.0, both u is (item at (Quiet ignore) ∷ []) p r.0 (ended r.0) r.1 (λ rest. refl), grows_ended ts p r.0 r.2)

  piece_reads : {room : ℕ} {is : List Item} {t : Shape} → IsPiece room is t → (p : Part) (u : List Outer) → HasRoom room u → in_list u ≡ false →
      (q : Part) × Reads u is p q × Grows (t ∷ []) p q
  piece_reads (Grammar.once {t = t} d) p u fits free = (put t p, loose_reads d p u fits free, grows_put t p)
  piece_reads (Grammar.times {is = is} {t = t} at m d) p u fits free = (
    record p { pieces = settled p; last = fixed (with_multi m t) },
    both u is (item at (Multi m) ∷ []) p (put t p) (record p { pieces = settled p; last = fixed (with_multi m t) }) (loose_reads d p u fits free) (reads_multi at m t u p free),
    record { branches = refl; concats = refl; pieces = refl },
  )

  loose_reads : {room : ℕ} {is : List Item} {t : Shape} → IsLoose room is t → (p : Part) (u : List Outer) → HasRoom room u → in_list u ≡ false →
      Reads u is p (put t p)
  loose_reads (Grammar.atom d) p u fits free = atom_reads d p u fits
  loose_reads (Grammar.square at) p u fits free = reads_square at u p free

  atom_reads : {room : ℕ} {is : List Item} {t : Shape} → IsAtom room is t → (p : Part) (u : List Outer) → HasRoom room u → Reads u is p (put t p)
  atom_reads (Grammar.leaf at l) p u fits = λ rest. refl
  atom_reads (Grammar.counted {room = room} {is = is} {ts = ts} at n to d) p u fits =
      let r = pattern_reads d (on at (Counted n) p u) (one_less room at (Counted n) p u fits) refl in
      closed at to (Counted n) (group (or_of ts) n) room is u p r.0 fits r.1 (λ rest. ap (λ b. read rest (st u (put (group (or_of b) n) p))) r.2)
  atom_reads (Grammar.plain {room = room} {is = is} {ts = ts} at to d) p u fits =
      let r = pattern_reads d (on at Plain p u) (one_less room at Plain p u fits) refl in
      closed at to Plain (or_of ts) room is u p r.0 fits r.1 (λ rest. ap (λ b. read rest (st u (put (or_of b) p))) r.2)
  atom_reads (Grammar.externals {room = room} {is = is} {ts = ts} at n to d) p u fits =
      let r = pattern_reads d (on at (External n) p u) (one_less room at (External n) p u fits) refl in
      closed at to (External n) (external (or_of ts) n) room is u p r.0 fits r.1 (λ rest. ap (λ b. read rest (st u (put (external (or_of b) n) p))) r.2)
  atom_reads (Grammar.optional {room = room} {is = is} {t = t} {ts = ts} at to d) p u fits =
      let r = atoms_read d new_part (on at Optional p u) (one_less room at Optional p u fits) in
      closed_list at to t ts room is u p r.0 fits r.1 r.2.pieces

  atoms_read : {room : ℕ} {is : List Item} {ts : List Shape} → IsAtoms room is ts → (p : Part) (u : List Outer) → HasRoom room u →
      (q : Part) × Reads u is p q × Grows ts p q
  atoms_read Grammar.no_atoms p u fits = (p, λ rest. refl, grows_none p)
  atoms_read (Grammar.next_atom {is = is} {ts = ts} {js = js} {t = t} d e) p u fits =
      let r = atoms_read d p u fits in
      (put t r.0, both u is js p r.0 (put t r.0) r.1 (atom_reads e r.0 u fits), grows_both ts (t ∷ []) p r.0 (put t r.0) r.2 (grows_put t r.0))
  atoms_read (Grammar.quiet_atom {is = is} {ts = ts} at ignore d) p u fits =
      let r = atoms_read d p u fits in
      (ended r.0, both u is (item at (Quiet ignore) ∷ []) p r.0 (ended r.0) r.1 (λ rest. refl), grows_ended ts p r.0 r.2)

-- what has a tree is read, and gives that tree
pub tree_reads : (is : List Item) (t : Shape) → IsTree is t → read is start ≡ Ok t
tree_reads is t h =
    let r = pattern_reads h.1 [] refl refl in
    ap (λ js. read js start) (sym (append-nil is)) ∙ r.1 [] ∙ ap (λ b. Ok (or_of b)) r.2 ∙ ap (λ x. Ok x) (sym h.2)
