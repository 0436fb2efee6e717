-- What is read is spelled by the grammar, and what has been read at any moment is the start of a tree.
use Rattle.std.proofs.Common.{◌≡◌, ℕ, zero, suc, ◌+◌, ◌<◌, length, List, [], ◌∷◌, ◌++◌, Bool, true, false, Ok, Err, refl, sym, subst, append_assoc, append-nil, arith}
use Rattle.std.specs.Prelude.{nat_lt, cond, Option}
use Rattle.std.proofs.lemmas.Bool.{ltb-true}
use Rattle.pattern_items.specs.declared.atom.Atom.TheVariants.{Char}
use Rattle.pattern_items.specs.declared.item.Multi.{Multi as AnyMulti}
use Rattle.pattern_items.specs.declared.item.Kind.{Kind}
use Rattle.pattern_items.specs.declared.item.Kind.TheVariants.{Counted, Plain, External, Optional}
use Rattle.pattern_items.specs.declared.item.Sign.{Sign}
use Rattle.pattern_items.specs.declared.item.Sign.TheVariants.{Atom, Multi, Open, Close, Square, Bar, Also, Quiet, Wrong}
use Rattle.vim_pattern.specs.Shape.{Shape, one, group, external, with_multi, seq_of, and_of, optional_of}
use Rattle.vim_pattern.specs.Fault.{Fault, is_optional}
use Rattle.pattern_items.specs.Place.{Item, item}
use Rattle.vim_pattern.specs.Grammar
use Rattle.vim_pattern.specs.Grammar.{IsPattern, IsBranch, IsConcat, IsPiece, IsLoose, IsAtom, IsAtoms, IsTree, IsStart}
use Rattle.vim_pattern.specs.Read.{Last, nothing, loose, fixed, shapes_of, Part, new_part, settled, branch_of, pattern_of, put, ended, with_bar, with_also, Outer, State, Step, in_list, step, close_kind, list_step, square_step, multi_step}

-- the branches before, each with its bar
pub data Branches : ℕ → List Item → List Shape → Type 0 where
  no_branch : {room : ℕ} → Branches room [] []
  branches : {room : ℕ} {is : List Item} {ts : List Shape} (at : ℕ) → IsPattern room is ts → Branches room (is ++ (item at Bar ∷ [])) ts

pub data Concats : ℕ → List Item → List Shape → Type 0 where
  no_concat : {room : ℕ} → Concats room [] []
  concats : {room : ℕ} {is : List Item} {ts : List Shape} (at : ℕ) → IsBranch room is ts → Concats room (is ++ (item at Also ∷ [])) ts

pub data IsLast : ℕ → List Item → Last → Type 0 where
  last_none : {room : ℕ} → IsLast room [] nothing
  last_loose : {room : ℕ} {is : List Item} {t : Shape} → IsLoose room is t → IsLast room is (loose t)
  last_fixed : {room : ℕ} {is : List Item} {t : Shape} → IsPiece room is t → IsLast room is (fixed t)

-- what these items spell of a pattern
pub record Holds (room : ℕ) (is : List Item) (p : Part) : Type 0 where
  pub bs : List Item
  pub cs : List Item
  pub ps : List Item
  pub ls : List Item
  pub of_branches : Branches room bs p.branches
  pub of_concats : Concats room cs p.concats
  pub of_pieces : IsConcat room ps p.pieces
  pub of_last : IsLast room ls p.last
  pub all : is ≡ bs ++ (cs ++ (ps ++ ls))

-- what they spell of a pattern, or of an optional list
abbrev pub Spells : Bool → ℕ → List Item → Part → Type 0
Spells false room is p = Holds room is p
Spells true room is p = IsAtoms room is (settled p)

pub data Under : ℕ → List Item → List Outer → Type 0 where
  bottom : Under 100 [] []
  upon : {room : ℕ} {is : List Item} {at : ℕ} {k : Kind} {p : Part} {os : List Outer} (js : List Item) →
      Under (suc room) is os → Spells (in_list os) (suc room) js p →
      Under room (is ++ (js ++ (item at (Open k) ∷ []))) (record { at = at; kind = k; part = p } ∷ os)

pub record Stands (is : List Item) (u : List Outer) (p : Part) : Type 0 where
  pub room : ℕ
  pub js : List Item
  pub ks : List Item
  pub below : Under room js u
  pub here : Spells (in_list u) room ks p
  pub all : is ≡ js ++ ks

settled_concat : {room : ℕ} {is : List Item} {l : Last} → IsLast room is l → (ps : List Item) (ts : List Shape) → IsConcat room ps ts → IsConcat room (ps ++ is) (ts ++ shapes_of l)
settled_concat last_none ps ts d = rw (append-nil ps, append-nil ts) d
settled_concat (last_loose e) ps ts d = Grammar.piece d (Grammar.once e)
settled_concat (last_fixed e) ps ts d = Grammar.piece d e

whole_branch : {room : ℕ} {cs : List Item} {ts : List Shape} → Concats room cs ts → (ps : List Item) (us : List Shape) → IsConcat room ps us → IsBranch room (cs ++ ps) (ts ++ (seq_of us ∷ []))
whole_branch no_concat ps us d = Grammar.concat d
whole_branch (concats {is = is} at b) ps us d = rw (append_assoc is (item at Also ∷ []) ps) (Grammar.and_concat at b d)

whole_pattern : {room : ℕ} {bs : List Item} {ts : List Shape} → Branches room bs ts → (cs : List Item) (us : List Shape) → IsBranch room cs us → IsPattern room (bs ++ cs) (ts ++ (and_of us ∷ []))
whole_pattern no_branch cs us d = Grammar.branch d
whole_pattern (branches {is = is} at b) cs us d = rw (append_assoc is (item at Bar ∷ []) cs) (Grammar.or_branch at b d)

module _ {room : ℕ} {is : List Item} {p : Part} (h : Holds room is p) where
  concat_here : IsConcat room (h.ps ++ h.ls) (settled p)
  concat_here = settled_concat h.of_last h.ps p.pieces h.of_pieces

  branch_here : IsBranch room (h.cs ++ (h.ps ++ h.ls)) (p.concats ++ (seq_of (settled p) ∷ []))
  branch_here = whole_branch h.of_concats (h.ps ++ h.ls) (settled p) concat_here

  pub pattern_here : IsPattern room is (p.branches ++ (branch_of p ∷ []))
  pattern_here = rw h.all (whole_pattern h.of_branches (h.cs ++ (h.ps ++ h.ls)) (p.concats ++ (seq_of (settled p) ∷ [])) branch_here)

  put_loose : (js : List Item) (t : Shape) → IsLoose room js t → Holds room (is ++ js) (put t p)
  put_loose js t e = record {
    bs = h.bs;
    cs = h.cs;
    ps = h.ps ++ h.ls;
    ls = js;
    of_branches = h.of_branches;
    of_concats = h.of_concats;
    of_pieces = concat_here;
    of_last = last_loose e;
    all = rw h.all (simp append_assoc);
  }

  end_piece : (at : ℕ) (ignore : Option Bool) → Holds room (is ++ (item at (Quiet ignore) ∷ [])) (ended p)
  end_piece at ignore = record {
    bs = h.bs;
    cs = h.cs;
    ps = (h.ps ++ h.ls) ++ (item at (Quiet ignore) ∷ []);
    ls = [];
    of_branches = h.of_branches;
    of_concats = h.of_concats;
    of_pieces = Grammar.quiet at ignore concat_here;
    of_last = last_none;
    all = rw h.all (simp (append_assoc, append-nil));
  }

  bar_here : (at : ℕ) → Holds room (is ++ (item at Bar ∷ [])) (with_bar p)
  bar_here at = record {
    bs = is ++ (item at Bar ∷ []);
    cs = [];
    ps = [];
    ls = [];
    of_branches = branches at pattern_here;
    of_concats = no_concat;
    of_pieces = Grammar.none;
    of_last = last_none;
    all = sym (append-nil (is ++ (item at Bar ∷ [])));
  }

  also_here : (at : ℕ) → Holds room (is ++ (item at Also ∷ [])) (with_also p)
  also_here at = record {
    bs = h.bs;
    cs = (h.cs ++ (h.ps ++ h.ls)) ++ (item at Also ∷ []);
    ps = [];
    ls = [];
    of_branches = h.of_branches;
    of_concats = concats at branch_here;
    of_pieces = Grammar.none;
    of_last = last_none;
    all = rw h.all (simp (append_assoc, append-nil));
  }

pub nothing_yet : (k : Bool) (room : ℕ) → Spells k room [] new_part
nothing_yet false room = record { bs = []; cs = []; ps = []; ls = []; of_branches = no_branch; of_concats = no_concat; of_pieces = Grammar.none; of_last = last_none; all = refl }
nothing_yet true room = Grammar.no_atoms

put_atom : (k : Bool) (room : ℕ) (is : List Item) (p : Part) (js : List Item) (t : Shape) → Spells k room is p → IsAtom room js t → Spells k room (is ++ js) (put t p)
put_atom false room is p js t h e = put_loose h js t (Grammar.atom e)
put_atom true room is p js t h e = Grammar.next_atom h e

put_quiet : (k : Bool) (room : ℕ) (is : List Item) (p : Part) (at : ℕ) (ignore : Option Bool) → Spells k room is p → Spells k room (is ++ (item at (Quiet ignore) ∷ [])) (ended p)
put_quiet false room is p at ignore h = end_piece h at ignore
put_quiet true room is p at ignore h = rw (append-nil (settled p)) (Grammar.quiet_atom at ignore h)

-- a group or a list is whole: its atom goes to what had been read before it
pub back_to : {room : ℕ} {js : List Item} {at : ℕ} {k : Kind} {p : Part} {os : List Outer} → Under room js (record { at = at; kind = k; part = p } ∷ os) →
    (ks : List Item) (to : Item) (t : Shape) → IsAtom (suc room) (item at (Open k) ∷ (ks ++ (to ∷ []))) t → Stands ((js ++ ks) ++ (to ∷ [])) os (put t p)
back_to (upon {room = room} {is = is} {at = at} {k = k} {p = p} {os = os} js below there) ks to t e = record {
  room = suc room;
  js = is;
  ks = js ++ (item at (Open k) ∷ (ks ++ (to ∷ [])));
  below = below;
  here = put_atom (in_list os) (suc room) js p (item at (Open k) ∷ (ks ++ (to ∷ []))) t there e;
  all = simp append_assoc;
}

abbrev pub st : List Outer → Part → State
st u p = record { here = p; under = u }

-- a step that isn't refused leaves what stands for one item more
abbrev pub Kept : List Item → Step → Type 0
Kept is (Ok s) = Stands is s.under s.here
Kept is (Err f) = Unit {0}

module _ {is : List Item} {u : List Outer} {p : Part} (h : Stands is u p) where
  pub with_here : (js : List Item) (q : Part) → Spells (in_list u) h.room (h.ks ++ js) q → Stands (is ++ js) u q
  with_here js q e = record { room = h.room; js = h.js; ks = h.ks ++ js; below = h.below; here = e; all = rw h.all (append_assoc h.js h.ks js) }

  holds_here : in_list u ≡ false → Holds h.room h.ks p
  holds_here e = subst (λ b. Spells b h.room h.ks p) e h.here

  with_holds : in_list u ≡ false → (js : List Item) (q : Part) → Holds h.room (h.ks ++ js) q → Stands (is ++ js) u q
  with_holds e js q new = with_here js q (subst (λ b. Spells b h.room (h.ks ++ js) q) (sym e) new)

  pub kept_atom : (js : List Item) (t : Shape) → IsAtom h.room js t → Stands (is ++ js) u (put t p)
  kept_atom js t e = with_here js (put t p) (put_atom (in_list u) h.room h.ks p js t h.here e)

  kept_loose : in_list u ≡ false → (js : List Item) (t : Shape) → IsLoose h.room js t → Stands (is ++ js) u (put t p)
  kept_loose e js t d = with_holds e js (put t p) (put_loose (holds_here e) js t d)

  kept_quiet : (at : ℕ) (ignore : Option Bool) → Stands (is ++ (item at (Quiet ignore) ∷ [])) u (ended p)
  kept_quiet at ignore = with_here (item at (Quiet ignore) ∷ []) (ended p) (put_quiet (in_list u) h.room h.ks p at ignore h.here)

  kept_bar : (at : ℕ) (f : Fault) (b : Bool) → in_list u ≡ b → Kept (is ++ (item at Bar ∷ [])) (cond b (Err f) (Ok (st u (with_bar p))))
  kept_bar at f true e = tt
  kept_bar at f false e = with_holds e (item at Bar ∷ []) (with_bar p) (bar_here (holds_here e) at)

  kept_also : (at : ℕ) (f : Fault) (b : Bool) → in_list u ≡ b → Kept (is ++ (item at Also ∷ [])) (cond b (Err f) (Ok (st u (with_also p))))
  kept_also at f true e = tt
  kept_also at f false e = with_holds e (item at Also ∷ []) (with_also p) (also_here (holds_here e) at)

loose_of : {room : ℕ} {is : List Item} {t : Shape} → IsLast room is (loose t) → IsLoose room is t
loose_of (last_loose d) = d

times_here : (room : ℕ) (is : List Item) (bs cs ps : List Shape) (t : Shape) (at : ℕ) (m : AnyMulti) →
    Holds room is (record { branches = bs; concats = cs; pieces = ps; last = loose t }) →
    Holds room (is ++ (item at (Multi m) ∷ [])) (record { branches = bs; concats = cs; pieces = ps; last = fixed (with_multi m t) })
times_here room is bs cs ps t at m h = record {
  bs = h.bs;
  cs = h.cs;
  ps = h.ps;
  ls = h.ls ++ (item at (Multi m) ∷ []);
  of_branches = h.of_branches;
  of_concats = h.of_concats;
  of_pieces = h.of_pieces;
  of_last = last_fixed (Grammar.times at m (loose_of h.of_last));
  all = rw h.all (simp append_assoc);
}

kept_last : (is : List Item) (u : List Outer) (bs cs ps : List Shape) (l : Last) (at : ℕ) (m : AnyMulti) (b : Bool) → in_list u ≡ b →
    Stands is u (record { branches = bs; concats = cs; pieces = ps; last = l }) →
    Kept (is ++ (item at (Multi m) ∷ [])) (multi_step at m b (st u (record { branches = bs; concats = cs; pieces = ps; last = l })) l)
kept_last is u bs cs ps nothing at m b e h = tt
kept_last is u bs cs ps (loose t) at m false e h =
    with_holds h e (item at (Multi m) ∷ []) (record { branches = bs; concats = cs; pieces = ps; last = fixed (with_multi m t) }) (times_here h.room h.ks bs cs ps t at m (holds_here h e))
kept_last is u bs cs ps (loose t) at m true e h = tt
kept_last is u bs cs ps (fixed t) at m b e h = tt

pub room_of : {room : ℕ} {is : List Item} {u : List Outer} → Under room is u → room + length u ≡ 100
room_of bottom = refl
room_of (upon {room = room} {os = os} js b d) = let h : suc room + length os ≡ 100 = room_of b in omega arith

on_top : (room : ℕ) (is js ks : List Item) (u : List Outer) (p : Part) (at : ℕ) (k : Kind) → length u < 100 → Under room js u → Spells (in_list u) room ks p → is ≡ js ++ ks →
    Stands (is ++ (item at (Open k) ∷ [])) (record { at = at; kind = k; part = p } ∷ u) new_part
on_top zero is js ks u p at k few b d all = absurd (let h : zero + length u ≡ 100 = room_of b in omega arith)
on_top (suc room) is js ks u p at k few b d all = record {
  room = room;
  js = js ++ (ks ++ (item at (Open k) ∷ []));
  ks = [];
  below = upon ks b d;
  here = nothing_yet (is_optional k) room;
  all = rw all (simp (append_assoc, append-nil));
}

kept_open : (is : List Item) (u : List Outer) (p : Part) (at : ℕ) (k : Kind) (f : Fault) (b : Bool) → nat_lt (length u) 100 ≡ b → Stands is u p →
    Kept (is ++ (item at (Open k) ∷ [])) (cond b (Ok (st (record { at = at; kind = k; part = p } ∷ u) new_part)) (Err f))
kept_open is u p at k f true e h = on_top h.room is h.js h.ks u p at k (ltb-true (length u) 100 e) h.below h.here h.all
kept_open is u p at k f false e h = tt

pub kept_close : (k : Kind) (is : List Item) (from at : ℕ) (q p : Part) (os : List Outer) → Stands is (record { at = from; kind = k; part = q } ∷ os) p →
    Kept (is ++ (item at Close ∷ [])) (close_kind at p (record { at = from; kind = k; part = q }) os k)
kept_close (Counted n) is from at q p os h = rw h.all (back_to h.below h.ks (item at Close) (group (pattern_of p) n) (Grammar.counted from n at (pattern_here h.here)))
kept_close Plain is from at q p os h = rw h.all (back_to h.below h.ks (item at Close) (pattern_of p) (Grammar.plain from at (pattern_here h.here)))
kept_close (External n) is from at q p os h = rw h.all (back_to h.below h.ks (item at Close) (external (pattern_of p) n) (Grammar.externals from n at (pattern_here h.here)))
kept_close Optional is from at q p os h = tt

pub kept_list : (ts : List Shape) (is ks : List Item) (room from at : ℕ) (js : List Item) (q : Part) (os : List Outer) →
    Under room js (record { at = from; kind = Optional; part = q } ∷ os) → IsAtoms room ks ts → is ≡ js ++ ks →
    Kept (is ++ (item at Square ∷ [])) (list_step at (record { at = from; kind = Optional; part = q }) os ts)
kept_list [] is ks room from at js q os b d all = tt
kept_list (t ∷ ts) is ks room from at js q os b d all = rw all (back_to b ks (item at Square) (optional_of (t ∷ ts)) (Grammar.optional from at d))

kept_square : (k : Kind) (is : List Item) (from at : ℕ) (q p : Part) (os : List Outer) → Stands is (record { at = from; kind = k; part = q } ∷ os) p →
    Kept (is ++ (item at Square ∷ [])) (square_step at (st (record { at = from; kind = k; part = q } ∷ os) p) (record { at = from; kind = k; part = q } ∷ os))
kept_square (Counted n) is from at q p os h = kept_loose h refl (item at Square ∷ []) (one (Char 93)) (Grammar.square at)
kept_square Plain is from at q p os h = kept_loose h refl (item at Square ∷ []) (one (Char 93)) (Grammar.square at)
kept_square (External n) is from at q p os h = kept_loose h refl (item at Square ∷ []) (one (Char 93)) (Grammar.square at)
kept_square Optional is from at q p os h = kept_list (settled p) is h.ks h.room from at h.js q os h.below h.here h.all

pub kept : (is : List Item) (u : List Outer) (p : Part) (at : ℕ) (sign : Sign) → Stands is u p → Kept (is ++ (item at sign ∷ [])) (step (st u p) at sign)
kept is u p at (Atom l) h = kept_atom h (item at (Atom l) ∷ []) (one l) (Grammar.leaf at l)
kept is u p at (Multi m) h = kept_last is u p.branches p.concats p.pieces p.last at m (in_list u) refl h
kept is u p at (Open k) h = kept_open is u p at k _ (nat_lt (length u) 100) refl h
kept is [] p at Close h = tt
kept is (o ∷ os) p at Close h = kept_close o.kind is o.at at o.part p os h
kept is [] p at Square h = kept_loose h refl (item at Square ∷ []) (one (Char 93)) (Grammar.square at)
kept is (o ∷ os) p at Square h = kept_square o.kind is o.at at o.part p os h
kept is u p at Bar h = kept_bar h at _ (in_list u) refl
kept is u p at Also h = kept_also h at _ (in_list u) refl
kept is u p at (Quiet ignore) h = kept_quiet h at ignore
kept is u p at (Wrong before c) h = tt
