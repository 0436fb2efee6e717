-- The reading gives the tree, or the first fault.
use Rattle.std.proofs.Common.{◌≡◌, ℕ, length, List, [], ◌∷◌, ◌++◌, Bool, true, false, Ok, Err, refl, sym, ◌∙◌, ap, subst, append_assoc, append-nil}
use Rattle.std.specs.Prelude.{Result, nat_lt, cond, Option}
use Rattle.pattern_items.specs.declared.atom.Atom.{Atom as AnyAtom}
use Rattle.pattern_items.specs.declared.atom.Atom.TheVariants.{LineEnd}
use Rattle.pattern_items.specs.declared.item.Multi.{Multi as AnyMulti}
use Rattle.pattern_items.specs.declared.item.Kind.{Kind}
use Rattle.pattern_items.specs.declared.item.Kind.TheVariants.{Counted, Plain, External, Optional}
use Rattle.pattern_items.specs.declared.cause.PatternCause.TheVariants as cause
use Rattle.pattern_items.specs.declared.item.Sign.{Sign}
use Rattle.pattern_items.specs.declared.item.Sign.TheVariants.{Atom, Multi, Open, Close, Square, Bar, Also, Quiet, Wrong}
use Rattle.vim_pattern.specs.Shape.{Shape, one}
use Rattle.pattern_items.specs.Place.{Item, item}
use Rattle.vim_pattern.specs.Grammar
use Rattle.vim_pattern.specs.Grammar.{IsPattern, IsAtoms, IsTree, IsStart}
use Rattle.vim_pattern.specs.Fault.{Fault, fault_at, is_multi, ends_in_multi, Opened, open_with, open_after, outermost_of, innermost, blame, IsFault, at_item, at_end}
use Rattle.vim_pattern.specs.Read.{Last, nothing, loose, fixed, Part, new_part, settled, pattern_of, put, ended, with_bar, with_also, top_at, Outer, State, start, Step, in_list, step, after, read, finish, outermost, close_kind, list_step, square_step, multi_step}
use Rattle.vim_pattern.proofs.Complete.{tree_reads}
use Rattle.vim_pattern.proofs.Sound.{st, Stands, Under, bottom, Kept, kept, kept_atom, kept_close, kept_list, pattern_here, Holds, nothing_yet}

at_bottom : {room : ℕ} {is : List Item} → Under room is [] → (ks : List Item) (p : Part) → Holds room ks p → IsTree (is ++ ks) (pattern_of p)
at_bottom bottom ks p h = (_, pattern_here h, refl)

whole : (is : List Item) (p : Part) → Stands is [] p → IsTree is (pattern_of p)
whole is p h = rw h.all (at_bottom h.below h.ks p h.here)

pub shorter : (is js : List Item) → IsStart (is ++ js) → IsStart is
shorter is js h = (js ++ h.0, h.1, rw (← append_assoc is js h.0) h.2)

-- whatever has been read can be completed
list_completes : (ts : List Shape) (t : Shape) (is ks : List Item) (room from : ℕ) (js : List Item) (q : Part) (os : List Outer) →
    Under room js (record { at = from; kind = Optional; part = q } ∷ os) → IsAtoms room ks (ts ++ (t ∷ [])) → is ≡ js ++ ks →
    (r : Part) × Stands (is ++ (item 0 Square ∷ [])) os r
list_completes [] t is ks room from js q os b d all = (_, kept_list (t ∷ []) is ks room from 0 js q os b d all)
list_completes (x ∷ ts) t is ks room from js q os b d all = (_, kept_list (x ∷ (ts ++ (t ∷ []))) is ks room from 0 js q os b d all)

top_completes : (k : Kind) (is : List Item) (from : ℕ) (q p : Part) (os : List Outer) → Stands is (record { at = from; kind = k; part = q } ∷ os) p →
    (js : List Item) × (r : Part) × Stands (is ++ js) os r
top_completes (Counted n) is from q p os h = (item 0 Close ∷ [], _, kept_close (Counted n) is from 0 q p os h)
top_completes (External n) is from q p os h = (item 0 Close ∷ [], _, kept_close (External n) is from 0 q p os h)
top_completes Plain is from q p os h = (item 0 Close ∷ [], _, kept_close Plain is from 0 q p os h)
top_completes Optional is from q p os h =
    let a = kept_atom h (item 0 (Atom LineEnd) ∷ []) (one LineEnd) (Grammar.leaf 0 LineEnd) in
    let l = list_completes (settled p) (one LineEnd) (is ++ (item 0 (Atom LineEnd) ∷ [])) a.ks a.room from a.js q os a.below a.here a.all in
    (item 0 (Atom LineEnd) ∷ item 0 Square ∷ [], l.0, rw (← append_assoc is (item 0 (Atom LineEnd) ∷ []) (item 0 Square ∷ [])) l.1)

completes : (u : List Outer) (is : List Item) (p : Part) → Stands is u p → IsStart is
completes [] is p h = ([], pattern_of p, rw (append-nil is) (whole is p h))
completes (o ∷ os) is p h =
    let c = top_completes o.kind is o.at o.part p os h in
    shorter is c.0 (completes os (is ++ c.0) c.1 c.2)

-- the two records of what is open
abbrev opens_of : List Outer → List Opened
opens_of [] = []
opens_of (o ∷ os) = record { at = o.at; kind = o.kind } ∷ opens_of os

abbrev is_fixed : Last → Bool
is_fixed nothing = false
is_fixed (loose t) = false
is_fixed (fixed t) = true

-- a step keeps both records, and a refusal is the item's blame
abbrev Tells : List Outer → Last → ℕ → Sign → Step → Type 0
Tells u l at sign (Ok s) = (is_fixed s.here.last ≡ is_multi sign) × (opens_of s.under ≡ open_with (opens_of u) at sign)
Tells u l at sign (Err f) = f ≡ blame (is_fixed l) (opens_of u) at sign

multi_tells : (u : List Outer) (bs cs ps : List Shape) (l : Last) (at : ℕ) (m : AnyMulti) (b : Bool) → Tells u l at (Multi m) (multi_step at m b (st u (record { branches = bs; concats = cs; pieces = ps; last = l })) l)
multi_tells u bs cs ps nothing at m b = refl
multi_tells u bs cs ps (loose t) at m false = (refl, refl)
multi_tells u bs cs ps (loose t) at m true = refl
multi_tells u bs cs ps (fixed t) at m b = refl

open_tells : (u : List Outer) (p : Part) (at : ℕ) (k : Kind) (b : Bool) →
    Tells u p.last at (Open k) (cond b (Ok (st (record { at = at; kind = k; part = p } ∷ u) new_part)) (Err (fault_at at cause.TooNested)))
open_tells u p at k true = (refl, refl)
open_tells u p at k false = refl

close_tells : (k : Kind) (from at : ℕ) (q p : Part) (os : List Outer) →
    Tells (record { at = from; kind = k; part = q } ∷ os) p.last at Close (close_kind at p (record { at = from; kind = k; part = q }) os k)
close_tells (Counted n) from at q p os = (refl, refl)
close_tells (External n) from at q p os = (refl, refl)
close_tells Plain from at q p os = (refl, refl)
close_tells Optional from at q p os = refl

list_tells : (ts : List Shape) (l : Last) (from at : ℕ) (q : Part) (os : List Outer) →
    Tells (record { at = from; kind = Optional; part = q } ∷ os) l at Square (list_step at (record { at = from; kind = Optional; part = q }) os ts)
list_tells [] l from at q os = refl
list_tells (t ∷ ts) l from at q os = (refl, refl)

square_tells : (k : Kind) (from at : ℕ) (q p : Part) (os : List Outer) →
    Tells (record { at = from; kind = k; part = q } ∷ os) p.last at Square (square_step at (st (record { at = from; kind = k; part = q } ∷ os) p) (record { at = from; kind = k; part = q } ∷ os))
square_tells (Counted n) from at q p os = (refl, refl)
square_tells (External n) from at q p os = (refl, refl)
square_tells Plain from at q p os = (refl, refl)
square_tells Optional from at q p os = list_tells (settled p) p.last from at q os

top_tells : (u : List Outer) → fault_at (top_at u) cause.Unclosed ≡ fault_at (innermost (opens_of u)) cause.Unclosed
top_tells [] = refl
top_tells (o ∷ os) = refl

bar_tells : (u : List Outer) (p q : Part) (at : ℕ) (b : Bool) → is_fixed q.last ≡ false → Tells u p.last at Bar (cond b (Err (fault_at (top_at u) cause.Unclosed)) (Ok (st u q)))
bar_tells u p q at true e = top_tells u
bar_tells u p q at false e = (e, refl)

also_tells : (u : List Outer) (p q : Part) (at : ℕ) (b : Bool) → is_fixed q.last ≡ false → Tells u p.last at Also (cond b (Err (fault_at (top_at u) cause.Unclosed)) (Ok (st u q)))
also_tells u p q at true e = top_tells u
also_tells u p q at false e = (e, refl)

tells : (u : List Outer) (p : Part) (at : ℕ) (sign : Sign) → Tells u p.last at sign (step (st u p) at sign)
tells u p at (Atom l) = (refl, refl)
tells u p at (Multi m) = multi_tells u p.branches p.concats p.pieces p.last at m (in_list u)
tells u p at (Open k) = open_tells u p at k (nat_lt (length u) 100)
tells [] p at Close = refl
tells (o ∷ os) p at Close = close_tells o.kind o.at at o.part p os
tells [] p at Square = (refl, refl)
tells (o ∷ os) p at Square = square_tells o.kind o.at at o.part p os
tells u p at Bar = bar_tells u p (with_bar p) at (in_list u) refl
tells u p at Also = also_tells u p (with_also p) at (in_list u) refl
tells u p at (Quiet ignore) = (refl, refl)
tells u p at (Wrong before c) = refl

-- what is known when these items have been read
record Read (done : List Item) (s : State) : Type 0 where
  stands : Stands done s.under s.here
  reads : (rest : List Item) → read (done ++ rest) start ≡ read rest s
  multi : is_fixed s.here.last ≡ ends_in_multi done
  opens : opens_of s.under ≡ open_after [] done

nothing_read : Read [] start
nothing_read = record { stands = record { room = 100; js = []; ks = []; below = bottom; here = nothing_yet false 100; all = refl }; reads = λ rest. refl; multi = refl; opens = refl }

ends_in_multi-snoc : (is : List Item) (i : Item) → ends_in_multi (is ++ (i ∷ [])) ≡ is_multi i.sign
ends_in_multi-snoc [] i = refl
ends_in_multi-snoc (j ∷ []) i = refl
ends_in_multi-snoc (j ∷ k ∷ is) i = ends_in_multi-snoc (k ∷ is) i

open_after-snoc : (os : List Opened) (is : List Item) (i : Item) → open_after os (is ++ (i ∷ [])) ≡ open_with (open_after os is) i.at i.sign
open_after-snoc os [] i = refl
open_after-snoc os (j ∷ is) i = open_after-snoc (open_with os j.at j.sign) is i

-- the tree, or the fault
abbrev pub Answers : List Item → Result Shape Fault → Type 0
Answers is (Ok t) = IsTree is t
Answers is (Err f) = IsFault is f

no_tree : (is : List Item) (f : Fault) → read is start ≡ Err f → (t : Shape) → IsTree is t → ⊥
no_tree is f e t h = let g : read is start ≡ Ok t = tree_reads is t h in cc

outermost_tells : (o : Outer) (os : List Outer) → outermost_of (record { at = o.at; kind = o.kind }) (opens_of os) ≡ outermost o os
outermost_tells o [] = refl
outermost_tells o (p ∷ os) = outermost_tells p os

ended_answers : (done : List Item) (p : Part) (u : List Outer) → Read done (st u p) → Answers done (finish p u)
ended_answers done p [] r = whole done p r.stands
ended_answers done p (o ∷ os) r =
    subst (λ at. IsFault done (fault_at at cause.Unclosed)) (outermost_tells o os)
    (at_end (completes (o ∷ os) done p r.stands) (no_tree done _ (ap (λ js. read js start) (sym (append-nil done)) ∙ r.reads [])) (sym r.opens))

next_read : (done : List Item) (i : Item) (s t : State) → Read done s → step s i.at i.sign ≡ Ok t → Kept (done ++ (i ∷ [])) (Ok t) → Tells s.under s.here.last i.at i.sign (Ok t) → Read (done ++ (i ∷ [])) t
next_read done i s t r e k told = record {
  stands = k;
  reads = λ rest. ap (λ js. read js start) (append_assoc done (i ∷ []) rest) ∙ r.reads (i ∷ rest) ∙ ap (λ v. after v (λ x. read rest x)) e;
  multi = told.0 ∙ sym (ends_in_multi-snoc done i);
  opens = told.1 ∙ ap (λ os. open_with os i.at i.sign) r.opens ∙ sym (open_after-snoc [] done i);
}

refused : (done : List Item) (i : Item) (more : List Item) (s : State) (f : Fault) → Read done s → step s i.at i.sign ≡ Err f → Tells s.under s.here.last i.at i.sign (Err f) → IsFault (done ++ (i ∷ more)) f
refused done i more s f r e told =
    let here : f ≡ blame (ends_in_multi done) (open_after [] done) i.at i.sign = told ∙ (λ k. blame (r.multi k) (r.opens k) i.at i.sign) in
    let stops : (rest : List Item) → read ((done ++ (i ∷ [])) ++ rest) start ≡ Err f =
    λ rest. ap (λ js. read js start) (append_assoc done (i ∷ []) rest) ∙ r.reads (i ∷ rest) ∙ ap (λ v. after v (λ x. read rest x)) e in
    subst (λ g. IsFault (done ++ (i ∷ more)) g) (sym here)
    (at_item done i more (completes s.under done s.here r.stands) (λ h. no_tree ((done ++ (i ∷ [])) ++ h.0) f (stops h.0) h.1 h.2))

next_answers : (done : List Item) (i : Item) (more : List Item) (s : State) (v : Step) → Read done s → step s i.at i.sign ≡ v → Kept (done ++ (i ∷ [])) v → Tells s.under s.here.last i.at i.sign v →
    ((t : State) → Read (done ++ (i ∷ [])) t → Answers ((done ++ (i ∷ [])) ++ more) (read more t)) → Answers (done ++ (i ∷ more)) (after v (λ t. read more t))
next_answers done i more s (Ok t) r e k told rec = subst (λ js. Answers js (read more t)) (append_assoc done (i ∷ []) more) (rec t (next_read done i s t r e k told))
next_answers done i more s (Err f) r e k told rec = refused done i more s f r e told

answers : (is done : List Item) (s : State) → Read done s → Answers (done ++ is) (read is s)
answers [] done s r = rw (append-nil done) (ended_answers done s.here s.under r)
answers (i ∷ is) done s r =
    next_answers done i is s (step s i.at i.sign) r refl (kept done s.under s.here i.at i.sign r.stands) (tells s.under s.here i.at i.sign)
    (λ t rt. answers is (done ++ (i ∷ [])) t rt)

-- reading gives the tree, or the fault
pub read_answers : (is : List Item) → Answers is (read is start)
read_answers is = answers is [] start nothing_read

-- a tree and a fault are not both there, and each is the only one
pub one_tree : (is : List Item) (t v : Shape) → IsTree is t → IsTree is v → t ≡ v
one_tree is t v h k = let a = tree_reads is t h in let b = tree_reads is v k in cc

pub not_both : {is : List Item} {f : Fault} → IsFault is f → (t : Shape) → IsTree is t → ⊥
not_both (at_item before i more s none) t h = none (more, t, rw (append_assoc before (i ∷ []) more) h)
not_both (at_end s none e) t h = none t h

-- what is the start of a tree is read through
reached-next : (v : Step) (i : Item) (is done : List Item) (s : State) (rest : List Item) (t : Shape) → Read done s → step s i.at i.sign ≡ v → Kept (done ++ (i ∷ [])) v → Tells s.under s.here.last i.at i.sign v →
    after v (λ x. read (is ++ rest) x) ≡ Ok t → ((x : State) → Read (done ++ (i ∷ [])) x → read (is ++ rest) x ≡ Ok t → (y : State) × Read ((done ++ (i ∷ [])) ++ is) y) →
    (x : State) × Read (done ++ (i ∷ is)) x
reached-next (Ok x) i is done s rest t r e k told h rec =
    let y = rec x (next_read done i s x r e k told) h in
    (y.0, subst (λ js. Read js y.0) (append_assoc done (i ∷ []) is) y.1)
reached-next (Err f) i is done s rest t r e k told h rec = absurd (cc)

reached : (is done : List Item) (s : State) (rest : List Item) (t : Shape) → Read done s → read (is ++ rest) s ≡ Ok t → (x : State) × Read (done ++ is) x
reached [] done s rest t r h = (s, rw (append-nil done) r)
reached (i ∷ is) done s rest t r h =
    reached-next (step s i.at i.sign) i is done s rest t r refl (kept done s.under s.here i.at i.sign r.stands) (tells s.under s.here i.at i.sign) h
    (λ x rx hx. reached is (done ++ (i ∷ [])) x rest t rx hx)

-- an atom, and an item without room, may follow any start of a tree: they are never the first with which there is none
pub atom_follows : (is : List Item) (at : ℕ) (l : AnyAtom) → IsStart is → IsStart (is ++ (item at (Atom l) ∷ []))
atom_follows is at l h =
    let r = reached is [] start h.0 h.1 nothing_read (tree_reads (is ++ h.0) h.1 h.2) in
    completes (r.0).under (is ++ (item at (Atom l) ∷ [])) (put (one l) (r.0).here) (kept is (r.0).under (r.0).here at (Atom l) r.1.stands)

pub quiet_follows : (is : List Item) (at : ℕ) (ignore : Option Bool) → IsStart is → IsStart (is ++ (item at (Quiet ignore) ∷ []))
quiet_follows is at ignore h =
    let r = reached is [] start h.0 h.1 nothing_read (tree_reads (is ++ h.0) h.1 h.2) in
    completes (r.0).under (is ++ (item at (Quiet ignore) ∷ [])) (ended (r.0).here) (kept is (r.0).under (r.0).here at (Quiet ignore) r.1.stands)
