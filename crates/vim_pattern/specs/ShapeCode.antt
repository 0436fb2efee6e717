-- Codes for shapes and trees, by which proofs tell their values apart.
use Rattle.std.specs.Prelude.{◌≡◌, ℕ, Option, Bool, refl}
use Rattle.std.proofs.Common.{ap}
use base.Stored.{Gv, gnil, gnum, gcons, num}
use Rattle.std.specs.Coded.{Coded, coded×, coded_ℕ, coded_bool, coded_option, code_by}
use Rattle.pattern_items.specs.contracts.atom.Atom.{the_row as atom_row}
use Rattle.pattern_items.specs.contracts.item.Behind.{the_row as behind_row}
use Rattle.pattern_items.specs.declared.item.Behind.{Behind}
use Rattle.vim_pattern.specs.Shape.{Shape, empty, one, seq, or, and, group, external, repeat, ahead, before, whole}
use Rattle.vim_pattern.specs.Tree.{PatternTree}

abbrev pub coded_times : Coded (ℕ × (Option ℕ × Bool))
coded_times = coded× coded_ℕ (coded× (coded_option coded_ℕ) coded_bool)

abbrev pub coded_look : Coded (Bool × Behind)
coded_look = coded× coded_bool behind_row.coded

abbrev head : Gv → Gv
head (gcons a b) = a
head _ = gnil

abbrev tail : Gv → Gv
tail (gcons a b) = b
tail _ = gnil

abbrev tagged : ℕ → Gv → Gv
tagged n g = gcons (gnum n) g

abbrev pub shape_code : Shape → Gv
shape_code empty = gnil
shape_code (one a) = tagged 1 (atom_row.coded.code a)
shape_code (seq a b) = tagged 2 (gcons (shape_code a) (shape_code b))
shape_code (or a b) = tagged 3 (gcons (shape_code a) (shape_code b))
shape_code (and a b) = tagged 4 (gcons (shape_code a) (shape_code b))
shape_code (group p n) = tagged 5 (gcons (shape_code p) (gnum n))
shape_code (external p n) = tagged 6 (gcons (shape_code p) (gnum n))
shape_code (repeat p least most lazy) = tagged 7 (gcons (shape_code p) (coded_times.code (least, (most, lazy))))
shape_code (ahead p negative) = tagged 8 (gcons (shape_code p) (coded_bool.code negative))
shape_code (before p negative limit) = tagged 9 (gcons (shape_code p) (coded_look.code (negative, limit)))
shape_code (whole p) = tagged 10 (gcons (shape_code p) gnil)

abbrev first : Gv → Gv
first g = head (tail g)

abbrev second : Gv → Gv
second g = tail (tail g)

pub shape_inj : (x y : Shape) → shape_code x ≡ shape_code y → x ≡ y
shape_inj empty empty e = refl
shape_inj (one a) (one b) e = ap (λ x. one x) (atom_row.coded.inj a b (ap (λ g. tail g) e))
shape_inj (seq a b) (seq c d) e = λ i. seq (shape_inj a c (ap (λ g. first g) e) i) (shape_inj b d (ap (λ g. second g) e) i)
shape_inj (or a b) (or c d) e = λ i. or (shape_inj a c (ap (λ g. first g) e) i) (shape_inj b d (ap (λ g. second g) e) i)
shape_inj (and a b) (and c d) e = λ i. and (shape_inj a c (ap (λ g. first g) e) i) (shape_inj b d (ap (λ g. second g) e) i)
shape_inj (group p n) (group q m) e = λ i. group (shape_inj p q (ap (λ g. first g) e) i) (num (second (e i)))
shape_inj (external p n) (external q m) e = λ i. external (shape_inj p q (ap (λ g. first g) e) i) (num (second (e i)))
shape_inj (repeat p l m z) (repeat q k n y) e =
    let h : (l, (m, z)) ≡ (k, (n, y)) = coded_times.inj (l, (m, z)) (k, (n, y)) (ap (λ g. second g) e) in
    λ i. repeat (shape_inj p q (ap (λ g. first g) e) i) (h i).0 (h i).1.0 (h i).1.1
shape_inj (ahead p m) (ahead q n) e = λ i. ahead (shape_inj p q (ap (λ g. first g) e) i) (coded_bool.inj m n (ap (λ g. second g) e) i)
shape_inj (before p m l) (before q n k) e =
    let h : (m, l) ≡ (n, k) = coded_look.inj (m, l) (n, k) (ap (λ g. second g) e) in
    λ i. before (shape_inj p q (ap (λ g. first g) e) i) (h i).0 (h i).1
shape_inj (whole p) (whole q) e = λ i. whole (shape_inj p q (ap (λ g. first g) e) i)
shape_inj empty y e = absurd (cc)
shape_inj (one a) y e = absurd (cc)
shape_inj (seq a b) y e = absurd (cc)
shape_inj (or a b) y e = absurd (cc)
shape_inj (and a b) y e = absurd (cc)
shape_inj (group p n) y e = absurd (cc)
shape_inj (external p n) y e = absurd (cc)
shape_inj (repeat p l m z) y e = absurd (cc)
shape_inj (ahead p m) y e = absurd (cc)
shape_inj (before p m l) y e = absurd (cc)
shape_inj (whole p) y e = absurd (cc)

abbrev pub coded_shape : Coded Shape
coded_shape = record { code = shape_code; inj = shape_inj }

abbrev pub coded_tree : Coded PatternTree
coded_tree =
    code_by (Shape × (Option Bool × (ℕ × (ℕ × (Bool × Bool)))))
    (coded× coded_shape (coded× (coded_option coded_bool) (coded× coded_ℕ (coded× coded_ℕ (coded× coded_bool coded_bool)))))
    (λ t. (t.node, (t.case, (t.groups, (t.externals, (t.moves_start, t.line_end))))))
    (λ p. record { node = p.0; case = p.1.0; groups = p.1.1.0; externals = p.1.1.1.0; moves_start = p.1.1.1.1.0; line_end = p.1.1.1.1.1 })
    (λ _. refl)
