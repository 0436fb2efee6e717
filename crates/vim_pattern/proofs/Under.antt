-- The open items as a list with the innermost first.
use Rattle.std.proofs.Common.{◌≡◌, ℕ, List, [], ◌∷◌, ◌++◌, map, refl, ap, ◌∙◌, Err, Ok, true, false, length}
use Rattle.std.specs.Prelude.{reverse}
use Rattle.std.proofs.lemmas.List.{map-append, reverse-append, length-reverse, length-map}
use Rattle.pattern_items.specs.declared.cause.PatternCause.TheVariants as cause
use Rattle.vim_pattern.specs.declared.build.OpenItem.{OpenItem}
use Rattle.pattern_items.specs.declared.item.Kind.{Kind}
use Rattle.pattern_items.specs.declared.item.Kind.TheVariants.{Counted, Plain, External, Optional}
use Rattle.vim_pattern.specs.Fault.{fault_at, is_optional}
use Rattle.vim_pattern.specs.Shape.{one}
use Rattle.pattern_items.specs.declared.atom.Atom.TheVariants.{Char}
use Rattle.vim_pattern.specs.Read.{Part, Outer, State, finish, outermost, in_list, square_step, on_part, put, close_step, close_kind, back, pattern_of, refuse}
use Rattle.vim_pattern.specs.Built.{under_of, outer_of, group_of}

pub under_push : (os : List OpenItem) (o : OpenItem) → under_of (os ++ (o ∷ [])) ≡ outer_of o ∷ under_of os
under_push os o = ap (λ l. reverse l) (map-append outer_of os (o ∷ [])) ∙ reverse-append (map outer_of os) (outer_of o ∷ [])

outermost-snoc : (p o : Outer) (os : List Outer) → outermost p (os ++ (o ∷ [])) ≡ o.at
outermost-snoc p o [] = refl
outermost-snoc p o (q ∷ os) = outermost-snoc q o os

finish-snoc : (p : Part) (os : List Outer) (o : Outer) → finish p (os ++ (o ∷ [])) ≡ Err (fault_at o.at cause.Unclosed)
finish-snoc p [] o = refl
finish-snoc p (q ∷ os) o = ap (λ n. Err (fault_at n cause.Unclosed)) (outermost-snoc q o os)

pub finish_open : (p : Part) (o : OpenItem) (os : List OpenItem) → finish p (under_of (o ∷ os)) ≡ Err (fault_at o.at cause.Unclosed)
finish_open p o os = ap (λ l. finish p l) (reverse-append (outer_of o ∷ []) (map outer_of os)) ∙ finish-snoc p (reverse (map outer_of os)) (outer_of o)

-- a closing item behind a group
pub close_group : (at : ℕ) (p : Part) (o : Outer) (os : List Outer) → is_optional o.kind ≡ false → close_step at p (o ∷ os) ≡ Ok (back o os (group_of o.kind (pattern_of p)))
close_group at p o os e = by_kind o.kind e
  where
    by_kind : (k : Kind) → is_optional k ≡ false → close_kind at p o os k ≡ Ok (back o os (group_of k (pattern_of p)))
    by_kind (Counted n) e = refl
    by_kind Plain e = refl
    by_kind (External n) e = refl
    by_kind Optional e = cc

-- a closing item in an optional list
pub close_list : (at : ℕ) (p : Part) (os : List Outer) → in_list os ≡ true → close_step at p os ≡ refuse at cause.UnopenedClose
close_list at p [] e = cc
close_list at p (o ∷ os) e = by_kind o.kind e
  where
    by_kind : (k : Kind) → is_optional k ≡ true → close_kind at p o os k ≡ refuse at cause.UnopenedClose
    by_kind (Counted n) e = cc
    by_kind Plain e = cc
    by_kind (External n) e = cc
    by_kind Optional e = refl

pub length_under : (os : List OpenItem) → length (under_of os) ≡ length os
length_under os = length-reverse (map outer_of os) ∙ length-map os outer_of

pub square_char : (at : ℕ) (s : State) (os : List Outer) → in_list os ≡ false → square_step at s os ≡ Ok (on_part (put (one (Char 93))) s)
square_char at s [] e = refl
square_char at s (o ∷ os) e = rw e refl
