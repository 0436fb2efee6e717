-- The fold of an ASCII character is its small letter.
use Rattle.std.proofs.Common.{◌≡◌, inl, inr, ℕ, zero, suc, ◌+◌, ◌<◌, ◌≤◌, Bool, true, false, ◌&&◌, eqb, refl, ap, ◌∙◌, arith, eqb-true}
use Rattle.std.specs.Char.{to_ascii_lowercase}
use Rattle.std.specs.List.{list_all, range_with_len}
use Rattle.std.proofs.lemmas.Bool.{cases_eq}
use Rattle.ucd_case.proofs.Computing.{ucd_case}
use Rattle.unicode.specs.CaseFolding.{simple_fold}

abbrev folds_small : ℕ → Bool
folds_small c = eqb (to_ascii_lowercase c) (simple_fold c)

all_fold_small : list_all folds_small (range_with_len 0 128) ≡ true
unfolding ucd_case
all_fold_small = refl

both : (a b : Bool) → (a && b) ≡ true → (a ≡ true) × (b ≡ true)
both true b e = (refl, e)
both false b e = absurd (cc)

pub holds_in : (p : ℕ → Bool) (a n c : ℕ) → list_all p (range_with_len a n) ≡ true → a ≤ c → c < a + n → p c ≡ true
holds_in p a zero c all from to = absurd (omega arith)
holds_in p a (suc n) c all from to =
    let parts = both (p a) (list_all p (range_with_len (a + 1) n)) all in
    elim (cases_eq c a) [
      | inl e ↦ ap p e ∙ parts.0
      | inr ne ↦ holds_in p (a + 1) n c parts.1 (omega arith) (omega arith)
    ]

pub lowercase-fold : (c : ℕ) → c < 128 → to_ascii_lowercase c ≡ simple_fold c
lowercase-fold c within = eqb-true (to_ascii_lowercase c) (simple_fold c) (holds_in folds_small 0 128 c all_fold_small (omega arith) (omega arith))
