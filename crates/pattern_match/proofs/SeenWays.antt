-- What an attempt answers by what a short look tells.
use Rattle.std.proofs.Common.{◌≡◌, ℕ, Bool, false, true, ◌≤◌, refl, ap, arith, ◌∙◌, sym, subst}
use Rattle.syn_base.specs.declared.want_of_memory.Memory.{Memory}
use Rattle.std.specs.Prelude.{Result, IfOk, Option, Some, None, pos, nat_lt, if◌then◌else◌}
use Rattle.std.proofs.lemmas.Bool.Decides.{nat_tests}
use Rattle.syn_base.specs.declared.looked.Looked.{Looked}
use Rattle.syn_base.specs.declared.places.Place.{Place}
use Rattle.syn_base.specs.Looked.{one_line}
use Rattle.match_rules.specs.Ways.{Text, Way}
use Rattle.match_rules.specs.Attempt.{Answer}
use Rattle.pattern_match.specs.Answers.{answered, lines_or_start, match_of}
use Rattle.pattern_match.specs.declared.answer.Attempt.{Attempt}
use Rattle.pattern_match.specs.declared.answer.Attempt.TheVariants.{Found, Absent, TooCostly}

in-time : (budget cost : ℕ) → cost ≤ budget → nat_lt budget cost ≡ false
in-time budget cost within = grind (arith, nat_tests)

lines-same : (start : Place) (looked : Option Looked) → lines_or_start start looked ≡ (elim looked [ None ↦ one_line (pos start.line) | Some l ↦ l ])
lines-same start None = refl
lines-same start (Some l) = refl

unless-over : (over : Bool) (told : Attempt) → over ≡ false → told ≡ (if over then TooCostly else told)
unless-over true told e = absurd (cc)
unless-over false told e = refl

pub told_absent : (budget : ℕ) (text : Text) (start : Place) (answer : Answer) (cost : ℕ) (looked : Option Looked) → cost ≤ budget → answer ≡ record { way = None; cost = cost; looked = looked } →
    Absent (lines_or_start start looked) ≡ answered budget text start answer
told_absent budget text start answer cost looked within e =
    subst (λ (a : Answer). Absent (lines_or_start start looked) ≡ answered budget text start a) (sym e)
    (ap Absent (lines-same start looked) ∙ unless-over (nat_lt budget cost) (Absent (elim looked [ None ↦ one_line (pos start.line) | Some l ↦ l ])) (in-time budget cost within))

pub told_found : (budget : ℕ) (text : Text) (start : Place) (answer : Answer) (cost : ℕ) (looked : Option Looked) (v : Way) → cost ≤ budget →
    answer ≡ record { way = Some v; cost = cost; looked = looked } →
    Found (match_of text start v) (lines_or_start start looked) ≡ answered budget text start answer
told_found budget text start answer cost looked v within e =
    subst (λ (a : Answer). Found (match_of text start v) (lines_or_start start looked) ≡ answered budget text start a) (sym e)
    (ap (Found (match_of text start v)) (lines-same start looked)
    ∙ unless-over (nat_lt budget cost) (Found (match_of text start v) (elim looked [ None ↦ one_line (pos start.line) | Some l ↦ l ])) (in-time budget cost within))

pub told_ok : (r : Result Attempt Memory) (a b : Attempt) → IfOk r (λ told. told ≡ a) → a ≡ b → IfOk r (λ told. told ≡ b)
told_ok r a b h e = subst (λ (x : Attempt). IfOk r (λ told. told ≡ x)) e h
