-- One part more at the lower end.
use Rattle.std.proofs.Common.{◌≡◌, List, [], ◌∷◌, ◌++◌, refl, ap}
use Rattle.vim_pattern.specs.Shape.{Shape}
use Rattle.pattern_match.specs.declared.ready.Above.{Above}
use Rattle.pattern_match.specs.LastParts.{over, all_over}

pub over_last : (bs : List Above) (a : Above) (t : Shape) →
    all_over (bs ++ (a ∷ [])) t ≡ all_over bs (over a t)
over_last [] a t = refl
over_last (b ∷ bs) a t = ap (λ x. over b x) (over_last bs a t)
