-- A multi behind what stands last.
use Rattle.std.proofs.Common.{◌≡◌, ℕ, refl}
use Rattle.std.specs.Prelude.{Bool, true, false, Some, None, Ok}
use Rattle.pattern_items.specs.declared.item.Multi.{Multi}
use Rattle.pattern_items.specs.declared.cause.PatternCause.{PatternCause}
use Rattle.vim_pattern.specs.Read.{Last, nothing, loose, fixed, State, multi_fault, multi_step, refuse, repeated}

pub refused_multi : (at : ℕ) (m : Multi) (list : Bool) (s : State) (last : Last) (c : PatternCause) → multi_fault list last ≡ Some c
    → multi_step at m list s last ≡ refuse at c
refused_multi at m list s nothing c h = cc
refused_multi at m true s (loose t) c h = cc
refused_multi at m false s (loose t) c h = cc
refused_multi at m list s (fixed t) c h = cc

pub put_multi : (at : ℕ) (m : Multi) (list : Bool) (s : State) (last : Last) → multi_fault list last ≡ None
    → multi_step at m list s last ≡ Ok (record s { here = record s.here { last = repeated m last } })
put_multi at m list s nothing h = cc
put_multi at m true s (loose t) h = cc
put_multi at m false s (loose t) h = refl
put_multi at m list s (fixed t) h = cc
