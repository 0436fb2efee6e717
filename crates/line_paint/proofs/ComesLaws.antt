-- What was looked at before comes first, and a call's answer goes on as what follows says.
use Rattle.line_paint.proofs.Common.{◌≡◌, sym, ap, ◌∙◌, Result, Ok, Some, Looked, Painted, Done, looked_first, ◌>>=◌, refusal_of, goes_on, refusal_bind, Cause, Stop, Stops, Err, refusal_first, refusal_then, Comes, ComesOf}
use Rattle.line_paint.specs.declared.answers.Stop.TheVariants as stop

-- a refusal of what is left is one of the whole
pub refused_same : {E A : Type 0} (c : E) (j k : Looked) (p : Painted E A) (q : Painted E A) →
    looked_first (Some j) p ≡ looked_first (Some k) q → refusal_of q ≡ Some c →
    refusal_of p ≡ Some c
refused_same c j k p q e r =
    sym (refusal_first (Some j) p) ∙ (ap refusal_of e ∙ (refusal_first (Some k) q ∙ r))

-- a refusal of what follows a value
pub stops_then : {A B : Type 0} (e : Stop) (j k : Looked) (m : Painted Cause A) (a : A)
    (f : A → Painted Cause B) → looked_first (Some j) m ≡ Done a (Some k) → Stops e (f a) →
    Stops e (m >>= f)
stops_then (stop.TooCostly i) j k m a f h s = refusal_then _ j k m a f h s
stops_then stop.TooDeep j k m a f h s = refusal_then _ j k m a f h s
stops_then stop.Memory j k m a f h s = tt

-- a call's answer, where it is made after a value
pub comes_then : {A B C : Type 0} (view : A → B) (r : Result A Stop) (j k l : Looked)
    (m : Painted Cause C) (c : C) (f : C → Painted Cause B) →
    looked_first (Some j) m ≡ Done c (Some k) → Comes view r k l (f c) → Comes view r j l (m >>= f)
comes_then view (Ok a) j k l m c f e h = goes_on j k m c f e ∙ h
comes_then view (Err e) j k l m c f g h = stops_then e j k m c f g h

-- the same of a value of certain items
pub comes_of_then : {A B C D : Type 0} (view : A → B) (items : B → D) (kept : D)
    (r : Result A Stop) (j k l : Looked) (m : Painted Cause C) (c : C) (f : C → Painted Cause B) →
    looked_first (Some j) m ≡ Done c (Some k) → ComesOf view items kept r k l (f c) →
    ComesOf view items kept r j l (m >>= f)
comes_of_then view items kept (Ok a) j k l m c f e h = (goes_on j k m c f e ∙ h.0, h.1)
comes_of_then view items kept (Err e) j k l m c f g h = stops_then e j k m c f g h

pub stops_whole : {A B : Type 0} (e : Stop) (j k : Looked) (p : Painted Cause B)
    (m : Painted Cause A) (f : A → Painted Cause B) →
    looked_first (Some j) p ≡ looked_first (Some k) (m >>= f) → Stops e m → Stops e p
stops_whole (stop.TooCostly i) j k p m f e s = refused_same _ j k p (m >>= f) e (refusal_bind _ m f s)
stops_whole stop.TooDeep j k p m f e s = refused_same _ j k p (m >>= f) e (refusal_bind _ m f s)
stops_whole stop.Memory j k p m f e s = tt
