-- Ways that take the place of the present one.
use Rattle.std.proofs.Common.{◌≡◌, ℕ, ◌≤◌, List, [], ◌∷◌, ◌++◌, refl, sym, ap, ◌∙◌, arith, subst, append_assoc, append-nil}
use Rattle.match_rules.specs.Ways.{Text, Context, Way, IsPlaceOf}
use Rattle.match_rules.specs.Marks.{Mark, Reach, followed, ticks_first}
use Rattle.match_rules.proofs.MarkLaws.{followed-append, followed-assoc}
use Rattle.pattern_match.specs.declared.task.Task.{Task}
use Rattle.pattern_match.specs.declared.task.Next.{Next}
use Rattle.pattern_match.specs.declared.task.Went.{Went}
use Rattle.pattern_match.specs.declared.task.Went.TheVariants.{GoesOn, Does, Ends, TooCostly as NoMore}
use Rattle.pattern_match.specs.declared.spent.Spent.{Spent}
use Rattle.pattern_match.specs.Ways.{Thread, Ways}
use Rattle.pattern_match.specs.Machine.{task_marks, marks_with, marks_to_come}
use Rattle.pattern_match.specs.Heights.{height_of, IsNumbered, AreSound}
use Rattle.pattern_match.specs.Search.{task_of, going, Leads, Goes, IsLed, IsStep, marks_first}

pub marks_to_come-append : (x : Context) (a b : List (Thread Task)) → marks_to_come x (a ++ b) ≡ marks_to_come x a ++ marks_to_come x b
marks_to_come-append x [] b = refl
marks_to_come-append x (t ∷ a) b =
    ap (λ r. marks_with x t.todo t.way ++ r) (marks_to_come-append x a b) ∙ sym (append_assoc (marks_with x t.todo t.way) (marks_to_come x a) (marks_to_come x b))

pub going-append : (went : Went) (t : Thread Task) (a b : List (Thread Task)) → going went t (a ++ b) ≡ going went t a ++ b
going-append GoesOn t a b = refl
going-append (Does item) t a b = refl
going-append Ends t a b = refl
going-append NoMore t a b = refl

pub AreSound-append : (text : Text) (n : ℕ) (a b : List (Thread Task)) → AreSound text n a → AreSound text n b → AreSound text n (a ++ b)
AreSound-append text n [] b h k = k
AreSound-append text n (t ∷ a) b h k = (h.0, AreSound-append text n a b h.1 k)

-- a step that makes no tick
pub silent : (x : Context) (high : ℕ) (marks : List Mark) (old new : Ways Task) (s : Spent) (went : Went) → s.cost ≤ s.budget → Leads x high marks old new went → Goes x high marks old new s s went
silent x high marks old new s went h l = record { made = []; left = marks; all = refl; spent = refl; within = h; leads = l }

-- a step that is known to go on
pub led : (x : Context) (high : ℕ) (marks : List Mark) (old new : Ways Task) (earlier later : Spent) (went : Went) → IsLed went → Goes x high marks old new earlier later went → IsStep x high marks old new earlier later went
led x high marks old new earlier later GoesOn h g = g
led x high marks old new earlier later (Does item) h g = g
led x high marks old new earlier later Ends h g = g
led x high marks old new earlier later NoMore h g = absurd h

module _ (x : Context) (high : ℕ) (old : Ways Task) where
  pub leads_on : (new : Ways Task) (w : Way) → new ≡ record old { here = record old.here { way = w } } → (IsPlaceOf x.text old.here.way.at → IsPlaceOf x.text w.at) → Leads x high (followed (Reach w ∷ []) (marks_with x old.here.todo)) old new GoesOn
  leads_on new w e kept =
      subst (λ v. Leads x high (followed (Reach w ∷ []) (marks_with x old.here.todo)) old v GoesOn) (sym e)
      (record { more = []; pending = refl; same = refl; sound = λ n h p s. ((kept p, s), tt) })

  -- one thing that stands for the marks
  pub leads_do : (i : Next) → IsNumbered (task_of i) → height_of (task_of i) ≤ high → Leads x high (marks_first x (task_of i) old) old old (Does i)
  leads_do i num low = record {
    more = [];
    pending = refl;
    same = append-nil (marks_first x (task_of i) old);
    sound = λ n h p s. ((p, ((num, omega arith), s)), tt);
  }

  -- two things, one after the other
  pub leads_two : (new : Ways Task) (i : Next) (j : Task) → new ≡ record old { here = record old.here { todo = j ∷ old.here.todo } } → IsNumbered (task_of i) → height_of (task_of i) ≤ high → IsNumbered j → height_of j ≤ high →
      Leads x high (followed (followed (task_marks x (task_of i) old.here.way) (task_marks x j)) (marks_with x old.here.todo)) old new (Does i)
  leads_two new i j e num low num' low' =
      subst (λ v. Leads x high (followed (followed (task_marks x (task_of i) old.here.way) (task_marks x j)) (marks_with x old.here.todo)) old v (Does i)) (sym e)
      (record {
        more = [];
        pending = refl;
        same = append-nil _ ∙ sym (followed-assoc (task_marks x (task_of i) old.here.way) (task_marks x j) (marks_with x old.here.todo));
        sound = λ n h p s. ((p, ((num, omega arith), ((num', omega arith), s))), tt);
      })

  -- the one or the other
  pub leads_or : (new : Ways Task) (i : Next) (j : Task) → new ≡ record old { pending = record old.here { todo = j ∷ old.here.todo } ∷ old.pending } → IsNumbered (task_of i) → height_of (task_of i) ≤ high → IsNumbered j → height_of j ≤ high →
      Leads x high (followed (task_marks x (task_of i) old.here.way ++ task_marks x j old.here.way) (marks_with x old.here.todo)) old new (Does i)
  leads_or new i j e num low num' low' =
      subst (λ v. Leads x high (followed (task_marks x (task_of i) old.here.way ++ task_marks x j old.here.way) (marks_with x old.here.todo)) old v (Does i)) (sym e)
      (record {
        more = record old.here { todo = j ∷ old.here.todo } ∷ [];
        pending = refl;
        same = ap (λ r. marks_first x (task_of i) old ++ r) (append-nil (marks_first x j old)) ∙ sym (followed-append (task_marks x (task_of i) old.here.way) (task_marks x j old.here.way) (marks_with x old.here.todo));
        sound = λ n h p s. ((p, ((num, omega arith), s)), ((p, ((num', omega arith), s)), tt));
      })

  -- to stop, or else one thing
  pub leads_stop : (new : Ways Task) (j : Task) → new ≡ record old { pending = record old.here { todo = j ∷ old.here.todo } ∷ old.pending } → IsNumbered j → height_of j ≤ high →
      Leads x high (followed (Reach old.here.way ∷ task_marks x j old.here.way) (marks_with x old.here.todo)) old new GoesOn
  leads_stop new j e num low =
      subst (λ v. Leads x high (followed (Reach old.here.way ∷ task_marks x j old.here.way) (marks_with x old.here.todo)) old v GoesOn) (sym e)
      (record {
        more = record old.here { todo = j ∷ old.here.todo } ∷ [];
        pending = refl;
        same = ap (λ r. marks_with x old.here.todo old.here.way ++ r) (append-nil (marks_first x j old));
        sound = λ n h p s. ((p, s), ((p, ((num, omega arith), s)), tt));
      })

  pub leads_nowhere : Leads x high [] old old Ends
  leads_nowhere = record { more = []; pending = refl; same = refl; sound = λ n h p s. tt }

  -- where a copy of the present way was put aside before
  pub leads_before : (aside new : Ways Task) (marks : List Mark) (went : Went) → aside ≡ record old { pending = old.here ∷ old.pending } → Leads x high marks aside new went →
      Leads x high (marks ++ marks_with x old.here.todo old.here.way) old new went
  leads_before aside new marks went e l = record {
    more = l.more ++ old.here ∷ [];
    pending = l.pending ∙ rw (e, append_assoc);
    same =
        ap (marks_to_come x) (going-append went new.here l.more (old.here ∷ [])) ∙ (marks_to_come-append x (going went new.here l.more) (old.here ∷ [])
        ∙ rw (l.same, append-nil));
    sound = λ n h p s.
        subst (AreSound x.text n) (sym (going-append went new.here l.more (old.here ∷ [])))
        (AreSound-append x.text n (going went new.here l.more) (old.here ∷ []) (l.sound n h (rw e p) (rw e s)) ((p, s), tt));
  }

module _ (x : Context) (high : ℕ) (marks : List Mark) (old aside new : Ways Task) (earlier later : Spent) (e : aside ≡ record old { pending = old.here ∷ old.pending }) where
  longer : (made left : List Mark) → marks ≡ ticks_first made ++ left → marks ++ marks_with x old.here.todo old.here.way ≡ ticks_first made ++ (left ++ marks_with x old.here.todo old.here.way)
  longer made left h = rw h (append_assoc (ticks_first made) left (marks_with x old.here.todo old.here.way))

  goes_before : (went : Went) → Goes x high marks aside new earlier later went → Goes x high (marks ++ marks_with x old.here.todo old.here.way) old new earlier later went
  goes_before went g = record {
    made = g.made;
    left = g.left ++ marks_with x old.here.todo old.here.way;
    all = longer g.made g.left g.all;
    spent = g.spent;
    within = g.within;
    leads = leads_before x high old aside new g.left went e g.leads;
  }

  -- a step from there
  pub step_before : (went : Went) → IsStep x high marks aside new earlier later went → IsStep x high (marks ++ marks_with x old.here.todo old.here.way) old new earlier later went
  step_before GoesOn g = goes_before GoesOn g
  step_before (Does item) g = goes_before (Does item) g
  step_before Ends g = goes_before Ends g
  step_before NoMore o = record { made = o.made; left = o.left ++ marks_with x old.here.todo old.here.way; all = longer o.made o.left o.all; over = o.over }
