use Rattle.std.proofs.Common.{◌≡◌, ◌≢◌, ◌<◌, ◌+◌, length, true, false, [], ◌∷◌, ◌∙◌, refl, sym, ap, rules}
use Rattle.std.specs.Prelude.{Some, None}
use Rattle.match_rules.specs.Ways.{Context as AnyContext, Way}
use Rattle.match_rules.specs.Looks.{ending_at}
use Rattle.match_rules.specs.Visits.{visits}
use Rattle.match_rules.specs.Attempt.{answer_from}
use Rattle.pattern_match.specs.declared.task.Went.TheVariants.{GoesOn, Does, Ends}
use Rattle.pattern_match.specs.Contexts.{context_in}
use Rattle.pattern_match.specs.Steps.{shape_of}
use Rattle.pattern_match.specs.declared.task.Task.{Task}
use Rattle.pattern_match.specs.Heights.{height}
use Rattle.pattern_match.specs.Starts.{starts_left}
use Rattle.pattern_match.specs.Ways.{Ways}
use Rattle.pattern_match.specs.Machine.{part_marks}
use Rattle.pattern_match.specs.Search.{IsSearch, HasEnded, wanted_marks, is_wanted, task_of}
use Rattle.pattern_match.proofs.Leading.{led}
use Rattle.pattern_match.proofs.Looping.{Running, stepped, at_once_done, chosen, again_taken, taken, passed, one_pending, next_one, started}
use Rattle.pattern_match.proofs.Visiting.{look_goes, look_over, part-kept, higher}
use Rattle.pattern_match.proofs.LookingBehind.{behind_ended, behind_over, start_found, start_absent, start_over, start_marks, copy_dropped, starts_over}
use Rattle.pattern_match.proofs.search.+search.Goals as goal
use Rattle.pattern_match.proofs.search.+search.Goals.{follow_look-in-None+in_ok-sought-in-None, follow_look-in-Some+in_ok-sought-in-Some, follow_look-in-Found, follow_look-in-Absent, follow_look-in-TooCostly, search-in-Does+in-Some+in_ok-put_aside_again-in-Some, search-in-GoesOn+in-Some-take_first+in-Again, search-in-Does+in-None+in_ok-went-in-None, search-in-GoesOn+in-Some-take_first+in_default+in_ok-went-in_default, search-in-GoesOn+in-None-2, search-in-Ends+else-pending-floor}

pub search-loop-init : goal.search-loop-init
search-loop-init g t c =
    let x : AnyContext = context_in (g.T.Lines.lines c.args.lines.now) c.args.context.now in
    started x c.args.part c.args.wanted c.args.ways.now c.drop_all.new.self c.args.spent.now
    c.requires.on_text c.requires.numbers c.requires.within c.drop_all.ensures

pub follow_look-returns : goal.follow_look-returns
follow_look-returns g t c =
    let x : AnyContext = context_in (g.T.Lines.lines c.args.lines.now) c.args.context.now in
    let marks = part_marks x (shape_of c.args.look.part.now) c.args.look.behind
    c.args.ways.now.here.way in
    let aside : Ways Task = record c.args.ways.now {
      pending = c.args.ways.now.here
          ∷ c.args.ways.now.pending;
    } in
    let e : c.put_aside.new.self ≡ aside = c.in_ok-put_aside.ensures in
    let sought : IsSearch marks aside c.match-look.ways c.args.spent.now c.match-look.spent
    c.match-look.sought =
    elim c.match-look.branch [
      | follow_look-in-None+in_ok-sought-in-None w ↦ rw
          (w.ways-is, w.spent-is, w.sought-is, w.in-None.is)
          (rw e at w.in_ok-sought-in-None.ensures)
      | follow_look-in-Some+in_ok-sought-in-Some w ↦ rw
          (w.ways-is, w.spent-is, w.sought-is, w.in-Some.is)
          (rw e at w.in_ok-sought-in-Some.ensures)
    ] in
    let kept = part-kept x (shape_of c.args.look.part.now) c.args.look.behind
    c.args.ways.now.here.way c.requires.on_text in
    elim c.match-sought.branch [
      | follow_look-in-Found w ↦
          (let h : HasEnded marks aside c.match-look.ways c.args.spent.now c.match-look.spent
          (Some c.match-look.ways.here.way) = rw w.in-Found.is at sought in
          let b = w.behind_look.ensures.leads c.args.ways.now.here c.args.ways.now.pending h.pending
          in
          rw (w.ways-is, w.result-is)
          (higher x (height (shape_of c.args.look.part.now) + 1) _ c.args.ways.now
          w.behind_look.new.ways c.args.spent.now c.match-look.spent w.behind_look.result
          (led x 0 _ c.args.ways.now w.behind_look.new.ways c.args.spent.now c.match-look.spent
          w.behind_look.result w.behind_look.ensures.led
          (look_goes x c.args.look.ending c.args.ways.now marks kept true aside c.match-look.ways
          w.behind_look.new.ways c.args.spent.now c.match-look.spent w.behind_look.result h b.0
          b.1))))
      | follow_look-in-Absent w ↦
          (let h : HasEnded marks aside c.match-look.ways c.args.spent.now c.match-look.spent
          None = rw w.in-Absent.is at sought in
          let b = w.behind_look-in-Absent.ensures.leads c.args.ways.now.here c.args.ways.now.pending
          h.pending in
          rw (w.ways-is, w.result-is)
          (higher x (height (shape_of c.args.look.part.now) + 1) _ c.args.ways.now
          w.behind_look-in-Absent.new.ways c.args.spent.now c.match-look.spent
          w.behind_look-in-Absent.result
          (led x 0 _ c.args.ways.now w.behind_look-in-Absent.new.ways c.args.spent.now
          c.match-look.spent w.behind_look-in-Absent.result w.behind_look-in-Absent.ensures.led
          (look_goes x c.args.look.ending c.args.ways.now marks kept false aside c.match-look.ways
          w.behind_look-in-Absent.new.ways c.args.spent.now c.match-look.spent
          w.behind_look-in-Absent.result h b.0 b.1))))
      | follow_look-in-TooCostly w ↦ rw w.result-is
          (look_over x c.args.look.ending c.args.ways.now marks c.args.spent.now
          (rw w.in-TooCostly.is at sought))
    ]

pub search_behind-returns-in-Found : goal.search_behind-returns-in-Found
search_behind-returns-in-Found g t c =
    let x : AnyContext = context_in (g.T.Lines.lines c.args.lines.now) c.args.context.now in
    let part = shape_of c.args.part.now in
    let u : c.is_in_vain.new.spent ≡ c.loop-start.spent = c.is_in_vain.ensures.unchanged (search rules) in
    let s : HasEnded (ending_at c.place-at.result (visits x part c.move_to.new.self.here.way))
    c.move_to.new.self c.search.new.ways c.loop-start.spent c.search.new.spent
    (Some c.search.new.ways.here.way) = rw (c.in-Found.is, u) at c.in_ok-search.ensures in
    let places = rw c.in-Some.is at c.next.ensures.places in
    let m = start_marks x part c.args.ways.now c.loop-start.ways c.move_to.new.self c.in-Some.start
    c.place-at.result c.move_to.ensures c.loop-start.invariant.here c.place-at.ensures in
    let d = copy_dropped c.args.ways.now c.search.new.ways c.end.new.ways c.pending.result
    c.end.ensures.ways c.pending.ensures
    (s.pending ∙ (rw c.move_to.ensures c.loop-start.invariant.pending)) in
    let told = start_found x part c.args.limit c.args.ways.now c.args.spent.now c.loop-start.ways
    c.loop-start.spent c.loop-start.starts c.loop-start.invariant c.in-Some.start
    c.next.new.self places.0 c.search.new.ways.here.way c.search.new.spent
    (sym (ap (answer_from c.loop-start.spent.cost c.loop-start.spent.looked) m) ∙ s.answer) in
    rw c.end.ensures.sought
    (behind_ended x part c.args.limit c.args.ways.now c.args.spent.now c.end.new.ways
    c.search.new.spent c.end.new.spent (Some c.end.new.ways.here.way)
    (rw d.1 told) (s.budget ∙ c.loop-start.invariant.budget) s.within d.0
    (c.end.ensures.spent ∙ rw (c.line_before.ensures, c.place-at.ensures) refl))

pub search_behind-returns-in-TooCostly : goal.search_behind-returns-in-TooCostly
search_behind-returns-in-TooCostly g t c =
    let x : AnyContext = context_in (g.T.Lines.lines c.args.lines.now) c.args.context.now in
    let part = shape_of c.args.part.now in
    let u : c.is_in_vain.new.spent ≡ c.loop-start.spent = c.is_in_vain.ensures.unchanged (search rules) in
    let s : c.loop-start.spent.budget < (answer_from c.loop-start.spent.cost
    c.loop-start.spent.looked (ending_at c.place-at.result
    (visits x part c.move_to.new.self.here.way))).cost = rw (c.in-TooCostly.is, u) at
    c.in_ok-search.ensures in
    let places = rw c.in-Some.is at c.next.ensures.places in
    let m = start_marks x part c.args.ways.now c.loop-start.ways c.move_to.new.self c.in-Some.start
    c.place-at.result c.move_to.ensures c.loop-start.invariant.here c.place-at.ensures in
    behind_over x part c.args.limit c.args.ways.now c.args.spent.now
    (start_over x part c.args.limit c.args.ways.now c.args.spent.now c.loop-start.ways
    c.loop-start.spent c.loop-start.starts c.loop-start.invariant c.in-Some.start c.next.new.self
    places.0 (rw m at s))

pub search_behind-returns : goal.search_behind-returns
search_behind-returns g t c =
    let x : AnyContext = context_in (g.T.Lines.lines c.args.lines.now) c.args.context.now in
    let part = shape_of c.args.part.now in
    let e : starts_left (g.T.Lines.lines c.args.lines.now) c.loop-start.starts ≡ [] =
    rw c.in_default.is at c.next.ensures.places in
    let d = copy_dropped c.args.ways.now c.loop-start.ways c.end-2.new.ways c.pending.result
    c.end-2.ensures.ways c.pending.ensures c.loop-start.invariant.pending in
    rw c.end-2.ensures.sought
    (behind_ended x part c.args.limit c.args.ways.now c.args.spent.now c.end-2.new.ways
    c.loop-start.spent c.end-2.new.spent None
    (starts_over x part c.args.limit c.args.ways.now c.args.spent.now c.loop-start.ways
    c.loop-start.spent c.loop-start.starts c.loop-start.invariant e)
    c.loop-start.invariant.budget c.loop-start.invariant.within d.0
    (c.end-2.ensures.spent ∙ rw (c.line_before.ensures, c.place-at.ensures) refl))

pub search_behind-loop-start-preserved : goal.search_behind-loop-start-preserved
search_behind-loop-start-preserved g t c =
    let x : AnyContext = context_in (g.T.Lines.lines c.args.lines.now) c.args.context.now in
    let part = shape_of c.args.part.now in
    let u : c.is_in_vain.new.spent ≡ c.loop-start.spent = c.is_in_vain.ensures.unchanged (search rules) in
    let s : HasEnded (ending_at c.place-at.result (visits x part c.move_to.new.self.here.way))
    c.move_to.new.self c.search.new.ways c.loop-start.spent c.search.new.spent None =
    rw (c.in-Absent.is, u) at c.in_ok-search.ensures in
    let places = rw c.in-Some.is at c.next.ensures.places in
    let m = start_marks x part c.args.ways.now c.loop-start.ways c.move_to.new.self c.in-Some.start
    c.place-at.result c.move_to.ensures c.loop-start.invariant.here c.place-at.ensures in
    let p : c.search.new.ways.pending ≡ c.args.ways.now.here ∷ c.args.ways.now.pending =
    s.pending ∙ (rw c.move_to.ensures c.loop-start.invariant.pending) in
    start_absent x part c.args.limit c.args.ways.now c.args.spent.now c.loop-start.ways
    c.loop-start.spent c.loop-start.starts c.loop-start.invariant c.in-Some.start c.next.new.self
    places.0 c.take_up_copy.new.ways c.search.new.spent
    (sym (ap (answer_from c.loop-start.spent.cost c.loop-start.spent.looked) m) ∙ s.answer) s.budget
    s.within (c.in_ok-take_up_copy-in-Absent.ensures c.args.ways.now.here c.args.ways.now.pending p
    ∙ rw p refl) c.next.ensures.on_text

pub search_behind-loop-start-preserved-then-is_in_vain : goal.search_behind-loop-start-preserved-then-is_in_vain
search_behind-loop-start-preserved-then-is_in_vain g t c =
    let x : AnyContext = context_in (g.T.Lines.lines c.args.lines.now) c.args.context.now in
    let part = shape_of c.args.part.now in
    let old : Ways Task = c.args.ways.now in
    let places = rw c.in-Some.is at c.next.ensures.places in
    let w : Way = record old.here.way { at = c.in-Some.start } in
    let seen = rw c.place-at.ensures at c.is_in_vain.ensures.seen (search rules) w refl in
    start_absent x part c.args.limit old c.args.spent.now c.loop-start.ways c.loop-start.spent
    c.loop-start.starts c.loop-start.invariant c.in-Some.start c.next.new.self places.0
    c.loop-start.ways c.is_in_vain.new.spent seen c.is_in_vain.ensures.budget
    c.is_in_vain.ensures.within
    (λ i. record { here = c.loop-start.invariant.here i; pending = c.loop-start.invariant.pending i })
    c.next.ensures.on_text

pub search-loop-preserved : goal.search-loop-preserved
search-loop-preserved g t c =
    let x : AnyContext = context_in (g.T.Lines.lines c.args.lines.now) c.args.context.now in
    let n = height (shape_of c.args.part.now) in
    let answer = answer_from c.args.spent.now.cost c.args.spent.now.looked
    (wanted_marks c.args.wanted (visits x (shape_of c.args.part.now) c.args.ways.now.here.way))
    in
    let budget = c.args.spent.now.budget in
    let floor = c.args.ways.now.pending in
    elim c.match-went.branch [
      | search-in-Does+in-Some+in_ok-put_aside_again-in-Some w ↦
          (let r : Running x n c.args.wanted answer budget floor c.loop.ways c.loop.spent
          (Does w.in-Does.next) = rw w.in-Does.is at c.loop.invariant in
          rw (w.ways-is, w.spent-is, w.went-is)
          (chosen x n c.args.wanted answer budget floor c.loop.ways c.loop.spent
          w.put_aside_again.new.ways w.in-Does.next w.in-Some.first w.in-Some.second
          w.in-Some.ensures r w.in_ok-put_aside_again-in-Some.ensures))
      | search-in-GoesOn+in-Some-take_first+in-Again w ↦
          (let r : Running x n c.args.wanted answer budget floor c.loop.ways c.loop.spent
          GoesOn = rw w.in-GoesOn.is at c.loop.invariant in
          let k = w.in-Some-take_first.ensures in
          rw (w.ways-is, w.spent-is, w.went-is)
          (again_taken x n c.args.wanted answer budget floor c.loop.ways c.loop.spent
          w.take_first.new.self w.in-Again.second w.in-Again.cost r
          (k.0 ∙ ap (λ i. i ∷ w.take_first.new.self.here.todo) w.in-Again.is) k.1 k.2
          w.again.result w.again.ensures))
      | search-in-Does+in-None+in_ok-went-in-None w ↦
          (let r : Running x n c.args.wanted answer budget floor c.loop.ways c.loop.spent
          (Does w.in-Does.next) = rw w.in-Does.is at c.loop.invariant in
          rw (w.ways-is, w.spent-is, w.went-is)
          (stepped x n c.args.wanted answer budget floor c.loop.ways c.loop.spent w.follow.new.ways
          w.follow.new.spent (task_of w.in-Does.next)
          (at_once_done x n c.args.wanted answer budget floor c.loop.ways c.loop.spent
          w.in-Does.next r) w.in_ok-went-in-None.went w.in_ok-went-in-None.ensures))
      | search-in-GoesOn+in-Some-take_first+in_default+in_ok-went-in_default w ↦
          (let r : Running x n c.args.wanted answer budget floor c.loop.ways c.loop.spent
          GoesOn = rw w.in-GoesOn.is at c.loop.invariant in
          let k = w.in-Some-take_first.ensures in
          rw (w.ways-is, w.spent-is, w.went-is)
          (stepped x n c.args.wanted answer budget floor w.take_first.new.self c.loop.spent
          w.step.new.ways w.step.new.spent w.in-Some-take_first.item
          (taken x n c.args.wanted answer budget floor c.loop.ways c.loop.spent
          w.take_first.new.self w.in-Some-take_first.item r k.0 k.1 k.2 w.in_default.not-Again)
          w.in_ok-went-in_default.went w.in_ok-went-in_default.ensures))
      | search-in-GoesOn+in-None-2 w ↦
          (let r : Running x n c.args.wanted answer budget floor c.loop.ways c.loop.spent
          GoesOn = rw w.in-GoesOn.is at c.loop.invariant in
          let k = w.in-None-take_first.ensures in
          let other : is_wanted c.args.wanted c.loop.ways.here.way.at ≡ false =
          rw (← k.1, ← w.place.ensures) (sym w.if-is_wanted.ensures) in
          rw (w.ways-is, w.spent-is, w.went-is, k.1)
          (passed x n c.args.wanted answer budget floor c.loop.ways c.loop.spent r k.0 other))
      | search-in-Ends+else-pending-floor w ↦
          (let r : Running x n c.args.wanted answer budget floor c.loop.ways c.loop.spent Ends = rw
          w.in-Ends.is at c.loop.invariant in
          let far : length c.loop.ways.pending ≢ length floor =
          λ e. w.if-pending-floor.false (w.pending.ensures ∙ (e ∙ sym c.pending-floor.ensures))
          in
          rw (w.ways-is, w.spent-is, w.went-is)
          (next_one x n c.args.wanted answer budget floor c.loop.ways c.loop.spent
          w.take_up.new.self r far
          (one_pending x n c.args.wanted answer budget floor c.loop.ways c.loop.spent
          w.take_up.new.self w.take_up.result r far w.take_up.ensures.none w.take_up.ensures.next)))
    ]
