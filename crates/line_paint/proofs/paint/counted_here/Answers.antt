use Rattle.line_paint.proofs.Common.{arith, ap, sym, ◌∙◌, ◌≡◌, pos, Looked, ℤ, ◌+ℤ◌, moved_by}
use Rattle.std.proofs.lemmas.Int.{ints}
use Rattle.line_paint.proofs.paint.counted_here.Goals as goal

there_and_back : (a by line : ℤ) → by +ℤ line ≡ pos 0 → a ≡ (a +ℤ by) +ℤ line
there_and_back a by line none = omega (arith, ints, none)

back : (a here : Looked) (by line : ℤ) → here ≡ moved_by a by → by +ℤ line ≡ pos 0 → a ≡ moved_by here line
back a here by line is none =
    (λ i. record a { low = there_and_back a.low by line none i; high = there_and_back a.high by line none i })
    ∙ ap (λ (k : Looked). moved_by k line) (sym is)

pub returns : goal.returns
returns g c = back c.args.looked c.moved.result _ _ c.moved.ensures (omega (arith, ints, c.line-line.ensures.is, c.line-line.ensures.few))
