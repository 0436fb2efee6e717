-- A session goes on where its part before left off.
use Rattle.std.proofs.Common.{◌≡◌, ℕ, zero, suc, ◌+◌, ◌≤◌, List, [], ◌∷◌, ◌++◌, length, take, refl, ap, sym, subst, ◌∙◌, append_assoc, zero-add, arith}
use Rattle.std.specs.Prelude.{Option, Some, None, Result, Err}
use Rattle.std.proofs.Math.Seq.{take-length}
use Rattle.std.proofs.lemmas.List.{append-nil}
use Rattle.std.proofs.lemmas.List.Elements.{Contains-append_left, Contains-append_right}
use Rattle.syn_base.specs.Outside.{AppendsPrefix, appended}
use Rattle.edit_script.specs.declared.commands.Entry.{Entry}
use Rattle.edit_session.specs.declared.reading.End.{End}
use Rattle.edit_session.specs.declared.reading.End.TheVariants.{Done, Refused, TooLong, Unread, Unfetched, Unwritten, Memory}
use Rattle.edit_session.specs.Ends.{IsUnreadOf, sink_change}
use Rattle.edit_session.specs.Painter.{Library}
use Rattle.edit_session.specs.Steps.{Answers}
use Rattle.edit_session.specs.Session.{Answer, Standing, answers, behind, entry_costs, session, session_costs}

behind_behind : (one two answer : Answer) → behind one (behind two answer) ≡ behind (behind one two) answer
behind_behind one two answer =
    ap (λ text. record { text = text; asked = one.asked ++ (two.asked ++ answer.asked); stands = answer.stands }) (sym (append_assoc one.text two.text answer.text))
    ∙ ap (λ asked. record { text = (one.text ++ two.text) ++ answer.text; asked = asked; stands = answer.stands }) (sym (append_assoc one.asked two.asked answer.asked))

pub session_joined : (library : Library) (s : Standing) (first second : List Entry) → session library s (first ++ second) ≡ behind (session library s first) (session library (session library s first).stands second)
session_joined library s [] second = refl
session_joined library s (entry ∷ first) second =
    let own = answers library s entry.line entry.what in
    ap (behind own) (session_joined library own.stands first second)
    ∙ behind_behind own (session library own.stands first) (session library (session library own.stands first).stands second)

-- what two parts of a session may paint
pub costs_joined : (library : Library) (s : Standing) (first second : List Entry) → session_costs library s (first ++ second) ≡ session_costs library s first + session_costs library (session library s first).stands second
costs_joined library s [] second = sym (zero-add (session_costs library s second))
costs_joined library s (entry ∷ first) second =
    let rest = costs_joined library (answers library s entry.line entry.what).stands first second in omega arith

-- ---- what is appended

pub appended_nothing : (before : Option (List ℕ)) → before ≡ appended before []
appended_nothing None = refl
appended_nothing (Some before) = ap Some (sym (append-nil before))

pub appended_twice : (before : Option (List ℕ)) (one two : List ℕ) → appended (appended before one) two ≡ appended before (one ++ two)
appended_twice None one two = refl
appended_twice (Some before) one two = ap Some (append_assoc before one two)

pub appends_all : (before after : Option (List ℕ)) (bytes : List ℕ) → after ≡ appended before bytes → AppendsPrefix before after bytes
appends_all before after bytes is = (length bytes, is ∙ ap (λ b. appended before b) (sym (take-length bytes)))

-- a part from the front of some bytes is one of more bytes
take_of_more : (n : ℕ) (one two : List ℕ) → (m : ℕ) × (take n one ≡ take m (one ++ two))
take_of_more zero [] two = (0, refl)
take_of_more (suc n) [] two = (0, refl)
take_of_more zero (x ∷ one) two = (0, refl)
take_of_more (suc n) (x ∷ one) two = let more = take_of_more n one two in (suc more.0, ap (λ l. x ∷ l) more.1)

pub appends_of_more : (before after : Option (List ℕ)) (one two : List ℕ) → AppendsPrefix before after one → AppendsPrefix before after (one ++ two)
appends_of_more before after one two part =
    let more = take_of_more part.0 one two in
    (more.0, part.1 ∙ ap (λ b. appended before b) more.1)

take_past : (one two : List ℕ) (n : ℕ) → one ++ take n two ≡ take (length one + n) (one ++ two)
take_past [] two n = ap (λ k. take k two) (sym (zero-add n))
take_past (x ∷ one) two n =
    let next : suc (length one) + n ≡ suc (length one + n) = omega arith in
    ap (λ l. x ∷ l) (take_past one two n) ∙ ap (λ k. take k (x ∷ (one ++ two))) (sym next)

pub appends_behind : (before middle after : Option (List ℕ)) (one two : List ℕ) → middle ≡ appended before one → AppendsPrefix middle after two → AppendsPrefix before after (one ++ two)
appends_behind before middle after one two is part =
    (length one + part.0, part.1 ∙ ap (λ m. appended m (take part.0 two)) is ∙ appended_twice before one (take part.0 two) ∙ ap (λ b. appended before b) (take_past one two part.0))

-- ---- a file that can't be read

-- one for which the second of two parts asks
pub unread_behind : (library : Library) (first second : Answer) (line : List ℕ) → IsUnreadOf library second.asked line → IsUnreadOf library (behind first second).asked line
unread_behind library first second line is =
    record { name = is.name; asked = Contains-append_right first.asked second.asked is.name is.asked; unread = is.unread }

-- one for which the first asks
pub unread_before : (library : Library) (first second : Answer) (line : List ℕ) → IsUnreadOf library first.asked line → IsUnreadOf library (behind first second).asked line
unread_before library first second line is =
    record { name = is.name; asked = Contains-append_left first.asked second.asked is.name is.asked; unread = is.unread }

-- ---- one command more

-- a command was answered in the middle of a session
pub answered_further : (library : Library) (now next : Standing) (entry : Entry) (rest : List Entry) (first whole : Answer) (out0 out out' : Option (List ℕ)) → whole ≡ behind first (session library now (entry ∷ rest)) → out ≡ appended out0 first.text → out' ≡ appended out (answers library now entry.line entry.what).text → next ≡ (answers library now entry.line entry.what).stands → (more : Answer) × (out' ≡ appended out0 more.text) × (whole ≡ behind more (session library next rest))
answered_further library now next entry rest first whole out0 out out' is so_far written stands =
    let own = answers library now entry.line entry.what in (
      behind first own,
      written ∙ ap (λ o. appended o own.text) so_far ∙ appended_twice out0 first.text own.text,
      is ∙ behind_behind first own (session library own.stands rest) ∙ ap (λ s. behind (behind first own) (session library s rest)) (sym stands),
    )

-- with what those to come may paint, no more were painted than all may
pub painted_further : (library : Library) (now next : Standing) (entry : Entry) (rest : List Entry) (steps more most : ℕ) → steps + session_costs library now (entry ∷ rest) ≤ most → more ≤ steps + entry_costs library now entry → next ≡ (answers library now entry.line entry.what).stands → more + session_costs library next rest ≤ most
painted_further library now next entry rest steps more most so_far painted stands =
    let same : session_costs library next rest ≡ session_costs library (answers library now entry.line entry.what).stands rest =
    ap (λ s. session_costs library s rest) stands in
    omega arith

pub painted_last : (library : Library) (now : Standing) (entry : Entry) (rest : List Entry) (steps more most : ℕ) → steps + session_costs library now (entry ∷ rest) ≤ most → more ≤ steps + entry_costs library now entry → more ≤ most
painted_last library now entry rest steps more most so_far painted = omega arith

-- it was stopped in the middle of a command
pub answered_part : (library : Library) (now : Standing) (entry : Entry) (rest : List Entry) (first whole : Answer) (out0 out out' : Option (List ℕ)) → whole ≡ behind first (session library now (entry ∷ rest)) → out ≡ appended out0 first.text → AppendsPrefix out out' (answers library now entry.line entry.what).text → AppendsPrefix out0 out' whole.text
answered_part library now entry rest first whole out0 out out' is so_far part =
    let own = answers library now entry.line entry.what in
    let P : Answer → Type 0 = λ a. AppendsPrefix out0 out' a.text in
    subst P (sym is) (appends_behind out0 out out' first.text (own.text ++ (session library own.stands rest).text) so_far (appends_of_more out out' own.text (session library own.stands rest).text part))

-- a stop of one command is one of all
pub stopped_part : (U V : Type 0) (library : Library) (now next : Standing) (entry : Entry) (rest : List Entry) (first whole : Answer) (out0 out out' : Option (List ℕ)) (g0 g g' : ℕ) (end : End) (result : Result V End) → whole ≡ behind first (session library now (entry ∷ rest)) → out ≡ appended out0 first.text → Answers {U = U} library (answers library now entry.line entry.what) next (sink_change out out' g g') (Err end) → result ≡ Err end → Answers {U = V} library whole next (sink_change out0 out' g0 g') result
stopped_part U V library now next entry rest first whole out0 out out' g0 g g' (Unfetched line) result is so_far stops at =
    let own = answers library now entry.line entry.what in
    let R : Answer → Type 0 = λ a. IsUnreadOf library a.asked line in
    rw at (
      answered_part library now entry rest first whole out0 out out' is so_far stops.0,
      subst R (sym is) (unread_behind library first (session library now (entry ∷ rest)) line (unread_before library own (session library own.stands rest) line stops.1)),
    )
stopped_part U V library now next entry rest first whole out0 out out' g0 g g' Unwritten result is so_far stops at =
    rw at (answered_part library now entry rest first whole out0 out out' is so_far stops)
stopped_part U V library now next entry rest first whole out0 out out' g0 g g' Memory result is so_far stops at =
    rw at (answered_part library now entry rest first whole out0 out out' is so_far stops)
stopped_part U V library now next entry rest first whole out0 out out' g0 g g' Done result is so_far stops at =
    rw at (answered_part library now entry rest first whole out0 out out' is so_far stops)
stopped_part U V library now next entry rest first whole out0 out out' g0 g g' Refused result is so_far stops at =
    rw at (answered_part library now entry rest first whole out0 out out' is so_far stops)
stopped_part U V library now next entry rest first whole out0 out out' g0 g g' TooLong result is so_far stops at =
    rw at (answered_part library now entry rest first whole out0 out out' is so_far stops)
stopped_part U V library now next entry rest first whole out0 out out' g0 g g' Unread result is so_far stops at =
    rw at (answered_part library now entry rest first whole out0 out out' is so_far stops)
