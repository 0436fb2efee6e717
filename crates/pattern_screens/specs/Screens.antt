-- What an attempt does at a column where no atom that could come first takes what stands there.
use Rattle.std.specs.Prelude.{ℕ, zero, suc, Bool, true, false, ◌&&◌, ◌||◌, not, Option, Some, None, if◌then◌else◌}
use Rattle.char_class.specs.declared.sets.Sets.{Sets}
use Rattle.pattern_items.specs.declared.atom.Atom.{Atom}
use Rattle.pattern_items.specs.declared.atom.Atom.TheVariants.{Char, Any, Is, Set, LineEnd, LineStart, LineStop, WordStart, WordStop, MatchStart, MatchStop}
use Rattle.vim_pattern.specs.Shape.{Shape, empty, one, seq, or, and, group, external, repeat, ahead, before, whole}
use Rattle.match_rules.specs.Counts.{is_spent}
use Rattle.vim_pattern.specs.Tree.{PatternTree}
use Rattle.match_rules.specs.Attempt.{ignores_case}
use Rattle.pattern_screens.specs.Keys.{is_end, is_keyword, is_first, is_after_keyword}
use Rattle.pattern_screens.specs.MayTake.{may_take}
use Rattle.pattern_screens.specs.Lined.{is_lined}
use Rattle.pattern_screens.specs.declared.key.Key.{Key}
use Rattle.pattern_screens.specs.declared.still.Still.{Still}

-- ---- what is known of a part that takes nothing, and looks at its own line alone

-- it reaches a way, or not
abbrev pub still : Bool → Still
still reaches = record { reaches = reaches; surely = reaches }

-- one part behind another
abbrev pub then_still : Still → Still → Still
then_still a b = record { reaches = a.reaches && b.reaches; surely = a.surely && b.surely }

-- one part or another
abbrev pub or_still : Still → Still → Still
or_still a b = record { reaches = a.reaches || b.reaches; surely = a.surely || b.surely }

-- a look that fails where its part has a way
abbrev pub turned : Still → Still
turned a = record { reaches = not a.surely; surely = not a.reaches }

-- a look whose part may take something
abbrev pub maybe : Still
maybe = record { reaches = true; surely = false }

-- ---- atoms

-- none where the atom may take what stands here, or looks elsewhere
abbrev pub unless : Bool → Option Still
unless true = None
unless false = Some (still false)

abbrev pub still_atom : Sets → Bool → Key → Atom → Option Still
still_atom sets ignore key (Char c) = unless (may_take sets ignore (Char c) key.next)
still_atom sets ignore key (Any with_end) = unless (may_take sets ignore (Any with_end) key.next)
still_atom sets ignore key (Is class negative with_end) =
    unless (may_take sets ignore (Is class negative with_end) key.next)
still_atom sets ignore key (Set ranges) = unless (may_take sets ignore (Set ranges) key.next)
still_atom sets ignore key LineEnd = unless (is_end key.next)
still_atom sets ignore key LineStart = Some (still (is_first key.last))
still_atom sets ignore key LineStop = Some (still (is_end key.next))
still_atom sets ignore key WordStart =
    Some (still (is_keyword sets key.next && not (is_after_keyword key.last)))
still_atom sets ignore key WordStop =
    Some (still (is_after_keyword key.last && not (is_keyword sets key.next)))
still_atom sets ignore key MatchStart = Some (still true)
still_atom sets ignore key MatchStop = Some (still true)
still_atom sets ignore key _ = None

-- ---- parts

abbrev pub mapped : (Still → Still) → Option Still → Option Still
mapped f None = None
mapped f (Some a) = Some (f a)

abbrev pub both : (Still → Still → Still) → Option Still → Option Still → Option Still
both f (Some a) (Some b) = Some (f a b)
both f None o = None
both f (Some a) None = None

-- the second part matters only where the first may reach a way
abbrev pub in_turn : Still → Option Still → Option Still
in_turn a b = if a.reaches then mapped (then_still a) b else Some a

abbrev pub one_by_one : Option Still → Option Still → Option Still
one_by_one None b = None
one_by_one (Some a) b = in_turn a b

abbrev pub still_look : Bool → Option Still → Option Still
still_look true a = mapped turned a
still_look false a = a

-- where the part of a look may take something, but stays in its line
abbrev pub or_maybe : Bool → Option Still → Option Still
or_maybe stays (Some a) = Some a
or_maybe true None = Some maybe
or_maybe false None = None

-- a count that may stop at once does; a forced turn that took nothing stands for all that are left
abbrev pub still_count : ℕ → Option Still → Option Still
still_count zero a = mapped (λ b. still true) a
still_count (suc least) a = a

-- what a part does at a column, where none of its atoms takes anything there; none where one may
abbrev pub still_of : Sets → Bool → Key → Shape → Option Still
still_of sets ignore key empty = Some (still true)
still_of sets ignore key (one a) = still_atom sets ignore key a
still_of sets ignore key (seq a b) =
    one_by_one (still_of sets ignore key a) (still_of sets ignore key b)
still_of sets ignore key (or a b) =
    both or_still (still_of sets ignore key a) (still_of sets ignore key b)
still_of sets ignore key (and a b) =
    one_by_one (or_maybe (is_lined a) (still_of sets ignore key a))
    (still_of sets ignore key b)
still_of sets ignore key (group part number) = still_of sets ignore key part
still_of sets ignore key (external part number) = still_of sets ignore key part
still_of sets ignore key (repeat part least most lazy) =
    if is_spent most then Some (still true)
    else still_count least (still_of sets ignore key part)
still_of sets ignore key (ahead part negative) =
    or_maybe (is_lined part) (still_look negative (still_of sets ignore key part))
still_of sets ignore key (before part negative limit) = None
still_of sets ignore key (whole part) = still_of sets ignore key part

-- ---- the screen

-- it is known to reach no way
abbrev pub is_dead : Option Still → Bool
is_dead None = false
is_dead (Some a) = not a.reaches

-- an attempt at a column with this key has no way, and looks at its line alone
abbrev pub is_futile : Sets → Bool → Key → PatternTree → Bool
is_futile sets ignore key tree = is_dead (still_of sets (ignores_case tree ignore) key tree.node)
