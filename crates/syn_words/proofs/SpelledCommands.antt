-- Spelled commands, and lines of them, read back.
use Rattle.std.proofs.Common.{◌≡◌, ℕ, ◌<◌, ◌≤◌, Bool, true, false, List, [], ◌∷◌, ◌++◌, length, refl, ap, sym, ◌∙◌, arith, append_assoc, length-append}
use Rattle.std.specs.Prelude.{Option, Some, None, Result, Ok, codes, if◌then◌else◌}
use Rattle.std.proofs.lemmas.List.{append-nil}
use Rattle.word_reader.specs.declared.words.Until.TheVariants as until
use Rattle.word_reader.specs.Words.{is_over, is_word, past}
use Rattle.word_values.specs.GroupNames.{is_listed, is_none}
use Rattle.syn_words.specs.declared.cause.Cause.{Cause}
use Rattle.syn_words.specs.declared.first_words.Said.{Said}
use Rattle.syn_words.specs.declared.first_words.Said.TheVariants.{Does}
use Rattle.syn_words.specs.declared.what.ItemCommand.{ItemCommand}
use Rattle.syn_words.specs.declared.what.ItemCommand.TheVariants.{Keyword, Match, Region}
use Rattle.syn_words.specs.declared.what.Named.{Named}
use Rattle.syn_words.specs.declared.what.Named.TheVariants as named
use Rattle.syn_words.specs.declared.what.Piece.{Piece}
use Rattle.syn_words.specs.declared.what.What.{What}
use Rattle.syn_words.specs.declared.what.What.TheVariants as what
use Rattle.syn_words.specs.Alone.{alone}
use Rattle.syn_words.specs.Answers.{Read, ◌>>=◌}
use Rattle.syn_words.specs.Arguments.{argument}
use Rattle.syn_words.specs.Commands.{clear_command, clear_whole, cleared, cleared_after, command, item_command, iskeyword_command, keyword_set}
use Rattle.syn_words.specs.Highlight.{link_command, link_target}
use Rattle.syn_words.specs.Names.{group_name}
use Rattle.syn_words.specs.Pieces.{pieces}
use Rattle.syn_words.specs.Spelled.{AreCleared, ArePlainPieces, HasItsPatterns, IsPlain, IsPlainCleared, IsPlainTarget, bang_text, begins_word, cleared_text, default_text, is_one_word, kind_text, named_text, pieces_text, target_text, what_text}
use Rattle.syn_words.proofs.WordLaws.{otherwise, past_word, run_word}
use Rattle.syn_words.proofs.SpelledItems.{all_pieces_read, some_length, tail_is, tail_of}
use Rattle.syn_words.proofs.SpelledWords.{argument_word, behind, group_argument_word, listed_group, listed_word, name_begins, not_at, not_none, not_over, word_begins, word_ends, word_goes_on}

abbrev does : Read What → Read Said
does r = r >>= λ said. Ok (Does said.0, said.1)

abbrev done : What → Read What
done w = Ok (w, [])

-- Items.

item_at : (kind : ItemCommand) (text : List ℕ)
    → command (kind_text kind ++ text) ≡ does (item_command kind (32 ∷ text))
item_at Keyword text = refl
item_at Match text = refl
item_at Region text = refl

abbrev with_group : ItemCommand → Read (List ℕ) → Read What
with_group kind r = r >>= λ group. pieces kind group.1 >>= λ found. Ok (what.Item kind group.0 found.0, found.1)

abbrev with_pieces : ItemCommand → List ℕ → Read (List Piece) → Read What
with_pieces kind group r = r >>= λ found. Ok (what.Item kind group found.0, found.1)

item_read : (kind : ItemCommand) (group : List ℕ) (ps : List Piece) → is_listed group ≡ true
    → ArePlainPieces kind ps → HasItsPatterns kind ps
    → item_command kind (32 ∷ group ++ pieces_text ps) ≡ done (what.Item kind group ps)
item_read kind group ps listed plain has =
    ap (λ (rest : List ℕ). item_command kind (32 ∷ group ++ rest)) (tail_is ps)
    ∙ ap (with_group kind) (group_argument_word group (tail_of ps) listed)
    ∙ ap (λ (rest : List ℕ). with_pieces kind group (pieces kind rest)) (sym (tail_is ps))
    ∙ ap (with_pieces kind group) (all_pieces_read kind ps plain has)

-- The set of keyword characters.

abbrev with_value : Read (List ℕ) → Read What
with_value r = r >>= λ word. alone (what.Iskeyword (keyword_set word.0)) word.1

value_set : (value : List ℕ) → is_word value (codes "clear") ≡ false
    → keyword_set value ≡ Some value
value_set value is = rw is refl

iskeyword_read : (value : List ℕ) → is_one_word value ≡ true → is_word value (codes "clear") ≡ false
    → iskeyword_command (32 ∷ value) ≡ done (what.Iskeyword (Some value))
iskeyword_read value one other =
    ap (λ (rest : List ℕ). iskeyword_command (32 ∷ rest)) (sym (append-nil value))
    ∙ ap with_value (argument_word value None one)
    ∙ ap (λ (set : Option (List ℕ)). done (what.Iskeyword set)) (value_set value other)

-- Links.

abbrev to_link : Bool → Bool → List ℕ → Read (List ℕ) → Read What
to_link unset force from r = r >>= λ word. link_target word.0 >>= λ to. alone (what.Link from to unset force) word.1

abbrev from_link : Bool → Bool → Read (List ℕ) → Read What
from_link unset force r = r >>= λ from. to_link unset force from.0 (argument from.1)

link_at : (unset force : Bool) (rest : List ℕ)
    → command (bang_text force ++ default_text unset ++ rest)
    ≡ does (link_command unset force (32 ∷ rest))
link_at true true rest = refl
link_at true false rest = refl
link_at false true rest = refl
link_at false false rest = refl

target_word : (to : Option (List ℕ)) → IsPlainTarget to → is_one_word (target_text to) ≡ true
target_word None plain = refl
target_word (Some name) plain = listed_word name plain

abbrev some_target : Result (List ℕ) Cause → Result (Option (List ℕ)) Cause
some_target r = r >>= λ name. Ok (Some name)

named_target : (name : List ℕ) → is_listed name ≡ true → link_target name ≡ Ok (Some name)
named_target name is =
    otherwise (is_none name) (Ok None) (some_target (group_name name)) (not_none name is) ∙ ap some_target (listed_group name is)

target_read : (to : Option (List ℕ)) → IsPlainTarget to → link_target (target_text to) ≡ Ok to
target_read None plain = refl
target_read (Some name) plain = named_target name plain

abbrev linked : Bool → Bool → List ℕ → Result (Option (List ℕ)) Cause → Read What
linked unset force from r = r >>= λ to. alone (what.Link from to unset force) []

link_read : (unset force : Bool) (from : List ℕ) (to : Option (List ℕ)) → is_listed from ≡ true
    → IsPlainTarget to
    → link_command unset force (32 ∷ from ++ 32 ∷ target_text to)
    ≡ done (what.Link from to unset force)
link_read unset force from to listed plain =
    ap (from_link unset force) (group_argument_word from (Some (target_text to)) listed)
    ∙ ap (λ (word : List ℕ). to_link unset force from (argument (32 ∷ word))) (sym (append-nil (target_text to)))
    ∙ ap (to_link unset force from) (argument_word (target_text to) None (target_word to plain))
    ∙ ap (linked unset force from) (target_read to plain)

-- Groups and clusters to be cleared.

abbrev as_group : List ℕ → Result (List ℕ) Cause → Read Named
as_group rest r = r >>= λ name. Ok (named.Group name, rest)

abbrev as_cluster : List ℕ → Result (List ℕ) Cause → Read Named
as_cluster rest r = r >>= λ name. Ok (named.Cluster name, rest)

cleared_read : (n : Named) (tail : Option (List ℕ)) → IsPlainCleared n
    → cleared (named_text n ++ behind tail) ≡ Ok (n, behind tail)
cleared_read (named.Names pattern) tail plain = absurd plain
cleared_read (named.Group name) tail plain =
    let one = listed_word name plain in
    let no_at = not_at 64 name (behind tail) refl plain in
    rw no_at
    (ap (λ (w : List ℕ). as_group (past until.Word (name ++ behind tail)) (group_name w)) (run_word until.Word name (behind tail) (word_goes_on name one) (word_ends tail))
    ∙ ap (λ (rest : List ℕ). as_group rest (group_name name)) (past_word until.Word name (behind tail) (word_goes_on name one) (word_ends tail))
    ∙ ap (as_group (behind tail)) (listed_group name plain))
cleared_read (named.Cluster name) tail plain =
    let one = listed_word name plain in
    ap (λ (w : List ℕ). as_cluster (past until.Word (name ++ behind tail)) (group_name w)) (run_word until.Word name (behind tail) (word_goes_on name one) (word_ends tail))
    ∙ ap (λ (rest : List ℕ). as_cluster rest (group_name name)) (past_word until.Word name (behind tail) (word_goes_on name one) (word_ends tail))
    ∙ ap (as_cluster (behind tail)) (listed_group name plain)

cleared_begins : (n : Named) → IsPlainCleared n → begins_word (named_text n) ≡ true
cleared_begins (named.Names pattern) plain = absurd plain
cleared_begins (named.Group name) plain = name_begins name plain
cleared_begins (named.Cluster name) plain = refl

abbrev cleared_tail : List Named → Option (List ℕ)
cleared_tail [] = None
cleared_tail (n ∷ ns) = Some (named_text n ++ cleared_text ns)

cleared_tail_is : (ns : List Named) → cleared_text ns ≡ behind (cleared_tail ns)
cleared_tail_is [] = refl
cleared_tail_is (n ∷ ns) = refl

abbrev clear_rest : List Named → List ℕ → Read Named → Read What
clear_rest so_far turns r = r >>= λ p. cleared_after (so_far ++ p.0 ∷ []) turns p.1

abbrev clear_turn : List Named → List ℕ → List ℕ → Read What
clear_turn so_far turns text = if is_over text then Ok (clear_whole so_far, text) else clear_rest so_far turns (cleared text)

clear_turn_at : (so_far : List Named) (turns text : List ℕ) → is_over text ≡ false
    → clear_turn so_far turns text ≡ clear_rest so_far turns (cleared text)
clear_turn_at so_far turns text is = rw is refl

clear_read : (ns so_far : List Named) (turns : List ℕ) → length ns < length turns → AreCleared ns
    → cleared_after so_far turns (cleared_text ns) ≡ done (clear_whole (so_far ++ ns))
clear_read ns so_far [] enough plain = absurd (omega (arith, enough))
clear_read [] so_far (t ∷ turns) enough plain = ap (λ (all : List Named). done (clear_whole all)) (sym (append-nil so_far))
clear_read (n ∷ ns) so_far (t ∷ turns) enough plain =
    let begin = cleared_begins n plain.0 in
    let few : length ns < length turns = omega (arith, enough) in
    ap (clear_turn so_far turns) (word_begins (named_text n) (cleared_text ns) begin)
    ∙ clear_turn_at so_far turns (named_text n ++ cleared_text ns) (not_over (named_text n) (cleared_text ns) begin)
    ∙ ap (λ (rest : List ℕ). clear_rest so_far turns (cleared (named_text n ++ rest))) (cleared_tail_is ns)
    ∙ ap (clear_rest so_far turns) (cleared_read n (cleared_tail ns) plain.0)
    ∙ ap (λ (rest : List ℕ). cleared_after (so_far ++ n ∷ []) turns rest) (sym (cleared_tail_is ns))
    ∙ clear_read ns (so_far ++ n ∷ []) turns few plain.1
    ∙ ap (λ (all : List Named). done (clear_whole all)) (append_assoc so_far (n ∷ []) ns)

cleared_longer : (ns : List Named) → length ns ≤ length (cleared_text ns)
cleared_longer [] = omega arith
cleared_longer (n ∷ ns) =
    let later = cleared_longer ns in
    let both = length-append (named_text n) (cleared_text ns) in
    omega (arith, later, both)

all_cleared : (n : Named) (ns : List Named) → IsPlainCleared n → AreCleared ns
    → clear_command (cleared_text (n ∷ ns)) ≡ done (what.Clear (n ∷ ns))
all_cleared n ns first more =
    let later = cleared_longer ns in
    let both = length-append (named_text n) (cleared_text ns) in
    let some = some_length (named_text n) (cleared_begins n first) in
    let enough : length (n ∷ ns) < length (cleared_text (n ∷ ns)) = omega (arith, later, both, some) in
    clear_read (n ∷ ns) [] (cleared_text (n ∷ ns)) enough (first, more)

-- Each command.

clear_at : (text : List ℕ)
    → command (codes "syn clear" ++ 32 ∷ text) ≡ does (clear_command (32 ∷ text))
clear_at text = refl

value_at : (text : List ℕ)
    → command (codes "syn iskeyword " ++ text) ≡ does (iskeyword_command (32 ∷ text))
value_at text = refl

pub command_read : (w : What) → IsPlain w → command (what_text w) ≡ Ok (Does w, [])
command_read what.Nothing plain = absurd plain
command_read (what.Runtime name) plain = absurd plain
command_read (what.CaseIgnore true) plain = refl
command_read (what.CaseIgnore false) plain = refl
command_read (what.Iskeyword None) plain = refl
command_read (what.Iskeyword (Some value)) plain = value_at value ∙ ap does (iskeyword_read value plain.0 plain.1)
command_read (what.Item kind group ps) plain =
    ap command (append_assoc (kind_text kind) group (pieces_text ps))
    ∙ item_at kind (group ++ pieces_text ps)
    ∙ ap does (item_read kind group ps plain.0 plain.1 plain.2)
command_read (what.Cluster name changes) plain = absurd plain
command_read (what.Include cluster name) plain = absurd plain
command_read (what.Sync true) plain = refl
command_read (what.Sync false) plain = absurd cc
command_read what.ClearAll plain = refl
command_read (what.Clear []) plain = absurd plain
command_read (what.Clear (n ∷ ns)) plain = clear_at (named_text n ++ cleared_text ns) ∙ ap does (all_cleared n ns plain.0 plain.1)
command_read (what.Link from to unset force) plain =
    ap command (append_assoc (bang_text force ++ default_text unset) from (32 ∷ target_text to))
    ∙ link_at unset force (from ++ 32 ∷ target_text to)
    ∙ ap does (link_read unset force from to plain.0 plain.1)
command_read (what.Style group parts unset) plain = absurd plain
