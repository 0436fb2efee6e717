-- The attempts of a syntax's rules stay on the text, and so do its paintings.
use Rattle.std.proofs.Common.{ℕ, List}
use Rattle.std.specs.Prelude.{Option, Some, None, option_map}
use Rattle.char_class.specs.declared.sets.Sets.{Sets}
use Rattle.syn_base.specs.declared.places.Place.{Place}
use Rattle.keyword_table.specs.declared.table.Definition.{Definition}
use Rattle.match_rules.proofs.OnText.{law}
use Rattle.match_rules.specs.Attempt.{attempt}
use Rattle.match_rules.specs.OnText.{IsWayOn}
use Rattle.match_rules.specs.Ways.{Text, Way}
use Rattle.pattern_match.specs.Answers.{match_of}
use Rattle.syntax_set.specs.ClusterTable.{ClusterList}
use Rattle.syntax_set.specs.declared.added_item.AddedItem.{AddedItem}
use Rattle.paint_rules.specs.Syntax.{context_of, attempt_by, rules_of}
use Rattle.paint_shift.specs.AboutLine.{PaintingsLookAboutTheirLine}
use Rattle.paint_shift.proofs.StayLaws.{OfSome}
use Rattle.paint_shift.proofs.EndStays.{EndsOn, AttemptsStay}
use Rattle.paint_shift.proofs.LineStays.{looks_about}

ends_on : (t : Text) (p : Place) (o : Option Way) → IsWayOn t p o →
    OfSome (EndsOn t) (option_map (match_of t p) o)
ends_on t p None h = tt
ends_on t p (Some w) h = h.whole.ends.line

attempts_stay : (items : List AddedItem) (lists : List ClusterList) (keywords : List Definition)
    (sets : Sets) (budget : ℕ) (t : Text) →
    AttemptsStay (rules_of items lists keywords sets budget) t
unfolding attempt_by
attempts_stay items lists keywords sets budget t tree ignore externals p h =
    let stays = law tree (context_of sets t ignore externals) p h in
    record {
      looked = record { from = stays.looked.from_before_first; to = stays.looked.to_behind_last };
      found = ends_on t p (attempt tree (context_of sets t ignore externals) p).way stays.way;
    }

pub paintings_look_about : PaintingsLookAboutTheirLine
paintings_look_about items lists keywords sets budget t l before on =
    looks_about (rules_of items lists keywords sets budget) t
    (attempts_stay items lists keywords sets budget t) l on before
