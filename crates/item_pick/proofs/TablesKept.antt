-- What is kept stays true where one part of it was made anew.
use Rattle.item_pick.proofs.Common.{AnswersStand, Rules, AreFirstsOf, AreTablesOf, stays_out}
use Rattle.region_ends.specs.declared.key_answers.KeyAnswers.{KeyAnswers}
use Rattle.item_pick.specs.declared.firsts.Firsts.{Firsts}
use Rattle.item_pick.specs.declared.tables.Tables.{Tables}

module _ (r : Rules) (tables : Tables) (stands : AreTablesOf r tables) where
  pub with_outs : (outs : KeyAnswers) → AnswersStand (stays_out r) outs → AreTablesOf r (record tables { outs = outs })
  with_outs outs h = record { rows = stands.rows; outs = h; firsts = stands.firsts; shut = stands.shut; wanted = stands.wanted; words = stands.words }

  pub with_firsts : (firsts : Firsts) → AreFirstsOf r firsts → AreTablesOf r (record tables { firsts = firsts })
  with_firsts firsts h = record { rows = stands.rows; outs = stands.outs; firsts = h; shut = stands.shut; wanted = stands.wanted; words = stands.words }
