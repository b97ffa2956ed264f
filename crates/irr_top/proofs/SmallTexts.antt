-- The text of a report at a wave vector, from that on the table of the little group of its reduced wave vector.
--   order_there        the order
--   order_of_table     the order of the table is that of the wave vector
--   report_of          a complete list on the table in canonical order gives a report
--   small_text_of      a report
--   table_steps        each subgroup of the table has a step
--   small_reply_of     the text is the reply
use Rattle.std.proofs.Common.{ap, subst, refl, ℕ, ◌≤◌, List}
use Rattle.irr_algebra.specs.Fin.{Fin}
use Rattle.irr_theory.specs.Representations.{Representations}
use Rattle.irr_space.specs.Operation.{Operation, WaveVector}
use Rattle.irr_space.specs.Reciprocal.{IsOrder, IsReduced}
use Rattle.irr_space.specs.Reciprocal.Sign.{minus}
use Rattle.irr_space.specs.CanonicalOperation.{IsNumbering}
use Rattle.irr_space.specs.Star.{IsInLittleGroup}
use Rattle.irr_space.specs.PhaseTable.{PhaseTable, IsTableOf, phases_at}
use Rattle.irr_space.specs.CompleteList.{IsCompleteList, IsInOrder}
use Rattle.irr_text.specs.ReportText.{list_report, IsReportOf}
use Rattle.irr_seitz.specs.PhaseMeaning.{sign_of}
use Rattle.irr_seitz.specs.declared.op.Op.{Op}
use Rattle.irr_chain.specs.NormalSubgroup.{HasSteps}
use Rattle.irr_steps.proofs.Tables.{tables_have_steps}
use Rattle.irr_cocycle.proofs.Reciprocals.{equivalent_sym}
use Rattle.irr_close.specs.StandsFor.{stands_for}
use Rattle.irr_close.specs.declared.group.Group.{Group}
use Rattle.irr_little.specs.Table.{IsLittleTable, listed_operations}
use Rattle.irr_little.proofs.Spaces.{form_of}
use Rattle.irr_check.proofs.Along.{numbering_along, order_along, table_along}
use Rattle.irr_top.specs.Answer.{AreWithin, order_limit}
use Rattle.irr_top.specs.GroupOf.{IsGroupOf, group_of}
use Rattle.irr_top.specs.ListText.{IsListText, IsModestText}
use Rattle.irr_top.specs.Question.Question.{small}
use Rattle.irr_top.specs.SmallCommand.{IsSmallReply}
use Rattle.irr_top.specs.declared.status.Status.TheVariants.{Done}
use Rattle.irr_top.proofs.Orders.{one_within}
use Rattle.irr_top.proofs.Groups.{is_group, order_at}
use Rattle.irr_top.proofs.Members.{some_item}

module _ (group : Group) (gens : List Op) (is : IsGroupOf group gens) (k w : WaveVector) (reduced : IsReduced (group_of gens) k w) where
  pub order_there : (n : ℕ) → IsOrder (stands_for group) w n → IsOrder (group_of gens) k n
  order_there n o = order_at (group_of gens) (is_group group gens is) w k (equivalent_sym (group_of gens) w k reduced.equivalent) n
      (order_along (stands_for group) (group_of gens) is.stands w n o)

  module _ (xs : List ℕ) {h : ℕ} (T : PhaseTable h) (table : IsLittleTable group w xs T) (within : T.order ≤ order_limit) where
    pub some_operation : Op
    some_operation = some_item group.ops.items 0 (form_of group).nonempty

    abbrev pub ops : Fin h → Operation
    ops = listed_operations group h xs some_operation

    numbering : IsNumbering (group_of gens) (IsInLittleGroup (group_of gens) w) ops
    numbering = numbering_along (stands_for group) (group_of gens) is.stands w ops (table.numbering some_operation)

    is_table : IsTableOf minus (group_of gens) w ops T
    is_table = subst (λ s. IsTableOf s (group_of gens) w ops T) (ap sign_of is.phase)
        (table_along (stands_for group) (group_of gens) is.stands (sign_of group.phase) w ops T (table.table some_operation))

    pub order_of_table : IsOrder (group_of gens) k T.order
    order_of_table = order_there T.order (table.table some_operation).is_order

    pub report_of : (L : Representations (phases_at T)) → IsCompleteList T L → IsInOrder T L
        → IsReportOf minus (group_of gens) k (list_report w ops T L)
    report_of L complete in_order = record {
      wave = w;
      reduced = reduced;
      places = h;
      operation = ops;
      numbering = numbering;
      table = T;
      is_table = is_table;
      representations = L;
      complete = complete;
      in_order = in_order;
      content = refl;
    }

    pub small_text_of : (text : List ℕ) → ((d : Op) → IsListText w (listed_operations group h xs d) T text)
        → IsModestText gens k text
    small_text_of text all = let t = all some_operation in record {
      order = T.order;
      is_order = order_of_table;
      within = within;
      content = list_report w ops T t.representations;
      is_report = report_of t.representations t.complete t.in_order;
      modest = t.modest;
      is_text = t.is_text;
    }

    pub table_steps : HasSteps T
    table_steps = tables_have_steps minus (group_of gens) (IsInLittleGroup (group_of gens) w) w ops T numbering is_table

-- the text is the reply
pub small_reply_of : (gens : List Op) (k : WaveVector) (text : List ℕ) → IsModestText gens k text
    → AreWithin (small k) (group_of gens) × IsSmallReply (group_of gens) k Done text
small_reply_of gens k text t = (
  one_within (group_of gens) k t.order t.is_order t.within,
  (refl, record { content = t.content; is_report = t.is_report; is_text = t.is_text }),
)
