-- The star and its table are what the text says.
use Rattle.std.proofs.Common.{◌∙◌, sym, ap, subst, ◌<◌, List, length, get_or}
use Rattle.irr_rep.specs.Twisted.{phase_table, operation_places}
use Rattle.irr_seitz.specs.declared.op.Op.{Op}
use Rattle.irr_little.specs.declared.arms.Arm.{Arm}
use Rattle.irr_text.specs.StarText.{star_text}
use Rattle.irr_top.specs.StarText.{AreInList, listed_content}
use Rattle.irr_top.proofs.StarTexts.{other_operation, other_arm, some_arm, arms_in_list, star_at}
use Rattle.irr_top.proofs.star.text_star.Goals as goal

pub operations-requires : goal.operations-requires
operations-requires c = record { places = c.requires.2.places.below }

pub lines-requires-clause-some : goal.lines-requires-clause-some
lines-requires-clause-some c = subst (λ (xs : List Arm). 0 < length xs) (sym c.deref.ensures.value)
    (some_arm c.args.group.now c.requires.0 c.args.star.now.arms.items c.requires.1)

pub lines-requires-clause-numbers : goal.lines-requires-clause-numbers
lines-requires-clause-numbers c = subst (AreInList c.args.group.now.ops.items) (sym c.deref.ensures.value)
    (arms_in_list c.args.group.now c.requires.0 c.args.star.now.arms.items c.requires.1)

pub lines-requires-clause-count : goal.lines-requires-clause-count
lines-requires-clause-count c = ap length c.deref-2.ensures.value ∙ c.in_ok-ops.ensures.count

pub returns : goal.returns
returns c = λ k are table.
    let group = c.args.group.now in
    let arms = c.args.star.now.arms.items in
    let places = operation_places c.args.t.now in
    let d : Op = other_operation group in
    let a : Arm = other_arm group in
    record {
      content = listed_content group arms places (phase_table c.args.t.now) d a;
      is_star = star_at group k arms are places (phase_table c.args.t.now) table d a;
      is_text = c.in_ok-text.ensures d a (λ p e l. ap (λ (xs : List Op). get_or xs p e) c.deref-2.ensures.value ∙ c.in_ok-ops.ensures.ops p e l)
          ∙ ap (λ (xs : List Arm). star_text (listed_content group xs places (phase_table c.args.t.now) d a)) c.deref.ensures.value;
    }
