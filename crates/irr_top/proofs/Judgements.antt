-- Verdicts of one group.
--   reply_along       the verdict for a group is the reply for the group that its generators generate
--   verdict_within    and the order that it needs is within the limit
--   no_verdict_along  so is an order that is too large
--   input_complete    Yes on a report that was read means a complete list
use Rattle.std.proofs.Common.{◌≡◌, ◌<◌, ◌≤◌, ap, subst, refl, ℕ, List, Option, Some}
use Rattle.irr_space.specs.Operation.{Operation}
use Rattle.irr_space.specs.Reciprocal.{Sign, IsOrder}
use Rattle.irr_space.specs.Reciprocal.Sign.{minus}
use Rattle.irr_text.specs.ReportText.{ReportContent}
use Rattle.irr_seitz.specs.PhaseMeaning.{sign_of}
use Rattle.irr_seitz.specs.declared.op.Op.{Op}
use Rattle.irr_triplet.specs.TripletFault.{IsTextOf}
use Rattle.irr_report.specs.ReportFault.{IsWaveText}
use Rattle.irr_report.proofs.ReadLimits.{read-limited}
use Rattle.irr_input.specs.Stages.{SubContent}
use Rattle.irr_input.specs.InputLines.{IsInput}
use Rattle.irr_input.specs.declared.input.GenLine.{GenLine}
use Rattle.irr_close.specs.StandsFor.{stands_for}
use Rattle.irr_close.specs.declared.group.Group.{Group}
use Rattle.irr_check.specs.Trials.Reading.{meaning}
use Rattle.irr_check.specs.Verdict.{IsCompleteReport, IsVerdict}
use Rattle.irr_check.specs.Verdict.IsVerdict.{other_order, other_operations, of_families}
use Rattle.irr_check.specs.declared.verdict.Verdict.{Verdict}
use Rattle.irr_check.specs.declared.verdict.Verdict.TheVariants.{Yes}
use Rattle.irr_check.proofs.Along.{order_along, verdict_along}
use Rattle.irr_check.proofs.Verdicts.{meant_is_complete}
use Rattle.irr_top.specs.GroupOf.{IsGroupOf, group_of}
use Rattle.irr_top.specs.CheckCommand.{IsCheckReply, verdict_status, verdict_text}
use Rattle.irr_top.specs.Question.Question.{check}
use Rattle.irr_top.specs.Answer.{AreWithin, IsTooLargeAt, order_limit}
use Rattle.irr_top.specs.declared.status.Status.{Status}
use Rattle.irr_top.proofs.Orders.{first_above, one_within}

module _ (group : Group) (gens : List Op) (is : IsGroupOf group gens) (r : ReportContent) where
  abbrev G : Operation → Type 0
  G = stands_for group

  verdict_there : {v : Verdict} → IsVerdict meaning (sign_of group.phase) G r v
      → IsVerdict meaning minus (group_of gens) r v
  verdict_there {v} h = subst (λ x. IsVerdict meaning x (group_of gens) r v) (ap sign_of is.phase)
      (verdict_along G (group_of gens) is.stands meaning (sign_of group.phase) r h)

  pub reply_along : {v : Verdict} {s : Status} {text : List ℕ} → IsVerdict meaning (sign_of group.phase) G r v
      → s ≡ verdict_status v
      → text ≡ verdict_text v → IsCheckReply (group_of gens) r s text
  reply_along {v} h e f = record { verdict = v; is_verdict = verdict_there h; is_status = e; is_text = f }

  some_order : {s : Sign} {v : Verdict} → IsVerdict meaning s G r v → (n : ℕ) × IsOrder G r.wave n
  some_order (other_order {n = n} o d) = (n, o)
  some_order (other_operations ops o n f) = (r.order, o)
  some_order (of_families ops T F n t e f) = (T.order, t.is_order)

  order_there : (n : ℕ) → IsOrder G r.wave n → IsOrder (group_of gens) r.wave n
  order_there = order_along G (group_of gens) is.stands r.wave

  pub verdict_within : {v : Verdict} → IsVerdict meaning (sign_of group.phase) G r v
      → ((n : ℕ) → IsOrder G r.wave n → n ≤ order_limit)
      → AreWithin (check r) (group_of gens)
  verdict_within h within = let o = some_order h in one_within (group_of gens) r.wave o.0 (order_there o.0 o.1) (within o.0 o.1)

  pub no_verdict_along : (n : ℕ) → IsOrder G r.wave n → order_limit < n → IsTooLargeAt (check r) (group_of gens) n
  no_verdict_along n o l = first_above (check r) (group_of gens) n (refl, order_there n o) l

pub input_complete : (bytes : List ℕ) (lines : List GenLine) (sub : Option SubContent) (gens : List Op) (r : ReportContent)
    → IsInput bytes lines sub (Some r)
    → IsVerdict meaning minus (group_of gens) r Yes → IsCompleteReport minus (group_of gens) r
input_complete bytes lines sub gens r i verdict = meant_is_complete minus (group_of gens) r
    (read-limited IsWaveText IsTextOf i.comes.at_end.1.1.lines r i.comes.at_end.1.1.report).some_row verdict
