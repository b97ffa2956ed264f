-- One term.
use Rattle.std.proofs.Common.{◌∙◌, ap, Result, Ok, Err, IfOk, w64}
use Rattle.std.proofs.lemmas.Int.{to_z-of_z}
use Rattle.irr_number.specs.Number.{numbers}
use Rattle.irr_rational.specs.Integer.{integer}
use Rattle.irr_power.proofs.FormNumbers.{term_is}
use Rattle.irr_power.proofs.tensors.whole_number.Goals as goal

if_ok_map : {A E : Type 0} (r : Result A E) (P Q : A → Type 0) → ((x : A) → P x → Q x) → IfOk r P → IfOk r Q
if_ok_map (Ok x) P Q f p = f x p
if_ok_map (Err e) P Q f p = p

pub returns-clause-value : goal.returns-clause-value
returns-clause-value g c = if_ok_map c.from_terms.result _ _ (λ x t. term_is c.args.order.now.n _ (g.S.Scalar.value c.args.order.now.n x) t
    ∙ ap (integer (numbers c.args.order.now.n)) (to_z-of_z w64 c.args.number c.ranges.number))
    c.from_terms.ensures.value
