-- One term.
use Rattle.std.proofs.Common.{◌∙◌, Result, Ok, Err, IfOk, w64}
use Rattle.std.proofs.lemmas.Int.{to_z-of_z}
use Rattle.irr_rep.proofs.Clearing.{power_of_term}
use Rattle.irr_rep.proofs.cleared.multiple_of_power.Goals as goal

if_ok_map : {A E : Type 0} (r : Result A E) (P Q : A → Type 0) → ((x : A) → P x → Q x) → IfOk r P → IfOk r Q
if_ok_map (Ok x) P Q f p = f x p
if_ok_map (Err e) P Q f p = p

pub returns-clause-value : goal.returns-clause-value
returns-clause-value g c =
    let n = c.args.order.now.n in
    let e = to_z-of_z w64 c.from.result (record { sfits = c.from.type_inv }) ∙ c.from.ensures in
    if_ok_map c.from_terms.result _ _ (λ x t. power_of_term n c.args.e c.args.number _ (g.S.Scalar.value n x) e t) c.from_terms.ensures.value
