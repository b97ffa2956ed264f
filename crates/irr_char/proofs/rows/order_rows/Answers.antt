-- Sorted places of different rows stand in order.
use Rattle.std.proofs.Common.{◌≡◌, sym, ◌∙◌, ap, subst, ◌<◌, List, length, map, Vec, Global, Result, Ok, Err}
use Rattle.std.specs.Prelude.{IfOk}
use Rattle.std.proofs.lemmas.List.{length-map}
use Rattle.irr_char.specs.declared.forms.Form.{Form}
use Rattle.irr_char.specs.Rows.{AreRowsOf, row_at}
use Rattle.irr_char.proofs.PlaceOrders.{in_order}
use Rattle.irr_char.proofs.rows.order_rows.Goals as goal

if_ok_both : {T E : Type 0} (P Q R : T → Type 0) (r : Result T E) → IfOk r P → IfOk r Q → ((v : T) → P v → Q v → R v) → IfOk r R
if_ok_both P Q R (Ok v) p q f = f v p q
if_ok_both P Q R (Err e) p q f = tt

pub returns-clause-ordered : goal.returns-clause-ordered
returns-clause-ordered g c =
    let same : length c.as_slice.result.now ≡ length c.args.rows.now = ap length c.as_slice.ensures.value ∙ c.in_ok-forms.ensures.len in
    if_ok_both _ _ _ c.sorted_places.result c.sorted_places.ensures.permutation c.sorted_places.ensures.sorted (λ places p q n h start s rows.
    in_order n rows.positive start (row_at n (map (map (g.S.Scalar.value n)) (map (λ v. v.items) c.args.rows.now)))
    (length c.as_slice.result.now) places.items p
    (λ a b l m. rows.different a b l (subst (λ k. b < k) (same ∙ sym (length-map c.args.rows.now (λ v. v.items))) m))
    (q n h (row_at n (map (map (g.S.Scalar.value n)) (map (λ v. v.items) c.args.rows.now))) start s rows.positive
    (subst (λ (fs : List (Vec Form Global)). AreRowsOf {h = h} n (row_at n (map (map (g.S.Scalar.value n)) (map (λ v. v.items) c.args.rows.now)))
    (map (λ v. v.items) fs)) (sym c.as_slice.ensures.value)
    (c.in_ok-forms.ensures.forms n h rows.long rows.orders))))
