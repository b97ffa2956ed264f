-- A column with no power of z, a row that comes twice, and one more column.
use Rattle.std.proofs.Common.{◌≡◌, ◌∙◌, subst, ℕ, ◌<◌, List, Bool, Contains, eqb, Decides}
use Rattle.std.specs.List.{IsAnyAnswer}
use Rattle.std.proofs.lemmas.Bool.Decides.{Decides-eqb}
use Rattle.std.proofs.lemmas.List.Elements.{Decides-contains, contains_decides}
use Rattle.irr_mat.specs.Entries.{first_order, matrix_of}
use Rattle.irr_mono.specs.Monomial.{HasPower}
use Rattle.irr_mono.proofs.Truth.{not-true}
use Rattle.irr_mono.proofs.ColumnPowers.{columns-push, no-column, row_again}
use Rattle.irr_mono.proofs.monomial.Mono.from_mat.Goals as goal

-- what the test tells
among : (xs rows : List ℕ) (row : ℕ) (b : Bool) → xs ≡ rows → IsAnyAnswer (λ y t. eqb y row ≡ t) xs b → Decides b (Contains rows row)
among xs rows row b e h = subst (λ ys. Decides b (Contains ys row)) e (Decides-contains xs row b (contains_decides eqb Decides-eqb xs row b h))

pub returns-in_default : goal.returns-in_default
returns-in_default g c =
    let m = c.args.m.now in
    let n = first_order g.S.Scalar.order_of m.entries.items in
    let same : c.in_ok-order.order.n ≡ n = c.in_ok-order.ensures ∙ c.order.ensures ∙ c.at.ensures.order in
    let none = rw c.in_default.is at c.in_ok-row.ensures in
    no-column n (matrix_of g.S.Scalar.value n m.rows m.cols m.entries.items) c.loop-column.column (subst (λ k. c.loop-column.column < k) c.cols-column-end.ensures.value c.loop-column-test.true)
    (subst (λ k. (row exponent : ℕ) → HasPower k (matrix_of g.S.Scalar.value k m.rows m.cols m.entries.items) c.loop-column.column row exponent → ⊥) same none)

pub returns-then-contains : goal.returns-then-contains
returns-then-contains g c =
    let m = c.args.m.now in
    let n = first_order g.S.Scalar.order_of m.entries.items in
    let column = c.loop-column.column in
    let same : c.in_ok-order.order.n ≡ n = c.in_ok-order.ensures ∙ c.order.ensures ∙ c.at.ensures.order in
    let power = rw c.in-Some.is at c.in_ok-row.ensures in
    let there : Contains c.loop-column.place.items c.in-Some.row = (among c.deref.result.now c.loop-column.place.items c.in-Some.row c.contains.result c.deref.ensures.value c.contains.ensures.cases).0 c.if-contains.true in
    row_again n (matrix_of g.S.Scalar.value n m.rows m.cols m.entries.items) column c.loop-column.place.items c.loop-column.exp.items c.in-Some.row c.in-Some.exponent
    (subst (λ k. 0 < k) same c.in_ok-order.order.positive) (subst (λ k. column < k) c.cols-column-end.ensures.value c.loop-column-test.true) c.loop-column.invariant
    (subst (λ k. HasPower k (matrix_of g.S.Scalar.value k m.rows m.cols m.entries.items) column c.in-Some.row c.in-Some.exponent) same power) there

pub loop-column-preserved : goal.loop-column-preserved
loop-column-preserved g c =
    let m = c.args.m.now in
    let n = first_order g.S.Scalar.order_of m.entries.items in
    let column = c.loop-column.column in
    let same : c.in_ok-order.order.n ≡ n = c.in_ok-order.ensures ∙ c.order.ensures ∙ c.at.ensures.order in
    let power = rw c.in-Some.is at c.in_ok-row.ensures in
    let new : Contains c.loop-column.place.items c.in-Some.row → ⊥ = λ h.
    not-true c.contains.result c.if-contains.false ((among c.deref.result.now c.loop-column.place.items c.in-Some.row c.contains.result c.deref.ensures.value c.contains.ensures.cases).1 h) in
    columns-push n (matrix_of g.S.Scalar.value n m.rows m.cols m.entries.items) column c.loop-column.place.items c.loop-column.exp.items c.push.new.self.items c.push-in-loop-column.new.self.items c.in-Some.row c.in-Some.exponent
    c.loop-column.invariant c.in_ok-push.ensures.items c.in_ok-push-2.ensures.items
    (subst (λ k. HasPower k (matrix_of g.S.Scalar.value k m.rows m.cols m.entries.items) column c.in-Some.row c.in-Some.exponent) same power) new
