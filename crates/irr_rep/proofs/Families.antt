-- Families of the program as representations.
--   representation-at                        the matrices of the representation that a family is
--   at_own_order-at                          those of a representation over the table's own order
--   at_own_order-over                        and back
--   representation_of                        a family with the matrices of a representation is one
--   matrix_at-item, item-rows, item-cols, item-order, item-trace_fits, item-trace      the matrix that stands at a place
use Rattle.std.proofs.Common.{◌≡◌, sym, ◌∙◌, ap, ap₂, subst, refl, ℕ, ◌<◌, List, [], length, map, get_or}
use Rattle.std.specs.Int.{◌∣◌}
use Rattle.std.proofs.lemmas.List.{get_or-map}
use Rattle.std.proofs.lemmas.List.Elements.{All-get_or}
use Rattle.irr_algebra.specs.Fin.{Fin, to_nat}
use Rattle.irr_algebra.specs.Matrix.{◌·◌, scale, trace}
use Rattle.irr_algebra.specs.Homomorphism.{map_matrix}
use Rattle.irr_algebra.proofs.Matrices.{matrix-ext}
use Rattle.irr_number.specs.Number.{numbers}
use Rattle.irr_number.proofs.Lifts.{lift_self}
use Rattle.irr_theory.specs.FactorSystem.{Representation}
use Rattle.irr_theory.specs.Scalars.{map_family}
use Rattle.irr_space.specs.PhaseTable.{PhaseTable, phases_at, phases_over}
use Rattle.irr_space.specs.CompleteList.{over}
use Rattle.irr_cyc.specs.declared.scalars.Scalar.{Ghosts}
use Rattle.irr_mat.specs.declared.matrices.Mat.{Mat}
use Rattle.irr_mat.specs.Entries.{first_order, matrix_of}
use Rattle.irr_mat.specs.Size.{TraceFits}
use Rattle.irr_rep.specs.Family.{HasShape, IsRepresentationOf, at_own_order, matrix_at, representation}

module _ {S : Type 0} {G : Ghosts S} {h : ℕ} (T : PhaseTable h) (n : ℕ) (v : T.order ∣ n) (d : ℕ) (mats : List (Mat S G)) where
  pub representation-at : (p : IsRepresentationOf T n v d mats) (i : Fin h) → (representation T n v d mats p).at i ≡ matrix_at n d mats i
  unfolding representation
  representation-at p i = refl

  -- a family with the matrices of a representation
  pub representation_of : (A : Representation (phases_over T n v) d) → ((i : Fin h) → matrix_at n d mats i ≡ A.at i) → IsRepresentationOf T n v d mats
  representation_of A e = record {
    at-start = e T.start ∙ A.at-start;
    at-product = λ i j. ap₂ (λ a b. a · b) (e i) (e j) ∙ A.at-product i j
        ∙ ap (scale (numbers n) ((phases_over T n v).phase i j)) (sym (e (T.product i j)));
  }

module _ {h : ℕ} (T : PhaseTable h) (v : T.order ∣ T.order) {d : ℕ} where
  pub at_own_order-at : (A : Representation (phases_over T T.order v) d) (i : Fin h) → (at_own_order T v A).at i ≡ A.at i
  unfolding at_own_order
  at_own_order-at A i = refl

  -- lifted to its own order, a representation has the same matrices
  pub at_own_order-over : (A : Representation (phases_at T) d) (i : Fin h) → (over T T.order v A).at i ≡ A.at i
  unfolding map_family map_matrix
  at_own_order-over A i = matrix-ext (λ k l. lift_self T.order T.order_positive v ((A.at i).at k l))

-- the matrix that stands at a place
module _ {S : Type 0} {G : Ghosts S} {h : ℕ} (n d : ℕ) (mats : List (Mat S G)) (k : ℕ) (m : Mat S G) (within : k < length mats)
    (is : m ≡ get_or mats k m) where
  pub matrix_at-item : (i : Fin h) → to_nat i ≡ k → matrix_at n d mats i ≡ matrix_of G.value n d d m.entries.items
  unfolding matrix_at
  matrix_at-item i e = ap (matrix_of G.value n d d)
      (ap (λ p. get_or (map (λ (u : Mat S G). u.entries.items) mats) p []) e ∙ get_or-map (λ (u : Mat S G). u.entries.items) mats k m [] within
      ∙ ap (λ (u : Mat S G). u.entries.items) (sym is))

  module _ (shape : HasShape n h d mats) where
    pub item-rows : m.rows ≡ d
    item-rows = ap (λ (u : Mat S G). u.rows) is ∙ All-get_or (λ (u : Mat S G). u.rows ≡ d) mats k m within shape.rows

    pub item-cols : m.cols ≡ d
    item-cols = ap (λ (u : Mat S G). u.cols) is ∙ All-get_or (λ (u : Mat S G). u.cols ≡ d) mats k m within shape.cols

    pub item-order : first_order G.order_of m.entries.items ≡ n
    item-order = ap (λ (u : Mat S G). first_order G.order_of u.entries.items) is
        ∙ All-get_or (λ (u : Mat S G). first_order G.order_of u.entries.items ≡ n) mats k m within shape.orders

    -- the trace can be worked out, and is the trace at the place
    pub item-trace_fits : (i : Fin h) → to_nat i ≡ k → TraceFits n (matrix_at n d mats i)
        → TraceFits (first_order G.order_of m.entries.items)
        (matrix_of G.value (first_order G.order_of m.entries.items) m.rows m.rows m.entries.items)
    item-trace_fits i e fits =
        subst (λ u. TraceFits u (matrix_of G.value u m.rows m.rows m.entries.items)) (sym item-order)
        (subst (λ r. TraceFits n (matrix_of G.value n r r m.entries.items)) (sym item-rows) (subst (TraceFits n) (matrix_at-item i e) fits))

    pub item-trace : (x : S) (i : Fin h) → to_nat i ≡ k
        → G.value (first_order G.order_of m.entries.items) x ≡ trace
        (matrix_of G.value (first_order G.order_of m.entries.items) m.rows m.rows m.entries.items)
        → G.value n x ≡ trace (matrix_at n d mats i)
    item-trace x i e v =
        subst (λ u. G.value u x ≡ trace (matrix_of G.value u m.rows m.rows m.entries.items)) item-order v
        ∙ ap (λ r. trace (matrix_of G.value n r r m.entries.items)) item-rows ∙ ap trace (sym (matrix_at-item i e))
