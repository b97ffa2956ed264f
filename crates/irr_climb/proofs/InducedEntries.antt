-- The entries of an induced matrix, block by block.
--   image                    the place of x g^b
--   block_value              the entry in row i of the block a and column j of the block b
--   induced_is, entry_of     the entry of the matrix
--   entries_all              what holds of all entries of blocks
use Rattle.std.proofs.Common.{◌≡◌, sym, ◌∙◌, ap₂, subst, refl, ℕ, ◌/◌, ◌%◌, ◌<◌}
use Rattle.irr_algebra.specs.Ring.{Ring}
use Rattle.irr_algebra.specs.Fin.{Fin, to_nat}
use Rattle.irr_algebra.specs.Sum.{delta}
use Rattle.irr_algebra.specs.Pair.{on_pairs, pair, times}
use Rattle.irr_algebra.proofs.Indices.{from_nat, to_nat-from_nat, to_nat-lt}
use Rattle.irr_algebra.proofs.Pairs.{on_pairs-pair}
use Rattle.irr_theory.specs.FactorSystem.{FactorSystem, Representation}
use Rattle.irr_clifford.specs.Subgroup.{Subgroup}
use Rattle.irr_clifford.specs.Cyclic.{CyclicQuotient}
use Rattle.irr_clifford.specs.Formulas.{block_phase, coset, induced_matrix}
use Rattle.irr_mat.specs.Entries.{IsEntry}
use Rattle.irr_mat.proofs.Blocks.{pair-index, quotient-lt, remainder-lt}

module _ {R : Ring} {T : FactorSystem R} {H : Subgroup T} (Q : CyclicQuotient H) {d : ℕ} (D : Representation H.table d) (x : Fin T.places) where
  abbrev pub image : Fin Q.index → Fin T.places
  image b = T.product x (coset Q b)

  abbrev pub block_value : (a : Fin Q.index) (i : Fin d) (b : Fin Q.index) (j : Fin d) → R.Carrier
  block_value a i b j = R.mul (delta R a (Q.exponent (T.product x (coset Q b))))
      (R.mul (block_phase Q x b) ((D.at (Q.part (T.product x (coset Q b)))).at i j))

  pub induced_is : (a : Fin Q.index) (i : Fin d) (b : Fin Q.index) (j : Fin d)
      → (induced_matrix Q D x).at (pair d a i) (pair d b j) ≡ block_value a i b j
  unfolding induced_matrix
  induced_is a i b j =
      on_pairs-pair d (λ u k. on_pairs Q.index d (λ w l. block_value u k w l) (pair d b j)) a i
      ∙ on_pairs-pair d (λ w l. block_value a i w l) b j

  -- z is the entry in row i and column j
  pub entry_of : 0 < d → (i j : ℕ) (z : R.Carrier)
      → ((a b : Fin Q.index) (k l : Fin d) → to_nat a ≡ i / d → to_nat b ≡ j / d → to_nat k ≡ i % d → to_nat l ≡ j % d → z ≡ block_value a k b l)
      → IsEntry (induced_matrix Q D x) i j z
  entry_of positive i j z h = record {
    is_entry = λ u v p q.
        let qi : i / d < Q.index = quotient-lt Q.index d i positive (subst (λ w. w < times Q.index d) p (to_nat-lt u)) in
        let qj : j / d < Q.index = quotient-lt Q.index d j positive (subst (λ w. w < times Q.index d) q (to_nat-lt v)) in
        let ri : i % d < d = remainder-lt d i positive in
        let rj : j % d < d = remainder-lt d j positive in
        let a = from_nat Q.index (i / d) qi in
        let b = from_nat Q.index (j / d) qj in
        let k = from_nat d (i % d) ri in
        let l = from_nat d (j % d) rj in
        h a b k l (to_nat-from_nat Q.index (i / d) qi) (to_nat-from_nat Q.index (j / d) qj) (to_nat-from_nat d (i % d) ri)
        (to_nat-from_nat d (j % d) rj)
        ∙ sym (induced_is a k b l)
        ∙ ap₂ (λ (f g : Fin (times Q.index d)). (induced_matrix Q D x).at f g) (pair-index Q.index d positive i u p qi ri)
        (pair-index Q.index d positive j v q qj rj);
  }

  -- what holds of each entry of a block holds of the entries of the matrix
  pub entries_all : (P : R.Carrier → Type 0) → 0 < d → ((a : Fin Q.index) (k : Fin d) (b : Fin Q.index) (l : Fin d) → P (block_value a k b l))
      → (u v : Fin (times Q.index d)) → P ((induced_matrix Q D x).at u v)
  entries_all P positive h u v =
      let qi : to_nat u / d < Q.index = quotient-lt Q.index d (to_nat u) positive (to_nat-lt u) in
      let qj : to_nat v / d < Q.index = quotient-lt Q.index d (to_nat v) positive (to_nat-lt v) in
      let ri : to_nat u % d < d = remainder-lt d (to_nat u) positive in
      let rj : to_nat v % d < d = remainder-lt d (to_nat v) positive in
      let a = from_nat Q.index (to_nat u / d) qi in
      let b = from_nat Q.index (to_nat v / d) qj in
      let k = from_nat d (to_nat u % d) ri in
      let l = from_nat d (to_nat v % d) rj in
      subst P (sym (induced_is a k b l)
      ∙ ap₂ (λ (f g : Fin (times Q.index d)). (induced_matrix Q D x).at f g) (pair-index Q.index d positive (to_nat u) u refl qi ri)
      (pair-index Q.index d positive (to_nat v) v refl qj rj)) (h a k b l)
