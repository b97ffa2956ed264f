-- Where a family first fails, from what is known of its products.
--   is-true, not-true                what a test of a product says
--   wrong_at, right_row, row_right   the first failure in a row
--   failed, passed                   whether there is one
--   before_next                      a row before the next
--   failure-map                      where two conditions fail together
--   no_unit, wrong_pair, right_all   the first defect
use Rattle.std.proofs.Common.{◌≡◌, sym, ◌∙◌, subst, ℕ, ◌+◌, ◌<◌, ◌≤◌, ◌⊎◌, inl, inr, List, Option, Some, None, Bool, true, false, IsTrue, arith, rules}
use Rattle.std.specs.Option.{is_some}
use Rattle.std.proofs.lemmas.Bool.{cases_lt}
use Rattle.std.specs.Int.{◌∣◌}
use Rattle.irr_algebra.specs.Fin.{Fin, to_nat}
use Rattle.irr_algebra.specs.Matrix.{unit}
use Rattle.irr_algebra.proofs.Indices.{from_nat, to_nat-from_nat, to_nat_inj}
use Rattle.irr_number.specs.Number.{numbers}
use Rattle.irr_space.specs.PhaseTable.{PhaseTable}
use Rattle.irr_cyc.specs.declared.scalars.Scalar.{Ghosts}
use Rattle.irr_mat.specs.declared.matrices.Mat.{Mat}
use Rattle.irr_rep.specs.declared.family.Defect.TheVariants.{Product, Unit}
use Rattle.irr_rep.specs.Defects.{IsFirstDefect, IsFirstFailure, Multiplies}
use Rattle.irr_rep.specs.Family.{matrix_at}

pub is-true : (b : Bool) → b ≡ true → IsTrue b
is-true b e = search rules

pub not-true : (b : Bool) → b ≡ false → IsTrue b → ⊥
not-true b e t = search rules

module _ {h : ℕ} (P : Fin h → Type 0) where
  pub wrong_at : (k : ℕ) → k < h → ((j : Fin h) → to_nat j ≡ k → P j → ⊥) → ((q : Fin h) → to_nat q < k → P q) → IsFirstFailure P (Some k)
  unfolding IsFirstFailure
  wrong_at k l w before = (from_nat h k l, to_nat-from_nat h k l, w (from_nat h k l) (to_nat-from_nat h k l), before)

  pub right_row : ((j : Fin h) → P j) → IsFirstFailure P None
  unfolding IsFirstFailure
  right_row r = r

  pub row_right : IsFirstFailure P None → (j : Fin h) → P j
  unfolding IsFirstFailure
  row_right r = r

  pub failed : (r : Option ℕ) → true ≡ is_some r → IsFirstFailure P r → ((j : Fin h) → P j) → ⊥
  unfolding IsFirstFailure
  failed None e w all = absurd (cc)
  failed (Some k) e w all = w.2 (all w.0)

  pub passed : (r : Option ℕ) → false ≡ is_some r → IsFirstFailure P r → (j : Fin h) → P j
  unfolding IsFirstFailure
  passed None e w = w
  passed (Some k) e w = absurd (cc)

pub before_next : (k i : ℕ) → k < i + 1 → (k < i) ⊎ (k ≡ i)
before_next k i l = go (cases_lt k i)
  where
    go : (k < i) ⊎ (i ≤ k) → (k < i) ⊎ (k ≡ i)
    go (inl a) = inl a
    go (inr b) = inr (omega (arith, l, b))

pub failure-map : {h : ℕ} (P Q : Fin h → Type 0) (r : Option ℕ) → ((j : Fin h) → P j → Q j) → ((j : Fin h) → Q j → P j) → IsFirstFailure P r
    → IsFirstFailure Q r
unfolding IsFirstFailure
failure-map P Q None f g all = λ j. f j (all j)
failure-map P Q (Some k) f g w = (w.0, w.1, (λ q. w.2 (g w.0 q)), (λ i l. f i (w.3 i l)))

module _ {S : Type 0} {G : Ghosts S} {h : ℕ} (T : PhaseTable h) (n : ℕ) (v : T.order ∣ n) (d : ℕ) (mats : List (Mat S G)) where
  pub no_unit : (matrix_at n d mats T.start ≡ unit (numbers n) d → ⊥) → IsFirstDefect T n v d mats (Some Unit)
  unfolding IsFirstDefect
  no_unit f = f

  pub right_all : matrix_at n d mats T.start ≡ unit (numbers n) d → ((i j : Fin h) → Multiplies T n v d mats i j) → IsFirstDefect T n v d mats None
  unfolding IsFirstDefect
  right_all e r = record { at-start = e; at-product = r }

  pub wrong_pair : matrix_at n d mats T.start ≡ unit (numbers n) d → (a : Fin h) (i j : ℕ) → to_nat a ≡ i
      → IsFirstFailure (Multiplies T n v d mats a) (Some j)
      → ((p q : Fin h) → to_nat p < i → Multiplies T n v d mats p q) → IsFirstDefect T n v d mats (Some (Product i j))
  unfolding IsFirstDefect IsFirstFailure
  wrong_pair e a i j is w before = record {
    left = a;
    right = w.0;
    left-number = is;
    right-number = w.1;
    at-start = e;
    wrong = w.2;
    before = λ p q o. at p q o;
  }
    where
      at : (p q : Fin h) → (to_nat p < i) ⊎ ((to_nat p ≡ i) × (to_nat q < j)) → Multiplies T n v d mats p q
      at p q (inl l) = before p q l
      at p q (inr r) = subst (λ u. Multiplies T n v d mats u q) (sym (to_nat_inj p a (r.0 ∙ sym is))) (w.3 q r.1)
