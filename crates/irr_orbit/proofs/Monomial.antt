-- Matrices that are monomial in blocks: in each column a of blocks one block alone, in row t(a), may be other than 0.
--   blocks t X              the block in row t(a) and column a is X(a)
--   blocks-mul, blocks-unit, blocks-scale, blocks-ext
--   block-blocks            its blocks
--   trace_by_blocks         the trace of a matrix of blocks
--   eq_of_blocks            matrices with the same blocks are one
use Rattle.std.proofs.Common.{◌≡◌, sym, ◌∙◌, ap, ap₂, ℕ, inl, inr, ◌⊎◌}
use Rattle.irr_algebra.specs.Ring.{Ring}
use Rattle.irr_algebra.specs.Fin.{Fin}
use Rattle.irr_algebra.specs.Sum.{sum, delta}
use Rattle.irr_algebra.specs.Matrix.{Matrix, ◌·◌, scale, unit, trace, null}
use Rattle.irr_algebra.specs.Pair.{times, pair, on_pairs}
use Rattle.irr_algebra.proofs.Indices.{same_or_not}
use Rattle.irr_algebra.proofs.Rings.{mul-zero, zero-mul}
use Rattle.irr_algebra.proofs.Sums.{sum-ext, sum-mul, delta-sum, delta-eq, delta-ne}
use Rattle.irr_algebra.proofs.Matrices.{matrix-ext, mul-at, scale-at, unit-at, scale-one, zero-scale}
use Rattle.irr_algebra.proofs.Pairs.{on_pairs-pair, pairs-ext, sum-times}
use Rattle.irr_full.specs.Full.{block}

module _ {n d : ℕ} where
  pair_first : (a b : Fin n) (u w : Fin d) → pair d a u ≡ pair d b w → a ≡ b
  pair_first a b u w e = sym (on_pairs-pair d (λ x y. x) a u) ∙ ap (on_pairs n d (λ x y. x)) e ∙ on_pairs-pair d (λ x y. x) b w

  pair_second : (a b : Fin n) (u w : Fin d) → pair d a u ≡ pair d b w → u ≡ w
  pair_second a b u w e = sym (on_pairs-pair d (λ x y. y) a u) ∙ ap (on_pairs n d (λ x y. y)) e ∙ on_pairs-pair d (λ x y. y) b w

module _ (R : Ring) {n d : ℕ} where
  delta-pair : (a b : Fin n) (u w : Fin d) → R.mul (delta R u w) (delta R a b) ≡ delta R (pair d a u) (pair d b w)
  delta-pair a b u w = cases (same_or_not a b) (same_or_not u w)
    where
      cases : (a ≡ b) ⊎ (a ≡ b → ⊥) → (u ≡ w) ⊎ (u ≡ w → ⊥) → R.mul (delta R u w) (delta R a b) ≡ delta R (pair d a u) (pair d b w)
      cases (inl e) (inl f) = ap₂ R.mul (delta-eq R u w f) (delta-eq R a b e) ∙ R.mul-one R.one ∙ sym (delta-eq R (pair d a u) (pair d b w) (ap₂ (pair d) e f))
      cases (inr g) f = ap (R.mul (delta R u w)) (delta-ne R a b g) ∙ mul-zero R (delta R u w) ∙ sym (delta-ne R (pair d a u) (pair d b w) (λ e. g (pair_first a b u w e)))
      cases (inl e) (inr g) = ap (λ x. R.mul x (delta R a b)) (delta-ne R u w g) ∙ zero-mul R (delta R a b) ∙ sym (delta-ne R (pair d a u) (pair d b w) (λ e. g (pair_second a b u w e)))

module _ {R : Ring} {n d : ℕ} where
  pub blocks : (Fin n → Fin n) → (Fin n → Matrix R d d) → Matrix R (times n d) (times n d)
  blocks t X = record { at = λ p q. on_pairs n d (λ b u. on_pairs n d (λ a w. R.mul ((X a).at u w) (delta R b (t a))) q) p }

  blocks-at : (t : Fin n → Fin n) (X : Fin n → Matrix R d d) (b : Fin n) (u : Fin d) (a : Fin n) (w : Fin d)
      → (blocks t X).at (pair d b u) (pair d a w) ≡ R.mul ((X a).at u w) (delta R b (t a))
  unfolding blocks
  blocks-at t X b u a w = on_pairs-pair d (λ b u. on_pairs n d (λ a w. R.mul ((X a).at u w) (delta R b (t a))) (pair d a w)) b u
      ∙ on_pairs-pair d (λ a w. R.mul ((X a).at u w) (delta R b (t a))) a w

  pub blocks-mul : (s t : Fin n → Fin n) (X Y : Fin n → Matrix R d d) → blocks s X · blocks t Y ≡ blocks (λ a. s (t a)) (λ a. X (t a) · Y a)
  blocks-mul s t X Y = pairs-ext (blocks s X · blocks t Y) (blocks (λ a. s (t a)) (λ a. X (t a) · Y a)) (λ b u a w.
      mul-at (blocks s X) (blocks t Y) (pair d b u) (pair d a w)
      ∙ sum-times R n d (λ z. R.mul ((blocks s X).at (pair d b u) z) ((blocks t Y).at z (pair d a w)))
      ∙ sum-ext R n (λ c. sum R d (λ v. R.mul ((blocks s X).at (pair d b u) (pair d c v)) ((blocks t Y).at (pair d c v) (pair d a w))))
      (λ c. R.mul (R.mul ((X c · Y a).at u w) (delta R b (s c))) (delta R c (t a))) (λ c.
      sum-ext R d (λ v. R.mul ((blocks s X).at (pair d b u) (pair d c v)) ((blocks t Y).at (pair d c v) (pair d a w)))
      (λ v. R.mul (R.mul ((X c).at u v) ((Y a).at v w)) (R.mul (delta R b (s c)) (delta R c (t a)))) (λ v.
      ap₂ R.mul (blocks-at s X b u c v) (blocks-at t Y c v a w) ∙ four ((X c).at u v) (delta R b (s c)) ((Y a).at v w) (delta R c (t a)))
      ∙ sym (sum-mul R d (λ v. R.mul ((X c).at u v) ((Y a).at v w)) (R.mul (delta R b (s c)) (delta R c (t a))))
      ∙ ap (λ x. R.mul x (R.mul (delta R b (s c)) (delta R c (t a)))) (sym (mul-at (X c) (Y a) u w))
      ∙ sym (R.mul_assoc ((X c · Y a).at u w) (delta R b (s c)) (delta R c (t a))))
      ∙ delta-sum R n (t a) (λ c. R.mul ((X c · Y a).at u w) (delta R b (s c)))
      ∙ sym (blocks-at (λ a. s (t a)) (λ a. X (t a) · Y a) b u a w))
    where
      four : (x y z w : R.Carrier) → R.mul (R.mul x y) (R.mul z w) ≡ R.mul (R.mul x z) (R.mul y w)
      four x y z w = R.mul_assoc x y (R.mul z w) ∙ ap (R.mul x) (sym (R.mul_assoc y z w) ∙ ap (λ v. R.mul v w) (R.mul_comm y z) ∙ R.mul_assoc z y w) ∙ sym (R.mul_assoc x z (R.mul y w))

  pub blocks-ext : (s t : Fin n → Fin n) (X Y : Fin n → Matrix R d d) → ((a : Fin n) → s a ≡ t a) → ((a : Fin n) → X a ≡ Y a) → blocks s X ≡ blocks t Y
  blocks-ext s t X Y e f = pairs-ext (blocks s X) (blocks t Y) (λ b u a w. blocks-at s X b u a w
      ∙ ap₂ (λ (m : Matrix R d d) c. R.mul (m.at u w) (delta R b c)) (f a) (e a) ∙ sym (blocks-at t Y b u a w))

  pub blocks-scale : (c : R.Carrier) (t : Fin n → Fin n) (X : Fin n → Matrix R d d) → blocks t (λ a. scale R c (X a)) ≡ scale R c (blocks t X)
  blocks-scale c t X = pairs-ext (blocks t (λ a. scale R c (X a))) (scale R c (blocks t X)) (λ b u a w. blocks-at t (λ a. scale R c (X a)) b u a w
      ∙ ap (λ x. R.mul x (delta R b (t a))) (scale-at R c (X a) u w) ∙ R.mul_assoc c ((X a).at u w) (delta R b (t a))
      ∙ ap (R.mul c) (sym (blocks-at t X b u a w)) ∙ sym (scale-at R c (blocks t X) (pair d b u) (pair d a w)))

  pub blocks-unit : (t : Fin n → Fin n) (X : Fin n → Matrix R d d) → ((a : Fin n) → t a ≡ a) → ((a : Fin n) → X a ≡ unit R d) → blocks t X ≡ unit R (times n d)
  blocks-unit t X e f = pairs-ext (blocks t X) (unit R (times n d)) (λ b u a w. blocks-at t X b u a w
      ∙ ap₂ (λ (m : Matrix R d d) c. R.mul (m.at u w) (delta R b c)) (f a) (e a) ∙ ap (λ x. R.mul x (delta R b a)) (unit-at R u w) ∙ delta-pair R b a u w ∙ sym (unit-at R (pair d b u) (pair d a w)))

  -- its blocks
  pub block-blocks : (t : Fin n → Fin n) (X : Fin n → Matrix R d d) (b a : Fin n) → block d (blocks t X) b a ≡ scale R (delta R b (t a)) (X a)
  unfolding block
  block-blocks t X b a = matrix-ext (λ u w. blocks-at t X b u a w ∙ R.mul_comm ((X a).at u w) (delta R b (t a)) ∙ sym (scale-at R (delta R b (t a)) (X a) u w))

  pub block_of_column : (t : Fin n → Fin n) (X : Fin n → Matrix R d d) (b a : Fin n) → t a ≡ b → block d (blocks t X) b a ≡ X a
  block_of_column t X b a e = block-blocks t X b a ∙ ap (λ c. scale R c (X a)) (delta-eq R b (t a) (sym e)) ∙ scale-one (X a)

  pub block_null : (t : Fin n → Fin n) (X : Fin n → Matrix R d d) (b a : Fin n) → (t a ≡ b → ⊥) → block d (blocks t X) b a ≡ null
  block_null t X b a g = block-blocks t X b a ∙ ap (λ c. scale R c (X a)) (delta-ne R b (t a) (λ e. g (sym e))) ∙ zero-scale (X a)

  pub eq_of_blocks : (m w : Matrix R (times n d) (times n d)) → ((b a : Fin n) → block d m b a ≡ block d w b a) → m ≡ w
  unfolding block
  eq_of_blocks m w h = pairs-ext m w (λ b u a v. ap (λ (z : Matrix R d d). z.at u v) (h b a))

-- the traces of the blocks on the diagonal
pub trace_by_blocks : {R : Ring} (n d : ℕ) (m : Matrix R (times n d) (times n d)) → trace m ≡ sum R n (λ a. trace (block d m a a))
unfolding trace block
trace_by_blocks {R} n d m = sum-times R n d (λ z. m.at z z)
