-- The span of a vector and its images under u: it is smaller than the number of these vectors, or u has trace 0 on it.
use Rattle.std.proofs.Common.{◌≡◌, sym, ◌∙◌, ap, subst, refl, ℕ, zero, suc, ◌⊎◌, inl, inr, ◌≤◌, ◌<◌, arith}
use native.Mathlib.Decide.{dec_le}
use Rattle.irr_algebra.specs.Ring.{Ring}
use Rattle.irr_algebra.specs.Field.{Field}
use Rattle.irr_algebra.specs.Fin.{Fin, to_nat}
use Rattle.irr_algebra.specs.Fin.Fin.{first}
use Rattle.irr_algebra.specs.Sum.{delta}
use Rattle.irr_algebra.specs.Matrix.{Matrix, ◌·◌, scale, unit, null, trace}
use Rattle.irr_algebra.proofs.Fields.{one-ne-zero}
use Rattle.irr_algebra.proofs.Matrices.{mul_assoc, unit-mul, mul-unit, scale-mul, mul-scale, trace_comm, entry_of_null}
use Rattle.irr_algebra.proofs.Rank.{Factored, factored, left_inverse-le, square_inverse, mul-empty}
use Rattle.irr_theory.specs.Extension.{matrix_power}
use Rattle.irr_eigen.specs.Power.{Root}
use Rattle.irr_eigen.proofs.Parts.{ZeroBlock}

-- where u maps the list b into its span by k, its powers do by the powers of k
power-stays : {R : Ring} {m n : ℕ} (u : Matrix R n n) (b : Matrix R n m) (k : Matrix R m m) → u · b ≡ b · k
    → (j : ℕ) → matrix_power u j · b ≡ b · matrix_power k j
unfolding matrix_power
power-stays u b k e zero = unit-mul b ∙ sym (mul-unit b)
power-stays {R} {m} {n} u b k e (suc j) =
    mul_assoc u (matrix_power u j) b ∙ ap (λ (x : Matrix R n m). u · x) (power-stays u b k e j) ∙ sym (mul_assoc u b (matrix_power k j))
    ∙ ap (λ (x : Matrix R n m). x · matrix_power k j) e ∙ mul_assoc b k (matrix_power k j)

block-power : {R : Ring} {m n : ℕ} (u : Matrix R n n) (b : Matrix R n m) (q : Matrix R m n) (k : Matrix R m m) → q · b ≡ unit R m → u · b ≡ b · k
    → (p : ℕ) (c : R.Carrier) → matrix_power u p ≡ scale R c (unit R n) → matrix_power k p ≡ scale R c (unit R m)
block-power {R} {m} {n} u b q k left stays p c e =
    sym (unit-mul (matrix_power k p)) ∙ ap (λ (x : Matrix R m m). x · matrix_power k p) (sym left) ∙ mul_assoc q b (matrix_power k p)
    ∙ ap (λ (x : Matrix R n m). q · x) (sym (power-stays u b k stays p) ∙ ap (λ (x : Matrix R n n). x · b) e ∙ scale-mul R c (unit R n) b ∙ ap (scale R c) (unit-mul b))
    ∙ mul-scale R c q b ∙ ap (scale R c) left

-- some vectors, not all 0, that u maps into their span by a matrix of trace 0
pub record CyclicList {R : Ring} {n : ℕ} (p : ℕ) (u : Matrix R n n) : Type 0 where
  pub list : Matrix R n p
  pub block : Matrix R p p
  pub stays : u · list ≡ list · block
  pub trace-zero : trace block ≡ R.zero
  pub not-null : list ≡ null → ⊥

module _ (F : Field) where
  open F use {ring as R}

  -- p-th powers of matrices smaller than p give roots
  abbrev pub SmallRoots : ℕ → R.Carrier → Type 0
  SmallRoots p c = (r : ℕ) → 0 < r → r < p → (k : Matrix R r r) → matrix_power k p ≡ scale R c (unit R r) → Root R p c

  square : {m d : ℕ} → m ≡ d → (s : Matrix R m d) (t : Matrix R d m) → s · t ≡ unit R m → t · s ≡ unit R d
  square {m} e = subst (λ d. (s : Matrix R m d) (t : Matrix R d m) → s · t ≡ unit R m → t · s ≡ unit R d) e (λ s t. square_inverse F t s)

  pub cyclic-splits : {n : ℕ} (p : ℕ) (c : R.Carrier) (u : Matrix R n n) → SmallRoots p c → CyclicList p u
      → matrix_power u p ≡ scale R c (unit R n) → Root R p c ⊎ ZeroBlock u
  cyclic-splits {n} p c u small h power-c = cases f.rank f.basis f.coordinates f.choice f.left f.is_product f.is_chosen f.is_left
    where
      a : Matrix R n p
      a = h.list

      f : Factored a
      f = factored F p a

      cases : (r : ℕ) (b : Matrix R n r) (s : Matrix R r p) (t : Matrix R p r) (q : Matrix R r n) → a ≡ b · s → b ≡ a · t → q · b ≡ unit R r
          → Root R p c ⊎ ZeroBlock u
      cases zero b s t q a-bs b-at qb = absurd (h.not-null (a-bs ∙ mul-empty 0 b s refl))
      cases (suc r) b s t q a-bs b-at qb = size (dec_le (suc (suc r)) p)
        where
          k : Matrix R (suc r) (suc r)
          k = s · (h.block · t)

          stays : u · b ≡ b · k
          stays = ap (λ (x : Matrix R n (suc r)). u · x) b-at ∙ sym (mul_assoc u a t) ∙ ap (λ (x : Matrix R n p). x · t) h.stays
              ∙ mul_assoc a h.block t ∙ ap (λ (x : Matrix R n p). x · (h.block · t)) a-bs ∙ mul_assoc b s (h.block · t)

          s-t : s · t ≡ unit R (suc r)
          s-t = sym (unit-mul (s · t)) ∙ ap (λ (x : Matrix R (suc r) (suc r)). x · (s · t)) (sym qb) ∙ mul_assoc q b (s · t)
              ∙ ap (λ (x : Matrix R n (suc r)). q · x) (sym (mul_assoc b s t) ∙ ap (λ (x : Matrix R n p). x · t) (sym a-bs) ∙ sym b-at) ∙ qb

          most : suc r ≤ p
          most = left_inverse-le F t s s-t

          size : Dec (suc (suc r) ≤ p) → Root R p c ⊎ ZeroBlock u
          size (yes l) = inl (small (suc r) (omega arith) l k (block-power u b q k qb stays p c power-c))
          size (no l) = let e : suc r ≡ p = omega (arith, most) in
              inr (record {
                smaller = r;
                list = b;
                left = q;
                block = k;
                left-list = qb;
                stays = stays;
                trace-zero = trace_comm s (h.block · t) ∙ ap trace (mul_assoc h.block t s ∙ ap (λ (x : Matrix R p p). h.block · x) (square e s t s-t) ∙ mul-unit h.block) ∙ h.trace-zero;
              })

-- the first columns of the powers of u below p
unfoldable pub orbit : {R : Ring} {n : ℕ} (p : ℕ) → Matrix R (suc n) (suc n) → Matrix R (suc n) p
orbit p u = record { at = λ i j. (matrix_power u (to_nat j)).at i first }

pub mul-orbit : {R : Ring} {n : ℕ} (p : ℕ) (u : Matrix R (suc n) (suc n)) (i : Fin (suc n)) (j : Fin p)
    → (u · orbit p u).at i j ≡ (matrix_power u (suc (to_nat j))).at i first
unfolding orbit matrix_power ◌·◌
mul-orbit p u i j = refl

pub orbit-not-null : (F : Field) {n : ℕ} (p : ℕ) (u : Matrix F.ring (suc n) (suc n)) → orbit (suc p) u ≡ null → ⊥
unfolding orbit matrix_power to_nat unit delta
orbit-not-null F p u e = one-ne-zero F (entry_of_null first first e)
