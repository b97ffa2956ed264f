-- Eigenvalues of a multiple of a matrix, and the exponents of eigenvalues that are multiplied by a power of z.
--   occurs-scale             c times an eigenvalue occurs in c times the matrix as often
--   power-rest               an exponent may be replaced by its rest modulo N, where z^N is 1
--   IsShift                  an exponent and y, modulo N
--   shift-is, shift_inj, shift_back      a sum modulo N; from different exponents; each exponent is one
--   times_in-shifted         how often one of these stands in their list
--   shifted-below            they are below N
--   occurs-shifted           they are the exponents of the multiple
use Rattle.std.proofs.Common.{◌≡◌, sym, ◌∙◌, ap, ap₂, subst, ℕ, suc, ◌<◌, ◌≤◌, ◌+◌, ◌-◌, ◌*◌, ◌/◌, ◌%◌, ◌⊎◌, inl, inr, List, [], ◌∷◌, get_or, map, All, arith}
use Rattle.std.specs.Prelude.{cond, nat_eq, Bool, true, false}
use Rattle.std.specs.List.{AllByRecursion}
use Rattle.std.proofs.Math.Nat as Nat
use native.Mathlib.Decide.{dec_le}
use Rattle.std.proofs.lemmas.List.Elements.{All-from_get_or, All-map, recursion_from_All}
use Rattle.std.proofs.lemmas.List.Sums.{sum_by-cons}
use Rattle.std.proofs.lemmas.Bool.{eq-eqb, eqb-true, false≢true}
use Rattle.irr_algebra.specs.Field.{Field}
use Rattle.irr_algebra.specs.Matrix.{Matrix, ◌·◌, scale}
use Rattle.irr_algebra.proofs.Fields.{mul_cancel}
use Rattle.irr_algebra.proofs.Matrices.{matrix-ext, scale-at, scale-mul}
use Rattle.irr_eigen.specs.Power.{power}
use Rattle.irr_eigen.specs.Eigenspace.{Occurs}
use Rattle.irr_eigen.proofs.Powers.{one-power, power-add, power-mul}
use Rattle.irr_extension.specs.Exponents.{times_in}

module _ (F : Field) (c : F.Carrier) (ne : c ≡ F.zero → ⊥) where
  open F use {ring as R}

  scale-scale : {m n : ℕ} (x : R.Carrier) (a : Matrix R m n) → scale R (R.mul c x) a ≡ scale R c (scale R x a)
  scale-scale {m} {n} x a = matrix-ext (λ i j. scale-at R (R.mul c x) a i j ∙ R.mul_assoc c x (a.at i j)
      ∙ sym (scale-at R c (scale R x a) i j ∙ ap (R.mul c) (scale-at R x a i j)))

  scale_cancel : {m n : ℕ} (a b : Matrix R m n) → scale R c a ≡ scale R c b → a ≡ b
  scale_cancel {m} {n} a b e = matrix-ext (λ i j. mul_cancel F c (a.at i j) (b.at i j) ne
      (sym (scale-at R c a i j) ∙ ap (λ (u : Matrix R m n). u.at i j) e ∙ scale-at R c b i j))

  pub occurs-scale : {d : ℕ} (v : Matrix R d d) (x : R.Carrier) (k : ℕ) → Occurs v x k → Occurs (scale R c v) (R.mul c x) k
  occurs-scale v x k o = record {
    basis = o.basis;
    independent = o.independent;
    eigen = scale-mul R c v o.basis ∙ ap (scale R c) o.eigen ∙ sym (scale-scale x o.basis);
    spanning = λ y e. o.spanning y (scale_cancel (v · y) (scale R x y) (sym (scale-mul R c v y) ∙ e ∙ scale-scale x y));
  }

-- f and y, modulo N
abbrev pub IsShift : (N y f a : ℕ) → Type 0
IsShift N y f a = (f + y ≡ a) ⊎ (f + y ≡ a + N)

pub shift-is : (N y f : ℕ) → f < N → y < N → IsShift N y f ((f + y) % N)
shift-is N y f lf ly = cases (dec_le (suc (f + y)) N)
  where
    cases : Dec (suc (f + y) ≤ N) → IsShift N y f ((f + y) % N)
    cases (yes l) = inl (sym (Nat.mod-eq_of_lt l))
    cases (no l) =
        let split : f + y ≡ f + y - N + N = omega (arith, l) in
        let rest : f + y - N < N = omega (arith, l, lf, ly) in
        inr (split ∙ ap (λ k. k + N) (sym (ap (λ k. k % N) split ∙ Nat.add-mod_right (f + y - N) N ∙ Nat.mod-eq_of_lt rest)))

shift_one : (N y f a c : ℕ) → a < N → c < N → IsShift N y f a → IsShift N y f c → a ≡ c
shift_one N y f a c la lc (inl p) (inl q) = omega (arith, p, q)
shift_one N y f a c la lc (inl p) (inr q) = absurd (omega (arith, p, q, la))
shift_one N y f a c la lc (inr p) (inl q) = absurd (omega (arith, p, q, lc))
shift_one N y f a c la lc (inr p) (inr q) = omega (arith, p, q)

shift_inj : (N y f b a : ℕ) → f < N → b < N → IsShift N y f a → IsShift N y b a → f ≡ b
shift_inj N y f b a lf lb (inl p) (inl q) = omega (arith, p, q)
shift_inj N y f b a lf lb (inl p) (inr q) = absurd (omega (arith, p, q, lb))
shift_inj N y f b a lf lb (inr p) (inl q) = absurd (omega (arith, p, q, lf))
shift_inj N y f b a lf lb (inr p) (inr q) = omega (arith, p, q)

shift_back : (N y a : ℕ) → a < N → y < N → (b : ℕ) × (b < N) × IsShift N y b a
shift_back N y a la ly = cases (dec_le y a)
  where
    cases : Dec (y ≤ a) → (b : ℕ) × (b < N) × IsShift N y b a
    cases (yes l) = (a - y, omega (arith, l, la), inl (omega (arith, l)))
    cases (no l) = (a + N - y, omega (arith, l, ly), inr (omega (arith, la, ly)))

-- 1 where the answer is yes, and 0 elsewhere
abbrev counted : Bool → ℕ
counted b = cond b 1 0

same-answer : (a b c d : ℕ) → (a ≡ b → c ≡ d) → (c ≡ d → a ≡ b) → counted (nat_eq a b) ≡ counted (nat_eq c d)
same-answer a b c d to from = cases (nat_eq a b) (nat_eq c d) (λ i. nat_eq a b) (λ i. nat_eq c d)
  where
    cases : (s t : Bool) → nat_eq a b ≡ s → nat_eq c d ≡ t → counted s ≡ counted t
    cases true true p q = λ i. 1
    cases false false p q = λ i. 0
    cases true false p q = absurd (false≢true (sym q ∙ eq-eqb c d (to (eqb-true a b p))))
    cases false true p q = absurd (false≢true (sym p ∙ eq-eqb a b (from (eqb-true c d q))))

module _ (N y : ℕ) (ly : y < N) where
  abbrev pub shifted : List ℕ → List ℕ
  shifted es = map (λ e. (e + y) % N) es

  times-shifted : (a b : ℕ) → a < N → b < N → IsShift N y b a → (es : List ℕ) → AllByRecursion (λ e. e < N) es
      → times_in a (shifted es) ≡ times_in b es
  times-shifted a b la lb is [] h = λ i. 0
  times-shifted a b la lb is (e ∷ es) h =
      sum_by-cons (λ g. counted (nat_eq g a)) ((e + y) % N) (shifted es)
      ∙ ap₂ (λ s t. s + t) (same-answer ((e + y) % N) a e b
      (λ p. shift_inj N y e b a h.0 lb (subst (IsShift N y e) p (shift-is N y e h.0 ly)) is)
      (λ p. shift_one N y e ((e + y) % N) a (Nat.mod-lt (e + y) (positive e h.0)) la (shift-is N y e h.0 ly) (subst (λ k. IsShift N y k a)
      (sym p) is)))
      (times-shifted a b la lb is es h.1)
      ∙ sym (sum_by-cons (λ g. counted (nat_eq g b)) e es)
    where
      positive : (k : ℕ) → k < N → 0 < N
      positive k l = omega (arith, l)

  pub shifted-below : (es : List ℕ) → All (λ e. e < N) (shifted es)
  shifted-below es = All-map (λ e. e < N) (λ e. (e + y) % N) es (All-from_get_or (λ e. (e + y) % N < N) es 0 (λ i l. Nat.mod-lt
      (get_or es i 0 + y) positive))
    where
      positive : 0 < N
      positive = omega (arith, ly)

  module _ (F : Field) (z : F.Carrier) (turn : power F.ring z N ≡ F.one) (ne : (e : ℕ) → power F.ring z e ≡ F.zero → ⊥) where
    open F use {ring as R}

    pub power-rest : (e : ℕ) → power R z (e % N) ≡ power R z e
    power-rest e =
        sym (R.mul-one (power R z (e % N)))
        ∙ ap (R.mul (power R z (e % N))) (sym (power-mul R z (e / N) N ∙ ap (λ x. power R x (e / N)) turn ∙ one-power R (e / N)))
        ∙ sym (power-add R z (e % N) (e / N * N)) ∙ ap (power R z) (Nat.mod-add-div' e N)

    shift-power : (a b : ℕ) → IsShift N y b a → R.mul (power R z y) (power R z b) ≡ power R z a
    shift-power a b (inl e) = sym (power-add R z y b) ∙ ap (power R z) (Nat.add_comm y b ∙ e)
    shift-power a b (inr e) = sym (power-add R z y b) ∙ ap (power R z) (Nat.add_comm y b ∙ e) ∙ power-add R z a N ∙ ap (R.mul (power R z a)) turn
        ∙ R.mul-one (power R z a)

    pub occurs-shifted : {d : ℕ} (v : Matrix R d d) (es : List ℕ) → All (λ e. e < N) es
        → ((e : ℕ) → e < N → Occurs v (power R z e) (times_in e es))
        → (a : ℕ) → a < N → Occurs (scale R (power R z y) v) (power R z a) (times_in a (shifted es))
    occurs-shifted v es below occurs a la =
        let b : (b : ℕ) × (b < N) × IsShift N y b a = shift_back N y a la ly in
        subst (λ x. Occurs (scale R (power R z y) v) x (times_in a (shifted es))) (shift-power a b.0 b.2)
        (subst (Occurs (scale R (power R z y) v) (R.mul (power R z y) (power R z b.0)))
        (sym (times-shifted a b.0 la b.1 b.2 es (recursion_from_All (λ e. e < N) es below)))
        (occurs-scale F (power R z y) (ne y) v (power R z b.0) (times_in b.0 es) (occurs b.0 b.1)))
