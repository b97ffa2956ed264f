-- What the traces of an extension at the coset of the generator are.
--   some_trace_of_extension: they are not all 0
--   traces_forced: their products with the powers of one of them tell them up to a root of 1
--   some_two, some_three: nor are the sums of the character of the subgroup that are their powers
--   forced_by_two, forced_by_three: these sums tell them up to a root of 1 too
use Rattle.std.proofs.Common.{◌≡◌, sym, ◌∙◌, ap, ap₂, refl, ℕ, zero, suc, ◌<◌}
use Rattle.irr_algebra.specs.Ring.{whole}
use Rattle.irr_algebra.specs.Field.{Field}
use Rattle.irr_algebra.specs.Fin.{Fin}
use Rattle.irr_algebra.specs.Matrix.{Matrix, ◌·◌, scale, trace}
use Rattle.irr_algebra.specs.Action.{IsSimple}
use Rattle.irr_algebra.proofs.Rings.{mul-zero, mul_left_comm, zero-mul}
use Rattle.irr_algebra.proofs.Fields.{inverse-mul, mul-ne-zero, mul_cancel, one-ne-zero}
use Rattle.irr_algebra.proofs.Matrices.{scale-mul, trace-scale}
use Rattle.irr_theory.specs.FactorSystem.{FactorSystem, Representation}
use Rattle.irr_theory.proofs.Inverses.{places-ne-zero}
use Rattle.irr_clifford.specs.Subgroup.{Subgroup}
use Rattle.irr_clifford.specs.Cyclic.{CyclicQuotient, StandsForGenerator}
use Rattle.irr_clifford.specs.FromTraces.{AreExtensionTraces, generator_from_traces}
use Rattle.irr_clifford.specs.Roots.{number_power}
use Rattle.irr_clifford.proofs.ExtensionTraces.{extension_of_traces, stands_of_traces, traces_of_stands}
use Rattle.irr_clifford.proofs.Roots.{extension-coset, number_power-mul, number_power-one, some_trace, stands-ne-null, stands_times_root}
use Rattle.irr_extension.specs.Product.{three_sum, two_sum}
use Rattle.irr_extension.proofs.CosetProducts.{product_of_three, product_of_two}

module _ (F : Field) {T : FactorSystem F.ring} {H : Subgroup T} (Q : CyclicQuotient H) {d : ℕ} (D : Representation H.table d) (l : 0 < d)
    (simple : IsSimple D.at)
    (t : Fin H.table.places → F.Carrier) (extension : AreExtensionTraces Q D t) where
  open F use {ring as R}

  -- the matrix at the generator
  u : Matrix R d d
  u = generator_from_traces F Q D t

  stands : StandsForGenerator Q D u
  unfolding u
  stands = stands_of_traces F Q D l simple t extension

  trace-member : (n : Fin H.table.places) → R.mul (T.phase Q.generator (H.member n)) (t n) ≡ trace (u · D.at n)
  unfolding u
  trace-member n = ap (R.mul (T.phase Q.generator (H.member n))) (sym (extension.trace-coset n))
      ∙ extension-coset Q D (generator_from_traces F Q D t) extension.family (extension_of_traces F Q D l simple t extension) n

  pub some_trace_of_extension : (m : Fin H.table.places) × (t m ≡ R.zero → ⊥)
  some_trace_of_extension =
      let n = some_trace F Q D l simple u (stands-ne-null F Q D l u stands) in
      (n.0, λ z. n.1 (sym (trace-member n.0) ∙ ap (R.mul (T.phase Q.generator (H.member n.0))) z ∙ mul-zero R (T.phase Q.generator (H.member n.0))))

  -- powers of numbers
  power-ne-zero : (x : R.Carrier) → (x ≡ R.zero → ⊥) → (n : ℕ) → number_power R x n ≡ R.zero → ⊥
  unfolding number_power
  power-ne-zero x ne zero = one-ne-zero F
  power-ne-zero x ne (suc n) = mul-ne-zero F x (number_power R x n) ne (power-ne-zero x ne n)

  power-next : (x : R.Carrier) (n : ℕ) → R.mul x (number_power R x n) ≡ number_power R x (suc n)
  unfolding number_power
  power-next x n = refl

  module _ (s : Fin H.table.places → R.Carrier) (m : Fin H.table.places) (s-ne : s m ≡ R.zero → ⊥) (q : ℕ) (index : Q.index ≡ suc q)
      (same : (n : Fin H.table.places) → R.mul (s n) (number_power R (s m) q) ≡ R.mul (t n) (number_power R (t m) q)) where
    t-ne : t m ≡ R.zero → ⊥
    t-ne z = mul-ne-zero F (s m) (number_power R (s m) q) s-ne (power-ne-zero (s m) s-ne q)
        (same m ∙ ap (λ x. R.mul x (number_power R (t m) q)) z ∙ zero-mul R (number_power R (t m) q))

    -- what takes t to s
    root : R.Carrier
    root = R.mul (s m) (F.inverse (t m))

    root-power : number_power R root Q.index ≡ R.one
    unfolding root
    root-power =
        ap (number_power R (R.mul (s m) (F.inverse (t m)))) index ∙ number_power-mul R (s m) (F.inverse (t m)) (suc q)
        ∙ ap (λ x. R.mul x (number_power R (F.inverse (t m)) (suc q))) (sym (power-next (s m) q) ∙ same m ∙ power-next (t m) q)
        ∙ sym (number_power-mul R (t m) (F.inverse (t m)) (suc q)) ∙ ap (λ x. number_power R x (suc q)) (F.mul-inverse (t m) t-ne) ∙ number_power-one R (suc q)

    root-times : (n : Fin H.table.places) → R.mul root (t n) ≡ s n
    unfolding root
    root-times n = mul_cancel F (number_power R (s m) q) (R.mul (R.mul (s m) (F.inverse (t m))) (t n)) (s n) (power-ne-zero (s m) s-ne q)
        (sorted (number_power R (s m) q) (s m) (F.inverse (t m)) (t n)
        ∙ ap (λ x. R.mul (R.mul (F.inverse (t m)) (t n)) x) (same m)
        ∙ sorted_again (F.inverse (t m)) (t n) (t m) (number_power R (t m) q)
        ∙ ap (λ x. R.mul x (R.mul (t n) (number_power R (t m) q))) (inverse-mul F (t m) t-ne)
        ∙ R.mul_comm R.one (R.mul (t n) (number_power R (t m) q)) ∙ R.mul-one (R.mul (t n) (number_power R (t m) q))
        ∙ sym (same n) ∙ R.mul_comm (s n) (number_power R (s m) q))
      where
        sorted : (p a i b : R.Carrier) → R.mul p (R.mul (R.mul a i) b) ≡ R.mul (R.mul i b) (R.mul a p)
        sorted p a i b = simp (R.mul_assoc, mul_left_comm R, R.mul_comm)

        sorted_again : (i b a p : R.Carrier) → R.mul (R.mul i b) (R.mul a p) ≡ R.mul (R.mul i a) (R.mul b p)
        sorted_again i b a p = simp (R.mul_assoc, mul_left_comm R)

    pub traces_forced : AreExtensionTraces Q D s
    traces_forced = traces_of_stands Q D (scale R root u) (stands_times_root Q D u root stands root-power) s (λ n.
        ap (R.mul (T.phase Q.generator (H.member n))) (sym (root-times n)) ∙ mul_left_comm R (T.phase Q.generator (H.member n)) root (t n)
        ∙ ap (R.mul root) (trace-member n) ∙ sym (ap trace (scale-mul R root u (D.at n)) ∙ trace-scale R root (u · D.at n)))

module _ (F : Field) {T : FactorSystem F.ring} {H : Subgroup T} (Q : CyclicQuotient H) {d : ℕ} (D : Representation H.table d) (l : 0 < d)
    (simple : IsSimple D.at) (t : Fin H.table.places → F.Carrier) (extension : AreExtensionTraces Q D t)
    (position : Fin T.places → Fin H.table.places) (at_member : (n : Fin H.table.places) → position (H.member n) ≡ n) where
  open F use {ring as R}

  -- the number of members, and the sums of the character
  abbrev h : R.Carrier
  h = whole R H.table.places

  abbrev two : (n m : Fin H.table.places) → R.Carrier
  two n m = two_sum H (λ k. trace (D.at k)) position (T.product Q.generator (H.member n)) (T.product Q.generator (H.member m))

  abbrev three : (n m : Fin H.table.places) → R.Carrier
  three n m = three_sum H (λ k. trace (D.at k)) position (T.product Q.generator (H.member n)) (T.product Q.generator (H.member m))

  h-ne : h ≡ R.zero → ⊥
  h-ne = places-ne-zero F H.table

  traces-two : Q.index ≡ 2 → (n m : Fin H.table.places) → R.mul h (R.mul (t n) (t m)) ≡ R.mul (whole R d) (two n m)
  traces-two index n m = ap₂ (λ a b. R.mul h (R.mul a b)) (sym (extension.trace-coset n)) (sym (extension.trace-coset m))
      ∙ product_of_two F Q D extension.family l simple extension.at-member position at_member index n m

  traces-three : Q.index ≡ 3 → (n m : Fin H.table.places)
      → R.mul (R.mul h h) (R.mul (t n) (R.mul (t m) (t m))) ≡ R.mul (R.mul (whole R d) (whole R d)) (three n m)
  traces-three index n m = ap₂ (λ a b. R.mul (R.mul h h) (R.mul a (R.mul b b))) (sym (extension.trace-coset n)) (sym (extension.trace-coset m))
      ∙ product_of_three F Q D extension.family l simple extension.at-member position at_member index n m

  -- where a trace is not 0, neither is the sum
  pub some_two : Q.index ≡ 2 → (m : Fin H.table.places) × (two m m ≡ R.zero → ⊥)
  some_two index =
      let m = some_trace_of_extension F Q D l simple t extension in (
        m.0,
        λ z. mul-ne-zero F h (R.mul (t m.0) (t m.0)) h-ne (mul-ne-zero F (t m.0) (t m.0) m.1 m.1)
            (traces-two index m.0 m.0 ∙ ap (R.mul (whole R d)) z ∙ mul-zero R (whole R d)),
      )

  pub some_three : Q.index ≡ 3 → (m : Fin H.table.places) × (three m m ≡ R.zero → ⊥)
  some_three index =
      let m = some_trace_of_extension F Q D l simple t extension in (
        m.0,
        λ z. mul-ne-zero F (R.mul h h) (R.mul (t m.0) (R.mul (t m.0) (t m.0))) (mul-ne-zero F h h h-ne h-ne)
            (mul-ne-zero F (t m.0) (R.mul (t m.0) (t m.0)) m.1 (mul-ne-zero F (t m.0) (t m.0) m.1 m.1))
            (traces-three index m.0 m.0 ∙ ap (R.mul (R.mul (whole R d) (whole R d))) z ∙ mul-zero R (R.mul (whole R d) (whole R d))),
      )

  module _ (s : Fin H.table.places → R.Carrier) (m : Fin H.table.places) (s-ne : s m ≡ R.zero → ⊥) where
    pub forced_by_two : Q.index ≡ 2 → ((n : Fin H.table.places) → R.mul h (R.mul (s n) (s m)) ≡ R.mul (whole R d) (two n m)) → AreExtensionTraces Q D s
    unfolding number_power
    forced_by_two index same = traces_forced F Q D l simple t extension s m s-ne 1 index (λ n.
        ap (R.mul (s n)) (R.mul-one (s m))
        ∙ mul_cancel F h (R.mul (s n) (s m)) (R.mul (t n) (t m)) h-ne (same n ∙ sym (traces-two index n m)) ∙ sym (ap (R.mul (t n)) (R.mul-one (t m))))

    pub forced_by_three : Q.index ≡ 3
        → ((n : Fin H.table.places) → R.mul (R.mul h h) (R.mul (s n) (R.mul (s m) (s m))) ≡ R.mul (R.mul (whole R d) (whole R d)) (three n m))
        → AreExtensionTraces Q D s
    unfolding number_power
    forced_by_three index same = traces_forced F Q D l simple t extension s m s-ne 2 index (λ n.
        ap (λ a. R.mul (s n) (R.mul (s m) a)) (R.mul-one (s m))
        ∙ mul_cancel F (R.mul h h) (R.mul (s n) (R.mul (s m) (s m))) (R.mul (t n) (R.mul (t m) (t m))) (mul-ne-zero F h h h-ne h-ne)
        (same n ∙ sym (traces-three index n m)) ∙ sym (ap (λ a. R.mul (t n) (R.mul (t m) a)) (R.mul-one (t m))))
