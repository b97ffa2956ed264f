-- One extension of a simple family by its traces, from the sums of its character. The subgroup has the index p = q + 1, 2 or 3.
--   power-ne-zero            powers of a number that is not 0
--   meets                    the traces of each extension have the products that the sums say
--   some_sum                 one of the sums for a place with itself is not 0
--   root-ne-zero             a number whose power by p is such a sum is not 0
--   continued                it is the trace there of some extension
--   chosen                   numbers with the products that the sums say are the traces of an extension
use Rattle.std.proofs.Common.{◌≡◌, sym, ◌∙◌, ap, ap₂, refl, ℕ, zero, suc, ◌<◌, ◌⊎◌, inl, inr, subst}
use Rattle.irr_algebra.specs.Ring.{whole}
use Rattle.irr_algebra.specs.Field.{Field}
use Rattle.irr_algebra.specs.Fin.{Fin}
use Rattle.irr_algebra.specs.Matrix.{trace}
use Rattle.irr_algebra.specs.Action.{IsSimple}
use Rattle.irr_algebra.proofs.Rings.{mul-zero, mul_left_comm, one-mul, zero-mul}
use Rattle.irr_algebra.proofs.Fields.{inverse-mul, mul-ne-zero, mul_cancel, one-ne-zero, whole-ne-zero}
use Rattle.irr_theory.specs.FactorSystem.{FactorSystem, Representation}
use Rattle.irr_theory.proofs.Inverses.{places-ne-zero}
use Rattle.irr_clifford.specs.Subgroup.{Subgroup}
use Rattle.irr_clifford.specs.Cyclic.{CyclicQuotient}
use Rattle.irr_clifford.specs.FromTraces.{AreExtensionTraces}
use Rattle.irr_clifford.specs.Roots.{number_power}
use Rattle.irr_clifford.proofs.Roots.{number_power-mul, number_power-one}
use Rattle.irr_extension.proofs.CosetProducts.{product_of_three, product_of_two}
use Rattle.irr_extension.proofs.Forced.{forced_by_three, forced_by_two, some_three, some_two, traces_forced}
use Rattle.irr_root.proofs.LowerPowers.{power_one, power_two}
use Rattle.irr_root.specs.ProductSum.{IsProductSum, MeetsProduct}

-- powers of numbers
module _ (F : Field) where
  open F use {ring as R}

  pub power-ne-zero : (x : R.Carrier) → (x ≡ R.zero → ⊥) → (n : ℕ) → number_power R x n ≡ R.zero → ⊥
  unfolding number_power
  power-ne-zero x ne zero = one-ne-zero F
  power-ne-zero x ne (suc n) = mul-ne-zero F x (number_power R x n) ne (power-ne-zero x ne n)

  power-of-zero : (n : ℕ) → number_power R R.zero (suc n) ≡ R.zero
  unfolding number_power
  power-of-zero n = zero-mul R (number_power R R.zero n)

  power-next : (x : R.Carrier) (n : ℕ) → number_power R x (suc n) ≡ R.mul x (number_power R x n)
  unfolding number_power
  power-next x n = refl

module _ (F : Field) {T : FactorSystem F.ring} {H : Subgroup T} (Q : CyclicQuotient H) {d : ℕ} (D : Representation H.table d) (l : 0 < d)
    (simple : IsSimple D.at) (position : Fin T.places → Fin H.table.places) (at_member : (n : Fin H.table.places) → position (H.member n) ≡ n) where
  open F use {ring as R}

  -- the places of the coset, the character, and what the numbers have to meet
  abbrev pub coset_place : Fin H.table.places → Fin T.places
  coset_place n = T.product Q.generator (H.member n)

  abbrev pub IsSum : (n m : Fin H.table.places) → R.Carrier → Type 0
  IsSum n m c = IsProductSum H Q.index (λ k. trace (D.at k)) position (coset_place n) (coset_place m) c

  abbrev pub Meets : ℕ → (r s c : R.Carrier) → Type 0
  Meets q r s c = MeetsProduct R (whole R H.table.places) (whole R d) q r s c

  -- both forms of the law
  from_two : (r s c : R.Carrier) → R.mul (whole R H.table.places) (R.mul r s) ≡ R.mul (whole R d) c → Meets 1 r s c
  from_two r s c e = ap₂ R.mul (power_one R (whole R H.table.places)) (ap (R.mul r) (power_one R s)) ∙ e ∙ sym (ap (λ k. R.mul k c) (power_one R (whole R d)))

  to_two : (r s c : R.Carrier) → Meets 1 r s c → R.mul (whole R H.table.places) (R.mul r s) ≡ R.mul (whole R d) c
  to_two r s c e = sym (ap₂ R.mul (power_one R (whole R H.table.places)) (ap (R.mul r) (power_one R s))) ∙ e ∙ ap (λ k. R.mul k c) (power_one R (whole R d))

  from_three : (r s c : R.Carrier) → R.mul (R.mul (whole R H.table.places) (whole R H.table.places)) (R.mul r (R.mul s s)) ≡ R.mul (R.mul (whole R d) (whole R d)) c
      → Meets 2 r s c
  from_three r s c e = ap₂ R.mul (power_two R (whole R H.table.places)) (ap (R.mul r) (power_two R s)) ∙ e ∙ sym (ap (λ k. R.mul k c) (power_two R (whole R d)))

  to_three : (r s c : R.Carrier) → Meets 2 r s c
      → R.mul (R.mul (whole R H.table.places) (whole R H.table.places)) (R.mul r (R.mul s s)) ≡ R.mul (R.mul (whole R d) (whole R d)) c
  to_three r s c e = sym (ap₂ R.mul (power_two R (whole R H.table.places)) (ap (R.mul r) (power_two R s))) ∙ e ∙ ap (λ k. R.mul k c) (power_two R (whole R d))

  -- no such number is 0
  pub root-ne-zero : (q : ℕ) (s c : R.Carrier) → Meets q s s c → (c ≡ R.zero → ⊥) → s ≡ R.zero → ⊥
  root-ne-zero q s c meets ne z = mul-ne-zero F (number_power R (whole R d) q) c (power-ne-zero F (whole R d) (whole-ne-zero F d l) q) ne
      (sym meets ∙ ap (R.mul (number_power R (whole R H.table.places) q)) (ap (λ x. R.mul x (number_power R s q)) z ∙ zero-mul R (number_power R s q))
      ∙ mul-zero R (number_power R (whole R H.table.places) q))

  module _ (t : Fin H.table.places → F.Carrier) (extension : AreExtensionTraces Q D t) (q : ℕ) (index : Q.index ≡ suc q) where
    pub meets : (q ≡ 1) ⊎ (q ≡ 2) → (n m : Fin H.table.places) (c : R.Carrier) → IsSum n m c → Meets q (t n) (t m) c
    meets (inl e) n m c is =
        let two : Q.index ≡ 2 = index ∙ ap suc e in
        subst (λ k. Meets k (t n) (t m) c) (sym e) (from_two (t n) (t m) c
        (ap₂ (λ a b. R.mul (whole R H.table.places) (R.mul a b)) (sym (extension.trace-coset n)) (sym (extension.trace-coset m))
        ∙ product_of_two F Q D extension.family l simple extension.at-member position at_member two n m ∙ ap (R.mul (whole R d)) (sym (is.two two))))
    meets (inr e) n m c is =
        let three : Q.index ≡ 3 = index ∙ ap suc e in
        subst (λ k. Meets k (t n) (t m) c) (sym e) (from_three (t n) (t m) c
        (ap₂ (λ a b. R.mul (R.mul (whole R H.table.places) (whole R H.table.places)) (R.mul a (R.mul b b))) (sym (extension.trace-coset n)) (sym (extension.trace-coset m))
        ∙ product_of_three F Q D extension.family l simple extension.at-member position at_member three n m
        ∙ ap (R.mul (R.mul (whole R d) (whole R d))) (sym (is.three three))))

    pub some_sum : (q ≡ 1) ⊎ (q ≡ 2) → (m : Fin H.table.places) × ((c : R.Carrier) → IsSum m m c → c ≡ R.zero → ⊥)
    some_sum (inl e) =
        let two : Q.index ≡ 2 = index ∙ ap suc e in
        let m = some_two F Q D l simple t extension position at_member two in
        (m.0, λ c is z. m.1 (sym (is.two two) ∙ z))
    some_sum (inr e) =
        let three : Q.index ≡ 3 = index ∙ ap suc e in
        let m = some_three F Q D l simple t extension position at_member three in
        (m.0, λ c is z. m.1 (sym (is.three three) ∙ z))

    pub chosen : (q ≡ 1) ⊎ (q ≡ 2) → (s c : Fin H.table.places → R.Carrier) (m : Fin H.table.places) → (s m ≡ R.zero → ⊥)
        → ((n : Fin H.table.places) → IsSum n m (c n)) → ((n : Fin H.table.places) → Meets q (s n) (s m) (c n)) → AreExtensionTraces Q D s
    chosen (inl e) s c m ne is same =
        let two : Q.index ≡ 2 = index ∙ ap suc e in
        forced_by_two F Q D l simple t extension position at_member s m ne two (λ n.
        to_two (s n) (s m) (c n) (subst (λ k. Meets k (s n) (s m) (c n)) e (same n)) ∙ ap (R.mul (whole R d)) ((is n).two two))
    chosen (inr e) s c m ne is same =
        let three : Q.index ≡ 3 = index ∙ ap suc e in
        forced_by_three F Q D l simple t extension position at_member s m ne three (λ n.
        to_three (s n) (s m) (c n) (subst (λ k. Meets k (s n) (s m) (c n)) e (same n)) ∙ ap (R.mul (R.mul (whole R d) (whole R d))) ((is n).three three))

    -- what takes t to a family with the trace s at m
    module _ (m : Fin H.table.places) (s : R.Carrier) (s-ne : s ≡ R.zero → ⊥) (same : number_power R s (suc q) ≡ number_power R (t m) (suc q)) where
      t-ne : t m ≡ R.zero → ⊥
      t-ne z = power-ne-zero F s s-ne (suc q) (same ∙ ap (λ x. number_power R x (suc q)) z ∙ power-of-zero F q)

      root : R.Carrier
      root = R.mul s (F.inverse (t m))

      root-power : number_power R root (suc q) ≡ R.one
      unfolding root
      root-power = number_power-mul R s (F.inverse (t m)) (suc q) ∙ ap (λ x. R.mul x (number_power R (F.inverse (t m)) (suc q))) same
          ∙ sym (number_power-mul R (t m) (F.inverse (t m)) (suc q)) ∙ ap (λ x. number_power R x (suc q)) (F.mul-inverse (t m) t-ne) ∙ number_power-one R (suc q)

      root-at : R.mul root (t m) ≡ s
      unfolding root
      root-at = R.mul_assoc s (F.inverse (t m)) (t m) ∙ ap (R.mul s) (inverse-mul F (t m) t-ne) ∙ R.mul-one s

      root-same : (n : Fin H.table.places) → R.mul (R.mul root (t n)) (number_power R (R.mul root (t m)) q) ≡ R.mul (t n) (number_power R (t m) q)
      root-same n = ap (R.mul (R.mul root (t n))) (number_power-mul R root (t m) q) ∙ sorted root (t n) (number_power R root q) (number_power R (t m) q)
          ∙ ap (λ x. R.mul x (R.mul (t n) (number_power R (t m) q))) (sym (power-next F root q) ∙ root-power) ∙ one-mul R (R.mul (t n) (number_power R (t m) q))
        where
          sorted : (r a p b : R.Carrier) → R.mul (R.mul r a) (R.mul p b) ≡ R.mul (R.mul r p) (R.mul a b)
          sorted r a p b = simp (R.mul_assoc, mul_left_comm R)

      with_root : (u : Fin H.table.places → R.Carrier) × AreExtensionTraces Q D u × (u m ≡ s)
      with_root = (
        λ n. R.mul root (t n),
        traces_forced F Q D l simple t extension (λ n. R.mul root (t n)) m (λ z. s-ne (sym root-at ∙ z)) q index root-same,
        root-at,
      )

    pub continued : (q ≡ 1) ⊎ (q ≡ 2) → (m : Fin H.table.places) (s c : R.Carrier) → IsSum m m c → (c ≡ R.zero → ⊥) → Meets q s s c
        → (u : Fin H.table.places → R.Carrier) × AreExtensionTraces Q D u × (u m ≡ s)
    continued small m s c is ne same = with_root m s (root-ne-zero q s c same ne)
        (power-next F s q
        ∙ mul_cancel F (number_power R (whole R H.table.places) q) (R.mul s (number_power R s q)) (R.mul (t m) (number_power R (t m) q)) (power-ne-zero F (whole R H.table.places) (places-ne-zero F H.table) q)
        (same ∙ sym (meets small m m c is))
        ∙ sym (power-next F (t m) q))
