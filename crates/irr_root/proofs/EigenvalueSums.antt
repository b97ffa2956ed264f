-- The eigenvalues at a place of a table of phases, over an order that the table's order divides.
--   counted-at               how often z^e is an eigenvalue, from the traces
--   exponents-at             the exponents of the eigenvalues
use Rattle.std.proofs.Common.{◌≡◌, sym, ◌∙◌, ap, ap₂, refl, subst, ℕ, zero, suc, ◌<◌, ◌≤◌, ◌+◌, ◌-◌, ◌*◌, ◌/◌, ◌%◌, List, length, get_or, slice_index, arith}
use native.Mathlib.Nat as Nat
use Rattle.std.specs.Int.{◌∣◌}
use Rattle.irr_algebra.specs.Fin.{Fin, to_nat}
use Rattle.irr_algebra.specs.Listed.{sum_below}
use Rattle.irr_algebra.specs.Matrix.{trace}
use Rattle.irr_algebra.specs.Ring.{whole}
use Rattle.irr_algebra.proofs.Indices.{to_nat-lt}
use Rattle.irr_algebra.proofs.Listed.{sum-to_nat}
use Rattle.irr_algebra.proofs.Sums.{sum-ext}
use Rattle.irr_algebra.proofs.Whole.{whole-mul}
use Rattle.irr_number.specs.Number.{Number, numbers, root_power}
use Rattle.irr_number.proofs.NumberField.{number_field}
use Rattle.irr_number.proofs.Primes.{cofactor}
use Rattle.irr_theory.specs.FactorSystem.{Representation}
use Rattle.irr_theory.specs.Lifted.{lifted_product}
use Rattle.irr_eigen.specs.Eigenspace.{Occurs}
use Rattle.irr_eigen.specs.Power.{power}
use Rattle.irr_eigen.specs.Step.{at_place, exponent_sum, lifted_power}
use Rattle.irr_space.specs.PhaseTable.{PhaseTable, exponents_below, phases_over, place_power}
use Rattle.irr_rep.proofs.Cycles.{exponents_over}
use Rattle.irr_rep.proofs.PrimitiveRoots.{power-root_power}
use Rattle.irr_root.specs.Eigenvalues.{AreEigenExponents}
use Rattle.irr_root.specs.Powers.{ArePowers, power_trace}
use Rattle.irr_root.specs.Repeated.{AreRepeated}
use Rattle.irr_root.proofs.Candidates.{eigen_exponents, multiplicity-counted}
use Rattle.irr_root.proofs.Counts.{occurs-le}
use Rattle.irr_root.proofs.Phases.{root_power-rest}

pub positive-factor : (N m q : ℕ) → 0 < N → N ≡ m * q → 0 < q
positive-factor N m zero l e = absurd (omega (arith, e, Nat.mul-zero m))
positive-factor N m (suc q) l e = omega arith

term-at : (n N : ℕ) (f : List (Number n)) (places exponents : List ℕ) (e j s k : ℕ) (x u : Number n) → slice_index exponents j ≡ s → slice_index places j ≡ k
    → x ≡ root_power n ((s + (N - e) * j) * (n / N)) → u ≡ get_or f k (numbers n).zero → (numbers n).mul x u ≡ power_trace n N f places exponents e j
unfolding power_trace
term-at n N f places exponents e j s k x u is at p q = ap₂ (numbers n).mul (p ∙ ap (λ i. root_power n ((i + (N - e) * j) * (n / N))) (sym is)) (q ∙ ap (λ i. get_or f i (numbers n).zero) (sym at))

module _ {h : ℕ} (T : PhaseTable h) (n : ℕ) (positive : 0 < n) (v : T.order ∣ n) where
  abbrev pub z : Number n
  z = root_power n (n / T.order)

  same-power : (a b : ℕ) → a % T.order ≡ b % T.order → power (numbers n) z a ≡ power (numbers n) z b
  same-power a b e = power-root_power n (n / T.order) a ∙ sym (root_power-rest T.order n a T.order_positive v)
      ∙ ap (λ k. root_power n (k * (n / T.order))) e
      ∙ root_power-rest T.order n b T.order_positive v ∙ sym (power-root_power n (n / T.order) b)

  module _ (p : Fin h) where
    place-at : (j : ℕ) → (lifted_power (at_place (phases_over T n v) p) j).place ≡ place_power T.start T.product p j
    unfolding lifted_power lifted_product place_power
    place-at zero = refl
    place-at (suc j) = ap (T.product p) (place-at j)

    sum-at : (j : ℕ) → exponent_sum (phases_over T n v) T.exponent p j ≡ exponents_below T.start T.product T.exponent p j
    unfolding exponent_sum exponents_below
    sum-at zero = refl
    sum-at (suc j) = ap₂ (λ a b. a + b) (sum-at j) (ap (T.exponent p) (place-at j))

    module _ {places exponents : List ℕ} {turn : ℕ} (w : ArePowers T p places exponents turn) {d : ℕ} (D : Representation (phases_over T n v) d) where
      turns : (m e : ℕ) → length places ≡ m → m * e % T.order ≡ turn % T.order
          → power (numbers n) z (m * e) ≡ power (numbers n) z (exponent_sum (phases_over T n v) T.exponent p m)
      turns m e is same = same-power (m * e) (exponent_sum (phases_over T n v) T.exponent p m)
          (same ∙ ap (λ k. k % T.order) (w.turn_exponent ∙ ap (exponents_below T.start T.product T.exponent p) is ∙ sym (sum-at m)))

      returns : (m : ℕ) → length places ≡ m → (lifted_power (at_place (phases_over T n v) p) m).place ≡ T.start
      returns m is = place-at m ∙ ap (place_power T.start T.product p) (sym is) ∙ w.is_order.power

      module _ (f : List (Number n)) (reads : (i : Fin h) → get_or f (to_nat i) (numbers n).zero ≡ trace (D.at i)) where
        pub counted-at : (e : ℕ) → e < T.order → length places * e % T.order ≡ turn % T.order
            → (k : ℕ) × Occurs (D.at p) (power (numbers n) z e) k
            × (sum_below (numbers n) (length places) (power_trace n T.order f places exponents e) ≡ whole (numbers n) (length places * k)) × (k ≤ d)
        counted-at e l same = at_length (length places) refl
          where
            at_length : (m : ℕ) → length places ≡ m → (k : ℕ) × Occurs (D.at p) (power (numbers n) z e) k
                × (sum_below (numbers n) (length places) (power_trace n T.order f places exponents e) ≡ whole (numbers n) (length places * k)) × (k ≤ d)
            at_length zero is = absurd (let l : 0 < length places = w.is_order.positive in omega (arith, is, l))
            at_length (suc m) is =
                let q : (q : ℕ) × (T.order ≡ length places * q) = cofactor (length places) T.order (T.order_divides p (length places) w.is_order) in
                let split : T.order ≡ suc m * q.0 = q.1 ∙ ap (λ k. k * q.0) is in
                let o = multiplicity-counted (number_field n positive) T.order z T.exponent (exponents_over T n positive v) T.order_positive D p m (returns (suc m) is) q.0 split
                (positive-factor T.order (suc m) q.0 T.order_positive split) e (let s : e ≤ T.order = omega (arith, l) in s) (turns (suc m) e is (ap (λ k. k * e % T.order) (sym is) ∙ same)) in (
                  o.0,
                  o.1,
                  ap (λ k. sum_below (numbers n) k (power_trace n T.order f places exponents e)) is
                      ∙ sym (sum-to_nat (numbers n) (suc m) (power_trace n T.order f places exponents e))
                      ∙ sym (sum-ext (numbers n) (suc m)
                      (λ j. (numbers n).mul (power (numbers n) z (exponent_sum (phases_over T n v) T.exponent p (to_nat j) + (T.order - e) * to_nat j))
                      (trace (D.at (lifted_power (at_place (phases_over T n v) p) (to_nat j)).place)))
                      (λ j. power_trace n T.order f places exponents e (to_nat j)) (λ j. term j (subst (λ k. to_nat j < k) (sym is) (to_nat-lt j))))
                      ∙ sym o.2 ∙ sym (whole-mul (numbers n) (suc m) o.0) ∙ ap (λ k. whole (numbers n) (k * o.0)) (sym is),
                  occurs-le (number_field n positive) o.1,
                )
              where
                term : (j : Fin (suc m)) → to_nat j < length places
                    → (numbers n).mul (power (numbers n) z (exponent_sum (phases_over T n v) T.exponent p (to_nat j) + (T.order - e) * to_nat j))
                    (trace (D.at (lifted_power (at_place (phases_over T n v) p) (to_nat j)).place)) ≡ power_trace n T.order f places exponents e (to_nat j)
                term j l = term-at n T.order f places exponents e (to_nat j) (exponent_sum (phases_over T n v) T.exponent p (to_nat j))
                    (to_nat (lifted_power (at_place (phases_over T n v) p) (to_nat j)).place) _ _
                    (w.exponent (to_nat j) l ∙ sym (sum-at (to_nat j))) (w.place (to_nat j) l ∙ ap to_nat (sym (place-at (to_nat j))))
                    (power-root_power n (n / T.order) (exponent_sum (phases_over T n v) T.exponent p (to_nat j) + (T.order - e) * to_nat j))
                    (sym (reads (lifted_power (at_place (phases_over T n v) p) (to_nat j)).place))

      pub exponents-at : (r q : ℕ) → r < q → T.order ≡ length places * q → length places * r % T.order ≡ turn % T.order
          → (times es : List ℕ) → length times ≡ length places
          → ((a : ℕ) → a < length places → Occurs (D.at p) (power (numbers n) z (r + a * q)) (slice_index times a)) → AreRepeated r q times es
          → AreEigenExponents T.order z (D.at p) es
      exponents-at r q small split same times es all occur listed = at_length (length places) refl
        where
          at_length : (m : ℕ) → length places ≡ m → AreEigenExponents T.order z (D.at p) es
          at_length zero is = absurd (let l : 0 < length places = w.is_order.positive in omega (arith, is, l))
          at_length (suc m) is =
              let split' : T.order ≡ suc m * q = split ∙ ap (λ k. k * q) is in
              eigen_exponents (number_field n positive) T.order z T.exponent (exponents_over T n positive v) T.order_positive D p m (returns (suc m) is) q split'
              (positive-factor T.order (suc m) q T.order_positive split') r small (turns (suc m) r is (ap (λ k. k * r % T.order) (sym is) ∙ same))
              times es (all ∙ is) (λ a l. occur a (subst (λ k. a < k) (sym is) l)) listed
