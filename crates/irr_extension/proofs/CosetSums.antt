-- The trace of an extension at a place of the coset of the generator as a sum of roots, from the family on the subgroup.
--   coset_top: the member at which the power of the place by the index stands
--   coset_sum: the sum of roots by exponents
--   coset_multiplicity: the sums of the character are numbers of times
--   coset_character_sum: by exponents that the character of the family on the subgroup tells
use Rattle.std.proofs.Common.{◌≡◌, sym, ap, subst, ℕ, ◌<◌, ◌*◌, ◌/◌, List, All}
use Rattle.irr_algebra.specs.Ring.{Ring, whole}
use Rattle.irr_algebra.specs.Field.{Field}
use Rattle.irr_algebra.specs.Fin.{Fin}
use Rattle.irr_algebra.specs.Matrix.{scale, trace}
use Rattle.irr_theory.specs.FactorSystem.{FactorSystem, Representation}
use Rattle.irr_theory.specs.Lifted.{lifted}
use Rattle.irr_eigen.specs.Power.{power}
use Rattle.irr_eigen.specs.Eigenspace.{Occurs}
use Rattle.irr_eigen.specs.Step.{HasExponents, at_place, exponent_sum, lifted_power, restricted, top_matrix}
use Rattle.irr_clifford.specs.Subgroup.{Subgroup}
use Rattle.irr_clifford.specs.Cyclic.{CyclicQuotient}
use Rattle.irr_clifford.specs.FromTraces.{AreExtensionTraces}
use Rattle.irr_clifford.proofs.Split.{index-positive}
use Rattle.irr_extension.specs.Coset.{subtable_of}
use Rattle.irr_extension.specs.Exponents.{AddsUpRoots, times_in}
use Rattle.irr_extension.specs.Occurrence.{occurrence_sum, power_at}
use Rattle.irr_extension.proofs.Cosets.{coset-generator, coset-outside, coset-power, coset-whole}
use Rattle.irr_extension.proofs.ExponentSums.{exponent_sum_of_roots}
use Rattle.irr_extension.proofs.PlaceCharacters.{place_character_sum, place_multiplicity}

pub coset_top : {R : Ring} {T : FactorSystem R} {H : Subgroup T} (Q : CyclicQuotient H) (k : Fin H.table.places)
    → (top : Fin H.table.places) × (H.member top ≡ (lifted_power (at_place T (T.product Q.generator (H.member k))) Q.index).place)
coset_top {R} {T} {H} Q k =
    let x : Fin T.places = T.product Q.generator (H.member k) in
    let v = coset-whole Q (lifted_power (at_place T x) Q.index).place (coset-power Q x (coset-generator Q k) Q.index) in
    (v.0, sym v.1)

-- the matrix of the power is that of the family on the subgroup
extension-top : {R : Ring} {T : FactorSystem R} (H : Subgroup T) {d : ℕ} (D : Representation H.table d) (E : Representation T d)
    → ((n : Fin H.table.places) → E.at (H.member n) ≡ D.at n) → (x : Fin T.places) (p : ℕ) (top : Fin H.table.places)
    → top_matrix T (restricted (subtable_of H) E) x p top ≡ top_matrix T D x p top
unfolding lifted restricted
extension-top {R} {T} H D E extends x p top = ap (scale R (lifted_power (at_place T x) p).number) (extends top)

pub coset_sum : (F : Field) {T : FactorSystem F.ring} {H : Subgroup T} (Q : CyclicQuotient H) {d : ℕ} (D : Representation H.table d)
    (t : Fin H.table.places → F.Carrier)
    → AreExtensionTraces Q D t → (k top : Fin H.table.places) → H.member top ≡ (lifted_power (at_place T (T.product Q.generator (H.member k))) Q.index).place
    → (order : ℕ) (z : F.Carrier) (exponent : Fin T.places → Fin T.places → ℕ) (n q y : ℕ) → HasExponents T order z exponent → 0 < n → 0 < q → order ≡ n * q
    → (lifted_power (at_place T (T.product Q.generator (H.member k))) n).place ≡ T.start
    → exponent_sum T exponent (T.product Q.generator (H.member k)) n ≡ n * y
    → (es : List ℕ) → All (λ e. e < order) es
    → ((a : ℕ) → a < order → Occurs (top_matrix T D (T.product Q.generator (H.member k)) Q.index top) (power F.ring z a) (times_in a es))
    → (order / Q.index * Q.index ≡ order) × AddsUpRoots F.ring z Q.index (order / Q.index) es (t k)
coset_sum F {T} {H} Q {d} D t extension k top in-s order z exponent n q y has n-pos q-pos n-order back sum es below occurs =
    let x : Fin T.places = T.product Q.generator (H.member k) in
    subst (λ s. (order / Q.index * Q.index ≡ order) × AddsUpRoots F.ring z Q.index (order / Q.index) es s) (extension.trace-coset k)
    (exponent_sum_of_roots F (subtable_of H) extension.family x Q.index top (index-positive Q) in-s (coset-outside Q x (coset-generator Q k))
    order z exponent n q y has n-pos q-pos n-order back sum es below
    (λ a l. subst (λ v. Occurs v (power F.ring z a) (times_in a es)) (sym (extension-top H D extension.family extension.at-member x Q.index top)) (occurs a l)))

pub coset_character_sum : (F : Field) {T : FactorSystem F.ring} {H : Subgroup T} (Q : CyclicQuotient H) {d : ℕ} (D : Representation H.table d)
    (t : Fin H.table.places → F.Carrier) → AreExtensionTraces Q D t
    → (k top : Fin H.table.places) → H.member top ≡ (lifted_power (at_place T (T.product Q.generator (H.member k))) Q.index).place
    → (order : ℕ) (z : F.Carrier) (exponent : Fin T.places → Fin T.places → ℕ) (n q y : ℕ) → HasExponents T order z exponent → 0 < n → 0 < q → order ≡ n * q
    → (lifted_power (at_place T (T.product Q.generator (H.member k))) n).place ≡ T.start
    → exponent_sum T exponent (T.product Q.generator (H.member k)) n ≡ n * y
    → (es : List ℕ) → All (λ e. (e < order) × (e / Q.index * Q.index ≡ e)) es
    → ((i : ℕ) → i < order / Q.index → F.mul (whole F.ring (order / Q.index)) (whole F.ring (times_in (i * Q.index) es))
    ≡ occurrence_sum H.table (λ l. trace (D.at l)) (power_at T (T.product Q.generator (H.member k)) Q.index top) z Q.index (order / Q.index) i)
    → AddsUpRoots F.ring z Q.index (order / Q.index) es (t k)
coset_character_sum F {T} {H} Q {d} D t extension k top in-s order z exponent n q y has n-pos q-pos n-order back sum es below counts =
    let x : Fin T.places = T.product Q.generator (H.member k) in
    subst (λ s. AddsUpRoots F.ring z Q.index (order / Q.index) es s) (extension.trace-coset k)
    (place_character_sum F (subtable_of H) D extension.family extension.at-member x Q.index top (index-positive Q) in-s
    (coset-outside Q x (coset-generator Q k)) order z exponent n q y has n-pos q-pos n-order back sum es below counts)

pub coset_multiplicity : (F : Field) {T : FactorSystem F.ring} {H : Subgroup T} (Q : CyclicQuotient H) {d : ℕ} (D : Representation H.table d)
    (t : Fin H.table.places → F.Carrier) → AreExtensionTraces Q D t
    → (k top : Fin H.table.places) → H.member top ≡ (lifted_power (at_place T (T.product Q.generator (H.member k))) Q.index).place
    → (order : ℕ) (z : F.Carrier) (exponent : Fin T.places → Fin T.places → ℕ) (n q y : ℕ) → HasExponents T order z exponent → 0 < n → 0 < q → order ≡ n * q
    → (lifted_power (at_place T (T.product Q.generator (H.member k))) n).place ≡ T.start
    → exponent_sum T exponent (T.product Q.generator (H.member k)) n ≡ n * y
    → (i : ℕ) → i < order / Q.index → (times : ℕ) × (F.mul (whole F.ring (order / Q.index)) (whole F.ring times)
    ≡ occurrence_sum H.table (λ l. trace (D.at l)) (power_at T (T.product Q.generator (H.member k)) Q.index top) z Q.index (order / Q.index) i)
coset_multiplicity F {T} {H} Q {d} D t extension k top in-s order z exponent n q y has n-pos q-pos n-order back sum =
    let x : Fin T.places = T.product Q.generator (H.member k) in
    place_multiplicity F (subtable_of H) D extension.family extension.at-member x Q.index top (index-positive Q) in-s
    (coset-outside Q x (coset-generator Q k)) order z exponent n q y has n-pos q-pos n-order back sum
