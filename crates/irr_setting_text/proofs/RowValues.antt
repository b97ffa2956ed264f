-- The values of three and of nine fractions over their least common denominator.
--   divide_more                     a multiple of a number that the denominators divide
--   three_values, nine_values       the numerators over the denominator are the values
--   three_lowest, nine_lowest       over the least common denominator they are in lowest terms
--   three_beyond, nine_beyond       where the least common denominator is beyond the limit there is no other one
--   rows_within                     the size of the numerators
use Rattle.std.proofs.Common.{◌≡◌, sym, ◌∙◌, ℕ, ◌<◌, ◌≤◌, ◌*◌, ◌^◌, List, [], ◌∷◌, slice_index_or, ℤ, pos, unsigned_abs, arith}
use Rattle.std.specs.Int.{◌∣◌}
use native.Mathlib.Nat as Nat
use Rattle.irr_algebra.specs.Fin.{Fin, to_nat}
use Rattle.irr_algebra.specs.Fin.Fin.{first, next}
use Rattle.irr_rational.specs.Rational.{ratio}
use Rattle.irr_rational.specs.Ratio.{AreLowest, IsLowest, entry}
use Rattle.irr_rat.proofs.CommonDenominators.{denominator_divides}
use Rattle.irr_rat.proofs.Vectors.{each_of_three}
use Rattle.irr_seitz.specs.Rotation.{rotation_of, IsWithin}
use Rattle.irr_seitz.specs.OperationMeaning.{AreWithin}
use Rattle.irr_token.specs.Quotient.{quotient_value}
use Rattle.irr_token.specs.Reading.{written_quotient}
use Rattle.irr_setting_text.specs.declared.row.Row.{Row}
use Rattle.irr_setting_text.specs.declared.row.Rows.{Rows}
use Rattle.irr_setting_text.specs.declared.values.Fractions.{Fractions}
use Rattle.irr_setting_text.specs.SettingFault.{value_at, AreValues, HasCommonDenominator, row_by_row}
use Rattle.irr_setting_text.specs.LineReading.{written_row, written_rows, AreFractionsOf, AreSmall, Divide, DivideAll, AreNumerators, IsLeast}
use Rattle.irr_setting_text.proofs.LeastDenominators.{lowest_over_least}

pub divide_more : (f : Fractions) (k l : ℕ) → k ∣ l → Divide f k → Divide f l
divide_more f k l v d = (Nat.dvd_trans f.x.den d.0 v, Nat.dvd_trans f.y.den d.1 v, Nat.dvd_trans f.z.den d.2 v)

pub small_of : (m : ℕ) (f : Fractions) (r : Row) → AreFractionsOf m f r → AreSmall m f
small_of m f r h = ((h.x.lowest, h.x.small), (h.y.lowest, h.y.small), (h.z.lowest, h.z.small))

abbrev of_three : {A : Type 0} → A → A → A → Fin 3 → A
of_three x y z first = x
of_three x y z (next first) = y
of_three x y z (next (next first)) = z
of_three x y z (next (next (next i))) = x

abbrev of_nine : {A : Type 0} → (a b c d e f g h i : A) → Fin 9 → A
of_nine a b c d e f g h i first = a
of_nine a b c d e f g h i (next first) = b
of_nine a b c d e f g h i (next (next first)) = c
of_nine a b c d e f g h i (next (next (next first))) = d
of_nine a b c d e f g h i (next (next (next (next first)))) = e
of_nine a b c d e f g h i (next (next (next (next (next first))))) = f
of_nine a b c d e f g h i (next (next (next (next (next (next first)))))) = g
of_nine a b c d e f g h i (next (next (next (next (next (next (next first))))))) = h
of_nine a b c d e f g h i (next (next (next (next (next (next (next (next j)))))))) = i

each_of_nine : (P : Fin 9 → Type 0) → P first → P (next first) → P (next (next first)) → P (next (next (next first))) → P (next (next (next (next first))))
    → P (next (next (next (next (next first))))) → P (next (next (next (next (next (next first))))))
    → P (next (next (next (next (next (next (next first))))))) → P (next (next (next (next (next (next (next (next first)))))))) → (i : Fin 9) → P i
each_of_nine P a b c d e f g h i first = a
each_of_nine P a b c d e f g h i (next first) = b
each_of_nine P a b c d e f g h i (next (next first)) = c
each_of_nine P a b c d e f g h i (next (next (next first))) = d
each_of_nine P a b c d e f g h i (next (next (next (next first)))) = e
each_of_nine P a b c d e f g h i (next (next (next (next (next first))))) = f
each_of_nine P a b c d e f g h i (next (next (next (next (next (next first)))))) = g
each_of_nine P a b c d e f g h i (next (next (next (next (next (next (next first))))))) = h
each_of_nine P a b c d e f g h i (next (next (next (next (next (next (next (next first)))))))) = i
each_of_nine P a b c d e f g h i (next (next (next (next (next (next (next (next (next j))))))))) = elim j [ ]

pub three_values : (m : ℕ) (f : Fractions) (r : Row) (num : List ℤ) (den : ℕ) → AreFractionsOf m f r → AreNumerators f num den → AreValues {n = 3} (written_row r) (entry num) den
unfolding to_nat
three_values m f r num den h g = each_of_three (λ i. ratio (entry {n = 3} num i) den ≡ value_at (written_row r) (to_nat i)) (g.0 ∙ h.x.value) (g.1 ∙ h.y.value) (g.2 ∙ h.z.value)

pub three_lowest : (m : ℕ) (f : Fractions) (num : List ℤ) (den : ℕ) → AreSmall m f → AreNumerators f num den → IsLeast (Divide f) den → AreLowest {n = 3} (entry num) den
three_lowest m f num den h g least = lowest_over_least {n = 3} (of_three f.x.num f.y.num f.z.num) (of_three f.x.den f.y.den f.z.den) (entry num) den
    (each_of_three (λ i. IsLowest (of_three f.x.num f.y.num f.z.num i) (of_three f.x.den f.y.den f.z.den i)) h.0.0 h.1.0 h.2.0)
    (each_of_three (λ i. ratio (entry {n = 3} num i) den ≡ ratio (of_three f.x.num f.y.num f.z.num i) (of_three f.x.den f.y.den f.z.den i)) g.0 g.1 g.2)
    least.positive (λ k each. least.least k (each first, each (next first), each (next (next first))))

-- the denominators of a row divide each common one
divide_common : (m : ℕ) (f : Fractions) (r : Row) (x y z : ℤ) (den : ℕ) → AreFractionsOf m f r → 0 < den → ratio x den ≡ quotient_value (written_quotient r.x)
    → ratio y den ≡ quotient_value (written_quotient r.y) → ratio z den ≡ quotient_value (written_quotient r.z) → Divide f den
divide_common m f r x y z den h p ex ey ez = (
  denominator_divides f.x.num x f.x.den den h.x.lowest p (ex ∙ sym h.x.value),
  denominator_divides f.y.num y f.y.den den h.y.lowest p (ey ∙ sym h.y.value),
  denominator_divides f.z.num z f.z.den den h.z.lowest p (ez ∙ sym h.z.value),
)

pub three_beyond : (m : ℕ) (f : Fractions) (r : Row) → AreFractionsOf m f r → ((k : ℕ) → 0 < k → Divide f k → m < k) → HasCommonDenominator m 3 (written_row r) → ⊥
unfolding to_nat
three_beyond m f r h none c =
    let beyond : m < c.den = none c.den c.lowest.positive (divide_common m f r (c.num first) (c.num (next first)) (c.num (next (next first))) c.den h c.lowest.positive
    (c.values first) (c.values (next first)) (c.values (next (next first)))) in
    let within : c.den ≤ m = c.within in
    omega (arith, beyond, within)

module _ (m : ℕ) (f g h : Fractions) (r : Rows) (p : AreFractionsOf m f r.first) (q : AreFractionsOf m g r.second) (s : AreFractionsOf m h r.third) where
  abbrev nums : Fin 9 → ℤ
  nums = of_nine f.x.num f.y.num f.z.num g.x.num g.y.num g.z.num h.x.num h.y.num h.z.num

  abbrev dens : Fin 9 → ℕ
  dens = of_nine f.x.den f.y.den f.z.den g.x.den g.y.den g.z.den h.x.den h.y.den h.z.den

  pub nine_values : (num : List (List ℤ)) (den : ℕ) → AreNumerators f (slice_index_or num 0 []) den → AreNumerators g (slice_index_or num 1 []) den
      → AreNumerators h (slice_index_or num 2 []) den → AreValues {n = 9} (written_rows r) (row_by_row num) den
  unfolding to_nat
  nine_values num den a b c = each_of_nine (λ i. ratio (row_by_row num i) den ≡ value_at (written_rows r) (to_nat i))
      (a.0 ∙ p.x.value) (a.1 ∙ p.y.value) (a.2 ∙ p.z.value) (b.0 ∙ q.x.value) (b.1 ∙ q.y.value) (b.2 ∙ q.z.value) (c.0 ∙ s.x.value) (c.1 ∙ s.y.value) (c.2 ∙ s.z.value)

  pub nine_lowest : (num : List (List ℤ)) (den : ℕ) → AreNumerators f (slice_index_or num 0 []) den → AreNumerators g (slice_index_or num 1 []) den
      → AreNumerators h (slice_index_or num 2 []) den → IsLeast (DivideAll f g h) den → AreLowest {n = 9} (row_by_row num) den
  unfolding to_nat
  nine_lowest num den a b c least = lowest_over_least {n = 9} nums dens (row_by_row num) den
      (each_of_nine (λ i. IsLowest (nums i) (dens i)) p.x.lowest p.y.lowest p.z.lowest q.x.lowest q.y.lowest q.z.lowest s.x.lowest s.y.lowest s.z.lowest)
      (each_of_nine (λ i. ratio (row_by_row num i) den ≡ ratio (nums i) (dens i)) a.0 a.1 a.2 b.0 b.1 b.2 c.0 c.1 c.2)
      least.positive (λ k each. least.least k (
        (each first, each (next first), each (next (next first))),
        (each (next (next (next first))), each (next (next (next (next first)))), each (next (next (next (next (next first)))))),
        (
          each (next (next (next (next (next (next first)))))),
          each (next (next (next (next (next (next (next first))))))),
          each (next (next (next (next (next (next (next (next first)))))))),
        ),
      ))

  pub nine_beyond : ((k : ℕ) → 0 < k → DivideAll f g h k → m < k) → HasCommonDenominator m 9 (written_rows r) → ⊥
  unfolding to_nat
  nine_beyond none c =
      let at = c.values in
      let some : 0 < c.den = c.lowest.positive in
      let beyond : m < c.den = none c.den some (
        divide_common m f r.first (c.num first) (c.num (next first)) (c.num (next (next first))) c.den p some (at first) (at (next first)) (at (next (next first))),
        divide_common m g r.second (c.num (next (next (next first)))) (c.num (next (next (next (next first))))) (c.num (next (next (next (next (next first)))))) c.den q some
            (at (next (next (next first)))) (at (next (next (next (next first))))) (at (next (next (next (next (next first)))))),
        divide_common m h r.third (c.num (next (next (next (next (next (next first))))))) (c.num (next (next (next (next (next (next (next first))))))))
            (c.num (next (next (next (next (next (next (next (next first))))))))) c.den s some (at (next (next (next (next (next (next first)))))))
            (at (next (next (next (next (next (next (next first)))))))) (at (next (next (next (next (next (next (next (next first))))))))),
      ) in
      let within : c.den ≤ m = c.within in
      omega (arith, beyond, within)

pub rows_within : (a b c : List ℤ) (den : ℕ) → den ≤ 100 → AreWithin (100 * den) a → AreWithin (100 * den) b → AreWithin (100 * den) c
    → IsWithin (10 ^ 4) (rotation_of (a ∷ b ∷ c ∷ []))
unfolding rotation_of to_nat
rows_within a b c den le p q s = each_of_three (λ i. (j : Fin 3) → unsigned_abs (slice_index_or (slice_index_or (a ∷ b ∷ c ∷ []) (to_nat i) []) (to_nat j) (pos 0)) ≤ 10000)
    (λ j. let k : unsigned_abs (entry {n = 3} a j) ≤ 100 * den = p j in omega (arith, k))
    (λ j. let k : unsigned_abs (entry {n = 3} b j) ≤ 100 * den = q j in omega (arith, k))
    (λ j. let k : unsigned_abs (entry {n = 3} c j) ≤ 100 * den = s j in omega (arith, k))
