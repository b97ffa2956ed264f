-- What a step with a simple family that is equivalent to its conjugate (`IsChoice`) gives.
--   index-after, one-or-two  the index, and the power p - 1
--   inner-positive           there is a member
--   members-below, positions-below, row-small, own-character, numbered     what the calls on its lists ask
--   some-extension           the family has an extension
--   sum-unique               the sum of its character is one number
--   some-sum                 one of the sums for a member with itself is not 0
--   target-zero, target-not-zero     so is its multiple
--   coset-lt, coset-number   the place g n
--   solution-exists          the trace of each extension solves the equation that the search solves
--   trace-of, trace-unique   a solution is the trace; there is one
--   target-of                a target from the program's numbers
--   trace-meets              the traces of each extension have the products that the sums say
--   first-continued          a number with the power that the sum says is the trace of an extension
--   all-chosen               numbers with the products that the sums say are the traces of an extension
use Rattle.std.proofs.Common.{◌≡◌, sym, ◌∙◌, ap, ap₂, subst, ℕ, suc, ◌<◌, ◌-◌, ◌^◌, ◌⊎◌, inl, inr, List, slice_index, All, arith}
use Rattle.std.proofs.lemmas.List.Elements.{All-from_get_or}
use Rattle.irr_algebra.specs.Ring.{whole}
use Rattle.irr_algebra.specs.Field.{Field}
use Rattle.irr_algebra.specs.Fin.{Fin, to_nat}
use Rattle.irr_algebra.specs.Matrix.{trace}
use Rattle.irr_algebra.proofs.Fields.{mul-ne-zero, mul_cancel, whole-ne-zero}
use Rattle.irr_algebra.proofs.Indices.{from_nat, to_nat-from_nat, to_nat-lt}
use Rattle.irr_algebra.proofs.Rings.{mul-zero}
use Rattle.irr_number.specs.Number.{Number, numbers}
use Rattle.irr_number.proofs.NumberField.{number_field}
use Rattle.irr_clifford.specs.FromTraces.{AreExtensionTraces}
use Rattle.irr_clifford.specs.Roots.{number_power}
use Rattle.irr_space.specs.PhaseTable.{PhaseTable}
use Rattle.irr_char.specs.Characters.{IsSmallRow}
use Rattle.irr_char.proofs.ScalarProducts.{small_row}
use Rattle.irr_level.proofs.ScalarRoots.{extension_exists}
use Rattle.irr_level.proofs.TableLevels.{cycles}
use Rattle.irr_root.specs.Characters.{IsCharacter}
use Rattle.irr_root.specs.Choice.{IsChoice, IsSumAt, IsTarget, IsTraceAt}
use Rattle.irr_root.specs.CyclicStep.{AreNumbered, coset_place, step_subgroup}
use Rattle.irr_root.specs.ProductSum.{IsProductSum, MeetsProduct}
use Rattle.irr_root.proofs.WholeNumbers.{whole_power}
use Rattle.irr_root.proofs.Choices.{chosen, continued, meets, power-ne-zero, root-ne-zero, some_sum}

one_or_two : (p : ℕ) → (p ≡ 2) ⊎ (p ≡ 3) → (p - 1 ≡ 1) ⊎ (p - 1 ≡ 2)
one_or_two p (inl e) = inl (omega (arith, e))
one_or_two p (inr e) = inr (omega (arith, e))

after : (p : ℕ) → (p ≡ 2) ⊎ (p ≡ 3) → p ≡ suc (p - 1)
after p (inl e) = omega (arith, e)
after p (inr e) = omega (arith, e)

positive_of : {k : ℕ} → Fin k → 0 < k
positive_of i = let l = to_nat-lt i in omega (arith, l)

module _ {S : Type 0} {h k : ℕ} {order : S → ℕ} {value : (n : ℕ) → S → Number n} {M : ℕ} {T : PhaseTable h} {K : PhaseTable k} {members : List ℕ}
    {p g d : ℕ} {positions : List ℕ} {row : List S} (c : IsChoice order value M T K members p g d positions row) where
  abbrev pub field : Field
  field = number_field M c.step.positive

  pub index-after : c.step.quotient.index ≡ suc (p - 1)
  index-after = c.step.index ∙ after p c.step.two_or_three

  pub one-or-two : (p - 1 ≡ 1) ⊎ (p - 1 ≡ 2)
  one-or-two = one_or_two p c.step.two_or_three

  pub inner-positive : 0 < k
  inner-positive = positive_of K.start

  pub member-lt : (i : ℕ) → i < k → slice_index members i < h
  member-lt i l = subst (λ a. a < h) (sym (c.step.member (from_nat k i l))
      ∙ ap (slice_index members) (to_nat-from_nat k i l)) (to_nat-lt (c.step.part.place (from_nat k i l)))

  pub members-below : All (λ a. a < h) members
  members-below = All-from_get_or (λ a. a < h) members 0 (λ i l. member-lt i (subst (λ s. i < s) c.step.count l))

  pub generator-lt : g < h
  generator-lt = subst (λ a. a < h) c.step.generator (to_nat-lt c.step.quotient.generator)

  position-lt : (i : ℕ) → i < h → slice_index positions i < k
  position-lt i l = subst (λ a. a < k) (sym (c.placed (from_nat h i l))
      ∙ ap (slice_index positions) (to_nat-from_nat h i l)) (to_nat-lt (c.position (from_nat h i l)))

  pub positions-below : All (λ q. q < k) positions
  positions-below = All-from_get_or (λ q. q < k) positions 0 (λ i l. position-lt i (subst (λ s. i < s) c.all_placed l))

  pub row-small : IsSmallRow order value M k row
  row-small = small_row K M c.step.positive c.step.inner_divides order value c.family row c.traces.few c.traces.is_row

  pub own-character : IsCharacter order value K row
  own-character = record { n = M; divides = c.step.inner_divides; size = d; few = c.traces.few; representation = c.family; is_row = c.traces.is_row }

  pub numbered : AreNumbered c.step positions
  numbered n = c.placed (c.step.part.place n) ∙ ap to_nat (c.at_member n)

  pub some-extension : (u : Fin k → Number M) × AreExtensionTraces c.step.quotient c.family u
  some-extension =
      let small : (c.step.quotient.index ≡ 2) ⊎ (c.step.quotient.index ≡ 3) = subst (λ i. (i ≡ 2) ⊎ (i ≡ 3)) (sym c.step.index) c.step.two_or_three in
      let e = extension_exists (number_field M c.step.positive) c.step.quotient c.family c.fixed.positive small c.fixed.simple
      (cycles T M c.step.divides c.step.positive) c.fixed.fixed in (
        λ n. trace (e.2.0.at (coset_place c.step n)),
        record { family = e.2.0; at-member = e.2.1.at-member; trace-coset = λ n. λ i. trace (e.2.0.at (coset_place c.step n)) },
      )

  pub sum-unique : (n m : Fin k) (x y : Number M) → IsSumAt c n m x → IsSumAt c n m y → x ≡ y
  sum-unique n m x y a b = cases (subst (λ i. (i ≡ 2) ⊎ (i ≡ 3)) (sym c.step.index) c.step.two_or_three)
    where
      cases : (c.step.quotient.index ≡ 2) ⊎ (c.step.quotient.index ≡ 3) → x ≡ y
      cases (inl e) = a.two e ∙ sym (b.two e)
      cases (inr e) = a.three e ∙ sym (b.three e)

  pub trace-meets : (u : Fin k → Number M) → AreExtensionTraces c.step.quotient c.family u → (n m : Fin k) (x : Number M) → IsSumAt c n m x
      → MeetsProduct (numbers M) (whole (numbers M) k) (whole (numbers M) d) (p - 1) (u n) (u m) x
  trace-meets u extension n m x is = meets
      (number_field M c.step.positive) c.step.quotient c.family c.fixed.positive c.fixed.simple c.position c.at_member
      u extension (p - 1) index-after one-or-two n m x is

  pub some-sum : (m : Fin k) × ((x : Number M) → IsSumAt c m m x → x ≡ (numbers M).zero → ⊥)
  some-sum = some_sum (number_field M c.step.positive) c.step.quotient c.family c.fixed.positive c.fixed.simple c.position c.at_member
      some-extension.0 some-extension.1 (p - 1) index-after one-or-two

  -- the multiple is 0 where the sum is
  pub target-zero : (n m : Fin k) (r : Number M) → IsTarget c n m r → (x : Number M) → IsSumAt c n m x → x ≡ (numbers M).zero → r ≡ (numbers M).zero
  target-zero n m r t x is z = t.product
      ∙ ap ((numbers M).mul (number_power (numbers M) (whole (numbers M) d) (p - 1))) (sum-unique n m t.total x t.is_sum is ∙ z)
      ∙ mul-zero (numbers M) (number_power (numbers M) (whole (numbers M) d) (p - 1))

  pub target-not-zero : (n m : Fin k) (r : Number M) → IsTarget c n m r → ((x : Number M) → IsSumAt c n m x → x ≡ (numbers M).zero → ⊥)
      → r ≡ (numbers M).zero → ⊥
  target-not-zero n m r t ne z = mul-ne-zero (number_field M c.step.positive) (number_power (numbers M) (whole (numbers M) d) (p - 1)) t.total
      (power-ne-zero (number_field M c.step.positive) (whole (numbers M) d) (whole-ne-zero (number_field M c.step.positive) d c.fixed.positive)
      (p - 1))
      (ne t.total t.is_sum) (sym t.product ∙ z)

  pub first-continued : (m : Fin k) (s : Number M) → IsTraceAt c s m m s → ((x : Number M) → IsSumAt c m m x → x ≡ (numbers M).zero → ⊥)
      → (u : Fin k → Number M) × AreExtensionTraces c.step.quotient c.family u × (u m ≡ s)
  first-continued m s t ne = continued (number_field M c.step.positive) c.step.quotient c.family c.fixed.positive c.fixed.simple c.position
      c.at_member
      some-extension.0 some-extension.1 (p - 1) index-after one-or-two m s t.total t.is_sum (ne t.total t.is_sum) t.meets

  pub first-not-zero : (m : Fin k) (s : Number M) → IsTraceAt c s m m s → ((x : Number M) → IsSumAt c m m x → x ≡ (numbers M).zero → ⊥)
      → s ≡ (numbers M).zero → ⊥
  first-not-zero m s t ne = root-ne-zero (number_field M c.step.positive) c.step.quotient c.family c.fixed.positive c.fixed.simple c.position
      c.at_member
      (p - 1) s t.total t.meets (ne t.total t.is_sum)

  pub all-chosen : (m : Fin k) (s : Fin k → Number M) → (s m ≡ (numbers M).zero → ⊥) → ((n : Fin k) → IsTraceAt c (s m) n m (s n))
      → AreExtensionTraces c.step.quotient c.family s
  all-chosen m s ne all = chosen (number_field M c.step.positive) c.step.quotient c.family c.fixed.positive c.fixed.simple c.position c.at_member
      some-extension.0 some-extension.1 (p - 1) index-after one-or-two s (λ n. (all n).total) m ne (λ n. (all n).is_sum) (λ n. (all n).meets)

  pub coset-lt : (n : Fin k) (x : ℕ) → to_nat (coset_place c.step n) ≡ x → x < h
  coset-lt n x e = subst (λ a. a < h) e (to_nat-lt (coset_place c.step n))

  -- the place g n by the table's products
  pub coset-number : (n : Fin k) (i a x : ℕ) → to_nat n ≡ i → slice_index members i ≡ a
      → ((u v : Fin h) → to_nat u ≡ g → to_nat v ≡ a → x ≡ to_nat (T.product u v)) → to_nat (coset_place c.step n) ≡ x
  coset-number n i a x e at product =
      sym (product c.step.quotient.generator (c.step.part.place n) c.step.generator (sym (c.step.member n) ∙ ap (slice_index members) e ∙ at))

  pub solution-exists : (u : Fin k → Number M) → AreExtensionTraces c.step.quotient c.family u → (n m : Fin k) (f w r : Number M)
      → f ≡ number_power (numbers M) (whole (numbers M) k) (p - 1) → w ≡ number_power (numbers M) (u m) (p - 1) → IsTarget c n m r
      → (numbers M).mul f ((numbers M).mul (u n) w) ≡ r
  solution-exists u extension n m f w r ef ew t =
      ap₂ (λ a b. (numbers M).mul a ((numbers M).mul (u n) b)) ef ew ∙ trace-meets u extension n m t.total t.is_sum ∙ sym t.product

  pub trace-of : (n m : Fin k) (s f w r goal : Number M)
      → f ≡ number_power (numbers M) (whole (numbers M) k) (p - 1) → w ≡ number_power (numbers M) s (p - 1) → IsTarget c n m goal
      → (numbers M).mul f ((numbers M).mul r w) ≡ goal → IsTraceAt c s n m r
  trace-of n m s f w r goal ef ew t e = record {
    total = t.total;
    is_sum = t.is_sum;
    meets = sym (ap₂ (λ a b. (numbers M).mul a ((numbers M).mul r b)) ef ew) ∙ e ∙ t.product;
  }

  pub trace-unique : (n m : Fin k) (s r q : Number M) → (s ≡ (numbers M).zero → ⊥) → IsTraceAt c s n m r → IsTraceAt c s n m q → r ≡ q
  trace-unique n m s r q ne a b =
      mul_cancel (number_field M c.step.positive) (number_power (numbers M) s (p - 1)) r q (power-ne-zero (number_field M c.step.positive) s ne
      (p - 1))
      ((numbers M).mul_comm (number_power (numbers M) s (p - 1)) r
      ∙ mul_cancel (number_field M c.step.positive) (number_power (numbers M) (whole (numbers M) k) (p - 1))
      ((numbers M).mul r (number_power (numbers M) s (p - 1))) ((numbers M).mul q (number_power (numbers M) s (p - 1)))
      (power-ne-zero (number_field M c.step.positive) (whole (numbers M) k) (whole-ne-zero (number_field M c.step.positive) k inner-positive) (p - 1))
      (a.meets ∙ ap ((numbers M).mul (number_power (numbers M) (whole (numbers M) d) (p - 1))) (sum-unique n m a.total b.total a.is_sum b.is_sum)
      ∙ sym b.meets)
      ∙ (numbers M).mul_comm q (number_power (numbers M) s (p - 1)))

  pub target-of : (n m : Fin k) (f x r : Number M) (b : ℕ) → IsProductSum (step_subgroup c.step) p (λ i. trace (c.family.at i)) c.position
      (coset_place c.step n) (coset_place c.step m) x
      → b ≡ d ^ (p - 1) → f ≡ whole (numbers M) b → r ≡ (numbers M).mul f x → IsTarget c n m r
  target-of n m f x r b is eb ef er = record {
    total = x;
    is_sum = subst (λ i. IsProductSum (step_subgroup c.step) i (λ i. trace (c.family.at i)) c.position (coset_place c.step n)
        (coset_place c.step m) x) (sym c.step.index) is;
    product = er ∙ ap (λ a. (numbers M).mul a x) (ef ∙ ap (whole (numbers M)) eb ∙ whole_power (numbers M) d (p - 1));
  }
