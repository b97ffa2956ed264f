-- A wave vector has one star, and its star one text.
--   reduced_unique        a wave vector has one reduced form
--   one_star              what is said of a star is said by no other content
use Rattle.std.proofs.Common.{◌≡◌, sym, ◌∙◌, ap, ap₂, subst, refl, inl, inr, ℕ, ◌<◌, ◌≤◌, arith}
use Rattle.std.proofs.lemmas.Bool.{cases_lt}
use mathlib.Core.Path.{fun_ext}
use Rattle.irr_algebra.specs.Fin.{Fin, to_nat}
use Rattle.irr_algebra.proofs.Indices.{to_nat-lt, to_nat_inj, from_nat, to_nat-from_nat}
use Rattle.irr_rational.proofs.Lexicographic.{at_most_antisymm}
use Rattle.irr_lattice.proofs.Vectors.{wave-ext}
use Rattle.irr_space.specs.Operation.{Operation, WaveVector, wave_component}
use Rattle.irr_space.specs.Reciprocal.{Sign, AreEquivalent, IsReduced}
use Rattle.irr_space.specs.CanonicalOperation.{IsNumbering}
use Rattle.irr_space.specs.Star.{Carries, IsArms, IsInLittleGroup}
use Rattle.irr_space.specs.PhaseTable.{PhaseTable, IsTableOf}
use Rattle.irr_cocycle.proofs.Reciprocals.{equivalent_sym, equivalent_trans}
use Rattle.irr_little.proofs.Spaces.{carried_to}
use Rattle.irr_text.specs.StarText.{StarContent, star_content, IsStarOf}
use Rattle.irr_check.proofs.Enumerations.{Agree, agree, same_length}
use Rattle.irr_check.proofs.OneTable.{IsListTable, along_numbering, exponent_unique, numbering_length, numbering_unique, order_unique, product_unique}

module _ (G : Operation → Type 0) where
  pub reduced_unique : (k r s : WaveVector) → IsReduced G k r → IsReduced G k s → r ≡ s
  reduced_unique k r s p q = wave-ext r s (at_most_antisymm (wave_component r) (wave_component s)
      (p.least s q.equivalent q.no_negative) (q.least r p.equivalent p.no_negative))

  -- equivalent reduced wave vectors
  reduced_same : (r s : WaveVector) → IsReduced G r r → IsReduced G s s → AreEquivalent G r s → r ≡ s
  reduced_same r s p q e = reduced_unique s r s (record {
    equivalent = e;
    no_negative = p.no_negative;
    least = λ w f m. p.least w (equivalent_trans G w s r f (equivalent_sym G r s e)) m;
  }) q

-- the arms of a star, found twice
module _ (G : Operation → Type 0) (k : WaveVector) {n m a b : ℕ} (ops : Fin n → Operation) (others : Fin m → Operation)
    (p : IsNumbering G (λ _. Unit {0}) ops) (q : IsNumbering G (λ _. Unit {0}) others) (arm : Fin a → WaveVector) (number : Fin a → Fin n)
    (s : IsArms G k ops arm number) (other_arm : Fin b → WaveVector) (other_number : Fin b → Fin m)
    (t : IsArms G k others other_arm other_number) where
  -- the number of the first operation that carries to an arm
  at_most : (i : Fin a) (j : Fin b) → AreEquivalent G (other_arm j) (arm i) → to_nat (other_number j) ≤ to_nat (number i)
  at_most i j e = subst (λ x. to_nat (other_number j) ≤ x) at
      (t.is_first j place (subst (λ g. Carries G g k (other_arm j)) (numbering_unique G (λ _. Unit {0}) ops others p q (number i) place (sym at))
      (carried_to G (ops (number i)) k (arm i) (other_arm j) (s.carries i) e)))
    where
      inside : to_nat (number i) < m
      inside = subst (λ x. to_nat (number i) < x) (numbering_length G (λ _. Unit {0}) ops others p q) (to_nat-lt (number i))

      place : Fin m
      place = from_nat m (to_nat (number i)) inside

      at : to_nat place ≡ to_nat (number i)
      at = to_nat-from_nat m (to_nat (number i)) inside

  equal_arm : (i : Fin a) → (j : Fin b) × AreEquivalent G (arm i) (other_arm j)
  equal_arm i = t.all (arm i) (record { operation = ops (number i); member = (p.canonical (number i)).member; carries = s.carries i })

module _ (G : Operation → Type 0) (k : WaveVector) {n m a b : ℕ} (ops : Fin n → Operation) (others : Fin m → Operation)
    (p : IsNumbering G (λ _. Unit {0}) ops) (q : IsNumbering G (λ _. Unit {0}) others) (arm : Fin a → WaveVector) (number : Fin a → Fin n)
    (s : IsArms G k ops arm number) (other_arm : Fin b → WaveVector) (other_number : Fin b → Fin m)
    (t : IsArms G k others other_arm other_number) where
  same_number : (i : Fin a) (j : Fin b) → AreEquivalent G (arm i) (other_arm j) → to_nat (other_number j) ≡ to_nat (number i)
  same_number i j e =
      let x = at_most G k ops others p q arm number s other_arm other_number t i j (equivalent_sym G (arm i) (other_arm j) e) in
      let y = at_most G k others ops q p other_arm other_number t arm number s j i e in
      omega (arith, x, y)

  abbrev numbers : Fin a → ℕ
  numbers i = to_nat (number i)

  abbrev other_numbers : Fin b → ℕ
  other_numbers j = to_nat (other_number j)

  into : (i : Fin a) → (j : Fin b) × (other_numbers j ≡ numbers i)
  into i = let e = equal_arm G k ops others p q arm number s other_arm other_number t i in (e.0, same_number i e.0 e.1)

  back : (j : Fin b) → (i : Fin a) × (numbers i ≡ other_numbers j)
  back j = let e = equal_arm G k others ops q p other_arm other_number t arm number s j in
      (e.0, sym (same_number e.0 j (equivalent_sym G (other_arm j) (arm e.0) e.1)))

  arms_length : a ≡ b
  arms_length = same_length (λ x y. x < y) (λ x l. omega (arith, l)) (λ x y z l r. omega (arith, l, r)) numbers other_numbers s.ordered t.ordered
      into back

  numbers_agree : Agree numbers other_numbers
  numbers_agree = agree (λ x y. x < y) (λ x l. omega (arith, l)) (λ x y z l r. omega (arith, l, r)) numbers other_numbers s.ordered t.ordered
      into back

  arms_agree : Agree arm other_arm
  arms_agree i j e = let f = equal_arm G k ops others p q arm number s other_arm other_number t i in
      reduced_same G (arm i) (other_arm j) (s.reduced i) (t.reduced j)
      (subst (λ x. AreEquivalent G (arm i) (other_arm x)) (injective_at f.0 j (same_number i f.0 f.1 ∙ numbers_agree i j e)) f.1)
    where
      injective_at : (x y : Fin b) → other_numbers x ≡ other_numbers y → x ≡ y
      injective_at x y same = to_nat_inj x y (elim (cases_lt (to_nat x) (to_nat y)) [
        | inl first ↦ absurd (let l = t.ordered x y first in omega (arith, l, same))
        | inr past ↦ elim (cases_lt (to_nat y) (to_nat x)) [
          | inl second ↦ absurd (let l = t.ordered y x second in omega (arith, l, same))
          | inr here ↦ omega (arith, past, here)
        ]
      ])

  carriers_agree : Agree (λ i. ops (number i)) (λ j. others (other_number j))
  carriers_agree i j e = numbering_unique G (λ _. Unit {0}) ops others p q (number i) (other_number j) (numbers_agree i j e)

-- the tables of one numbering
module _ (s : Sign) (G P : Operation → Type 0) (k : WaveVector) {h : ℕ} (ops : Fin h → Operation) (p : IsNumbering G P ops) (T U : PhaseTable h)
    (t : IsTableOf s G k ops T) (u : IsTableOf s G k ops U) where
  same_order : T.order ≡ U.order
  same_order = order_unique G k T.order U.order t.is_order u.is_order

  list : IsListTable s k U.order ops T.product T.exponent
  list = subst (λ n. IsListTable s k n ops T.product T.exponent) same_order
      (record { quotient = t.quotient; products = t.products; phases = t.phases })

  other_list : IsListTable s k U.order ops U.product U.exponent
  other_list = record { quotient = u.quotient; products = u.products; phases = u.phases }

  module _ (wave : WaveVector) {a : ℕ} (arm : Fin a → WaveVector) (carrier : Fin a → Operation) where
    made : ℕ → (Fin h → Fin h → Fin h) → (Fin h → Fin h → ℕ) → StarContent
    made order product exponent = record {
      wave = wave;
      order = order;
      arms = a;
      arm = arm;
      carrier = carrier;
      places = h;
      operation = ops;
      product = product;
      exponent = exponent;
    }

    same_table : star_content wave arm carrier ops T ≡ star_content wave arm carrier ops U
    unfolding made
    same_table = ap (λ n. made n T.product T.exponent) same_order
        ∙ ap (λ f. made U.order f T.exponent)
        (product_unique s k U.order ops p.ordered T.product U.product T.exponent U.exponent list other_list)
        ∙ ap (λ f. made U.order U.product f)
        (exponent_unique s k U.order ops p.ordered T.product U.product T.exponent U.exponent list other_list)

-- with the same arms, and with the same operations
module _ (wave : WaveVector) {a h : ℕ} (arm : Fin a → WaveVector) (carrier : Fin a → Operation) (ops : Fin h → Operation) (T : PhaseTable h) where
  with_arms : (b : ℕ) → a ≡ b → (other_arm : Fin b → WaveVector) (other : Fin b → Operation) → Agree arm other_arm → Agree carrier other
      → star_content wave arm carrier ops T ≡ star_content wave other_arm other ops T
  with_arms b e = subst (λ c. (other_arm : Fin c → WaveVector) (other : Fin c → Operation) → Agree arm other_arm → Agree carrier other
      → star_content wave arm carrier ops T ≡ star_content wave {a = c} other_arm other ops T) e
      (λ other_arm other x y. ap₂ (λ m n. star_content wave {a = a} m n ops T) (fun_ext (λ i. x i i refl)) (fun_ext (λ i. y i i refl)))

  with_operations : (s : Sign) (G P : Operation → Type 0) (k : WaveVector) → IsNumbering G P ops → IsTableOf s G k ops T → {g : ℕ}
      (others : Fin g → Operation) (U : PhaseTable g) → IsNumbering G P others → IsTableOf s G k others U
      → star_content wave arm carrier ops T ≡ star_content wave arm carrier others U
  with_operations s G P k p t others U q u = along_numbering G P ops others p q
      (λ c f. (V : PhaseTable c) → IsTableOf s G k f V → star_content wave arm carrier ops T ≡ star_content wave arm carrier f V)
      (λ V v. same_table s G P k ops p T V t v wave arm carrier) U u

pub one_star : (s : Sign) (G : Operation → Type 0) (k : WaveVector) (c d : StarContent) → IsStarOf s G k c → IsStarOf s G k d → c ≡ d
one_star s G k c d p q = p.content
    ∙ ap (λ w. star_content w p.arm (λ i. p.canonical (p.number i)) p.operation p.table) (reduced_unique G k p.wave q.wave p.reduced q.reduced)
    ∙ with_arms q.wave p.arm (λ i. p.canonical (p.number i)) p.operation p.table q.arms
    (arms_length G k p.canonical q.canonical p.canonical_numbering q.canonical_numbering p.arm p.number p.are_arms q.arm q.number q.are_arms)
    q.arm (λ i. q.canonical (q.number i))
    (arms_agree G k p.canonical q.canonical p.canonical_numbering q.canonical_numbering p.arm p.number p.are_arms q.arm q.number q.are_arms)
    (carriers_agree G k p.canonical q.canonical p.canonical_numbering q.canonical_numbering p.arm p.number p.are_arms q.arm q.number q.are_arms)
    ∙ with_operations q.wave q.arm (λ i. q.canonical (q.number i)) p.operation p.table s G (IsInLittleGroup G k) k p.numbering p.is_table
    q.operation q.table q.numbering q.is_table
    ∙ sym q.content
