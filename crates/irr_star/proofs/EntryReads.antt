-- What is read of the family of a full representation, and the entries of its matrices.
--   item_matrix                     the matrix at a place
--   admitted                        what holds of the order of each number holds of the order
--   entry_denominator, entry_size   of an entry
--   turned_entry                    an entry of a block
--   trace_fits, trace_value, trace_few, trace_denominator, trace_size     the trace of a matrix, and its size
--   zero_entry, block_entry         an entry of the matrix outside and inside of the block that is not 0
use Rattle.std.proofs.Common.{◌≡◌, sym, ◌∙◌, ap, subst, refl, ℕ, ◌*◌, ◌/◌, ◌%◌, ◌<◌, ◌≤◌, ◌^◌, List, length, get_or}
use Rattle.std.proofs.Common.{arith}
use Rattle.std.specs.Int.{◌∣◌}
use native.Mathlib.Nat as Nat
use Rattle.irr_algebra.specs.Ring.{Ring}
use Rattle.irr_algebra.specs.Fin.{Fin, to_nat}
use Rattle.irr_algebra.specs.Matrix.{Matrix, null, scale, trace}
use Rattle.irr_algebra.specs.Pair.{times}
use Rattle.irr_algebra.proofs.Indices.{from_nat, to_nat-from_nat, to_nat-lt, to_nat_inj}
use Rattle.irr_algebra.proofs.Pairs.{times-mul}
use Rattle.irr_number.specs.Number.{Number, numbers, root_power}
use Rattle.irr_canonical.specs.Coefficient.{denominator, size}
use Rattle.irr_canonical.specs.RootSum.{IsRootSum}
use Rattle.irr_theory.specs.FactorSystem.{Representation}
use Rattle.irr_space.specs.Operation.{Operation, WaveVector}
use Rattle.irr_space.specs.PhaseTable.{phases_over}
use Rattle.irr_seitz.specs.PhaseMeaning.{sign_of}
use Rattle.irr_cyc.specs.declared.scalars.Scalar.{Ghosts}
use Rattle.irr_mat.specs.declared.matrices.Mat.{Mat}
use Rattle.irr_mat.specs.Entries.{first_order, IsEntry, matrix_of}
use Rattle.irr_mat.specs.Size.{IsWithin, TraceFits}
use Rattle.irr_mat.proofs.Blocks.{quotient-lt}
use Rattle.irr_mat.proofs.Entries.{entry-scale}
use Rattle.irr_rep.specs.Defects.{IsMatrix}
use Rattle.irr_rep.specs.Family.{matrix_at}
use Rattle.irr_rep.proofs.Families.{item-trace, item-trace_fits}
use Rattle.irr_rep.proofs.MatrixForms.{order_of_matrix}
use Rattle.irr_rep.proofs.TraceRoots.{trace-IsRootSum}
use Rattle.irr_close.specs.StandsFor.{stands_for}
use Rattle.irr_close.specs.declared.group.Group.{Group}
use Rattle.irr_close.proofs.SpaceGroups.{space_group}
use Rattle.irr_little.proofs.Spaces.{has_canonical}
use Rattle.irr_full.specs.Star.{Star}
use Rattle.irr_full.specs.Full.{IsFullOf, block}
use Rattle.irr_star.specs.declared.full.Full.{Full}
use Rattle.irr_star.specs.declared.lists.Block.{Block}
use Rattle.irr_star.specs.Blocks.{AreBlocksAt, IsBlockAt}
use Rattle.irr_star.specs.Induced.{IsInduced}
use Rattle.irr_star.proofs.BlockLaws.{block_else, block_here, entry_of_blocks}
use Rattle.irr_star.proofs.FamilyItems.{family_item, item_of}
use Rattle.irr_star.proofs.MadeBlocks.{order_limited, order_positive}
use Rattle.irr_star.proofs.NumberSizes.{few_denominator, few_size}

-- the entry of the matrix that m holds
entry_is : {X : Type 0} {V : Ghosts X} (n d : ℕ) (a : Matrix (numbers n) d d) (m : Mat X V) → IsMatrix n d a m →
    (i j : ℕ) (x : Number n)
    → IsEntry (matrix_of V.value n m.rows m.cols m.entries.items) i j x → IsEntry a i j x
entry_is {V = V} n d a m h i j x e =
    subst (λ b. IsEntry b i j x) h.value
    (subst (λ c. IsEntry (matrix_of V.value n d c m.entries.items) i j x) h.cols
    (subst (λ r. IsEntry (matrix_of V.value n r m.cols m.entries.items) i j x) h.rows e))

entry_powers : (n d s t : ℕ) (a : Matrix (numbers n) d d) → IsWithin n s t a → (i j : ℕ) → i < d → j < d →
    (x : Number n) → IsEntry a i j x
    → IsRootSum n s t x
entry_powers n d s t a w i j p q x e = subst (IsRootSum n s t)
    (sym (e.is_entry (from_nat d i p) (from_nat d j q) (to_nat-from_nat d i p) (to_nat-from_nat d j q)))
    (w.entry (from_nat d i p) (from_nat d j q))

entry_of_null : {R : Ring} {r c : ℕ} (i j : ℕ) (z : R.Carrier) → z ≡ R.zero → IsEntry
    (null {R = R} {m = r} {n = c}) i j z
unfolding null
entry_of_null i j z e = record { is_entry = λ k l p q. e }

trace_room : (d M den : ℕ) → d ≤ 48 → M ≤ 12000 → den ≤ 2 ^ 11 → d * 13824 * M * den < 2 ^ 110
trace_room d M den few limited small =
    let e : d * 13824 * M * den ≤ 48 * 13824 * 12000 * 2 ^ 11 = Nat.mul-le-mul
    (Nat.mul-le-mul (Nat.mul-le-mul_right 13824 few) limited) small in
    let l : 48 * 13824 * 12000 * 2 ^ 11 < 2 ^ 110 = omega arith in
    Nat.lt_of_le_of_lt e l

square_room : (den : ℕ) → den ≤ 2 ^ 11 → den * den ≤ 2 ^ 60
square_room den small =
    let e : den * den ≤ 2 ^ 11 * 2 ^ 11 = Nat.mul-le-mul small small in
    let l : 2 ^ 11 * 2 ^ 11 ≤ 2 ^ 60 = omega arith in
    Nat.le_trans e l

module _ {X : Type 0} {V : Ghosts X} (full : Full X V) (group : Group) {k : WaveVector}
    (S : Star (sign_of group.phase) (stands_for group) k) (M : ℕ)
    (v : S.table.order ∣ M) {d : ℕ} (D : Representation (phases_over S.table M v) d)
    (is : IsInduced group S M v D full) where
  positive : 0 < M
  positive = order_positive full group S M v D is

  limited : M ≤ 12000
  limited = order_limited full group S M v D is

  inside : (place : ℕ) (p : Fin S.places) → to_nat p ≡ place → place < length full.family.mats.items
  inside place p e = subst (λ n. n < length full.family.mats.items) e
      (subst (λ n. to_nat p < n) (sym is.family.shape.count) (to_nat-lt p))

  pub index_of : (place : ℕ) → place < length full.family.mats.items → (p : Fin S.places) × (to_nat p ≡ place)
  index_of place l = let m = subst (λ n. place < n) is.family.shape.count l in
      (from_nat S.places place m, to_nat-from_nat S.places place m)

  pub item_matrix : (place : ℕ) (m : Mat X V) → m ≡ get_or full.family.mats.items place m → (p : Fin S.places)
      → to_nat p ≡ place → IsMatrix M d (D.at p) m
  item_matrix place m e p f = family_item M D.at full.family is.family place m (inside place p f) e p f

  pub admitted : (P : ℕ → Type 0) → ((x : X) → P (V.order_of x)) → P full.order.n
  admitted P h =
      let p = S.table.start in
      let m = item_of full.family.mats.items (to_nat p) (inside (to_nat p) p refl) in
      let q = item_matrix (to_nat p) m.0 m.1 p refl in
      subst P (q.order ∙ sym is.order) (order_of_matrix P h m.0)

  module _ (place : ℕ) (below : place < length full.family.mats.items) (m : Mat X V)
      (at : m ≡ get_or full.family.mats.items place m) where
    abbrev place_index : Fin S.places
    place_index = (index_of place below).0

    matrix_here : IsMatrix M d (D.at place_index) m
    matrix_here = item_matrix place m at place_index (index_of place below).1

    module _ (i j : ℕ) (row : i < full.family.dim) (column : j < full.family.dim) (x : X)
        (entry : IsEntry (matrix_of V.value M m.rows m.cols m.entries.items) i j (V.value M x)) where
      few_entry : IsRootSum M 13824 is.family.denominator (V.value M x)
      few_entry = entry_powers M d 13824 is.family.denominator (D.at place_index) (is.family.entries place_index) i j
          (subst (λ n. i < n) is.family.size row) (subst (λ n. j < n) is.family.size column) (V.value M x)
          (entry_is M d (D.at place_index) m matrix_here i j (V.value M x) entry)

      pub entry_denominator : denominator full.order.n (V.value full.order.n x) ≤ 2 ^ 60
      entry_denominator = subst (λ n. denominator n (V.value n x) ≤ 2 ^ 60) (sym is.order)
          (few_denominator M 13824 is.family.denominator (V.value M x) positive few_entry is.family.small)

      pub entry_size : size full.order.n (V.value full.order.n x) ≤ 2 ^ 80
      entry_size = subst (λ n. size n (V.value n x) ≤ 2 ^ 80) (sym is.order)
          (few_size M 13824 is.family.denominator (V.value M x) positive limited few_entry (omega arith))

    fits : TraceFits M (matrix_at M d full.family.mats.items place_index)
    fits = record {
      s = 13824;
      d = is.family.denominator;
      within = subst (IsWithin M 13824 is.family.denominator) (sym (is.family.matrices place_index))
          (is.family.entries place_index);
      denominators = square_room is.family.denominator is.family.small;
      sums = trace_room d M is.family.denominator is.family.few limited is.family.small;
    }

    pub trace_fits : TraceFits (first_order V.order_of m.entries.items)
        (matrix_of V.value (first_order V.order_of m.entries.items) m.rows m.rows m.entries.items)
    trace_fits = item-trace_fits M d full.family.mats.items place m below at is.family.shape place_index
        (index_of place below).1 fits

    module _ (x : X) (value : V.value (first_order V.order_of m.entries.items) x ≡ trace
        (matrix_of V.value (first_order V.order_of m.entries.items) m.rows m.rows m.entries.items)) where
      pub trace_value : (p : Fin S.places) → to_nat p ≡ place → V.value M x ≡ trace (D.at p)
      trace_value p e = item-trace M d full.family.mats.items place m below at is.family.shape x p e value ∙ ap trace
          (is.family.matrices p)

      few_trace : IsRootSum M d 1 (V.value M x)
      few_trace = subst (IsRootSum M d 1) (sym (trace_value place_index (index_of place below).1))
          (trace-IsRootSum M positive S.table v D place_index)

      pub trace_denominator : denominator full.order.n (V.value full.order.n x) ≤ 2 ^ 60
      trace_denominator = subst (λ n. denominator n (V.value n x) ≤ 2 ^ 60) (sym is.order)
          (few_denominator M d 1 (V.value M x) positive few_trace (omega arith))

      pub trace_size : size full.order.n (V.value full.order.n x) ≤ 2 ^ 80
      trace_size = subst (λ n. size n (V.value n x) ≤ 2 ^ 80) (sym is.order)
          (few_size M d 1 (V.value M x) positive limited few_trace (let l = is.family.few in omega (arith, l)))

  -- z^e times an entry of the matrix at a place
  pub turned_entry : (place : ℕ) (m : Mat X V) → m ≡ get_or full.family.mats.items place m → (p : Fin S.places)
      → to_nat p ≡ place
      → (i j e : ℕ) (x y : X) → IsEntry (matrix_of V.value M m.rows m.cols m.entries.items) i j (V.value M x)
      → V.value full.order.n y ≡ (numbers full.order.n).mul (root_power full.order.n e) (V.value full.order.n x)
      → IsEntry (scale (numbers M) (root_power M e) (D.at p)) i j (V.value M y)
  turned_entry place m at p f i j e x y entry value = entry-scale M (root_power M e) (D.at p) i j (V.value M x)
      (V.value M y)
      (entry_is M d (D.at p) m (item_matrix place m at p f) i j (V.value M x) entry)
      (subst (λ n. V.value n y ≡ (numbers n).mul (root_power n e) (V.value n x)) is.order value)

  -- the matrix, by the blocks that are not 0
  module _ (bs : List Block) (j : ℕ) (column : j < length full.arms.items * full.family.dim) (g : Operation)
      (are : AreBlocksAt S M g bs) where
    some_rows : 0 < full.family.dim
    some_rows = subst (λ n. 0 < n) (sym is.family.size) is.family.shape.positive

    pub block_below : j / full.family.dim < length bs
    block_below = subst (λ n. j / full.family.dim < n) (is.arms.count ∙ sym are.count)
        (quotient-lt (length full.arms.items) full.family.dim j some_rows
        (subst (λ n. j < n) (sym (times-mul (length full.arms.items) full.family.dim)) column))

    module _ (none : Block) where
      abbrev b : Block
      b = get_or bs (j / full.family.dim) none

      column_index : (q : Fin S.arms) × (to_nat q ≡ j / full.family.dim)
      column_index =
          let l = subst (λ n. j / full.family.dim < n) are.count block_below in
          (from_nat S.arms (j / full.family.dim) l, to_nat-from_nat S.arms (j / full.family.dim) l)

      block_is : (q : Fin S.arms) → to_nat q ≡ j / full.family.dim → IsBlockAt S M g q
          (get_or bs (j / full.family.dim) none)
      block_is q e = subst (IsBlockAt S M g q) (ap (λ n. get_or bs n none) e) (are.each q none)

      pub place_below : (get_or bs (j / full.family.dim) none).place < length full.family.mats.items
      place_below = let h = block_is column_index.0 column_index.1 in inside b.place h.inner h.inner-number

      pub exponent_below : (get_or bs (j / full.family.dim) none).exponent < full.order.n
      exponent_below = let h = block_is column_index.0 column_index.1 in subst
          (λ n. (get_or bs (j / full.family.dim) none).exponent < n) (sym is.order) h.is_phase.below

      module _ (A : Operation → Matrix (numbers M) (times S.arms d) (times S.arms d)) (of : IsFullOf S M v D A)
          (in_g : stands_for group g) (i : ℕ) where
        column_of : (q : Fin S.arms) → to_nat q ≡ j / d → to_nat q ≡ j / full.family.dim
        column_of q e = e ∙ ap (λ n. j / n) (sym is.family.size)

        pub zero_entry : ((get_or bs (j / full.family.dim) none).row ≡ i / full.family.dim → ⊥) → (z : Number M) → z ≡
            (numbers M).zero → IsEntry (A g) i j z
        zero_entry other z e = entry_of_blocks d (A g) is.family.shape.positive i j z (λ p q ep eq.
            let h = block_is q (column_of q eq) in
            subst (λ m. IsEntry m (i % d) (j % d) z)
            (sym (block_else (stands_for group) (space_group group).is_group (has_canonical group) S M v D A of g in_g q
            (get_or bs (j / full.family.dim) none) h p
            (λ same. other (sym h.row-number ∙ ap to_nat (sym same) ∙ ep ∙ ap (λ n. i / n) (sym is.family.size)))))
            (entry_of_null (i % d) (j % d) z e))

        pub block_entry : (get_or bs (j / full.family.dim) none).row ≡ i / full.family.dim → (z : Number M)
            → ((p : Fin S.places) → to_nat p ≡ (get_or bs (j / full.family.dim) none).place
            → IsEntry (scale (numbers M) (root_power M (get_or bs (j / full.family.dim) none).exponent) (D.at p))
            (i % full.family.dim) (j % full.family.dim) z)
            → IsEntry (A g) i j z
        block_entry same z entry = entry_of_blocks d (A g) is.family.shape.positive i j z (λ p q ep eq.
            let h = block_is q (column_of q eq) in
            let row : h.to ≡ p = to_nat_inj h.to p (h.row-number ∙ same ∙ ap (λ n. i / n) is.family.size ∙ sym ep) in
            subst (λ r. IsEntry (block d (A g) r q) (i % d) (j % d) z) row
            (subst (λ m. IsEntry m (i % d) (j % d) z)
            (sym (block_here (stands_for group) (space_group group).is_group (has_canonical group) S M v D A of g in_g q
            (get_or bs (j / full.family.dim) none) h))
            (subst (λ n. IsEntry (scale (numbers M) (root_power M (get_or bs (j / full.family.dim) none).exponent)
            (D.at h.inner)) (i % n) (j % n) z) is.family.size
            (entry h.inner h.inner-number))))
