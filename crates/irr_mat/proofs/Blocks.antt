-- Entries of Kronecker products and of matrices of blocks.
--   pair-index            the index of i is that of the pair of i / p and i % p
--   entry-kron            an entry of a Kronecker product
--   none_next, none_all   no block in a row so far, and in the row
--   row-at                a block of a row
--   parts_next, parts_all no block in the rows so far, and in all of them
--   some_row, width-at    there is a row, and its length
--   read, part-is         the block at a place
--   joinable-some, joinable-rows, joinable-cols, joinable-width   sizes of blocks that can be joined
--   crossed_blocks        four blocks, two of them 0
--   block-some, block-none, block-entry     an entry of a block and of a matrix of blocks
use Rattle.std.proofs.Common.{◌≡◌, sym, ◌∙◌, ap, ap₂, subst, refl, ℕ, zero, suc, ◌+◌, ◌*◌, ◌/◌, ◌%◌, ◌^◌, ◌<◌, ◌≤◌, ◌⊎◌, inl, inr, List, [], ◌∷◌, All, map, length, get_or, Option, Some, None, IfSome, arith}
use Rattle.std.specs.Prelude.{slice_get}
use Rattle.std.specs.Option.{unwrap_or}
use Rattle.std.proofs.lemmas.Bool.{cases_lt}
use Rattle.std.proofs.lemmas.List.{length-map}
use Rattle.std.proofs.lemmas.Option.{get_or_from_slice_get, none-some, slice_get_past, slice_get_read, slice_get_within, unwrap_or-slice_get}
use Rattle.irr_algebra.specs.Ring.{Ring}
use native.Mathlib.Nat as Nat
use Rattle.std.proofs.Math.Nat.{div-lt_iff_lt-mul}
use Rattle.std.proofs.lemmas.Nat.{div-add-mod'}
use Rattle.irr_algebra.specs.Fin.{Fin, to_nat}
use Rattle.irr_algebra.specs.Matrix.{Matrix, null}
use Rattle.irr_algebra.specs.Pair.{kron, on_pairs, pair, times}
use Rattle.irr_algebra.proofs.Indices.{from_nat, to_nat-from_nat, to_nat-lt, to_nat_inj}
use Rattle.irr_algebra.proofs.Pairs.{kron-at, on_pairs-pair, times-mul, to_nat-pair}
use Rattle.irr_number.specs.Number.{Number, numbers}
use Rattle.irr_mat.specs.Blocks.{AreJoinable, block_matrix, block_of, part_at}
use Rattle.irr_mat.specs.Entries.{IsEntry}
use Rattle.irr_mat.proofs.Entries.{entry-value}

pub quotient-lt : (m p i : ℕ) → 0 < p → i < times m p → i / p < m
quotient-lt m p i h l = (div-lt_iff_lt-mul h).1 (subst (λ k. i < k) (times-mul m p) l)

pub remainder-lt : (p i : ℕ) → 0 < p → i % p < p
remainder-lt p i h = Nat.mod-lt i h

pub pair-index : (m p : ℕ) (h : 0 < p) (i : ℕ) (k : Fin (times m p)) → to_nat k ≡ i → (q : i / p < m) (r : i % p < p) → pair p (from_nat m (i / p) q) (from_nat p (i % p) r) ≡ k
pair-index m p h i k e q r = to_nat_inj (pair p (from_nat m (i / p) q) (from_nat p (i % p) r)) k
    (to_nat-pair p (from_nat m (i / p) q) (from_nat p (i % p) r)
    ∙ ap₂ (λ u v. u * p + v) (to_nat-from_nat m (i / p) q) (to_nat-from_nat p (i % p) r) ∙ div-add-mod' i p ∙ sym e)

pub entry-kron : (n : ℕ) {r c s t : ℕ} (a : Matrix (numbers n) r c) (b : Matrix (numbers n) s t) (i j : ℕ) (x y z : Number n) → 0 < s → 0 < t
    → IsEntry a (i / s) (j / t) x → IsEntry b (i % s) (j % t) y → z ≡ (numbers n).mul x y → IsEntry (kron a b) i j z
entry-kron n {r} {c} {s} {t} a b i j x y z hs ht h k e = record {
  is_entry = λ u v p q.
      let qi : i / s < r = quotient-lt r s i hs (subst (λ w. w < times r s) p (to_nat-lt u)) in
      let qj : j / t < c = quotient-lt c t j ht (subst (λ w. w < times c t) q (to_nat-lt v)) in
      let ri : i % s < s = remainder-lt s i hs in
      let rj : j % t < t = remainder-lt t j ht in
      e ∙ ap₂ (numbers n).mul
      (h.is_entry (from_nat r (i / s) qi) (from_nat c (j / t) qj) (to_nat-from_nat r (i / s) qi) (to_nat-from_nat c (j / t) qj))
      (k.is_entry (from_nat s (i % s) ri) (from_nat t (j % t) rj) (to_nat-from_nat s (i % s) ri) (to_nat-from_nat t (j % t) rj))
      ∙ sym (kron-at a b (from_nat r (i / s) qi) (from_nat s (i % s) ri) (from_nat c (j / t) qj) (from_nat t (j % t) rj))
      ∙ ap₂ (λ (f : Fin (times r s)) (g : Fin (times c t)). (kron a b).at f g) (pair-index r s hs i u p qi ri) (pair-index c t ht j v q qj rj);
}

-- past the end
get_or-past : {X : Type 0} (xs : List X) (k : ℕ) (d : X) → length xs ≤ k → get_or xs k d ≡ d
get_or-past xs k d l = sym (unwrap_or-slice_get xs k d) ∙ ap (λ o. unwrap_or o d) (slice_get_past xs k l)

module _ {M : Type 0} where
  pub none_next : (row : List (Option M)) (k : ℕ) → ((b : ℕ) → b < k → get_or row b None ≡ None) → slice_get row k ≡ Some None → (b : ℕ) → b < k + 1 → get_or row b None ≡ None
  none_next row k h e b lt = at (cases_lt b k)
    where
      at : (b < k) ⊎ (k ≤ b) → get_or row b None ≡ None
      at (inl l) = h b l
      at (inr l) = let q : b ≡ k = omega arith in sym (unwrap_or-slice_get row b None) ∙ ap (λ i. unwrap_or (slice_get row i) None) q ∙ ap (λ o. unwrap_or o None) e

  pub none_all : (row : List (Option M)) (k : ℕ) → ((b : ℕ) → b < k → get_or row b None ≡ None) → length row ≤ k → (b : ℕ) → get_or row b None ≡ None
  none_all row k h l b = at (cases_lt b k)
    where
      at : (b < k) ⊎ (k ≤ b) → get_or row b None ≡ None
      at (inl p) = h b p
      at (inr p) = get_or-past row b None (omega (arith, l, p))

  -- a block of the row at k
  pub row-at : {Row : Type 0} (items : Row → List (Option M)) (parts : List Row) (k : ℕ) (row : Row) → slice_get parts k ≡ Some row → (b : ℕ) → part_at (map items parts) k b ≡ get_or (items row) b None
  unfolding part_at
  row-at items parts k row e b = ap (λ r. get_or r b None) (entry-value items parts k row [] e)

  pub parts_next : (parts : List (List (Option M))) (k : ℕ) → ((a b : ℕ) → a < k → part_at parts a b ≡ None) → ((b : ℕ) → part_at parts k b ≡ None) → (a b : ℕ) → a < k + 1 → part_at parts a b ≡ None
  parts_next parts k h e a b lt = at (cases_lt a k)
    where
      at : (a < k) ⊎ (k ≤ a) → part_at parts a b ≡ None
      at (inl l) = h a b l
      at (inr l) = let q : a ≡ k = omega arith in ap (λ i. part_at parts i b) q ∙ e b

  pub parts_all : (parts : List (List (Option M))) (k : ℕ) → ((a b : ℕ) → a < k → part_at parts a b ≡ None) → length parts ≤ k → (a b : ℕ) → part_at parts a b ≡ None
  unfolding part_at
  parts_all parts k h l a b = at (cases_lt a k)
    where
      at : (a < k) ⊎ (k ≤ a) → get_or (get_or parts a []) b None ≡ None
      at (inl p) = h a b p
      at (inr p) = ap (λ r. get_or r b None) (get_or-past parts a [] (omega (arith, l, p)))

  pub some_row : (parts : List (List (Option M))) → (((a b : ℕ) → part_at parts a b ≡ None) → ⊥) → 0 < length parts
  unfolding part_at
  some_row [] f = absurd (f (λ a b. refl))
  some_row (x ∷ xs) f = omega arith

  -- the length of the row at k
  pub width-at : {Row : Type 0} (items : Row → List (Option M)) (parts : List Row) (k q : ℕ) (row : Row) → All (λ r. length r ≡ q) (map items parts) → slice_get parts k ≡ Some row → length (items row) ≡ q
  width-at items parts k q row h e = ap length (sym (entry-value items parts k row [] e))
      ∙ h k [] (subst (λ l. k < l) (sym (length-map parts items)) (slice_get_within parts k row e))

  pub block-some : {R : Ring} {r c : ℕ} (value : M → Matrix R r c) (part : Option M) (m : M) (i j : ℕ) (x : R.Carrier) → part ≡ Some m → IsEntry (value m) i j x → IsEntry (block_of value part) i j x
  unfolding block_of
  block-some value part m i j x e h = subst (λ o. IsEntry (block_of value o) i j x) (sym e) h

  pub block-none : {R : Ring} {r c : ℕ} (value : M → Matrix R r c) (part : Option M) (i j : ℕ) (x : R.Carrier) → part ≡ None → x ≡ R.zero → IsEntry (block_of value part) i j x
  unfolding block_of null
  block-none value part i j x e h = subst (λ o. IsEntry (block_of value o) i j x) (sym e) (record { is_entry = λ k l p q. h })

-- an entry of one of the blocks
block-at : {R : Ring} (p q r c : ℕ) (f : Fin p → Fin q → Matrix R r c) (a : Fin p) (b : Fin q) (i : Fin r) (j : Fin c) → (block_matrix p q r c f).at (pair r a i) (pair c b j) ≡ (f a b).at i j
unfolding block_matrix
block-at p q r c f a b i j =
    on_pairs-pair r (λ x z. on_pairs q c (λ y w. (f x y).at z w) (pair c b j)) a i
    ∙ on_pairs-pair c (λ y w. (f a y).at i w) b j

pub block-entry : {R : Ring} (p q r c : ℕ) (f : Fin p → Fin q → Matrix R r c) (i j : ℕ) (x : R.Carrier) → 0 < r → 0 < c
    → ((a : Fin p) (b : Fin q) → to_nat a ≡ i / r → to_nat b ≡ j / c → IsEntry (f a b) (i % r) (j % c) x) → IsEntry (block_matrix p q r c f) i j x
block-entry p q r c f i j x hr hc h = record {
  is_entry = λ u v s t.
      let qi : i / r < p = quotient-lt p r i hr (subst (λ w. w < times p r) s (to_nat-lt u)) in
      let qj : j / c < q = quotient-lt q c j hc (subst (λ w. w < times q c) t (to_nat-lt v)) in
      let ri : i % r < r = remainder-lt r i hr in
      let rj : j % c < c = remainder-lt c j hc in
      (h (from_nat p (i / r) qi) (from_nat q (j / c) qj) (to_nat-from_nat p (i / r) qi) (to_nat-from_nat q (j / c) qj)).is_entry
      (from_nat r (i % r) ri) (from_nat c (j % c) rj) (to_nat-from_nat r (i % r) ri) (to_nat-from_nat c (j % c) rj)
      ∙ sym (block-at p q r c f (from_nat p (i / r) qi) (from_nat q (j / c) qj) (from_nat r (i % r) ri) (from_nat c (j % c) rj))
      ∙ ap₂ (λ (g : Fin (times p r)) (k : Fin (times q c)). (block_matrix p q r c f).at g k) (pair-index p r hr i u s qi ri) (pair-index q c hc j v t qj rj);
}

pub read : {X : Type 0} (xs : List X) (k : ℕ) (x : X) → k < length xs → x ≡ get_or xs k x → slice_get xs k ≡ Some x
read xs k x l e = slice_get_read xs (length xs) k x refl l e

module _ {M Row : Type 0} (items : Row → List (Option M)) (parts : List Row) where
  pub part-is : (a b : ℕ) (row : Row) (part : Option M) → slice_get parts a ≡ Some row → slice_get (items row) b ≡ Some part → part_at (map items parts) a b ≡ part
  part-is a b row part e f = row-at items parts a row e b ∙ get_or_from_slice_get (items row) b part None f

  module _ (rows cols order : M → ℕ) (n : ℕ) (h : AreJoinable rows cols order n (map items parts)) where
    pub joinable-some : 0 < length parts
    joinable-some = subst (λ l. 0 < l) (length-map parts items) (some_row (map items parts) h.blocks.some)

    pub joinable-rows : (height : ℕ) → height ≡ h.r → length parts * height < 2 ^ 32
    joinable-rows height e = subst (λ l. l * height < 2 ^ 32) (length-map parts items) (subst (λ v. length (map items parts) * v < 2 ^ 32) (sym e) h.few_rows)

    pub joinable-width : (k : ℕ) (row : Row) → slice_get parts k ≡ Some row → length (items row) ≡ h.q
    joinable-width k row e = width-at items parts k h.q row h.blocks.widths e

    pub joinable-cols : (across width : ℕ) → across ≡ h.q → width ≡ h.c → across * width < 2 ^ 32
    joinable-cols across width e f = subst (λ v. v * width < 2 ^ 32) (sym e) (subst (λ v. h.q * v < 2 ^ 32) (sym f) h.few_cols)

    pub joinable-few : (across width : ℕ) → across ≡ h.q → width ≡ h.c → 0 < width → across < 2 ^ 32
    joinable-few across width e f p = Nat.lt_of_le_of_lt (Nat.le-mul_of_pos_right across p) (joinable-cols across width e f)

    -- each row has a block
    pub joinable-blocks : 0 < h.q
    unfolding part_at
    joinable-blocks = at h.q refl
      where
        empty : h.q ≡ 0 → (a b : ℕ) → part_at (map items parts) a b ≡ None
        empty e a b = none_at (cases_lt a (length (map items parts)))
          where
            none_at : (a < length (map items parts)) ⊎ (length (map items parts) ≤ a) → part_at (map items parts) a b ≡ None
            none_at (inl l) = let z : length (get_or (map items parts) a []) ≡ 0 = h.blocks.widths a [] l ∙ e in get_or-past (get_or (map items parts) a []) b None (omega (arith, z))
            none_at (inr l) = ap (λ r. get_or r b None) (get_or-past (map items parts) a [] l)

        at : (q : ℕ) → h.q ≡ q → 0 < h.q
        at zero e = absurd (h.blocks.some (empty e))
        at (suc q) e = omega (arith, e)

-- the blocks None, a and b, None
pub crossed_blocks : {M : Type 0} (rows cols order : M → ℕ) (n : ℕ) (a b : M) → rows a ≡ 2 → cols a ≡ 2 → order a ≡ n → rows b ≡ 2 → cols b ≡ 2 → order b ≡ n
    → AreJoinable rows cols order n ((None ∷ Some a ∷ []) ∷ (Some b ∷ None ∷ []) ∷ [])
unfolding part_at
crossed_blocks {M} rows cols order n a b ra ca oa rb cb ob = record {
  r = 2;
  c = 2;
  q = 2;
  blocks = record {
    widths = λ k d lt. width k d lt;
    shapes = λ i j. shape i j;
    orders = λ i j. ordered i j;
    some = λ f. none-some a (sym (f 0 1));
  };
  few_rows = omega arith;
  few_cols = omega arith;
}
  where
    parts : List (List (Option M))
    parts = (None ∷ Some a ∷ []) ∷ (Some b ∷ None ∷ []) ∷ []

    width : (k : ℕ) (d : List (Option M)) → k < length parts → length (get_or parts k d) ≡ 2
    width zero d lt = refl
    width (suc zero) d lt = refl
    width (suc (suc k)) d lt = absurd (omega (arith, lt))

    shape : (i j : ℕ) → IfSome (get_or (get_or parts i []) j None) (λ m. (rows m ≡ 2) × (cols m ≡ 2))
    shape zero zero = tt
    shape zero (suc zero) = (ra, ca)
    shape zero (suc (suc j)) = tt
    shape (suc zero) zero = (rb, cb)
    shape (suc zero) (suc zero) = tt
    shape (suc zero) (suc (suc j)) = tt
    shape (suc (suc i)) j = tt

    ordered : (i j : ℕ) → IfSome (get_or (get_or parts i []) j None) (λ m. order m ≡ n)
    ordered zero zero = tt
    ordered zero (suc zero) = oa
    ordered zero (suc (suc j)) = tt
    ordered (suc zero) zero = ob
    ordered (suc zero) (suc zero) = tt
    ordered (suc zero) (suc (suc j)) = tt
    ordered (suc (suc i)) j = tt
