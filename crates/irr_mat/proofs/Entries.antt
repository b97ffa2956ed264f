-- Lists of a program's numbers, read as matrices.
--   place-lt                  the place of row i and column j
--   entry-value               the value at a place of the list of values
--   matrix_of-at              entry i j of a matrix
--   order-at                  the order of an entry
--   one_order                 numbers of the order n have one order
--   Filled order value n a k xs           the first k entries of the matrix a, row by row
--   filled-nil, filled-push               no entry, and one more
--   filled-next, filled-done              a row and all rows are done
--   filled-orders, filled-matrix          the orders and the matrix of all rows
--   entry-at                  the entry of a matrix at the indices of i and j
--   entry-is                  the number at the place of row i and column j is the entry there
--   entry-add, entry-scale    entries of sums and multiples
--   AgreeTo value n k xs ys   the first k values are equal, with agree-nil, agree-push, agree-next, agree-matrix
--   entry-equal               entries of equal matrices
use Rattle.std.proofs.Common.{◌≡◌, sym, ◌∙◌, ap, ap₂, subst, refl, ℕ, ◌+◌, ◌*◌, ◌/◌, ◌%◌, ◌<◌, ◌≤◌, ◌⊎◌, inl, inr, List, [], ◌∷◌, ◌++◌, length, length-append, get_or, map, Some, All, arith}
use Rattle.std.specs.Prelude.{slice_get}
use Rattle.std.proofs.Math.Seq.{get_or-append_seam}
use Rattle.std.proofs.lemmas.Bool.{cases_lt}
use Rattle.std.proofs.lemmas.List.{get_or-map, get_or_append_left, length-map, map-append}
use Rattle.std.proofs.lemmas.List.Elements.{All-get_or, All-nil, All-push}
use Rattle.std.proofs.lemmas.Nat.{div-mul-add, mod-mul-add, mul-add-lt}
use Rattle.std.proofs.lemmas.Option.{get_or_from_slice_get, slice_get_within}
use native.Mathlib.Nat as Nat
use Rattle.irr_algebra.specs.Fin.{Fin, to_nat}
use Rattle.irr_algebra.specs.Listed.{of_list}
use Rattle.irr_algebra.specs.Matrix.{Matrix, ◌⊕◌, scale}
use Rattle.irr_algebra.proofs.Indices.{from_nat, to_nat-from_nat, to_nat-lt}
use Rattle.irr_algebra.proofs.Matrices.{matrix-ext}
use Rattle.irr_number.specs.Number.{Number, numbers}
use Rattle.irr_mat.specs.Entries.{first_order, HaveOneOrder, IsEntry, matrix_of}

-- where row i and column j stand
pub place-lt : (i c j r : ℕ) → i < r → j < c → i * c + j < r * c
place-lt i c j r p q = let l : i * c + j < c * r = mul-add-lt i c j r p q in omega arith

-- f of the number that stands at p
pub entry-value : {S B : Type 0} (f : S → B) (xs : List S) (p : ℕ) (x : S) (d : B) → slice_get xs p ≡ Some x → get_or (map f xs) p d ≡ f x
entry-value f xs p x d e = get_or-map f xs p x d (slice_get_within xs p x e) ∙ ap f (get_or_from_slice_get xs p x x e)

pub order-at : {S : Type 0} (order : S → ℕ) (xs : List S) (p : ℕ) (x : S) → HaveOneOrder order xs → slice_get xs p ≡ Some x → order x ≡ first_order order xs
order-at order xs p x h e =
    ap order (sym (get_or_from_slice_get xs p x x e)) ∙ All-get_or (λ y. order y ≡ first_order order xs) xs p x (slice_get_within xs p x e) h

-- numbers of the order n have one order
pub one_order : {S : Type 0} (order : S → ℕ) (n : ℕ) (xs : List S) → All (λ x. order x ≡ n) xs → 0 < length xs → (first_order order xs ≡ n) × HaveOneOrder order xs
unfolding first_order
one_order order n [] h l = absurd (omega arith)
one_order order n (x ∷ xs) h l = let e : order x ≡ n = h 0 x l in (e, λ k d lt. h k d lt ∙ sym e)

module _ {S : Type 0} (order : S → ℕ) (value : (n : ℕ) → S → Number n) (n : ℕ) where
  pub matrix_of-at : (r c : ℕ) (xs : List S) (i : Fin r) (j : Fin c) → (matrix_of value n r c xs).at i j ≡ get_or (map (value n) xs) (to_nat i * c + to_nat j) (numbers n).zero
  unfolding matrix_of of_list
  matrix_of-at r c xs i j = refl

  -- the first k entries of a, row by row
  pub record Filled {r c : ℕ} (a : Matrix (numbers n) r c) (k : ℕ) (xs : List S) : Type 0 where
    pub count : length xs ≡ k
    pub orders : All (λ x. order x ≡ n) xs
    pub values : (i : Fin r) (j : Fin c) → to_nat i * c + to_nat j < k → get_or (map (value n) xs) (to_nat i * c + to_nat j) (numbers n).zero ≡ a.at i j

  pub filled-nil : (r c : ℕ) (a : Matrix (numbers n) r c) → Filled a (0 * c) []
  filled-nil r c a = record { count = omega arith; orders = All-nil (λ x. order x ≡ n); values = λ i j lt. absurd (omega arith) }

  -- one more entry
  pub filled-push : (r c : ℕ) (a : Matrix (numbers n) r c) (i j : ℕ) (xs ys : List S) (x : S) → Filled a (i * c + j) xs → ys ≡ xs ++ x ∷ [] → j < c → order x ≡ n → IsEntry a i j (value n x)
      → Filled a (i * c + (j + 1)) ys
  filled-push r c a i j xs ys x h e lt o v = subst (Filled a (i * c + (j + 1))) (sym e) (record {
    count = let total : length (xs ++ x ∷ []) ≡ length xs + 1 = length-append xs (x ∷ []) in omega (arith, h.count);
    orders = All-push (λ y. order y ≡ n) xs x h.orders o;
    values = λ k l below. at k l below (cases_lt (to_nat k * c + to_nat l) (i * c + j));
  })
    where
      entry : ℕ → Number n
      entry p = get_or (map (value n) (xs ++ x ∷ [])) p (numbers n).zero

      last : (k : Fin r) (l : Fin c) → to_nat k * c + to_nat l ≡ i * c + j → entry (to_nat k * c + to_nat l) ≡ a.at k l
      last k l q =
          let row : to_nat k ≡ i = sym (div-mul-add (to_nat k) c (to_nat l) (to_nat-lt l)) ∙ ap (λ m. m / c) q ∙ div-mul-add i c j lt in
          let col : to_nat l ≡ j = sym (mod-mul-add (to_nat k) c (to_nat l) (to_nat-lt l)) ∙ ap (λ m. m % c) q ∙ mod-mul-add i c j lt in
          ap (λ ys. get_or ys (to_nat k * c + to_nat l) (numbers n).zero) (map-append (value n) xs (x ∷ []))
          ∙ ap (λ m. get_or (map (value n) xs ++ value n x ∷ []) m (numbers n).zero) (q ∙ sym h.count ∙ sym (length-map xs (value n)))
          ∙ get_or-append_seam (map (value n) xs) (value n x) [] (numbers n).zero ∙ v.is_entry k l row col

      at : (k : Fin r) (l : Fin c) → to_nat k * c + to_nat l < i * c + (j + 1) → (to_nat k * c + to_nat l < i * c + j) ⊎ (i * c + j ≤ to_nat k * c + to_nat l) → entry (to_nat k * c + to_nat l) ≡ a.at k l
      at k l below (inl q) =
          ap (λ ys. get_or ys (to_nat k * c + to_nat l) (numbers n).zero) (map-append (value n) xs (x ∷ []))
          ∙ get_or_append_left (map (value n) xs) (value n x ∷ []) (numbers n).zero (to_nat k * c + to_nat l) (subst (λ m. to_nat k * c + to_nat l < m) (sym (length-map xs (value n) ∙ h.count)) q)
          ∙ h.values k l q
      at k l below (inr q) = last k l (omega arith)

  -- a row is done
  pub filled-next : (r c : ℕ) (a : Matrix (numbers n) r c) (i j : ℕ) (xs : List S) → Filled a (i * c + j) xs → j ≡ c → Filled a ((i + 1) * c) xs
  filled-next r c a i j xs h e = let p : i * c + j ≡ (i + 1) * c = omega arith in subst (λ k. Filled a k xs) p h

  -- all rows are done
  pub filled-done : (r c : ℕ) (a : Matrix (numbers n) r c) (i : ℕ) (xs : List S) → Filled a (i * c) xs → r ≤ i → i ≤ r → Filled a (r * c) xs
  filled-done r c a i xs h p q = let e : i ≡ r = omega arith in subst (λ k. Filled a (k * c) xs) e h

  pub filled-orders : (r c : ℕ) (a : Matrix (numbers n) r c) (xs : List S) → Filled a (r * c) xs → 0 < r → 0 < c → (first_order order xs ≡ n) × HaveOneOrder order xs
  filled-orders r c a xs h p q = one_order order n xs h.orders (subst (λ k. 0 < k) (sym h.count) (Nat.mul-pos p q))

  pub filled-matrix : (r c : ℕ) (a : Matrix (numbers n) r c) (xs : List S) → Filled a (r * c) xs → matrix_of value n r c xs ≡ a
  filled-matrix r c a xs h = matrix-ext (λ i j.
      matrix_of-at r c xs i j ∙ h.values i j (place-lt (to_nat i) c (to_nat j) r (to_nat-lt i) (to_nat-lt j)))

-- the entry at the indices of i and j
pub entry-at : {S : Type 0} (value : (n : ℕ) → S → Number n) (n r c : ℕ) (xs : List S) (i j : ℕ) (x : S) (p : i < r) (q : j < c)
    → slice_get xs (i * c + j) ≡ Some x → (matrix_of value n r c xs).at (from_nat r i p) (from_nat c j q) ≡ value n x
entry-at value n r c xs i j x p q e =
    matrix_of-at (λ _. 0) value n r c xs (from_nat r i p) (from_nat c j q)
    ∙ entry-value (value n) xs (to_nat (from_nat r i p) * c + to_nat (from_nat c j q)) x (numbers n).zero
    (ap₂ (λ k l. slice_get xs (k * c + l)) (to_nat-from_nat r i p) (to_nat-from_nat c j q) ∙ e)

-- it is the entry in row i and column j
pub entry-is : {S : Type 0} (value : (n : ℕ) → S → Number n) (n r c : ℕ) (xs : List S) (i j : ℕ) (x : S) → slice_get xs (i * c + j) ≡ Some x → IsEntry (matrix_of value n r c xs) i j (value n x)
entry-is value n r c xs i j x e = record {
  is_entry = λ k l p q.
      sym (matrix_of-at (λ _. 0) value n r c xs k l
      ∙ ap₂ (λ u v. get_or (map (value n) xs) (u * c + v) (numbers n).zero) p q ∙ entry-value (value n) xs (i * c + j) x (numbers n).zero e);
}

-- entries of sums and multiples
pub entry-add : (n : ℕ) {r c : ℕ} (a b : Matrix (numbers n) r c) (i j : ℕ) (x y z : Number n) → IsEntry a i j x → IsEntry b i j y → z ≡ (numbers n).add x y → IsEntry (a ⊕ b) i j z
unfolding ◌⊕◌
entry-add n a b i j x y z h k e = record { is_entry = λ u v p q. e ∙ ap₂ (numbers n).add (h.is_entry u v p q) (k.is_entry u v p q) }

pub entry-scale : (n : ℕ) {r c : ℕ} (s : Number n) (a : Matrix (numbers n) r c) (i j : ℕ) (x z : Number n) → IsEntry a i j x → z ≡ (numbers n).mul s x → IsEntry (scale (numbers n) s a) i j z
unfolding scale
entry-scale n s a i j x z h e = record { is_entry = λ u v p q. e ∙ ap ((numbers n).mul s) (h.is_entry u v p q) }

-- the first k values of two lists are equal
pub record AgreeTo {S : Type 0} (value : (n : ℕ) → S → Number n) (n k : ℕ) (xs ys : List S) : Type 0 where
  pub agree : (p : ℕ) → p < k → get_or (map (value n) xs) p (numbers n).zero ≡ get_or (map (value n) ys) p (numbers n).zero

module _ {S : Type 0} (value : (n : ℕ) → S → Number n) (n : ℕ) where
  pub agree-nil : (c : ℕ) (xs ys : List S) → AgreeTo value n (0 * c) xs ys
  agree-nil c xs ys = record { agree = λ p lt. absurd (omega arith) }

  -- one more pair of entries
  pub agree-push : (c i j : ℕ) (xs ys : List S) (x y : S) → AgreeTo value n (i * c + j) xs ys → slice_get xs (i * c + j) ≡ Some x → slice_get ys (i * c + j) ≡ Some y → value n x ≡ value n y
      → AgreeTo value n (i * c + (j + 1)) xs ys
  agree-push c i j xs ys x y h e f v = record { agree = λ p lt. at p lt (cases_lt p (i * c + j)) }
    where
      at : (p : ℕ) → p < i * c + (j + 1) → (p < i * c + j) ⊎ (i * c + j ≤ p) → get_or (map (value n) xs) p (numbers n).zero ≡ get_or (map (value n) ys) p (numbers n).zero
      at p lt (inl l) = h.agree p l
      at p lt (inr l) =
          let q : p ≡ i * c + j = omega arith in
          entry-value (value n) xs p x (numbers n).zero (ap (slice_get xs) q ∙ e) ∙ v ∙ sym (entry-value (value n) ys p y (numbers n).zero (ap (slice_get ys) q ∙ f))

  pub agree-next : (c i j : ℕ) (xs ys : List S) → AgreeTo value n (i * c + j) xs ys → c ≤ j → AgreeTo value n ((i + 1) * c) xs ys
  agree-next c i j xs ys h e = record { agree = λ p lt. h.agree p (omega arith) }

  -- all agree: the matrices are equal
  pub agree-matrix : (r c i : ℕ) (xs ys : List S) → AgreeTo value n (i * c) xs ys → r ≤ i → matrix_of value n r c xs ≡ matrix_of value n r c ys
  agree-matrix r c i xs ys h l = matrix-ext (λ k j.
      matrix_of-at (λ _. 0) value n r c xs k j
      ∙ h.agree (to_nat k * c + to_nat j) (place-lt (to_nat k) c (to_nat j) i (let p : to_nat k < r = to_nat-lt k in omega arith) (to_nat-lt j))
      ∙ sym (matrix_of-at (λ _. 0) value n r c ys k j))

-- the matrices are equal: so are the entries
pub entry-equal : {S : Type 0} (value : (n : ℕ) → S → Number n) (n r c i j : ℕ) (xs ys : List S) (x y : S) → matrix_of value n r c xs ≡ matrix_of value n r c ys → i < r → j < c
    → slice_get xs (i * c + j) ≡ Some x → slice_get ys (i * c + j) ≡ Some y → value n x ≡ value n y
entry-equal value n r c i j xs ys x y e p q f g =
    sym (entry-at value n r c xs i j x p q f) ∙ ap (λ (m : Matrix (numbers n) r c). m.at (from_nat r i p) (from_nat c j q)) e ∙ entry-at value n r c ys i j y p q g
