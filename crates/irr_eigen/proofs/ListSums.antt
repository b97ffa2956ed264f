-- A sum of roots as a sum over a list of the eigenvalues.
use Rattle.std.proofs.Common.{◌≡◌, sym, ◌∙◌, ap, subst, refl, ℕ, zero, suc, ◌⊎◌, inl, inr, List, [], ◌∷◌}
use Rattle.irr_algebra.specs.Ring.{Ring}
use Rattle.irr_algebra.specs.Fin.{Fin, to_nat}
use Rattle.irr_algebra.specs.Fin.Fin.{first, next}
use Rattle.irr_algebra.specs.Sum.{sum, delta}
use Rattle.irr_algebra.proofs.Rings.{zero-add, zero-mul, one-mul}
use Rattle.irr_algebra.proofs.Indices.{same_or_not}
use Rattle.irr_algebra.proofs.Sums.{sum-ext, sum-zero, sum-add, sum-delta, delta-eq, delta-ne}
use Rattle.irr_eigen.specs.Power.{power}
use Rattle.irr_eigen.specs.Eigenspace.{IsSumOfRoots}
use Rattle.irr_eigen.specs.ListSum.{one_more, occurrences, AddsUp}

-- f from the next number on, where two indices are the same
unfoldable shift : {A B : Type 0} → A ⊎ (A → ⊥) → (ℕ → B) → ℕ → B
shift (inl e) f x = f (suc x)
shift (inr h) f x = f x

-- c at each index below n, and d from n on
unfoldable extend : {A : Type 0} (n : ℕ) → (Fin n → A) → A → ℕ → A
extend zero c d x = d
extend (suc n) c d zero = c first
extend (suc n) c d (suc x) = extend n (λ i. c (next i)) d x

extend-to_nat : {A : Type 0} (n : ℕ) (c : Fin n → A) (d : A) (i : Fin n) → extend n c d (to_nat i) ≡ c i
unfolding extend to_nat
extend-to_nat zero c d i = elim i [ ]
extend-to_nat (suc n) c d first = refl
extend-to_nat (suc n) c d (next i) = extend-to_nat n (λ i. c (next i)) d i

module _ (R : Ring) {k : ℕ} where
  -- the first of one more number taken out
  sum-one_more : (a b : Fin k) (d : (a ≡ b) ⊎ (a ≡ b → ⊥)) (n : ℕ) (f : ℕ → R.Carrier)
      → sum R (one_more d n) (λ i. f (to_nat i)) ≡ R.add (R.mul (delta R a b) (f 0)) (sum R n (λ i. shift d f (to_nat i)))
  unfolding one_more shift sum to_nat
  sum-one_more a b (inl e) n f = ap (λ x. R.add x (sum R n (λ i. f (suc (to_nat i))))) (sym (ap (λ x. R.mul x (f 0)) (delta-eq R a b e) ∙ one-mul R (f 0)))
  sum-one_more a b (inr h) n f =
      sym (ap (λ x. R.add x (sum R n (λ i. f (to_nat i)))) (ap (λ x. R.mul x (f 0)) (delta-ne R a b h) ∙ zero-mul R (f 0)) ∙ zero-add R (sum R n (λ i. f (to_nat i))))

  shift-root : {p : ℕ} (a b : Fin k) (d : (a ≡ b) ⊎ (a ≡ b → ⊥)) (root : Fin p → R.Carrier) (g : ℕ → Fin p) (x : ℕ) → shift d (λ y. root (g y)) x ≡ root (shift d g x)
  unfolding shift
  shift-root a b (inl e) root g x = refl
  shift-root a b (inr h) root g x = refl

  adds_up : {p : ℕ} (root : Fin k → Fin p → R.Carrier) (l : List (Fin k)) (g : Fin k → ℕ → Fin p)
      → AddsUp R root l (sum R k (λ a. sum R (occurrences a l) (λ i. root a (g a (to_nat i)))))
  unfolding AddsUp occurrences sum
  adds_up root [] g = sum-zero R k
  adds_up {p} root (a ∷ l) g = (g a 0, sum R k rest, split, adds_up root l g')
    where
      g' : Fin k → ℕ → Fin p
      g' b = shift (same_or_not a b) (g b)

      whole_sum : Fin k → R.Carrier
      whole_sum b = sum R (one_more (same_or_not a b) (occurrences b l)) (λ i. root b (g b (to_nat i)))

      rest : Fin k → R.Carrier
      rest b = sum R (occurrences b l) (λ i. root b (g' b (to_nat i)))

      part : (b : Fin k) → whole_sum b ≡ R.add (R.mul (delta R a b) (root b (g b 0))) (rest b)
      part b = sum-one_more a b (same_or_not a b) (occurrences b l) (λ x. root b (g b x))
          ∙ ap (R.add (R.mul (delta R a b) (root b (g b 0)))) (sum-ext R (occurrences b l) (λ i. shift (same_or_not a b) (λ x. root b (g b x)) (to_nat i)) (λ i. root b (g' b (to_nat i)))
          (λ i. shift-root a b (same_or_not a b) (root b) (g b) (to_nat i)))

      split : sum R k whole_sum ≡ R.add (root a (g a 0)) (sum R k rest)
      split = sum-ext R k whole_sum (λ b. R.add (R.mul (delta R a b) (root b (g b 0))) (rest b)) part
          ∙ sum-add R k (λ b. R.mul (delta R a b) (root b (g b 0))) rest ∙ ap (λ x. R.add x (sum R k rest)) (sum-delta R k a (λ b. root b (g b 0)))

-- where the list names each eigenvalue as often as it occurs, the sum of roots is one over the list
pub list-sum : (R : Ring) {k : ℕ} (p : ℕ) (z : R.Carrier) (w : Fin k → R.Carrier) (times : Fin k → ℕ) (s : R.Carrier) → IsSumOfRoots R (suc p) z w times s
    → (l : List (Fin k)) → ((a : Fin k) → occurrences a l ≡ times a) → AddsUp R (λ a (j : Fin (suc p)). R.mul (w a) (power R z (to_nat j))) l s
list-sum R {k} p z w times s h l counts =
    subst (λ x. AddsUp R root l x)
    (sum-ext R k (λ a. sum R (occurrences a l) (λ i. root a (g a (to_nat i)))) (λ a. sum R (times a) (λ i. root a (h.choice a i))) (λ a.
    ap (λ n. sum R n (λ i. root a (g a (to_nat i)))) (counts a)
    ∙ sum-ext R (times a) (λ i. root a (g a (to_nat i))) (λ i. root a (h.choice a i)) (λ i. ap (root a) (extend-to_nat (times a) (h.choice a) first i)))
    ∙ sym h.is_sum)
    (adds_up R root l g)
  where
    root : Fin k → Fin (suc p) → R.Carrier
    root a j = R.mul (w a) (power R z (to_nat j))

    g : Fin k → ℕ → Fin (suc p)
    g a = extend (times a) (h.choice a) first
