-- The trace as a root times a sum of roots of eigenvalues.
use Rattle.std.proofs.Common.{◌≡◌, sym, ◌∙◌, ap, subst, refl, ℕ, suc}
use Rattle.irr_algebra.specs.Ring.{whole}
use Rattle.irr_algebra.specs.Field.{Field}
use Rattle.irr_algebra.specs.Fin.{Fin, to_nat}
use Rattle.irr_algebra.specs.Sum.{sum}
use Rattle.irr_algebra.specs.Matrix.{Matrix, ◌·◌, scale, unit, trace}
use Rattle.irr_algebra.proofs.Fields.{whole_inj, mul-ne-zero}
use Rattle.irr_algebra.proofs.Sums.{sum-ext, mul-sum}
use Rattle.irr_algebra.proofs.Matrices.{trace-scale, trace-unit}
use Rattle.irr_algebra.proofs.Totals.{trace-total}
use Rattle.irr_algebra.proofs.Rank.{Factored, factored, trace-projection}
use Rattle.irr_eigen.specs.Power.{power, IsPrimitiveRoot}
use Rattle.irr_eigen.specs.Eigenspace.{Eigenspaces, Occurs, IsMatrixRoot, IsSumOfRoots}
use Rattle.irr_eigen.proofs.Powers.{mul-power}
use Rattle.irr_eigen.proofs.Choices.{choose_by_counts}
use Rattle.irr_eigen.proofs.RootsOfOne.{eigenspaces_of_power}
use Rattle.irr_eigen.proofs.Occurrences.{trace-occurs}
use Rattle.irr_eigen.proofs.Shares.{Share, share, share-power, trace-shares}

module _ (F : Field) where
  open F use {ring as R}

  -- of a matrix whose space is the sum of eigenspaces, the trace adds up the values, each as often as it occurs
  trace-eigenspaces : {d k : ℕ} {v : Matrix R d d} {values : Fin k → R.Carrier} (e : Eigenspaces v values)
      → (choice : Fin d → Fin k) × (trace v ≡ sum R d (λ i. values (choice i)))
  trace-eigenspaces {d} {k} {v} {values} e = (c.0, trace-v ∙ sym (c.1 values))
    where
      f : (a : Fin k) → Factored (e.projection a)
      f a = factored F d (e.projection a)

      rank-trace : (a : Fin k) → trace (e.projection a) ≡ whole R (f a).rank
      rank-trace a = trace-projection (e.projection a) (e.projects a) (f a)

      c : (choice : Fin d → Fin k) × ((g : Fin k → R.Carrier) → sum R d (λ i. g (choice i)) ≡ sum R k (λ a. R.mul (whole R (f a).rank) (g a)))
      c = choose_by_counts F k d (λ a. (f a).rank)
          (sum-ext R k (λ a. whole R (f a).rank) (λ a. trace (e.projection a)) (λ a. sym (rank-trace a)) ∙ sym (trace-total k e.projection) ∙ ap trace e.adds_up ∙ trace-unit R d)

      trace-v : trace v ≡ sum R k (λ a. R.mul (whole R (f a).rank) (values a))
      trace-v = trace-shares e v ∙ sum-ext R k (λ a. trace (v · e.projection a)) (λ a. R.mul (whole R (f a).rank) (values a))
          (λ a. ap trace (e.eigen a) ∙ trace-scale R (values a) (e.projection a) ∙ R.mul_comm (values a) (trace (e.projection a)) ∙ ap (λ x. R.mul x (values a)) (rank-trace a))

  -- on an eigenspace
  share-trace : {d k p : ℕ} {v u : Matrix R d d} (z c r : R.Carrier) (w : Fin k → R.Carrier) → IsPrimitiveRoot R (suc p) z
      → (r ≡ R.zero → ⊥) → power R r (suc p) ≡ c → (h : IsMatrixRoot (suc p) c v u w)
      → (a : Fin k) (n : ℕ) → trace (h.eigenspaces.projection a) ≡ whole R n
      → (choice : Fin n → Fin (suc p)) × (trace (u · h.eigenspaces.projection a) ≡ R.mul r (sum R n (λ i. R.mul (w a) (power R z (to_nat (choice i))))))
  share-trace {d} {k} {p} {v} {u} z c r w primitive r-ne r-power h a n occurs =
      subst (λ m. (choice : Fin m → Fin (suc p)) × (trace (u · e.projection a) ≡ R.mul r (sum R m (λ i. R.mul (w a) (power R z (to_nat (choice i)))))))
      (whole_inj F x.size n (sym x.trace-projection ∙ occurs)) (
        s.0,
        sym x.trace-share ∙ s.1 ∙ sum-ext R x.size (λ i. R.mul (R.mul r (w a)) (power R z (to_nat (s.0 i)))) (λ i. R.mul r (R.mul (w a) (power R z (to_nat (s.0 i)))))
            (λ i. R.mul_assoc r (w a) (power R z (to_nat (s.0 i)))) ∙ sym (mul-sum R x.size r (λ i. R.mul (w a) (power R z (to_nat (s.0 i))))),
      )
    where
      e : Eigenspaces v (λ a. power R (w a) (suc p))
      e = h.eigenspaces

      x : Share e u a
      x = share F e u h.commute a

      spaces : Eigenspaces x.on_space (λ (j : Fin (suc p)). R.mul (R.mul r (w a)) (power R z (to_nat j)))
      spaces = eigenspaces_of_power F p x.on_space (R.mul r (w a)) z (mul-ne-zero F r (w a) r-ne (h.not-zero a)) primitive
          (share-power x (suc p) c h.power-multiple ∙ ap (λ y. scale R y (unit R x.size)) (ap (λ y. R.mul y (power R (w a) (suc p))) (sym r-power) ∙ sym (mul-power R r (w a) (suc p))))

      s : (choice : Fin x.size → Fin (suc p)) × (trace x.on_space ≡ sum R x.size (λ i. R.mul (R.mul r (w a)) (power R z (to_nat (choice i)))))
      s = trace-eigenspaces spaces

  -- the trace is r times a sum of roots, one root of each eigenvalue as often as it occurs
  pub trace-sum_of_roots : {d k : ℕ} {v u : Matrix R d d} (p : ℕ) (z c r : R.Carrier) (w : Fin k → R.Carrier) → IsPrimitiveRoot R (suc p) z
      → (r ≡ R.zero → ⊥) → power R r (suc p) ≡ c → IsMatrixRoot (suc p) c v u w
      → ((a b : Fin k) → power R (w a) (suc p) ≡ power R (w b) (suc p) → a ≡ b)
      → (times : Fin k → ℕ) → ((a : Fin k) → Occurs v (power R (w a) (suc p)) (times a))
      → (s : R.Carrier) × IsSumOfRoots R (suc p) z w times s × (trace u ≡ R.mul r s)
  trace-sum_of_roots {d} {k} {v} {u} p z c r w primitive r-ne r-power h different times occurs = (
    sum R k share_sum,
    record { choice = λ a. (x a).0; is_sum = refl },
    trace-shares e u ∙ sum-ext R k (λ a. trace (u · e.projection a)) (λ a. R.mul r (share_sum a)) (λ a. (x a).1) ∙ sym (mul-sum R k r share_sum),
  )
    where
      e : Eigenspaces v (λ a. power R (w a) (suc p))
      e = h.eigenspaces

      x : (a : Fin k) → (choice : Fin (times a) → Fin (suc p)) × (trace (u · e.projection a) ≡ R.mul r (sum R (times a) (λ i. R.mul (w a) (power R z (to_nat (choice i))))))
      x a = share-trace z c r w primitive r-ne r-power h a (times a) (trace-occurs F e different a (times a) (occurs a))

      share_sum : Fin k → R.Carrier
      share_sum a = sum R (times a) (λ i. R.mul (w a) (power R z (to_nat ((x a).0 i))))
