-- Lists of the wave vectors of all pairs of arms, (1,1), (1,2), ..
--   listed_wave         the wave vector of a class, by the number of its pair
--   listed_near         it is the sum of both arms, where the items of the list are the sums
--   listed_covered      each class has its wave vector in the list
--   arms_of_number      the numbers of the arms of a class, by its number
--   few_places          two representations of at most 48 rows have a direct product of at most 2304
use Rattle.std.proofs.Common.{◌≡◌, sym, ◌∙◌, ap, subst, ℕ, ◌+◌, ◌*◌, ◌/◌, ◌%◌, ◌<◌, ◌≤◌, List, length, get_or}
use Rattle.std.proofs.lemmas.Nat.{div-mul-add, mod-mul-add}
use native.Mathlib.Nat as Nat
use Rattle.irr_algebra.specs.Fin.{Fin, to_nat}
use Rattle.irr_algebra.specs.Matrix.{◌⊕◌}
use Rattle.irr_algebra.specs.Pair.{times, pair}
use Rattle.irr_algebra.proofs.Indices.{from_nat, to_nat-from_nat, to_nat-lt}
use Rattle.irr_algebra.proofs.Pairs.{times-mul, to_nat-pair}
use Rattle.irr_space.specs.Operation.{Operation, WaveVector}
use Rattle.irr_space.specs.Reciprocal.{AreEquivalent}
use Rattle.irr_cocycle.proofs.Reciprocals.{equivalent_refl}
use Rattle.irr_full.proofs.Diagonals.{unpair}
use Rattle.irr_mult.specs.Listing.{item}
use Rattle.irr_mult.proofs.Listings.{item-get}

module _ (G : Operation → Type 0) {a b : ℕ} (left : Fin a → WaveVector) (right : Fin b → WaveVector)
    (ws : List WaveVector) (default : WaveVector) where
  abbrev pub listed_wave : Fin (times a b) → WaveVector
  listed_wave x = get_or ws (to_nat x) default

  pub listed_near : ((i : Fin a) (j : Fin b)
      → AreEquivalent G (get_or ws (to_nat i * b + to_nat j) default) (left i ⊕ right j))
      → (i : Fin a) (j : Fin b) → AreEquivalent G (listed_wave (pair b i j)) (left i ⊕ right j)
  listed_near h i j = subst (λ n. AreEquivalent G (get_or ws n default) (left i ⊕ right j)) (sym (to_nat-pair b i j))
      (h i j)

  pub listed_covered : length ws ≡ a * b → (x : Fin (times a b)) → (t : Fin (length ws))
      × AreEquivalent G (item ws t) (listed_wave x)
  listed_covered count x =
      let l : to_nat x < length ws = subst (λ n. to_nat x < n) (times-mul a b ∙ sym count) (to_nat-lt x) in (
        from_nat (length ws) (to_nat x) l,
        subst (λ w. AreEquivalent G w (listed_wave x))
            (sym (item-get ws (from_nat (length ws) (to_nat x) l) default
            ∙ ap (λ n. get_or ws n default) (to_nat-from_nat (length ws) (to_nat x) l)))
            (equivalent_refl G (listed_wave x)),
      )

pub arms_of_number : (a b : ℕ) (x : Fin (times a b)) → (i : Fin a) × (j : Fin b) × (pair b i j ≡ x)
    × (to_nat i ≡ to_nat x / b) × (to_nat j ≡ to_nat x % b)
arms_of_number a b x = let u = unpair a b x in
    let e : to_nat x ≡ to_nat u.0 * b + to_nat u.1 = sym (ap to_nat u.2) ∙ to_nat-pair b u.0 u.1 in (
      u.0,
      u.1,
      u.2,
      sym (ap (λ n. n / b) e ∙ div-mul-add (to_nat u.0) b (to_nat u.1) (to_nat-lt u.1)),
      sym (ap (λ n. n % b) e ∙ mod-mul-add (to_nat u.0) b (to_nat u.1) (to_nat-lt u.1)),
    )

pub few_places : (m n : ℕ) → m ≤ 48 → n ≤ 48 → times m n ≤ 2304
few_places m n p q = subst (λ x. x ≤ 2304) (sym (times-mul m n)) (Nat.mul-le-mul p q)
