-- Increasing maps of indices.
--   increasing-same      an increasing map with an increasing inverse keeps each index, and the lengths are one
use Rattle.std.proofs.Common.{◌≡◌, ap, ℕ, zero, suc, ◌<◌, ◌≤◌, arith, refl}
use Rattle.irr_algebra.specs.Fin.{Fin, to_nat}
use Rattle.irr_algebra.proofs.Indices.{from_nat, to_nat-from_nat, to_nat-lt}

abbrev pub IsIncreasing : {a b : ℕ} → (Fin a → Fin b) → Type 0
IsIncreasing {a} s = (m n : Fin a) → to_nat m < to_nat n → to_nat (s m) < to_nat (s n)

module _ {a b : ℕ} (s : Fin a → Fin b) (up : IsIncreasing s) where
  -- an increasing map does not fall below the index
  at_least : (k : ℕ) (m : Fin a) → to_nat m ≡ k → k ≤ to_nat (s m)
  at_least zero m e = omega arith
  at_least (suc k) m e =
      let l : k < a = let t : to_nat m < a = to_nat-lt m in omega arith in
      let p : to_nat (from_nat a k l) ≡ k = to_nat-from_nat a k l in
      let below : k ≤ to_nat (s (from_nat a k l)) = at_least k (from_nat a k l) p in
      let above : to_nat (s (from_nat a k l)) < to_nat (s m) = up (from_nat a k l) m (omega arith) in
      omega arith

  pub increasing-least : (m : Fin a) → to_nat m ≤ to_nat (s m)
  increasing-least m = at_least (to_nat m) m refl

  pub increasing-length : a ≤ b
  increasing-length = from_length a refl
    where
      from_length : (c : ℕ) → a ≡ c → a ≤ b
      from_length zero e = omega arith
      from_length (suc c) e =
          let l : c < a = omega arith in
          let p : to_nat (from_nat a c l) ≡ c = to_nat-from_nat a c l in
          let m : to_nat (from_nat a c l) ≤ to_nat (s (from_nat a c l)) = increasing-least (from_nat a c l) in
          let t : to_nat (s (from_nat a c l)) < b = to_nat-lt (s (from_nat a c l)) in
          omega arith

pub increasing-same : {a b : ℕ} (s : Fin a → Fin b) (t : Fin b → Fin a) → IsIncreasing s → IsIncreasing t → ((m : Fin a) → t (s m) ≡ m) → (a ≡ b) × ((m : Fin a) → to_nat (s m) ≡ to_nat m)
increasing-same {a} {b} s t up up' ts = (
  (let l : a ≤ b = increasing-length s up in let m : b ≤ a = increasing-length t up' in omega arith),
  λ m. let l : to_nat m ≤ to_nat (s m) = increasing-least s up m in
      let k : to_nat (s m) ≤ to_nat (t (s m)) = increasing-least t up' (s m) in
      let e : to_nat (t (s m)) ≡ to_nat m = ap to_nat (ts m) in omega arith,
)
