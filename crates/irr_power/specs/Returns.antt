-- Sums over the arms that operations take to others.
--   ReturnRows .. n h doubles targets cs   doubles are rows of h numbers of order n for the arms, sums of at most 48 powers of z;
--                                          targets are the numbers of the arms to which the operations at the h places take
--                                          them; cs are the numbers of pairs of arms
--   return_sum e p                         the sum, over these pairs, of the numbers of the first arms at the place p, where the
--                                          operation there takes it to the second one
use Rattle.std.specs.Prelude.{ℕ, ◌≡◌, ◌≤◌, ◌+◌, ◌*◌, List, length, slice_index_or, Vec}
use Rattle.std.specs.Global.{Global}
use Rattle.irr_algebra.specs.Fin.{Fin, to_nat}
use Rattle.irr_algebra.specs.Sum.{delta, sum}
use Rattle.irr_number.specs.Number.{Number, numbers}
use Rattle.irr_canonical.specs.RootSum.{IsRootSum}
use Rattle.irr_char.specs.Characters.{IsRowOf}
use Rattle.irr_mult.specs.Listing.{item}
use Rattle.irr_mult.specs.Traced.{traces_at}

pub record ReturnRows {S : Type 0} (order : S → ℕ) (value : (n : ℕ) → S → Number n) (n h : ℕ)
    (doubles : List (Vec S Global)) (targets : List (Vec ℕ Global)) (classes : List ℕ) : Type 0 where
  pub arms : ℕ
  pub count : length doubles ≡ arms
  pub number : Fin arms → Fin h → Number n
  pub row : (i : Fin arms) → IsRowOf order value n (number i) (traces_at doubles (to_nat i))
  pub small : (i : Fin arms) (p : Fin h) → IsRootSum n 48 1 (number i p)
  pub target : Fin arms → Fin h → Fin arms
  pub target_count : length targets ≡ arms
  pub target_places : (i : Fin arms) → length (traces_at targets (to_nat i)) ≡ h
  pub target_at : (i : Fin arms) (p : Fin h) (d : ℕ) → slice_index_or (traces_at targets (to_nat i)) (to_nat p) d ≡ to_nat (target i p)
  pub few_classes : length classes ≤ 2304
  pub first : Fin (length classes) → Fin arms
  pub second : Fin (length classes) → Fin arms
  pub class : (t : Fin (length classes)) → item classes t ≡ to_nat (first t) * arms + to_nat (second t)

unfoldable pub return_sum : {S : Type 0} {order : S → ℕ} {value : (n : ℕ) → S → Number n} {n h : ℕ}
    {doubles : List (Vec S Global)} {targets : List (Vec ℕ Global)} {classes : List ℕ}
    → ReturnRows order value n h doubles targets classes → Fin h → Number n
return_sum {n = n} {classes = classes} e p = sum (numbers n) (length classes)
    (λ t. (numbers n).mul (delta (numbers n) (e.target (e.first t) p) (e.second t)) (e.number (e.first t) p))
