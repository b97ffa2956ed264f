-- The order of a line, point after point.
--   IsOrderSoFar group points e i common   e times common is the order of the first i points, within the limit
--   order_none                             before the first point
--   order_next                             the order with one more point
--   order_more                             and so on, where that is within the limit
--   order_first_above                      where it is not, it is the first above
use Rattle.std.proofs.Common.{◌≡◌, sym, ◌∙◌, ap, subst, refl, inl, inr, ℕ, zero, suc, ◌<◌, ◌≤◌, ◌+◌, ◌*◌, List, length, get_or, arith}
use Rattle.std.proofs.lemmas.Bool.{cases_lt}
use Rattle.std.specs.Int.{◌∣◌}
use native.Mathlib.Nat as Nat
use Rattle.irr_algebra.specs.Fin.{Fin, to_nat}
use Rattle.irr_algebra.specs.Fin.Fin.{first}
use Rattle.irr_space.specs.Operation.{WaveVector}
use Rattle.irr_space.specs.SpaceGroup.{IsExponent}
use Rattle.irr_space.specs.Reciprocal.{IsPeriod, IsOrder}
use Rattle.irr_rat.specs.Lcm.{IsLcm}
use Rattle.irr_kvec.specs.WaveMeaning.{wave_vector}
use Rattle.irr_kvec.specs.declared.wave.Wave.{Wave}
use Rattle.irr_close.specs.StandsFor.{stands_for}
use Rattle.irr_close.specs.declared.group.Group.{Group}
use Rattle.irr_line.specs.LineGroup.{IsLineOrder}
use Rattle.irr_line.proofs.Orders.{one_point_order, line_order_unique}
use Rattle.irr_line.proofs.MorePoints.{one_more_point}
use Rattle.irr_little.specs.Line.{line_points, IsFirstAbove}

pub record IsOrderSoFar (group : Group) (points : List Wave) (e i common : ℕ) : Type 0 where
  pub positive : 0 < common
  pub within : e * common ≤ 12000
  pub none : i ≡ 0 → common ≡ 1
  pub order : (m : ℕ) (d : Wave) → i ≡ suc m → IsLineOrder (stands_for group) (line_points m points d) (e * common)
  pub below : (j n : ℕ) (d : Wave) → j < i → IsLineOrder (stands_for group) (line_points j points d) n → n ≤ 12000

module _ (group : Group) (points : List Wave) (e : ℕ) (is_exponent : IsExponent (stands_for group) e) where
  pub order_none : e ≤ 48 → IsOrderSoFar group points e 0 1
  order_none small = record {
    positive = omega arith;
    within = omega arith;
    none = λ s. refl;
    order = λ m d s. absurd (omega (arith, s));
    below = λ j n d l. absurd (omega (arith, l));
  }

  first_order : (d : Wave) (q c : ℕ) → IsPeriod (stands_for group) (wave_vector (get_or points 0 d)) q → IsLcm 1 q c
      → IsLineOrder (stands_for group) (line_points 0 points d) (e * c)
  unfolding to_nat
  first_order d q c p l = (one_point_order (stands_for group) (line_points 0 points d) (e * c)).1 (record {
    exponent = e;
    period = q;
    is_exponent = is_exponent;
    is_period = p;
    is_product = ap (λ x. e * x) (Nat.dvd_antisymm (l.2 q (Nat.one-dvd q) (Nat.dvd_refl q)) l.1);
  })

  module _ (i common q c : ℕ) (so : IsOrderSoFar group points e i common) (positive : 0 < c) (l : IsLcm common q c)
      (period : (d : Wave) → IsPeriod (stands_for group) (wave_vector (get_or points i d)) q) where
    at_number : (d : Wave) (k : ℕ) → i ≡ k → IsLineOrder (stands_for group) (line_points k points d) (e * c)
    at_number d zero s = first_order d q c (subst (λ n. IsPeriod (stands_for group) (wave_vector (get_or points n d)) q) s (period d))
        (subst (λ n. IsLcm n q c) (so.none s) l)
    at_number d (suc m) s = one_more_point (stands_for group) (λ n. wave_vector (get_or points n d)) m e common q c is_exponent
        (so.order m d s) (subst (λ n. IsPeriod (stands_for group) (wave_vector (get_or points n d)) q) s (period d)) positive l.0 l.1 l.2

    pub order_next : (d : Wave) → IsLineOrder (stands_for group) (line_points i points d) (e * c)
    order_next d = at_number d i refl

    pub order_more : e * c ≤ 12000 → IsOrderSoFar group points e (i + 1) c
    order_more within = record {
      positive = positive;
      within = within;
      none = λ s. absurd (omega (arith, s));
      order = λ m d s. at_number d m (omega (arith, s));
      below = λ j n d b o. elim (cases_lt j i) [
        | inl inside ↦ so.below j n d inside o
        | inr last ↦ subst (λ x. x ≤ 12000) (line_order_unique (stands_for group) (line_points j points d) (e * c) n
            (at_number d j (let s : i ≡ j = omega (arith, b, last) in s)) o) within
      ];
    }

    pub order_first_above : i < length points → 12000 < e * c → IsFirstAbove group points (e * c)
    order_first_above inside above = record { last = i; inside = inside; is_order = order_next; above = above; first = so.below }
