-- A point of a line, as the program reads it.
--   place_of, place-number, wave_here     its place among the points
--   order_here                 its order divides that of the line
--   is_little_here             the table of its little group
--   turns_here                 the turns
use Rattle.std.proofs.Common.{◌≡◌, sym, ◌∙◌, ap, subst, subst₂, refl, ℕ, suc, ◌*◌, ◌<◌, List, length, get_or}
use Rattle.std.specs.Int.{◌∣◌}
use Rattle.std.proofs.lemmas.List.{get_or_default}
use Rattle.irr_algebra.specs.Fin.{Fin, to_nat}
use Rattle.irr_algebra.specs.Fin.Fin.{first}
use Rattle.irr_algebra.proofs.Indices.{from_nat, to_nat-from_nat}
use Rattle.irr_number.specs.Number.{Number}
use Rattle.irr_space.specs.Operation.{Operation, WaveVector}
use Rattle.irr_space.specs.Reciprocal.{IsOrder}
use Rattle.irr_rep.specs.Twisted.{operation_places, phase_table}
use Rattle.irr_rep.specs.declared.table.Twisted.{Twisted}
use Rattle.irr_kvec.specs.WaveMeaning.{wave_vector}
use Rattle.irr_kvec.specs.declared.wave.Wave.{Wave}
use Rattle.irr_close.specs.StandsFor.{stands_for}
use Rattle.irr_close.specs.declared.group.Group.{Group}
use Rattle.irr_line.specs.LineGroup.{IsLineOrder}
use Rattle.irr_line.proofs.Orders.{point_order-divides}
use Rattle.irr_little.specs.Table.{IsLittleTable}
use Rattle.irr_mult.specs.declared.star.SmallCharacter.{SmallCharacter}
use Rattle.irr_compat.specs.LineTables.{IsLineHere, here_point}
use Rattle.irr_compat.specs.Turns.{AreTurns, IsPointOfLine}
use Rattle.irr_compat.specs.declared.turns.Turn.{Turn}

point_order : (G : Operation → Type 0) {n : ℕ} (point : Fin (suc n) → WaveVector) (order : ℕ) → IsLineOrder G point order → (i : Fin (suc n))
    → (m : ℕ) × IsOrder G (point i) m × (m ∣ order)
point_order G point order o i = with_order (record {
  exponent = o.exponent;
  period = o.period i;
  is_exponent = o.is_exponent;
  is_period = o.is_period i;
  is_product = refl;
})
  where
    with_order : IsOrder G (point i) (o.exponent * o.period i) → (m : ℕ) × IsOrder G (point i) m × (m ∣ order)
    with_order p = (o.exponent * o.period i, p, point_order-divides G point i (o.exponent * o.period i) order p o)

module _ {S : Type 0} {order : S → ℕ} {value : (n : ℕ) → S → Number n} {group : Group} {points : List Wave} {line : Twisted}
    {members : List (SmallCharacter S)} (e : IsLineHere order value group points line members) where
  module _ (i : ℕ) (l : i < length points) (x : Wave) (is : x ≡ get_or points i x) where
    below : i < suc e.others
    below = subst (λ m. i < m) e.count l

    pub place_of : Fin (suc e.others)
    place_of = from_nat (suc e.others) i below

    pub place-number : to_nat place_of ≡ i
    unfolding place_of
    place-number = to_nat-from_nat (suc e.others) i below

    pub wave_here : (p : Fin (suc e.others)) → to_nat p ≡ i → here_point e p ≡ wave_vector x
    wave_here p f = ap wave_vector (ap (λ n. get_or points n e.past_end) f ∙ sym (is ∙ get_or_default points i x e.past_end l))

    pub order_here : (m : ℕ) × IsOrder (stands_for group) (wave_vector x) m × (m ∣ (phase_table line).order)
    order_here = subst (λ w. (m : ℕ) × IsOrder (stands_for group) w m × (m ∣ (phase_table line).order)) (wave_here place_of place-number)
        (point_order (stands_for group) (here_point e) (phase_table line).order (e.is_line.table e.some).is_order place_of)

    pub is_little_here : (p : Fin (suc e.others)) → to_nat p ≡ i → (table : Twisted) → IsLittleTable group (wave_vector x) (operation_places table) (phase_table table)
        → IsLittleTable group (here_point e p) (operation_places table) (phase_table table)
    is_little_here p f table t = subst (λ w. IsLittleTable group w (operation_places table) (phase_table table)) (sym (wave_here p f)) t

    module _ (start : 0 < length points) (y : Wave) (at : y ≡ get_or points 0 y) where
      pub first_here : here_point e first ≡ wave_vector y
      unfolding to_nat
      first_here = ap wave_vector (sym (at ∙ get_or_default points 0 y e.past_end start))

      pub point_of_line : (table : Twisted) → IsLittleTable group (wave_vector x) (operation_places table) (phase_table table)
          → IsPointOfLine group line table (wave_vector y) (wave_vector x)
      point_of_line table t = record {
        others = e.others;
        point = here_point e;
        at_first = first_here;
        place = place_of;
        at_place = wave_here place_of place-number;
        is_line = e.is_line;
        is_little = t;
      }

      pub turns_here : (p : Fin (suc e.others)) → to_nat p ≡ i → (table : Twisted) (ts : List Turn) → AreTurns group line table (wave_vector y) (wave_vector x) ts
          → AreTurns group line table (here_point e first) (here_point e p) ts
      turns_here p f table ts t = subst₂ (λ v w. AreTurns group line table v w ts) (sym first_here) (sym (wave_here p f)) t
