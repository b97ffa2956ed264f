-- The powers of a place of a table of phases, and sums of traces over them.
--   ArePowers T i places exponents turn   the places of the powers of i below its order, with their phases: D(i)^j is z to the j-th
--                                         exponent times D at the j-th place, and z to the turn where j is the order
--   power_trace n N f places exponents e j    z^(-e j) times the trace of D(i)^j, where f is the character: z of the order N
use Rattle.std.specs.Prelude.{ℕ, ◌≡◌, ◌<◌, ◌+◌, ◌-◌, ◌*◌, ◌/◌, List, length, slice_index, slice_index_or}
use Rattle.irr_algebra.specs.Fin.{Fin, to_nat}
use Rattle.irr_number.specs.Number.{Number, numbers, root_power}
use Rattle.irr_space.specs.PhaseTable.{PhaseTable, IsPlaceOrder, place_power, exponents_below}

pub record ArePowers {h : ℕ} (T : PhaseTable h) (i : Fin h) (places exponents : List ℕ) (turn : ℕ) : Type 0 where
  pub is_order : IsPlaceOrder T.start T.product i (length places)
  pub same_length : length exponents ≡ length places
  pub place : (j : ℕ) → j < length places → slice_index places j ≡ to_nat (place_power T.start T.product i j)
  pub exponent : (j : ℕ) → j < length places → slice_index exponents j ≡ exponents_below T.start T.product T.exponent i j
  pub turn_exponent : turn ≡ exponents_below T.start T.product T.exponent i (length places)

-- where z^N is 1, z^((N-e) j) is z^(-e j)
unfoldable pub power_trace : (n N : ℕ) → List (Number n) → List ℕ → List ℕ → ℕ → ℕ → Number n
power_trace n N f places exponents e j =
    (numbers n).mul (root_power n ((slice_index exponents j + (N - e) * j) * (n / N))) (slice_index_or f (slice_index places j) (numbers n).zero)
