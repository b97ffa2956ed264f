-- A full list on the list of all places is one on the table itself.
--   whole_read, whole_sized
use Rattle.std.specs.Prelude.{ℕ, ◌≡◌, ◌<◌, List, length, slice_index}
use Rattle.std.specs.Int.{◌∣◌}
use Rattle.std.specs.List.{range_with_len}
use Rattle.std.proofs.Common.{◌∙◌, subst, zero-add}
use native.Mathlib.Nat as Nat
use Rattle.std.proofs.lemmas.List.FromFn.{get_or-range_with_len, length-range_with_len}
use Rattle.irr_space.specs.PhaseTable.{PhaseTable, phases_over}
use Rattle.irr_level.proofs.Positions.{whole_restriction}
use Rattle.irr_cyc.specs.declared.scalars.Scalar.{Ghosts}
use Rattle.irr_rep.specs.declared.family.Family.{Family}
use Rattle.irr_climb.specs.Lists.{IsFullOn, IsFullyRead}
use Rattle.irr_climb.specs.Sizes.{AreSized}

module _ {h : ℕ} (T : PhaseTable h) {S : Type 0} {G : Ghosts S} (fs : List (Family S G))
    (on : (members : List ℕ) → length members ≡ h → ((a : ℕ) → a < h → slice_index members a ≡ a) → IsFullOn T T.order members fs) where
  count : length (range_with_len 0 h) ≡ h
  count = length-range_with_len 0 h

  numbers : (a : ℕ) → a < h → slice_index (range_with_len 0 h) a ≡ a
  numbers a l = get_or-range_with_len 0 h a 0 l ∙ zero-add a

  pub whole_read : (v : T.order ∣ T.order) × IsFullyRead T.order (phases_over T T.order v) fs
  whole_read = let v = Nat.dvd_refl T.order in (
    v,
    (on (range_with_len 0 h) count numbers).full h T
        (whole_restriction T (range_with_len 0 h) count numbers) v,
  )

  pub whole_sized : AreSized T.order h fs
  whole_sized = subst (λ n. AreSized T.order n fs) count (on (range_with_len 0 h) count numbers).sized
