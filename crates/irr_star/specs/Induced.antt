-- The full representation that a value of the program stands for.
--   IsInduced group S M v D full     full has what the full representation of D over the star S needs
--   IsFullRepresentation full        full is so for some star of a group and some small representation
use Rattle.std.specs.Prelude.{ℕ, ◌≡◌}
use Rattle.std.specs.Int.{◌∣◌}
use Rattle.std.specs.List.{All}
use Rattle.irr_space.specs.Operation.{WaveVector}
use Rattle.irr_space.specs.PhaseTable.{phases_over}
use Rattle.irr_theory.specs.FactorSystem.{Representation}
use Rattle.irr_seitz.specs.PhaseMeaning.{sign_of}
use Rattle.irr_kvec.specs.Centrings.{IsWithinLimits}
use Rattle.irr_cyc.specs.declared.scalars.Scalar.{Ghosts}
use Rattle.irr_close.specs.StandsFor.{stands_for, IsSameGroup}
use Rattle.irr_close.specs.declared.group.Group.{Group}
use Rattle.irr_full.specs.Star.{Star}
use Rattle.irr_star.specs.Sizes.{IsSmallFamily}
use Rattle.irr_star.specs.Stars.{AreArmsOf}
use Rattle.irr_star.specs.Products.{AreProducts}
use Rattle.irr_star.specs.declared.full.Full.{Full}

pub record IsInduced {X : Type 0} {V : Ghosts X} (group : Group) {k : WaveVector}
    (S : Star (sign_of group.phase) (stands_for group) k) (M : ℕ)
    (v : S.table.order ∣ M) {d : ℕ} (D : Representation (phases_over S.table M v) d) (full : Full X V) : Type 0 where
  pub same : IsSameGroup group full.group
  pub order : full.order.n ≡ M
  pub arms : AreArmsOf group full.arms.items S
  pub limits : All (λ a. IsWithinLimits a.wave) full.arms.items
  pub products : AreProducts S full.products.items
  pub family : IsSmallFamily M D.at full.family

pub record IsFullRepresentation {X : Type 0} {V : Ghosts X} (full : Full X V) : Type 0 where
  pub group : Group
  pub wave : WaveVector
  pub star : Star (sign_of group.phase) (stands_for group) wave
  pub number : ℕ
  pub divides : star.table.order ∣ number
  pub size : ℕ
  pub small : Representation (phases_over star.table number divides) size
  pub induced : IsInduced group star number divides small full
