-- How far the families of a program have come up a series of levels.
--   IsWhole h members        the list of all places, in their order
--   IsClimbed T levels k fs  the families are a full list on the members of the level k, and after the last level on the whole table
use Rattle.std.specs.Prelude.{ℕ, ◌≡◌, ◌<◌, List, [], drop, length, slice_index}
use Rattle.irr_space.specs.PhaseTable.{PhaseTable}
use Rattle.irr_cyc.specs.declared.scalars.Scalar.{Ghosts}
use Rattle.irr_rep.specs.declared.family.Family.{Family}
use Rattle.irr_chain.specs.declared.series.Level.{Level}
use Rattle.irr_chain.specs.Series.{IsSeries}
use Rattle.irr_climb.specs.Lists.{IsFullOn}

-- 0, 1, .., h - 1
pub record IsWhole (h : ℕ) (members : List ℕ) : Type 0 where
  pub count : length members ≡ h
  pub numbers : (a : ℕ) → a < h → slice_index members a ≡ a

-- a full list on the members at which the other levels start
pub record IsClimbed {S : Type 0} {G : Ghosts S} {h : ℕ} (T : PhaseTable h) (levels : List Level) (k : ℕ) (fs : List (Family S G)) : Type 0 where
  pub members : List ℕ
  pub series : IsSeries T members (drop k levels)
  pub full : IsFullOn T T.order members fs
  pub whole : drop k levels ≡ [] → IsWhole h members
