-- Texts that are read item by item, where an item has at most one next state, and may pass a limit.
--   Machine A             states, their steps, which items pass a limit at a state, and which states end a text
--   Leads M s xs t        the items xs lead from s to t
--   Reads M s xs t        and none of them passes a limit
--   Stops M s xs          s ends no text and no item is left, or the next item has no step
use Rattle.std.specs.Prelude.{List, [], ◌∷◌}

pub record Machine (A : Type 0) : Type 1 where
  pub State : Type 0
  pub Step : State → A → State → Type 0
  pub Passes : State → A → Type 0
  pub IsEnd : State → Type 0

pub data Leads {A : Type 0} (M : Machine A) : M.State → List A → M.State → Type 0 where
  none : {s : M.State} → Leads M s [] s
  more : {s t u : M.State} {x : A} {xs : List A} → M.Step s x t → Leads M t xs u → Leads M s (x ∷ xs) u

pub data Reads {A : Type 0} (M : Machine A) : M.State → List A → M.State → Type 0 where
  none : {s : M.State} → Reads M s [] s
  more : {s t u : M.State} {x : A} {xs : List A} → M.Step s x t → ¬ (M.Passes s x) → Reads M t xs u → Reads M s (x ∷ xs) u

abbrev pub Stops : {A : Type 0} (M : Machine A) → M.State → List A → Type 0
Stops M s [] = ¬ (M.IsEnd s)
Stops M s (x ∷ xs) = (t : M.State) → ¬ (M.Step s x t)
