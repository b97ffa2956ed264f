-- Lists of the values of some indices, in their order.
--   item xs i                    the item of a list at a place
--   IsListing f P before xs      the items of xs are f j for each j with P, each once, in the order of the j
use Rattle.std.specs.Prelude.{◌≡◌, ◌<◌, List, [], ◌∷◌, length}
use Rattle.irr_algebra.specs.Fin.{Fin, to_nat}
use Rattle.irr_algebra.specs.Fin.Fin.{first, next}

unfoldable pub item : {X : Type 0} (xs : List X) → Fin (length xs) → X
item [] i = elim i [ ]
item (x ∷ xs) first = x
item (x ∷ xs) (next i) = item xs i

pub record IsListing {X J : Type 0} (value : J → X) (holds_at : J → Type 0) (before : J → J → Type 0)
    (xs : List X) : Type 0 where
  pub index : Fin (length xs) → J
  pub is : (t : Fin (length xs)) → item xs t ≡ value (index t)
  pub holds : (t : Fin (length xs)) → holds_at (index t)
  pub all : (j : J) → holds_at j → (t : Fin (length xs)) × (index t ≡ j)
  pub ordered : (t u : Fin (length xs)) → to_nat t < to_nat u → before (index t) (index u)
