-- Lists whose items all have a property, or one of them has it, or which are in order; and one more item within them.
--   Each, Some, InOrder                 by recursion on the list
--   each-item, of-each, and so on       the same, by places
--   each-put, some-put, some-new, order-put     one more item within
--   each-push, some-push, some-last             one more item at the end
use Rattle.std.proofs.Common.{◌<◌, ◌⊎◌, inl, inr, List, [], ◌∷◌, ◌++◌, length, arith}
use Rattle.irr_algebra.specs.Fin.{Fin, to_nat}
use Rattle.irr_algebra.specs.Fin.Fin.{first, next}
use Rattle.irr_mult.specs.Listing.{item}

module _ {X : Type 0} where
  abbrev pub Each : (X → Type 0) → List X → Type 0
  Each P [] = Unit {0}
  Each P (x ∷ xs) = P x × Each P xs

  abbrev pub Some : (X → Type 0) → List X → Type 0
  Some P [] = ⊥
  Some P (x ∷ xs) = P x ⊎ Some P xs

  abbrev pub InOrder : (X → X → Type 0) → List X → Type 0
  InOrder R [] = Unit {0}
  InOrder R (x ∷ xs) = Each (R x) xs × InOrder R xs

  pub each-item : (P : X → Type 0) (xs : List X) → Each P xs → (i : Fin (length xs)) → P (item xs i)
  unfolding item
  each-item P [] h i = elim i [ ]
  each-item P (x ∷ xs) h first = h.0
  each-item P (x ∷ xs) h (next i) = each-item P xs h.1 i

  pub of-each : (P : X → Type 0) (xs : List X) → ((i : Fin (length xs)) → P (item xs i)) → Each P xs
  unfolding item
  of-each P [] h = tt
  of-each P (x ∷ xs) h = (h first, of-each P xs (λ i. h (next i)))

  some-next : (P : X → Type 0) (x : X) (xs : List X) → (i : Fin (length xs)) × P (item xs i)
      → (i : Fin (length (x ∷ xs))) × P (item (x ∷ xs) i)
  unfolding item
  some-next P x xs (i, p) = (next i, p)

  pub some-item : (P : X → Type 0) (xs : List X) → Some P xs → (i : Fin (length xs)) × P (item xs i)
  unfolding item
  some-item P [] s = absurd s
  some-item P (x ∷ xs) (inl p) = (first, p)
  some-item P (x ∷ xs) (inr s) = some-next P x xs (some-item P xs s)

  pub of-some : (P : X → Type 0) (xs : List X) (i : Fin (length xs)) → P (item xs i) → Some P xs
  unfolding item
  of-some P [] i p = elim i [ ]
  of-some P (x ∷ xs) first p = inl p
  of-some P (x ∷ xs) (next i) p = inr (of-some P xs i p)

  pub order-item : (R : X → X → Type 0) (xs : List X) → InOrder R xs → (i j : Fin (length xs)) → to_nat i < to_nat j
      → R (item xs i) (item xs j)
  unfolding item to_nat
  order-item R [] o i j l = elim i [ ]
  order-item R (x ∷ xs) o first first l = absurd (omega (arith, l))
  order-item R (x ∷ xs) o first (next j) l = each-item (R x) xs o.0 j
  order-item R (x ∷ xs) o (next i) first l = absurd (omega (arith, l))
  order-item R (x ∷ xs) o (next i) (next j) l = order-item R xs o.1 i j (omega (arith, l))

  pub of-order : (R : X → X → Type 0) (xs : List X)
      → ((i j : Fin (length xs)) → to_nat i < to_nat j → R (item xs i) (item xs j)) → InOrder R xs
  unfolding item to_nat
  of-order R [] h = tt
  of-order R (x ∷ xs) h = (
    of-each (R x) xs (λ j. h first (next j) (omega arith)),
    of-order R xs (λ i j l. h (next i) (next j) (omega (arith, l))),
  )

  pub each-map : (P Q : X → Type 0) → ((x : X) → P x → Q x) → (xs : List X) → Each P xs → Each Q xs
  each-map P Q f [] h = tt
  each-map P Q f (x ∷ xs) h = (f x h.0, each-map P Q f xs h.1)

  pub some-map : (P Q : X → Type 0) → ((x : X) → P x → Q x) → (xs : List X) → Some P xs → Some Q xs
  some-map P Q f [] s = s
  some-map P Q f (x ∷ xs) (inl p) = inl (f x p)
  some-map P Q f (x ∷ xs) (inr s) = inr (some-map P Q f xs s)

  pub each-put : (P : X → Type 0) (front back : List X) (y : X) → P y → Each P (front ++ back)
      → Each P (front ++ y ∷ back)
  each-put P [] back y p h = (p, h)
  each-put P (x ∷ front) back y p h = (h.0, each-put P front back y p h.1)

  pub some-new : (P : X → Type 0) (front back : List X) (y : X) → P y → Some P (front ++ y ∷ back)
  some-new P [] back y p = inl p
  some-new P (x ∷ front) back y p = inr (some-new P front back y p)

  pub some-put : (P : X → Type 0) (front back : List X) (y : X) → Some P (front ++ back) → Some P (front ++ y ∷ back)
  some-put P [] back y s = inr s
  some-put P (x ∷ front) back y (inl p) = inl p
  some-put P (x ∷ front) back y (inr s) = inr (some-put P front back y s)

  pub order-put : (R : X → X → Type 0) (front back : List X) (y : X) → Each (λ x. R x y) front → Each (R y) back
      → InOrder R (front ++ back) → InOrder R (front ++ y ∷ back)
  order-put R [] back y b a o = (a, o)
  order-put R (x ∷ front) back y b a o = (each-put (R x) front back y b.0 o.0, order-put R front back y b.1 a o.1)

  pub order-back : (R : X → X → Type 0) (front back : List X) → InOrder R (front ++ back) → InOrder R back
  order-back R [] back o = o
  order-back R (x ∷ front) back o = order-back R front back o.1

  pub each-push : (P : X → Type 0) (xs : List X) (y : X) → Each P xs → P y → Each P (xs ++ y ∷ [])
  each-push P [] y h p = (p, tt)
  each-push P (x ∷ xs) y h p = (h.0, each-push P xs y h.1 p)

  pub some-push : (P : X → Type 0) (xs : List X) (y : X) → Some P xs → Some P (xs ++ y ∷ [])
  some-push P [] y s = absurd s
  some-push P (x ∷ xs) y (inl p) = inl p
  some-push P (x ∷ xs) y (inr s) = inr (some-push P xs y s)

  pub some-last : (P : X → Type 0) (xs : List X) (y : X) → P y → Some P (xs ++ y ∷ [])
  some-last P xs y p = some-new P xs [] y p
