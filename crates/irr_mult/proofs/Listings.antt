-- Lists of the values of some indices.
--   item-get, item-read          the item at a place, by its number
--   listing-none, listing-one    no value, and one
--   listing-append               one list behind another
--   listing-along                the same list of the values of other indices
use Rattle.std.proofs.Common.{◌≡◌, refl, sym, ◌∙◌, ap, ℕ, suc, ◌+◌, ◌<◌, ◌⊎◌, inl, inr, List, [], ◌∷◌, ◌++◌, length, get_or, arith}
use Rattle.std.proofs.lemmas.List.{length-append}
use Rattle.irr_algebra.specs.Fin.{Fin, to_nat}
use Rattle.irr_algebra.specs.Fin.Fin.{first, next}
use Rattle.irr_algebra.proofs.Indices.{from_nat, to_nat-from_nat, to_nat-lt, to_nat_inj}
use Rattle.irr_mult.specs.Listing.{item, IsListing}

pub item-get : {X : Type 0} (xs : List X) (i : Fin (length xs)) (d : X) → item xs i ≡ get_or xs (to_nat i) d
unfolding item to_nat
item-get [] i d = elim i [ ]
item-get (x ∷ xs) first d = refl
item-get (x ∷ xs) (next i) d = item-get xs i d

pub item-read : {X : Type 0} (xs : List X) (k : ℕ) (l : k < length xs) (x : X) → x ≡ get_or xs k x
    → x ≡ item xs (from_nat (length xs) k l)
item-read xs k l x e = e ∙ ap (λ n. get_or xs n x) (sym (to_nat-from_nat (length xs) k l))
    ∙ sym (item-get xs (from_nat (length xs) k l) x)

-- an item of a list behind another stands in one of them
abbrev Split : {X : Type 0} (xs ys : List X) (n : ℕ) (x : X) → Type 0
Split xs ys n x = ((u : Fin (length xs)) × (to_nat u ≡ n) × (x ≡ item xs u)) ⊎
    ((u : Fin (length ys)) × (length xs + to_nat u ≡ n) × (x ≡ item ys u))

split-next : {X : Type 0} (w : X) (xs ys : List X) (n : ℕ) (x : X) → Split xs ys n x → Split (w ∷ xs) ys (suc n) x
unfolding item to_nat
split-next w xs ys n x (inl (u, e, f)) = inl (next u, ap suc e, f)
split-next w xs ys n x (inr (u, e, f)) = inr (u, omega (arith, e), f)

split : {X : Type 0} (xs ys : List X) (t : Fin (length (xs ++ ys))) → Split xs ys (to_nat t) (item (xs ++ ys) t)
unfolding item to_nat
split [] ys t = inr (t, omega arith, refl)
split (x ∷ xs) ys first = inl (first, refl, refl)
split (x ∷ xs) ys (next t) = split-next x xs ys (to_nat t) (item (xs ++ ys) t) (split xs ys t)

module _ {X J : Type 0} (value : J → X) (before : J → J → Type 0) where
  pub listing-none : (P : J → Type 0) → ((j : J) → P j → ⊥) → IsListing value P before []
  listing-none P none = record {
    index = λ t. elim t [ ];
    is = λ t. elim t [ ];
    holds = λ t. elim t [ ];
    all = λ j p. absurd (none j p);
    ordered = λ t. elim t [ ];
  }

  pub listing-one : (P : J → Type 0) (j : J) (x : X) → P j → ((i : J) → P i → j ≡ i) → x ≡ value j
      → IsListing value P before (x ∷ [])
  unfolding item
  listing-one P j x p only e = record {
    index = λ t. j;
    is = at_first;
    holds = λ t. p;
    all = λ i q. (first, only i q);
    ordered = λ t u l. absurd (let a = to_nat-lt t in let b = to_nat-lt u in omega (arith, a, b, l));
  }
    where
      at_first : (t : Fin 1) → item (x ∷ []) t ≡ value j
      at_first first = e
      at_first (next t) = elim t [ ]

  -- the same list, where the same indices are listed
  pub listing-same : (P Q : J → Type 0) (xs : List X) → IsListing value P before xs → ((j : J) → P j → Q j)
      → ((j : J) → Q j → P j)
      → IsListing value Q before xs
  listing-same P Q xs h f g = record {
    index = h.index;
    is = h.is;
    holds = λ t. f (h.index t) (h.holds t);
    all = λ j
        q. h.all j (g j q);
    ordered = h.ordered;
  }

  module _ (P Q R : J → Type 0) (xs ys : List X) (a : IsListing value P before xs) (b : IsListing value Q before ys)
      (left : (j : J) → P j → R j)
      (right : (j : J) → Q j → R j) (either : (j : J) → R j → P j ⊎ Q j) (cross : (i j : J) → P i → Q j → before i j)
    where
      pick : {n : ℕ} {x : X} → Split xs ys n x → J
      pick (inl (u, e, f)) = a.index u
      pick (inr (u, e, f)) = b.index u

      pick-is : {n : ℕ} {x : X} (s : Split xs ys n x) → x ≡ value (pick s)
      unfolding pick
      pick-is (inl (u, e, f)) = f ∙ a.is u
      pick-is (inr (u, e, f)) = f ∙ b.is u

      pick-holds : {n : ℕ} {x : X} (s : Split xs ys n x) → R (pick s)
      unfolding pick
      pick-holds (inl (u, e, f)) = left (a.index u) (a.holds u)
      pick-holds (inr (u, e, f)) = right (b.index u) (b.holds u)

      pick-ordered : {m n : ℕ} {x y : X} (s : Split xs ys m x) (t : Split xs ys n y) → m < n → before (pick s) (pick t)
      unfolding pick
      pick-ordered (inl (u, e, f)) (inl (v, g, h)) l = a.ordered u v (omega (arith, e, g, l))
      pick-ordered (inl (u, e, f)) (inr (v, g, h)) l = cross (a.index u) (b.index v) (a.holds u) (b.holds v)
      pick-ordered (inr (u, e, f)) (inl (v, g, h)) l = absurd (let w = to_nat-lt v in omega (arith, e, g, l, w))
      pick-ordered (inr (u, e, f)) (inr (v, g, h)) l = b.ordered u v (omega (arith, e, g, l))

      pick-left : (n : ℕ) (x : X) (s : Split xs ys n x) (u : Fin (length xs)) → n ≡ to_nat u → pick s ≡ a.index u
      unfolding pick
      pick-left n x (inl (v, e, f)) u g = ap a.index (to_nat_inj v u (e ∙ g))
      pick-left n x (inr (v, e, f)) u g = absurd (let w = to_nat-lt u in omega (arith, e, g, w))

      pick-right : (n : ℕ) (x : X) (s : Split xs ys n x) (u : Fin (length ys)) → n ≡ length xs + to_nat u
          → pick s ≡ b.index u
      unfolding pick
      pick-right n x (inl (v, e, f)) u g = absurd (let w = to_nat-lt v in omega (arith, e, g, w))
      pick-right n x (inr (v, e, f)) u g = ap b.index (to_nat_inj v u (omega (arith, e, g)))

      listed : (j : J) → P j ⊎ Q j → (t : Fin (length (xs ++ ys))) × (pick (split xs ys t) ≡ j)
      listed j (inl p) =
          let found = a.all j p in
          let w = to_nat-lt found.0 in
          let e = length-append xs ys in
          let l : to_nat found.0 < length (xs ++ ys) = omega (arith, w, e) in
          let t = from_nat (length (xs ++ ys)) (to_nat found.0) l in (
            t,
            pick-left (to_nat t) (item (xs ++ ys) t) (split xs ys t) found.0
                (to_nat-from_nat (length (xs ++ ys)) (to_nat found.0) l) ∙ found.1,
          )
      listed j (inr q) =
          let found = b.all j q in
          let w = to_nat-lt found.0 in
          let e = length-append xs ys in
          let l : length xs + to_nat found.0 < length (xs ++ ys) = omega (arith, w, e) in
          let t = from_nat (length (xs ++ ys)) (length xs + to_nat found.0) l in (
            t,
            pick-right (to_nat t) (item (xs ++ ys) t) (split xs ys t) found.0
                (to_nat-from_nat (length (xs ++ ys)) (length xs + to_nat found.0) l) ∙ found.1,
          )

      pub listing-append : IsListing value R before (xs ++ ys)
      listing-append = record {
        index = λ t. pick (split xs ys t);
        is = λ t. pick-is (split xs ys t);
        holds = λ t. pick-holds (split xs ys t);
        all = λ j r. listed j (either j r);
        ordered = λ t u l. pick-ordered (split xs ys t) (split xs ys u) l;
      }

-- the values of indices j as those of f j
pub listing-along : {X J K : Type 0} (value : J → X) (P : J → Type 0) (before : J → J → Type 0) (value' : K → X)
    (Q : K → Type 0)
    (before' : K → K → Type 0) (f : J → K) → ((j : J) → value j ≡ value' (f j)) → ((j : J) → P j → Q (f j))
    → ((k : K) → Q k → (j : J) × P j × (f j ≡ k)) → ((i j : J) → before i j → before' (f i) (f j)) → (xs : List X)
    → IsListing value P before xs → IsListing value' Q before' xs
listing-along value P before value' Q before' f same there back kept xs h = record {
  index = λ t. f (h.index t);
  is = λ t. h.is t ∙ same (h.index t);
  holds = λ t. there (h.index t) (h.holds t);
  all = λ k q. let b = back k q in let found = h.all b.0 b.1 in (found.0, ap f found.1 ∙ b.2);
  ordered = λ t u l. kept (h.index t) (h.index u) (h.ordered t u l);
}
