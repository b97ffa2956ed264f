-- Lists of sums of roots.
--   contains_at, item_of     a number at a place of a list of the program
--   small-sum                the size of one more root and a sum
--   RootsSoFar               a list with the sums of one more number and the first of its roots
--   roots-none, roots-old, roots-new     no root, one whose sum is there already, and one whose sum is added
--   SumsSoFar                the sums of the first numbers of a list and all roots
--   sums-none, sums-next, sums-all       none, those of one more number, and of all
--   root_sums-none, root_sums-next, root_sums-step       sums for no exponent, and for one more
use Rattle.std.proofs.Common.{◌≡◌, sym, ◌∙◌, ap, refl, subst, ℕ, suc, ◌<◌, ◌≤◌, ◌+◌, ◌*◌, ◌/◌, List, [], ◌∷◌, ◌++◌, length, map, get_or, Contains, arith}
use native.Mathlib.Decide.{dec_le}
use native.Mathlib.Nat as Nat
use Rattle.std.proofs.lemmas.List.{get_or-map, get_or_default, length-map, map-append}
use Rattle.std.proofs.lemmas.List.Elements.{All-get_or, All-nil, All-push, Contains-append_left, Contains-append_right}
use Rattle.irr_algebra.specs.Ring.{Ring}
use Rattle.irr_algebra.specs.Fin.{Fin, to_nat}
use Rattle.irr_algebra.proofs.Indices.{to_nat-lt}
use Rattle.irr_algebra.proofs.Rings.{add_left_comm}
use Rattle.irr_number.specs.Number.{Number, numbers, root_power}
use Rattle.irr_canonical.specs.RootSum.{IsRootSum}
use Rattle.irr_canonical.proofs.RootSums.{IsRootSum-add_same, IsRootSum-root}
use Rattle.irr_rep.proofs.PrimitiveRoots.{power-root_power}
use Rattle.irr_eigen.specs.Power.{power}
use Rattle.irr_extension.specs.Exponents.{AddsUpRoots}
use Rattle.irr_root.specs.RootSums.{AreSmall, HasRootSums, IsSmall}

pub contains_at : {X Y : Type 0} (f : X → Y) (xs : List X) (k : ℕ) (x : X) (y : Y) → k < length xs → x ≡ get_or xs k x → f x ≡ y → Contains (map f xs) y
contains_at f xs k x y l is e = (k, subst (λ m. k < m) (sym (length-map xs f)) l, get_or-map f xs k x y l ∙ ap f (sym is) ∙ e)

pub item_of : {X Y : Type 0} (f : X → Y) (xs : List X) (y : Y) → Contains (map f xs) y → (k : ℕ) × (k < length xs) × (x : X) × (x ≡ get_or xs k x) × (f x ≡ y)
item_of f xs y c =
    let l : c.0 < length xs = subst (λ k. c.0 < k) (length-map xs f) c.1 in
    let some = some_item xs c.0 l in
    (c.0, l, get_or xs c.0 some, get_or_default xs c.0 some (get_or xs c.0 some) l, sym (get_or-map f xs c.0 some y l) ∙ c.2)
  where
    some_item : {X : Type 0} (xs : List X) (k : ℕ) → k < length xs → X
    some_item [] k l = absurd (omega (arith, l))
    some_item (x ∷ xs) k l = x

contains_last : {X Y : Type 0} (f : X → Y) (xs : List X) (x : X) (y : Y) → f x ≡ y → Contains (map f (xs ++ x ∷ [])) y
contains_last f xs x y e = subst (λ l. Contains l y) (sym (map-append f xs (x ∷ []))) (Contains-append_right (map f xs) (f x ∷ []) y (0, omega arith, e))

contains_before : {X Y : Type 0} (f : X → Y) (xs : List X) (x : X) (y : Y) → Contains (map f xs) y → Contains (map f (xs ++ x ∷ [])) y
contains_before f xs x y h = subst (λ l. Contains l y) (sym (map-append f xs (x ∷ []))) (Contains-append_left (map f xs) (f x ∷ []) y h)

module _ {S : Type 0} (order : S → ℕ) (value : (n : ℕ) → S → Number n) (n : ℕ) where
  pub small-sum : (s a : ℕ) (rest : S) → IsSmall order value n s rest → IsRootSum n (s + 1) 1 ((numbers n).add (root_power n a) (value n rest))
  small-sum s a rest r = subst (λ k. IsRootSum n k 1 ((numbers n).add (root_power n a) (value n rest))) (Nat.add_comm 1 s) (IsRootSum-add_same n (IsRootSum-root n a) r.few)

  pub record RootsSoFar (before : List S) (rest : S) (f : ℕ → Number n) (k : ℕ) (now : List S) : Type 0 where
    pub small : (s : ℕ) → s < 48 → IsSmall order value n s rest → AreSmall order value n (s + 1) before → AreSmall order value n (s + 1) now
    pub kept : (x : Number n) → Contains (map (value n) before) x → Contains (map (value n) now) x
    pub roots : (j : ℕ) → j < k → Contains (map (value n) now) (f j)

  module _ (before : List S) (rest : S) (f : ℕ → Number n) where
    pub roots-none : RootsSoFar before rest f 0 before
    roots-none = record { small = λ s l h a. a; kept = λ x h. h; roots = λ j l. absurd (omega (arith, l)) }

    -- those below k, and the one at k
    one_more : (P : Number n → Type 0) (k : ℕ) → ((j : ℕ) → j < k → P (f j)) → P (f k) → (j : ℕ) → j < k + 1 → P (f j)
    one_more P k h last j l = cases (dec_le (suc j) k)
      where
        cases : Dec (suc j ≤ k) → P (f j)
        cases (yes m) = h j m
        cases (no m) = let is : k ≡ j = omega (arith, l, m) in subst (λ i. P (f i)) is last

    pub roots-old : (k : ℕ) (now : List S) → RootsSoFar before rest f k now → Contains (map (value n) now) (f k) → RootsSoFar before rest f (k + 1) now
    roots-old k now h there = record { small = h.small; kept = h.kept; roots = one_more (Contains (map (value n) now)) k h.roots there }

    pub roots-new : (k : ℕ) (now after : List S) (x : S) → RootsSoFar before rest f k now → after ≡ now ++ x ∷ [] → order x ≡ n → value n x ≡ f k
        → ((s : ℕ) → IsSmall order value n s rest → IsRootSum n (s + 1) 1 (f k)) → RootsSoFar before rest f (k + 1) after
    roots-new k now after x h is o v few = subst (RootsSoFar before rest f (k + 1)) (sym is) (record {
      small = λ s l r a. All-push (IsSmall order value n (s + 1)) now x (h.small s l r a) (record { has_order = o; few = subst (IsRootSum n (s + 1) 1) (sym v) (few s r) });
      kept = λ y c. contains_before (value n) now x y (h.kept y c);
      roots = one_more (Contains (map (value n) (now ++ x ∷ []))) k (λ j l. contains_before (value n) now x (f j) (h.roots j l)) (contains_last (value n) now x (f k) v);
    })

  -- f j is added to each of the numbers, for each j below p
  pub record SumsSoFar (rests : List S) (f : ℕ → Number n) (p i : ℕ) (now : List S) : Type 0 where
    pub small : (s : ℕ) → s < 48 → AreSmall order value n s rests → AreSmall order value n (s + 1) now
    pub sums : (a : ℕ) → a < i → (x : S) → x ≡ get_or rests a x → (j : ℕ) → j < p → Contains (map (value n) now) ((numbers n).add (f j) (value n x))

  module _ (rests : List S) (f : ℕ → Number n) (p : ℕ) where
    pub sums-none : (now : List S) → now ≡ [] → SumsSoFar rests f p 0 now
    sums-none now is = record {
      small = λ s l h. subst (AreSmall order value n (s + 1)) (sym is) (All-nil (IsSmall order value n (s + 1)));
      sums = λ a l. absurd (omega (arith, l));
    }

    pub sums-next : (i : ℕ) (now after : List S) (rest : S) → i < length rests → rest ≡ get_or rests i rest → SumsSoFar rests f p i now
        → ((s : ℕ) → s < 48 → IsSmall order value n s rest → AreSmall order value n (s + 1) now → AreSmall order value n (s + 1) after)
        → ((x : Number n) → Contains (map (value n) now) x → Contains (map (value n) after) x)
        → ((j : ℕ) → j < p → Contains (map (value n) after) ((numbers n).add (f j) (value n rest))) → SumsSoFar rests f p (i + 1) after
    sums-next i now after rest l is h small kept roots = record {
      small = λ s m a. small s m (subst (IsSmall order value n s) (sym is) (at s a)) (h.small s m a);
      sums = λ a m x e j q. cases a x e j q m (dec_le (suc a) i);
    }
      where
        at : (s : ℕ) → AreSmall order value n s rests → IsSmall order value n s (get_or rests i rest)
        at s a = All-get_or (IsSmall order value n s) rests i rest l a

        cases : (a : ℕ) (x : S) → x ≡ get_or rests a x → (j : ℕ) → j < p → a < i + 1 → Dec (suc a ≤ i) → Contains (map (value n) after) ((numbers n).add (f j) (value n x))
        cases a x e j q m (yes t) = kept ((numbers n).add (f j) (value n x)) (h.sums a t x e j q)
        cases a x e j q m (no t) =
            let same : i ≡ a = omega (arith, m, t) in
            subst (λ y. Contains (map (value n) after) ((numbers n).add (f j) (value n y)))
            (is ∙ get_or_default rests i rest x l ∙ ap (λ k. get_or rests k x) same ∙ sym e) (roots j q)

    pub sums-all : (now : List S) → SumsSoFar rests f p (length rests) now → (x : Number n) → Contains (map (value n) rests) x → (j : ℕ) → j < p
        → Contains (map (value n) now) ((numbers n).add (f j) x)
    sums-all now h x c j l =
        let item = item_of (value n) rests x c in
        subst (λ v. Contains (map (value n) now) ((numbers n).add (f j) v)) item.4 (h.sums item.0 item.1 item.2 item.3 j l)

-- the sums for one more exponent at the end
module _ (R : Ring) (z : R.Carrier) (p m : ℕ) where
  last : (es : List ℕ) (e : ℕ) (s : R.Carrier) → AddsUpRoots R z p m (es ++ e ∷ []) s
      → (e / p * p ≡ e) × (j : Fin p) × (rest : R.Carrier) × (s ≡ R.add (power R z (e / p + to_nat j * m)) rest) × AddsUpRoots R z p m es rest
  unfolding AddsUpRoots
  last [] e s h = h
  last (f ∷ es) e s h =
      let more = last es e h.2 h.4 in (
        more.0,
        more.1,
        R.add (power R z (f / p + to_nat h.1 * m)) more.2,
        h.3 ∙ ap (R.add (power R z (f / p + to_nat h.1 * m))) more.3 ∙ add_left_comm R (power R z (f / p + to_nat h.1 * m)) (power R z (e / p + to_nat more.1 * m)) more.2,
        (h.0, h.1, more.2, refl, more.4),
      )

  pub root_sums-none : (xs : List R.Carrier) → Contains xs R.zero → HasRootSums R z p m [] xs
  unfolding AddsUpRoots
  root_sums-none xs c s h = subst (Contains xs) (sym h) c

  pub root_sums-next : (es : List ℕ) (e : ℕ) (xs ys : List R.Carrier) → HasRootSums R z p m es xs
      → ((x : R.Carrier) → Contains xs x → (j : ℕ) → j < p → Contains ys (R.add (power R z (e / p + j * m)) x)) → HasRootSums R z p m (es ++ e ∷ []) ys
  root_sums-next es e xs ys all next s h =
      let one = last es e s h in
      subst (Contains ys) (sym one.3) (next one.2 (all one.2 one.4) (to_nat one.1) (to_nat-lt one.1))

-- one more exponent in the program
pub root_sums-step : {S : Type 0} (value : (n : ℕ) → S → Number n) (n N p : ℕ) (es : List ℕ) (e : ℕ) (xs ys : List S)
    → HasRootSums (numbers n) (root_power n (n / N)) p (N / p) es (map (value n) xs)
    → ((x : Number n) → Contains (map (value n) xs) x → (j : ℕ) → j < p → Contains (map (value n) ys) ((numbers n).add (root_power n ((e / p + j * (N / p)) * (n / N))) x))
    → HasRootSums (numbers n) (root_power n (n / N)) p (N / p) (es ++ e ∷ []) (map (value n) ys)
root_sums-step value n N p es e xs ys all next = root_sums-next (numbers n) (root_power n (n / N)) p (N / p) es e (map (value n) xs) (map (value n) ys) all (λ x c j l.
    subst (λ u. Contains (map (value n) ys) ((numbers n).add u x)) (sym (power-root_power n (n / N) (e / p + j * (N / p)))) (next x c j l))
