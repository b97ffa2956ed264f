-- Lists of sums, one after another.
--   number_before, number_last     the numbers of a list with one more
--   SumsSoFar                      the first k sums
--   sums_none, sums_more, sums_all
use Rattle.std.proofs.Common.{◌≡◌, sym, ◌∙◌, ap, subst, refl, ℕ, [], ◌∷◌, ◌++◌, ◌+◌, ◌<◌, List, length, length-append, get_or, map, Vec, inl, inr, arith}
use Rattle.std.proofs.Math.Seq.{get_or-append_seam}
use Rattle.std.specs.Prelude.{Option}
use Rattle.std.specs.Global.{Global}
use Rattle.std.specs.List.{All}
use Rattle.std.proofs.lemmas.Bool.{cases_lt}
use Rattle.std.proofs.lemmas.List.{get_or_append_left, get_or_default, length-map, map-append}
use Rattle.std.proofs.lemmas.List.Elements.{All-nil, All-push}
use Rattle.irr_number.specs.Number.{Number, numbers}
use Rattle.irr_site.specs.Traces.{AreSumsOf, IsSumOf, number_at}
use Rattle.irr_site.specs.declared.rest.Rest.{Rest}
use Rattle.irr_site.proofs.SiteSearch.{below_or_last}

module _ {S : Type 0} (value : (n : ℕ) → S → Number n) (n : ℕ) where
  pub number_before : (xs : List S) (x : S) (i : ℕ) → i < length xs
      → number_at n (map (value n) (xs ++ x ∷ [])) i ≡ number_at n (map (value n) xs) i
  number_before xs x i l = ap (λ ys. number_at n ys i) (map-append (value n) xs (x ∷ []))
      ∙ get_or_append_left (map (value n) xs) (value n x ∷ []) (numbers n).zero i (subst (λ m. i < m) (sym (length-map xs (value n))) l)

  pub number_last : (xs : List S) (x : S) → number_at n (map (value n) (xs ++ x ∷ [])) (length xs) ≡ value n x
  number_last xs x = ap (λ ys. number_at n ys (length xs)) (map-append (value n) xs (x ∷ []))
      ∙ ap (number_at n (map (value n) xs ++ value n x ∷ [])) (sym (length-map xs (value n)))
      ∙ get_or-append_seam (map (value n) xs) (value n x) [] (numbers n).zero

module _ {S : Type 0} (order : S → ℕ) (value : (n : ℕ) → S → Number n) (n : ℕ) (row : ℕ → List (Number n))
    (rows : List (Vec (Option Rest) Global)) where
  pub record SumsSoFar (k : ℕ) (xs : List S) : Type 0 where
    pub count : length xs ≡ k
    pub orders : All (λ x. order x ≡ n) xs
    pub each : (i : ℕ) (v : Vec (Option Rest) Global) → i < k
        → IsSumOf n (row i) (get_or rows i v).items (number_at n (map (value n) xs) i)

  pub sums_none : SumsSoFar 0 []
  sums_none = record { count = refl; orders = All-nil (λ x. order x ≡ n); each = λ i v l. absurd (omega (arith, l)) }

  pub sums_more : (k : ℕ) (xs after : List S) (x : S) → after ≡ xs ++ x ∷ [] → order x ≡ n
      → ((v : Vec (Option Rest) Global) → IsSumOf n (row k) (get_or rows k v).items (value n x)) → SumsSoFar k xs
      → SumsSoFar (k + 1) after
  sums_more k xs after x e o here so = subst (SumsSoFar (k + 1)) (sym e) (record {
    count = length-append xs (x ∷ []) ∙ ap (λ m. m + 1) so.count;
    orders = All-push (λ y. order y ≡ n) xs x so.orders o;
    each = λ i v l. below_or_last (λ j. IsSumOf n (row j) (get_or rows j v).items (number_at n (map (value n) (xs ++ x ∷ [])) j)) i k l
        (λ m. subst (IsSumOf n (row i) (get_or rows i v).items) (sym (number_before value n xs x i (subst (λ c. i < c) (sym so.count) m))) (so.each i v m))
        (subst (IsSumOf n (row k) (get_or rows k v).items)
        (sym (ap (number_at n (map (value n) (xs ++ x ∷ []))) (sym so.count) ∙ number_last value n xs x)) (here v));
  })

  pub sums_all : (k : ℕ) → k ≡ length rows → (xs : List S) → SumsSoFar k xs → AreSumsOf order value n row rows xs
  sums_all k done xs so = record {
    count = so.count ∙ done;
    orders = so.orders;
    each = λ i v l. so.each i v (subst (λ m. i < m) (sym done) l);
  }
