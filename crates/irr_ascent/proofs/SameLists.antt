-- Lists with the same families at the same numbers are the same list.
--
-- same_list     two lists with one count, and the same families at the same numbers, are one list
-- append_assoc  the grouping of three lists does not matter
-- append_none   no members appended change nothing
-- listed_more   one family more, of the same size, is appended
-- listed_none   with no family there are no members
use Rattle.std.proofs.Common.{◌≡◌, sym, ◌∙◌, ap, refl, subst, ℕ, ◌+◌, arith}
use mathlib.Core.Path.{fun_ext}
use Rattle.irr_algebra.specs.Ring.{Ring}
use Rattle.irr_algebra.specs.Fin.{Fin, to_nat}
use Rattle.irr_algebra.specs.Fin.Fin.{first}
use Rattle.irr_algebra.specs.Pair.{plus, left, right}
use Rattle.irr_algebra.proofs.Pairs.{plus-add}
use Rattle.irr_theory.specs.FactorSystem.{FactorSystem, Representation}
use Rattle.irr_theory.specs.Representations.{Representations}
use Rattle.irr_ascent.specs.Joined.{Family, family, append, listed, none, on_last}
use Rattle.irr_ascent.proofs.Places.{by_plus, by_last, append-left, append-right, append-before, append-after}
use Rattle.irr_ascent.proofs.Places.{to_nat-left, to_nat-right, to_nat-widen, to_nat-last, on_last-widen, on_last-last}

module _ {R : Ring} {T : FactorSystem R} where
  -- the list of n families
  abbrev of_families : (n : ℕ) → (Fin n → Family T) → Representations T
  of_families n f = record { count = n; size = λ m. (f m).0; member = λ m. (f m).1 }

  same_families : (A : Representations T) (n : ℕ) → A.count ≡ n → (f : Fin n → Family T)
      → ((i : Fin A.count) (j : Fin n) → to_nat i ≡ to_nat j → family A i ≡ f j) → A ≡ of_families n f
  same_families A n e = subst (λ n. (f : Fin n → Family T) → ((i : Fin A.count) (j : Fin n) → to_nat i ≡ to_nat j → family A i ≡ f j) → A ≡ of_families n f) e
      (λ f h. ap (of_families A.count) (fun_ext (λ i. h i i refl)))

  pub same_list : (A B : Representations T) → A.count ≡ B.count
      → ((i : Fin A.count) (j : Fin B.count) → to_nat i ≡ to_nat j → family A i ≡ family B j) → A ≡ B
  same_list A B e h = same_families A B.count e (family B) h

  pub append_assoc : (A B C : Representations T) → append (append A B) C ≡ append A (append B C)
  append_assoc A B C = same_list (append (append A B) C) (append A (append B C)) counts
      (λ i. by_plus A.count (append B C).count (λ j. to_nat i ≡ to_nat j → family (append (append A B) C) i ≡ family (append A (append B C)) j)
      (λ a e. first_of i a (e ∙ to_nat-left (append B C).count a) ∙ sym (append-left A (append B C) a))
      (λ j e. by_plus B.count C.count (λ j. to_nat i ≡ A.count + to_nat j → family (append (append A B) C) i ≡ family (append B C) j)
      (λ b e. second_of i b (e ∙ ap (λ n. A.count + n) (to_nat-left C.count b)) ∙ sym (append-left B C b))
      (λ c e. third_of i c (e ∙ ap (λ n. A.count + n) (to_nat-right B.count c)) ∙ sym (append-right B C c)) j (e ∙ to_nat-right A.count j)
      ∙ sym (append-right A (append B C) j)))
    where
      counts : plus (plus A.count B.count) C.count ≡ plus A.count (plus B.count C.count)
      counts =
          let a : plus (plus A.count B.count) C.count ≡ plus A.count B.count + C.count = plus-add (plus A.count B.count) C.count in
          let b : plus A.count B.count ≡ A.count + B.count = plus-add A.count B.count in
          let c : plus A.count (plus B.count C.count) ≡ A.count + plus B.count C.count = plus-add A.count (plus B.count C.count) in
          let d : plus B.count C.count ≡ B.count + C.count = plus-add B.count C.count in
          omega arith

      first_of : (i : Fin (append (append A B) C).count) (a : Fin A.count) → to_nat i ≡ to_nat a → family (append (append A B) C) i ≡ family A a
      first_of i a e = append-before (append A B) C i (left B.count a) (e ∙ sym (to_nat-left B.count a)) ∙ append-left A B a

      second_of : (i : Fin (append (append A B) C).count) (b : Fin B.count) → to_nat i ≡ A.count + to_nat b → family (append (append A B) C) i ≡ family B b
      second_of i b e = append-before (append A B) C i (right A.count b) (e ∙ sym (to_nat-right A.count b)) ∙ append-right A B b

      third_of : (i : Fin (append (append A B) C).count) (c : Fin C.count) → to_nat i ≡ A.count + (B.count + to_nat c)
          → family (append (append A B) C) i ≡ family C c
      third_of i c e = append-after (append A B) C i c (let b : plus A.count B.count ≡ A.count + B.count = plus-add A.count B.count in omega arith)

  pub listed_more : {n : ℕ} (d : ℕ) (E : Fin n → Representation T d) (D : Representation T d)
      → listed d (on_last E D) ≡ append (listed d E) (listed {n = 1} d (λ k. D))
  unfolding to_nat
  listed_more {n} d E D = same_list (listed d (on_last E D)) (append (listed d E) (listed {n = 1} d (λ k. D)))
      (let h : plus n 1 ≡ n + 1 = plus-add n 1 in omega arith)
      (by_last n (λ i. (j : Fin (plus n 1)) → to_nat i ≡ to_nat j
      → family (listed d (on_last E D)) i ≡ family (append (listed d E) (listed {n = 1} d (λ k. D))) j)
      (λ i j e. ap (of_size d) (on_last-widen E D i) ∙ sym (append-before (listed d E) (listed {n = 1} d (λ k. D)) j i (sym e ∙ to_nat-widen i)))
      (λ j e. ap (of_size d) (on_last-last E D) ∙ sym (append-after (listed d E) (listed {n = 1} d (λ k. D)) j first (sym e ∙ to_nat-last n ∙ none_more n))))
    where
      of_size : (d : ℕ) → Representation T d → Family T
      of_size d E = (d, E)

      none_more : (n : ℕ) → n ≡ n + to_nat (first {n = 0})
      none_more n = omega arith

  pub append_none : (A : Representations T) → append A (none T) ≡ A
  append_none A = same_list (append A (none T)) A (let h : plus A.count 0 ≡ A.count + 0 = plus-add A.count 0 in omega arith)
      (λ i j e. append-before A (none T) i j e)

  pub listed_none : (d : ℕ) (E : Fin 0 → Representation T d) → listed d E ≡ none T
  listed_none d E = same_list (listed d E) (none T) refl (λ i. elim i [ ])
