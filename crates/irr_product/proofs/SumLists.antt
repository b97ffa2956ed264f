-- The sums of the arms of two stars, row by row.
--   AreFirstSums group left right k ws     ws are the sums of the first k of left with right
--   no_sums, more_sums, all_sums      none, one more row, and all
--   row_of_each                       the sums of one arm
use Rattle.std.proofs.Common.{◌≡◌, sym, ◌∙◌, ap, ap₂, subst, ℕ, ◌+◌, ◌*◌, ◌<◌, ◌≤◌, inl, inr, List, [], ◌++◌, length, get_or, arith}
use Rattle.std.proofs.lemmas.Bool.{cases_lt}
use Rattle.std.proofs.lemmas.List.{get_or_append_left, get_or_default, length-append}
use Rattle.std.proofs.Math.Seq.{get_or-append-add}
use native.Mathlib.Nat as Nat
use Rattle.irr_kvec.specs.declared.wave.Wave.{Wave}
use Rattle.irr_close.specs.declared.group.Group.{Group}
use Rattle.irr_little.specs.declared.arms.Arm.{Arm}
use Rattle.irr_side.specs.ArmTraces.{AreEach}
use Rattle.irr_product.specs.Sums.{AreRowSums, AreSums, IsSumOf}

pub record AreFirstSums (group : Group) (left right : List Arm) (k : ℕ) (ws : List Wave) : Type 0 where
  pub within : k ≤ length left
  pub count : length ws ≡ k * length right
  pub sum : (i j : ℕ) (d : Arm) (w : Wave) → i < k → j < length right
      → IsSumOf group (get_or left i d).wave (get_or right j d).wave (get_or ws (i * length right + j) w)

pub row_of_each : (group : Group) (a : Wave) (right : List Arm) (ws : List Wave) (k : ℕ) → k ≡ length right
    → AreEach (λ n (w : Wave). (d : Arm) → IsSumOf group a (get_or right n d).wave w) k ws → AreRowSums group a right ws
row_of_each group a right ws k e made = record {
  count = made.count ∙ e;
  sum = λ j d w l. made.each j w (subst (λ n. j < n) (sym e) l) d;
}

pub no_sums : (group : Group) (left right : List Arm) (ws : List Wave) → ws ≡ [] → AreFirstSums group left right 0 ws
no_sums group left right ws e = record {
  within = omega arith;
  count = ap length e ∙ sym (Nat.zero-mul (length right));
  sum = λ i j d w l. absurd (omega (arith, l));
}

-- one row more
next_row : (i c : ℕ) → (i + 1) * c ≡ i * c + c
next_row i c = Nat.add-mul i 1 c ∙ ap (λ x. i * c + x) (Nat.one-mul c)

-- the places of earlier rows stand before
before_row : (i j k c : ℕ) → i < k → j < c → i * c + j < k * c
before_row i j k c l m =
    let s : (i + 1) * c ≤ k * c = Nat.mul-le-mul (omega (arith, l)) (Nat.le_refl c) in
    let t = next_row i c in omega (arith, s, t, m)

module _ (group : Group) (left right : List Arm) (k : ℕ) (ws made after : List Wave) (inside : k < length left)
    (is : after ≡ ws ++ made) (first : AreFirstSums group left right k ws) (arm : Arm) (at : arm ≡ get_or left k arm)
    (row : AreRowSums group arm.wave right made) where
  here : (i : ℕ) → i ≡ k → (d : Arm) → arm ≡ get_or left i d
  here i e d = at ∙ get_or_default left k arm d inside ∙ ap (λ n. get_or left n d) (sym e)

  earlier : (i j : ℕ) (w : Wave) → i < k → j < length right
      → get_or ws (i * length right + j) w ≡ get_or after (i * length right + j) w
  earlier i j w l m = sym (ap (λ vs. get_or vs (i * length right + j) w) is
      ∙ get_or_append_left ws made w (i * length right + j)
      (subst (λ n. i * length right + j < n) (sym first.count) (before_row i j k (length right) l m)))

  new : (i j : ℕ) (w : Wave) → i ≡ k → get_or made j w ≡ get_or after (i * length right + j) w
  new i j w e = sym (ap₂ (λ vs n. get_or vs n w) is (ap (λ n. n * length right + j) e ∙ ap (λ n. n + j) (sym first.count))
      ∙ get_or-append-add ws made j w)

  sum_at : (i j : ℕ) (d : Arm) (w : Wave) → i < k + 1 → j < length right
      → IsSumOf group (get_or left i d).wave (get_or right j d).wave (get_or after (i * length right + j) w)
  sum_at i j d w l m = elim (cases_lt i k) [
    | inl before ↦ subst (IsSumOf group (get_or left i d).wave (get_or right j d).wave) (earlier i j w before m)
        (first.sum i j d w before m)
    | inr past ↦ (
        let e : i ≡ k = omega (arith, past, l) in
        subst (λ (a : Arm). IsSumOf group a.wave (get_or right j d).wave (get_or after (i * length right + j) w)) (here i e d)
        (subst (IsSumOf group arm.wave (get_or right j d).wave) (new i j w e) (row.sum j d w m))
        )
  ]

  pub more_sums : AreFirstSums group left right (k + 1) after
  more_sums = record {
    within = omega (arith, inside);
    count = ap length is ∙ length-append ws made ∙ ap₂ ◌+◌ first.count row.count ∙ sym (next_row k (length right));
    sum = sum_at;
  }

pub all_sums : (group : Group) (left right : List Arm) (k : ℕ) (ws : List Wave) → length left ≤ k → AreFirstSums group left right k ws
    → AreSums group left right ws
all_sums group left right k ws end first = let e : k ≡ length left = (let l = first.within in omega (arith, l, end)) in record {
  count = first.count ∙ ap (λ n. n * length right) e;
  sum = λ i j d w l m. first.sum i j d w (subst (λ n. i < n) (sym e) l) m;
}
