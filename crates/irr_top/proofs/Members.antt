-- The families of a list of small representations as members of a report.
--   members_of            they are members, of bounded size
--   traces_fit            the traces of a member can be worked out
--   some_item             an item of a list
--   pushed                what holds of each item, with one more
--   moved, all_moved      items that are moved from one list to another
use Rattle.std.proofs.Common.{◌≡◌, sym, ◌∙◌, ap, subst, inl, inr, ℕ, ◌+◌, ◌*◌, ◌/◌, ◌^◌, ◌<◌, ◌≤◌, List, [], ◌∷◌, ◌++◌, append_assoc, append-nil, length, map, get_or, arith}
use Rattle.std.proofs.lemmas.Bool.{cases_lt}
use Rattle.std.proofs.Math.ListN.{get_or-append}
use Rattle.std.proofs.Math.Seq.{get_or-append_seam}
use Rattle.std.specs.List.{All}
use Rattle.std.proofs.lemmas.List.{map-append}
use native.Mathlib.Nat as Nat
use Rattle.irr_algebra.specs.Fin.{Fin}
use Rattle.irr_algebra.proofs.Indices.{from_nat, to_nat-from_nat, to_nat-lt}
use Rattle.irr_space.specs.PhaseTable.{PhaseTable, phases_at}
use Rattle.irr_cyc.specs.declared.scalars.Scalar.{Ghosts}
use Rattle.irr_mat.specs.Size.{TraceFits}
use Rattle.irr_rep.specs.declared.family.Family.{Family}
use Rattle.irr_rep.specs.Family.{HasShape, matrix_at}
use Rattle.irr_climb.specs.Families.{IsRead}
use Rattle.irr_climb.specs.Lists.{IsSmallList}
use Rattle.irr_climb.specs.Sizes.{size_bound}
use Rattle.irr_climb.proofs.MemberTraces.{shape_order}
use Rattle.irr_top.specs.Members.{IsMember}

bound_within : (h : ℕ) → h ≤ 48 → size_bound h ≤ 18200
unfolding size_bound
bound_within h l =
    let a : 1 + h / 2 ≤ 25 = omega arith in
    let b : 1 + h / 4 ≤ 13 = omega arith in
    let c : 1 + h / 8 ≤ 7 = omega arith in
    let d : 1 + h / 16 ≤ 4 = omega arith in
    let e : 1 + h / 32 ≤ 2 = omega arith in
    Nat.mul-le-mul (Nat.mul-le-mul (Nat.mul-le-mul (Nat.mul-le-mul a b) c) d) e

small_square : (b : ℕ) → b ≤ 18200 → b * b ≤ 18200 * 18200
small_square b l = Nat.mul-le-mul l l

small_sum : (d s n e : ℕ) → d < 2 ^ 32 → s ≤ 18200 * 18200 → n ≤ 12000 → e ≤ 18200 → d * s * n * e < 2 ^ 110
small_sum d s n e k l m p =
    let k' : d ≤ 2 ^ 32 = omega arith in
    let a : d * s * n * e ≤ 2 ^ 32 * (18200 * 18200) * 12000 * 18200 = Nat.mul-le-mul (Nat.mul-le-mul (Nat.mul-le-mul k' l) m) p in
    let b : 2 ^ 32 * (18200 * 18200) * 12000 * 18200 < 2 ^ 110 = omega arith in
    Nat.lt_of_le_of_lt a b

-- an item of a list that has one
pub some_item : {A : Type 0} (xs : List A) (k : ℕ) → k < length xs → A
some_item [] k l = absurd (omega arith)
some_item (x ∷ xs) k l = x

module _ {S : Type 0} {G : Ghosts S} where
  pub members_of : {h : ℕ} (T : PhaseTable h) (fs : List (Family S G)) → IsSmallList T fs → All (IsMember T.order h) fs
  members_of {h} T fs s k d l =
      let f : Family S G = get_or fs k d in
      let inside : k < s.list.count = subst (λ n. k < n) s.read.count l in
      let at : Fin s.list.count = from_nat s.list.count k inside in
      let r : IsRead T.order (phases_at T) (s.list.member at) f = subst (λ n. IsRead T.order (phases_at T) (s.list.member at) (get_or fs n d))
      (to_nat-from_nat s.list.count k inside) (s.read.read at d) in
      record { shape = subst (λ n. HasShape T.order h n f.mats.items) (sym r.size) r.shape; sized = s.sized k d l }

  module _ (n h : ℕ) (f : Family S G) (is : IsMember n h f) (order : n ≤ 12000) (places : h ≤ 48) (dim : f.dim < 2 ^ 32) where
    trace_fits : (i : Fin h) → TraceFits n (matrix_at n f.dim f.mats.items i)
    trace_fits i =
        let b : size_bound h ≤ 18200 = bound_within h places in
        let square : size_bound h * size_bound h ≤ 18200 * 18200 = small_square (size_bound h) b in
        let den : is.sized.denominator ≤ 18200 = let e = is.sized.small in omega arith in
        record {
          s = size_bound h * size_bound h;
          d = is.sized.denominator;
          within = is.sized.within i;
          denominators = (let e : is.sized.denominator * is.sized.denominator ≤ 18200 * 18200 = small_square is.sized.denominator den in omega arith);
          sums = small_sum f.dim (size_bound h * size_bound h) n is.sized.denominator dim square order den;
        }

    pub traces_fit : (m g : ℕ) → HasShape m g f.dim f.mats.items → (i : Fin g) → TraceFits m (matrix_at m f.dim f.mats.items i)
    traces_fit m g shape i = subst (λ k. TraceFits k (matrix_at k f.dim f.mats.items i))
        (shape_order n h f.dim m g f.dim f.mats.items is.shape shape some_places)
        (subst (λ k. (j : Fin k) → TraceFits n (matrix_at n f.dim f.mats.items j)) same_places trace_fits i)
      where
        same_places : h ≡ g
        same_places = sym is.shape.count ∙ shape.count

        some_places : 0 < h
        some_places = let l = to_nat-lt i in let e = same_places in omega arith

-- one item more at the end of a list, at each default
pub pushed : {A : Type 0} (P : A → ℕ → A → Type 0) (xs ys : List A) (x : A) (k : ℕ) → length xs ≡ k → ys ≡ xs ++ x ∷ []
    → ((a : ℕ) (d : A) → a < k → P d a (get_or xs a d)) → ((d : A) → P d k x) → (a : ℕ) (d : A) → a < k + 1 → P d a (get_or ys a d)
pushed P xs ys x k count is before here a d l = subst (λ zs. P d a (get_or zs a d)) (sym is) (elim (cases_lt a k) [
  | inl inside ↦ subst (P d a) (sym (get_or-append xs (x ∷ []) d a (let c = count in omega arith))) (before a d inside)
  | inr past ↦ (
      let last : length xs ≡ a = let c = count in omega arith in
      let at : a ≡ k = let c = count in omega arith in
      subst (P d a) (subst (λ n. x ≡ get_or (xs ++ x ∷ []) n d) last (sym (get_or-append_seam xs x [] d))) (subst (λ n. P d n x) (sym at) (here d)))
])

-- one item is moved from the rest of a list to what was made of its front
pub moved : {A B : Type 0} (f : A → B) (made more : List A) (new : A) (old rest all : List B) (x : B) → more ≡ made ++ new ∷ [] → f new ≡ x
    → old ≡ x ∷ rest → map f made ++ old ≡ all → map f more ++ rest ≡ all
moved f made more new old rest all x pushed_one is next so = ap (λ xs. map f xs ++ rest) pushed_one
    ∙ ap (λ ys. ys ++ rest) (map-append f made (new ∷ [])) ∙ append_assoc (map f made) (f new ∷ []) rest ∙ ap (λ y. map f made ++ y ∷ rest) is ∙ ap (λ ys. map f made ++ ys) (sym next) ∙ so

-- and at the end nothing is left
pub all_moved : {A B : Type 0} (f : A → B) (made : List A) (rest all : List B) → rest ≡ [] → map f made ++ rest ≡ all → map f made ≡ all
all_moved f made rest all none so = sym (append-nil (map f made)) ∙ ap (λ ys. map f made ++ ys) (sym none) ∙ so
