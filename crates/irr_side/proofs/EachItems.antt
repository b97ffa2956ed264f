-- Items that are made one after another.
--   each_none, each_more     none, and one more
--   each_of_list             one more, of the item of a list
use Rattle.std.proofs.Common.{◌≡◌, ◌∙◌, sym, ap, subst, ℕ, ◌+◌, ◌<◌, ◌≤◌, List, [], ◌∷◌, ◌++◌, length, get_or, arith}
use Rattle.std.proofs.lemmas.List.{get_or_default, length-append}
use Rattle.irr_mult.proofs.StarFacts.{pushed}
use Rattle.irr_side.specs.ArmTraces.{AreEach}

pub each_none : {Y : Type 0} (P : ℕ → Y → Type 0) (ys : List Y) → ys ≡ [] → AreEach P 0 ys
each_none P ys e = record { count = ap length e; each = λ n y l. absurd (omega (arith, l)) }

pub each_more : {Y : Type 0} (P : ℕ → Y → Type 0) (k : ℕ) (ys after : List Y) (y : Y) → after ≡ ys ++ y ∷ [] → AreEach P k ys
    → P k y → AreEach P (k + 1) after
each_more P k ys after y is made p = record {
  count = ap length is ∙ length-append ys (y ∷ []) ∙ ap (λ n. n + 1) made.count;
  each = pushed P ys after y k made.count is made.each p;
}

pub each_of_list : {X Y : Type 0} (P : X → Y → Type 0) (xs : List X) (k : ℕ) → k < length xs → (x : X) → x ≡ get_or xs k x
    → (ys after : List Y) (y : Y) → after ≡ ys ++ y ∷ [] → AreEach (λ n z. (w : X) → P (get_or xs n w) z) k ys → P x y
    → AreEach (λ n z. (w : X) → P (get_or xs n w) z) (k + 1) after
each_of_list {X} P xs k l x is ys after y e made p = each_more (λ n z. (w : X) → P (get_or xs n w) z) k ys after y e made
    (λ w. subst (λ v. P v y) (is ∙ get_or_default xs k x w l) p)
