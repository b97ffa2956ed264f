-- Cosets of a subgroup and induced representations: what Frobenius reciprocity speaks of.
use Rattle.std.specs.Prelude.{ℕ, ◌≡◌}
use Rattle.irr_algebra.specs.Ring.{Ring}
use Rattle.irr_algebra.specs.Fin.{Fin}
use Rattle.irr_algebra.specs.Sum.{delta}
use Rattle.irr_algebra.specs.Matrix.{Matrix, ◌·◌, scale, unit, total}
use Rattle.irr_algebra.specs.Action.{IsIntertwiner}

-- a group G, a subgroup I and representatives of its cosets with their inverses: g times the representative a is the
-- representative `to g a` times the element `rest g a` of the subgroup
pub record Cosets (G I : Type 0) : Type 0 where
  pub product : G → G → G
  pub subgroup : I → G
  pub index : ℕ
  pub representative : Fin index → G
  pub inverse : Fin index → G
  pub to : G → Fin index → Fin index
  pub from : G → Fin index → Fin index
  pub to-from : (g : G) (a : Fin index) → to g (from g a) ≡ a
  pub from-to : (g : G) (a : Fin index) → from g (to g a) ≡ a
  pub rest : G → Fin index → I
  pub product-representative : (g : G) (a : Fin index) → product g (representative a) ≡ product (representative (to g a)) (subgroup (rest g a))
  pub rest-inverse : (g : G) (a : Fin index) → product (subgroup (rest g a)) (inverse a) ≡ product (inverse (to g a)) g

-- a representation s of the group, and a part of it, embedded by `into`, on which the subgroup acts as b
pub record EmbeddedPart {R : Ring} {G I : Type 0} (H : Cosets G I) {e d : ℕ} (s : G → Matrix R e e) (b : I → Matrix R d d) : Type 0 where
  pub multiplies : (g k : G) → s g · s k ≡ s (H.product g k)
  pub into : Matrix R e d
  pub out : Matrix R d e
  pub out-into : out · into ≡ unit R d
  pub subgroup-into : (i : I) → s (H.subgroup i) · into ≡ into · b i
  pub out-subgroup : (i : I) → out · s (H.subgroup i) ≡ b i · out

-- s is induced from its part S, the block of the coset `start`: its blocks are apart and are all, and each intertwiner
-- of s and t takes this block to the part U of t
pub record IsReciprocal {R : Ring} {G I : Type 0} {H : Cosets G I} {e d m n : ℕ} {s : G → Matrix R e e} {b : I → Matrix R d d} {t : G → Matrix R m m} {c : I → Matrix R n n}
    (S : EmbeddedPart H s b) (U : EmbeddedPart H t c) : Type 0 where
  pub start : Fin H.index
  pub all_blocks : total H.index (λ a. s (H.representative a) · (S.into · S.out) · s (H.inverse a)) ≡ unit R e
  pub apart : (a : Fin H.index) → S.out · s (H.inverse a) · S.into ≡ scale R (delta R start a) (unit R d)
  pub start-block : U.out · t (H.representative start) · U.into ≡ unit R n
  pub takes_block : (x : Matrix R m e) → IsIntertwiner s t x → x · (S.into · S.out) ≡ U.into · U.out · x
