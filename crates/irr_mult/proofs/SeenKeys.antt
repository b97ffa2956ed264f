-- The keys of a set of wave vectors.
--   key_same, found_key      how a program tells keys apart, and a key that it finds
--   known_more               what is known of the keys, with one more
--   arm_key                  the key of an arm
use Rattle.std.proofs.Common.{◌≡◌, refl, sym, subst, true, false, Bool, ℕ, ℤ, ◌<◌, ◌&&◌, if◌then◌else◌, List, [], ◌∷◌, ◌++◌, length, get_or, Contains, true≢false, int_eq, nat_eq}
use Rattle.std.specs.List.{All, list_any}
use Rattle.std.specs.Cmp.Lexicographic.{pointwise}
use Rattle.std.proofs.lemmas.Slice.Eq.{slice_eq-Decides}
use Rattle.std.proofs.lemmas.Bool.Decides.{Decides-eqb, Decides-int_eq}
use Rattle.std.proofs.lemmas.List.Elements.{All-push}
use Rattle.indexmap.proofs.CallerLemmas.{Contains-list_any}
use Rattle.irr_kvec.specs.declared.wave.Wave.{Wave}
use Rattle.irr_close.specs.declared.group.Group.{Group}
use Rattle.irr_little.specs.declared.arms.Arm.{Arm}
use Rattle.irr_mult.specs.StarSearch.{IsKnown, key}

abbrev pub key_same : List ℤ × ℕ → List ℤ × ℕ → Bool
key_same x y = pointwise int_eq x.0 y.0 && nat_eq x.1 y.1

both : (a b : Bool) → (a && b) ≡ true → (a ≡ true) × (b ≡ true)
both true b h = (refl, h)
both false b h = absurd (true≢false (sym h))

keys_same : (x y : List ℤ × ℕ) → key_same x y ≡ true → x ≡ y
keys_same x y h =
    let o = both (pointwise int_eq x.0 y.0) (nat_eq x.1 y.1) h in
    pairs x.0 y.0 x.1 y.1 ((slice_eq-Decides Decides-int_eq x.0 y.0 (pointwise int_eq x.0 y.0) refl).0 o.0)
    ((Decides-eqb x.1 y.1).0 o.1)
  where
    pairs : {A B : Type 0} (a b : A) (c d : B) → a ≡ b → c ≡ d → ◌≡◌ {A = A × B} (a, c) (b, d)
    pairs a b c d p q j = (p j, q j)

pub found_key : (keys : List (List ℤ × ℕ)) (k : List ℤ × ℕ) → list_any (key_same k) keys ≡ true → Contains keys k
found_key keys k h = Contains-list_any key_same keys_same keys k h

pub known_more : (group : Group) (found : List Wave) (keys : List (List ℤ × ℕ)) (k : List ℤ × ℕ) (b : Bool)
    → All (IsKnown group found) keys → IsKnown group found k
    → All (IsKnown group found) (if b then keys else keys ++ k ∷ [])
known_more group found keys k true h p = h
known_more group found keys k false h p = All-push (IsKnown group found) keys k h p

pub arm_key : (group : Group) (found : List Wave) (arms : List Arm) (n : ℕ) (a : Arm) → n < length arms
    → a ≡ get_or arms n a → All (λ (b : Arm). IsKnown group found (key b.wave)) arms → IsKnown group found (key a.wave)
arm_key group found arms n a l is h = subst (λ (b : Arm). IsKnown group found (key b.wave)) (sym is) (h n a l)
