-- Places where texts leave grammars.
--   place_unique         a text leaves a grammar at one place
--   place-before         a text that leaves a grammar before its end is not in it
--   place-same           grammars with the same texts are left at the same place
use Rattle.std.proofs.Common.{◌≡◌, sym, ◌∙◌, subst, ℕ, ◌<◌, ◌≤◌, List, [], ◌++◌, length, take, arith, append-nil}
use Rattle.std.proofs.Math.Seq.{take-length}
use Rattle.irr_grammar.specs.ShapePlace.{BeginsIn, IsShapePlace}

pub place_unique : {A : Type 0} (G : List A → Type 0) (xs : List A) (m n : ℕ) → IsShapePlace G xs m → IsShapePlace G xs n → m ≡ n
place_unique G xs m n h g =
    let le : m ≤ n = g.longest m h.within h.begins in
    let ge : n ≤ m = h.longest n g.within g.begins in
    omega arith

-- a text that leaves a grammar before its end is not in it
pub place-before : {A : Type 0} (G : List A → Type 0) (xs : List A) (n : ℕ) → IsShapePlace G xs n → n < length xs → ¬ (G xs)
place-before G xs n h lt g = absurd (let all : length xs ≤ n = h.longest (length xs) (omega arith) ([], subst G (sym (append-nil (take (length xs) xs) ∙ take-length xs)) g) in omega arith)

begins-same : {A : Type 0} (G H : List A → Type 0) → ((xs : List A) → G xs → H xs) → (xs : List A) → BeginsIn G xs → BeginsIn H xs
begins-same G H f xs b = (b.0, f (xs ++ b.0) b.1)

pub place-same : {A : Type 0} (G H : List A → Type 0) → ((xs : List A) → G xs → H xs) → ((xs : List A) → H xs → G xs) → (xs : List A) (n : ℕ) → IsShapePlace G xs n → IsShapePlace H xs n
place-same G H f g xs n h = record {
  within = h.within;
  begins = begins-same G H f (take n xs) h.begins;
  longest = λ m le b. h.longest m le (begins-same H G g (take m xs) b);
}
